-- A file that is written: the 44 bytes, then those of the samples. Assumes nothing.
use Rattle.sequences.proofs.Basics.{◌≡◌, refl, sym, ap, ◌∙◌, ℕ, ◌+◌, ◌*◌, ◌≤◌, arith, List, ◌++◌, append-nil, length, length-append, take, drop}
use Rattle.sequences.proofs.Basics.{drop_of_length-le, take-append_seam, length-drop}
use lib.Ieee.{Float}
use Rattle.sequences.specs.Lists.{pasted}
use Rattle.sequences.proofs.Pasted.{front_pasted}
use Rattle.pcm.specs.Samples.{sample_bytes}
use Rattle.pcm.proofs.Bytes.{length_bytes}
use Rattle.wav.specs.Header.{header_of}
use Rattle.wav.specs.Wav.{file_of}

-- 44 bytes
pub header_length : (rate n : ℕ) → length (header_of rate n) ≡ 44
unfolding header_of
header_length rate n = refl

-- bytes laid behind the first ones to the end
end_pasted : (head rest tail : List ℕ) → length rest ≡ length tail → pasted (head ++ rest) (length head) tail ≡ head ++ tail
end_pasted head rest tail e =
    let long : length (head ++ rest) ≤ length head + length tail = omega (arith, length-append head rest, e) in
    ap (λ (d : List ℕ). take (length head) (head ++ rest) ++ tail ++ d) (drop_of_length-le (head ++ rest) long)
    ∙ append-nil (take (length head) (head ++ rest) ++ tail) ∙ ap (λ (t : List ℕ). t ++ tail) (take-append_seam head rest)

-- both laid into a file of their length
pub file_made : (rate : ℕ) (xs : List Float) (before head mid after : List ℕ) → length before ≡ 44 + 2 * length xs → head ≡ header_of rate (length xs)
    → mid ≡ pasted before 0 head → after ≡ pasted mid 44 (sample_bytes xs) → after ≡ file_of rate xs
unfolding file_of
file_made rate xs before head mid after long h m a =
    let is = header_of rate (length xs) in let forty = header_length rate (length xs) in
    let front : mid ≡ is ++ drop 44 before = m ∙ ap (pasted before 0) h ∙ front_pasted before is 44 forty in
    a ∙ ap (λ (ys : List ℕ). pasted ys 44 (sample_bytes xs)) front ∙ ap (λ (k : ℕ). pasted (is ++ drop 44 before) k (sample_bytes xs)) (sym forty)
    ∙ end_pasted is (drop 44 before) (sample_bytes xs) (omega (arith, length-drop 44 before, length_bytes xs, long))
