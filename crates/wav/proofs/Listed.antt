-- The definitions at files that are written out: a good one of three samples, and the cases that docs/DECISIONS.md names. Assumes nothing.
use Rattle.sequences.proofs.Basics.{◌≡◌, refl, true, false, List, [], ◌∷◌, ◌++◌, ℕ, take}
use Rattle.std.specs.Prelude.{Ok, Err}
use lib.IntN.{pos, negsuc}
use lib.Ieee.{fin, odd}
use lib.Count.{count_trailing_zeros}
use Rattle.sequences.specs.Lists.{tabulate}
use Rattle.refusal.specs.declared.Refusal.TheVariants.{Wav}
use Rattle.little.specs.Numbers.{number_at, ascii}
use Rattle.pcm.specs.Samples.{sample_of, samples_at}
use Rattle.chunks.specs.Chunks.{samples_from, begun, at_data, at_format, at_other, stepped, walked, walk_in, walk_of}
use Rattle.wav.specs.Header.{header_of}

-- 16,000 samples a second: -32,768, 32,767 and 1
abbrev good : List ℕ
good = ascii "RIFF" ++ (42 ∷ 0 ∷ 0 ∷ 0 ∷ []) ++ ascii "WAVEfmt " ++ (16 ∷ 0 ∷ 0 ∷ 0 ∷ 1 ∷ 0 ∷ 1 ∷ 0 ∷ 128 ∷ 62 ∷ 0 ∷ 0 ∷ 0 ∷ 125 ∷ 0 ∷ 0 ∷ 2 ∷ 0 ∷ 16 ∷ 0 ∷ [])
    ++ ascii "data" ++ (6 ∷ 0 ∷ 0 ∷ 0 ∷ 0 ∷ 128 ∷ 255 ∷ 127 ∷ 1 ∷ 0 ∷ [])

good_read : walk_of good ≡ Ok (samples_from 44 16000 3)
unfolding number_at begun at_data at_format at_other stepped walked walk_in walk_of
good_read = refl

good_samples : samples_at good 44 3 ≡ fin true 1 (pos 0) ∷ fin false 32767 (negsuc 14) ∷ fin false 1 (negsuc 14) ∷ []
unfolding number_at sample_of samples_at tabulate odd count_trailing_zeros
good_samples = refl

good_header : header_of 16000 3 ≡ take 44 good
unfolding header_of
good_header = refl

-- cut from 50 bytes to 48
cut : walk_of (take 48 good) ≡ Err (Wav 4)
unfolding number_at begun at_data at_format at_other stepped walked walk_in walk_of
cut = refl

-- a field that is not whole, and one that is
short : walk_of (ascii "XXX") ≡ Err (Wav 3)
unfolding number_at begun at_data at_format at_other stepped walked walk_in walk_of
short = refl

marked : walk_of (ascii "RIFX") ≡ Err (Wav 0)
unfolding number_at begun at_data at_format at_other stepped walked walk_in walk_of
marked = refl

nothing : walk_of [] ≡ Err (Wav 0)
unfolding number_at begun at_data at_format at_other stepped walked walk_in walk_of
nothing = refl
