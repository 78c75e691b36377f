-- Laws of a text that grows at its end. Assumes nothing.
use Rattle.sequences.proofs.Basics.{◌≡◌, refl, sym, ap, ◌∙◌, ℕ, ◌+◌, ◌≤◌, ◌<◌, add-one, arith, List, [], ◌∷◌, ◌++◌, map, append_assoc}
use Rattle.sequences.proofs.Basics.{map-append, length, get_or, take, take-suc}
use Rattle.text.specs.Lines.{decimal, spaced}
use Rattle.text.specs.Growing.{Starts, Adds, Holds}

-- bytes, and then more
pub then : {t r q a b : List ℕ} {k m : ℕ} → Adds t a k r → Adds r b m q → Adds t (a ++ b) (k + m) q
then {t} {r} {q} {a} {b} f g =
    record { text = g.text ∙ ap (λ (x : List ℕ). x ++ b) f.text ∙ append_assoc t a b; short = omega (arith, f.short, g.short) }

-- the same bytes, said in another way
pub said : {t r a b : List ℕ} {k m : ℕ} → a ≡ b → k ≤ m → Adds t a k r → Adds t b m r
said {t} e h f = record { text = f.text ∙ ap (λ (s : List ℕ). t ++ s) e; short = omega (arith, f.short) }

-- from nothing
pub holds : {e r xs : List ℕ} {k : ℕ} → Starts e → k ≤ 256 → Adds e xs k r → Holds xs r
holds {e} {r} {xs} p h f =
    let text : r ≡ xs = f.text ∙ ap (λ (t : List ℕ). t ++ xs) p.text in
    record { text = text; fits = omega (arith, f.short, p.none, ap length text) }

-- words in two goes
pub spaced_append : (xs ys : List (List ℕ)) → spaced (xs ++ ys) ≡ spaced xs ++ spaced ys
spaced_append [] ys = refl
spaced_append (w ∷ xs) ys = ap (λ (l : List ℕ). 32 ∷ (w ++ l)) (spaced_append xs ys)
    ∙ ap (λ (l : List ℕ). 32 ∷ l) (sym (append_assoc w (spaced xs) (spaced ys)))

-- two words, then the rest
pub two_words : (a b rest : List ℕ) → spaced (a ∷ []) ++ (spaced (b ∷ []) ++ rest) ≡ spaced (a ∷ (b ∷ [])) ++ rest
two_words a b rest = sym (ap (λ (l : List ℕ). l ++ rest) (spaced_append (a ∷ []) (b ∷ [])) ∙ append_assoc (spaced (a ∷ [])) (spaced (b ∷ [])) rest)

-- one radix more
pub spaced_next : (rs : List ℕ) (i : ℕ) → i < length rs
    → spaced (map decimal (take i rs)) ++ spaced (decimal (get_or rs i 0) ∷ []) ≡ spaced (map decimal (take (i + 1) rs))
spaced_next rs i h = sym (ap (λ (l : List ℕ). spaced (map decimal l)) (ap (λ (k : ℕ). take k rs) (add-one i) ∙ take-suc rs i 0 h)
    ∙ ap spaced (map-append decimal (take i rs) (get_or rs i 0 ∷ [])) ∙ spaced_append (map decimal (take i rs)) (decimal (get_or rs i 0) ∷ []))
