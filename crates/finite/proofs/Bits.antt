-- Laws of bits: what is no NaN is held by one pattern alone. Assumes nothing.
use Rattle.sequences.proofs.Basics.{◌≡◌, refl, sym, ap, ◌∙◌, subst, ℕ, suc, arith, not, List, [], ◌∷◌, T}
use lib.Ieee.{Float, nan, inf, fin, binary32, is_nan, to_bits}
use lib.Ieee.Bits.{to_bits-of_bits}
use Rattle.finite.specs.Bits.{Holds, HoldAll, SameBits}
use Rattle.finite.specs.Sizes.{AtMost, Words}

-- a float with a size is no NaN
sized : (q k : ℕ) (x : Float) → AtMost q k x → T (not (is_nan x))
unfolding is_nan
sized q k nan a = absurd a
sized q k (inf s) a = tt
sized q k (fin s m e) a = tt

-- and the pattern of what is no NaN follows from it
bits_of : (b : ℕ) (x : Float) → T (not (is_nan x)) → Holds b x → b ≡ to_bits binary32 x
bits_of b x t h = sym (to_bits-of_bits binary32 b h.word (subst (λ (y : Float). T (not (is_nan y))) (sym h.value) t)) ∙ ap (to_bits binary32) h.value

-- one float
pub same_told : (b c : ℕ) (x : Float) → T (not (is_nan x)) → Holds b x → Holds c x → b ≡ c
same_told b c x t h g = bits_of b x t h ∙ sym (bits_of c x t g)

pub same_word : (q k b c : ℕ) (x : Float) → AtMost q k x → Holds b x → Holds c x → b ≡ c
same_word q k b c x a h g = same_told b c x (sized q k x a) h g

-- a row of them
same_words : (k : ℕ) (xs : List Float) → Words k xs → SameBits xs xs
unfolding HoldAll
same_words k [] w [] [] h g = refl
same_words k [] w [] (c ∷ cs) h g = absurd g
same_words k [] w (b ∷ bs) cs h g = absurd h
same_words k (x ∷ xs) w [] cs h g = absurd h
same_words k (x ∷ xs) w (b ∷ bs) [] h g = absurd g
same_words k (x ∷ xs) w (b ∷ bs) (c ∷ cs) h g =
    ap (λ (z : ℕ). z ∷ bs) (same_word 1 k b c x (w 0 (omega arith)) h.0 g.0)
    ∙ ap (λ (zs : List ℕ). c ∷ zs) (same_words k xs (λ i l. w (suc i) (omega arith)) bs cs h.1 g.1)

-- two equal rows, the first of which has a size
pub same_bits : (k : ℕ) (xs ys : List Float) → Words k xs → xs ≡ ys → SameBits xs ys
same_bits k xs ys w e = subst (λ (zs : List Float). SameBits xs zs) e (same_words k xs w)
