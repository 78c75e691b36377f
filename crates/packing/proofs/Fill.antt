-- How a loop fills a stage, iteration by iteration: what is written stays in place, and at the end every twiddle is. Assumes nothing.
use Rattle.sequences.proofs.Basics.{◌∙◌, ◌≡◌, ◌*◌, ◌+◌, ◌-◌, ◌<◌, ◌≤◌, suc, ℕ, zero-add, arith, ℕ_discrete, List, length}
use Rattle.sequences.specs.Pairs.{pair_at}
use Rattle.sequences.proofs.Pairs.{length_pairs, pairs_at, pairs_all}
use Rattle.schedule.specs.Parts.{Wrote}
use Rattle.packing.specs.Places.{place, iteration_at, number_at, packed}
use Rattle.packing.proofs.Places.{stands, found, place_one}

pub length_packed : {A : Type 0} (M r W : ℕ) (f : ℕ → ℕ → A × A) → length (packed M r W f) ≡ 2 * (M * (r - 1))
unfolding packed
length_packed M r W f = length_pairs (M * (r - 1)) 0 _

-- the pairs of the first n iterations are where they should stand
abbrev pub Placed : {A : Type 0} → A → (M r W : ℕ) → (ℕ → ℕ → A × A) → List A → ℕ → Type 0
Placed d M r W f ys n = (i k : ℕ) → i < n → 1 ≤ k → k < r → pair_at d ys (place M r W i k) ≡ f i k

module _ {A : Type 0} (d : A) (M r W : ℕ) (width : 0 < W) (f : ℕ → ℕ → A × A) where
  -- in what is packed, pair k of iteration i is where it should stand
  pub packed_at : Placed d M r W f (packed M r W f) M
  unfolding packed
  packed_at i k li first last =
      let s = stands M r W width i k first last li in
      rw (zero-add, s.iteration, s.number) at (pairs_at d (M * (r - 1)) 0 (λ p. f (iteration_at M r W p) (number_at M r W p)) (place M r W i k) s.inside)

  -- when all are placed the stage is filled
  pub all_placed : (ys : List A) → length ys ≡ 2 * (M * (r - 1)) → Placed d M r W f ys M → ys ≡ packed M r W f
  unfolding packed
  all_placed ys e placed = pairs_all d ys (M * (r - 1)) 0 _ e (λ p l.
      let t = found M r W width p l in
      rw (zero-add) (rw t.here at (placed (iteration_at M r W p) (number_at M r W p) t.early t.first t.last)))

  -- one iteration more, which writes its own pairs and no others
  pub placed_next : (i : ℕ) → i < M → (ys out : List A)
      → Wrote (λ k. k < r - 1) (λ k. place M r W i (suc k)) (λ k. f i (suc k)) (pair_at d ys) (pair_at d out)
      → Placed d M r W f ys i → Placed d M r W f out (i + 1)
  placed_next i li ys out w before i' k' li' a b = pick (ℕ_discrete i' i)
    where
      pick : Dec (i' ≡ i) → pair_at d out (place M r W i' k') ≡ f i' k'
      pick (yes g) =
          let same : suc (k' - 1) ≡ k' = omega arith in
          rw g (rw same at (w.inside (k' - 1) (omega arith)))
      pick (no g) =
          w.outside (place M r W i' k')
          (λ k l e. g (place_one M r W width i' k' i (suc k) (omega arith) li a b (omega arith) (omega arith) e).0) ∙ before i' k' (omega arith) a b
