-- What a reader opens first: a block is quiet exactly where its band is below the threshold, its band is an f32, the nearest served length is served, and
-- the definitions at numbers. Assumes nothing.
use Rattle.sequences.proofs.Basics.{◌≡◌, refl, sym, ap, ◌∙◌, ℕ, zero, suc, ◌+◌, ◌-◌, arith, Bool, true, false, cond, List, T, length}
use lib.Ieee.{Float, binary32, fits}
use lib.Ieee.Bits.{of_bits-fits}
use lib.Ieee.Fits.{add-fits}
use Rattle.refusal.specs.declared.Refusal.{Refusal}
use Rattle.refusal.specs.Refusal.{Verdict}
use Rattle.refusal.specs.Refusal.{Accepted, Refused}
use Rattle.plan.specs.declared.Record.{Record}
use Rattle.transform.specs.Transforms.{Slices, forward_of}
use Rattle.power.specs.Power.{power_from}
use Rattle.hear.specs.Hear.{decided, hear_verdict}
use Rattle.hear.specs.declared.Decision.TheVariants.{Fanning}
use Rattle.listening.specs.Lengths.{served, served_from, nearest_served, band_of}
use Rattle.listening.specs.Block.{block_of, Listens}
use Rattle.listening.specs.declared.Block.{Block}

-- ---- a block

-- a sum of powers is an f32
power_fits : (xs : List Float) (lo k : ℕ) → T (fits binary32 (power_from xs lo k))
unfolding power_from
power_fits xs lo zero = of_bits-fits binary32 0
power_fits xs lo (suc k) = add-fits binary32 _ _

module _ (r : Block) (sp : List Float) (lo hi half : ℕ) (threshold : Float) where
  -- of an accepted answer the band decides
  by_band : (v : Verdict) → r ≡ block_of v sp lo hi half threshold → r.verdict ≡ Accepted → r.decision ≡ decided r.band threshold
  by_band Accepted q e = ap (λ (b : Block). b.decision) q ∙ ap (λ (b : Block). decided b.band threshold) (sym q)
  by_band (Refused why) q e = let z : ◌≡◌ {A = ℕ} 0 1 = cc in absurd (omega arith)

  -- a refused one is fanning
  by_refusal : (v : Verdict) → r ≡ block_of v sp lo hi half threshold → (why : Refusal) → r.verdict ≡ Refused why → r.decision ≡ Fanning
  by_refusal Accepted q why e = let z : ◌≡◌ {A = ℕ} 0 1 = cc in absurd (omega arith)
  by_refusal (Refused other) q why e = ap (λ (b : Block). b.decision) q

  -- either way the band is an f32
  band_held : (v : Verdict) → r ≡ block_of v sp lo hi half threshold → T (fits binary32 r.band)
  band_held Accepted q = rw q (power_fits sp lo (hi + 1 - lo))
  band_held (Refused why) q = rw q (of_bits-fits binary32 0)

module _ (p : Record) (W : ℕ) (xs weights stage end : List Float) (lo hi : ℕ) (threshold : Float) (before : Slices) (r : Block) (ys : List Float)
    (after : Slices)
    (call : Listens p W xs weights stage end lo hi threshold before r ys after) where
  abbrev told : Verdict
  told = hear_verdict p W ys (length before.0) (length before.1) stage end lo hi

  abbrev made : List Float
  made = (forward_of p W stage end ys before.1).0

  -- an accepted block is quiet exactly where the power in its band is below the threshold
  pub quiet_below : r.verdict ≡ Accepted → r.decision ≡ decided r.band threshold
  quiet_below = by_band r made lo hi p.half threshold told call.answer

  -- a refused one is fanning
  pub refused_fans : (why : Refusal) → r.verdict ≡ Refused why → r.decision ≡ Fanning
  refused_fans = by_refusal r made lo hi p.half threshold told call.answer

  -- the power in the band is an f32
  pub band_fits : T (fits binary32 r.band)
  band_fits = band_held r made lo hi p.half threshold told call.answer

-- ---- the lengths

-- of two lengths and a third, the first that is served, where the third is
first_served : (x y z : ℕ) → served z ≡ true → served (cond (served x) x (cond (served y) y z)) ≡ true
first_served x y z h = pick _ refl _ refl
  where
    pick : (a : Bool) → served x ≡ a → (b : Bool) → served y ≡ b → served (cond a x (cond b y z)) ≡ true
    pick true e b f = e
    pick false e true f = f
    pick false e false f = h

-- wherever the search starts, it finds a length that is served
found_served : (k d n : ℕ) → served (served_from k d n) ≡ true
unfolding served served_from
found_served zero d n = refl
found_served (suc k) d n = first_served (n - d) (n + d) (served_from k (d + 1) n) (found_served k (d + 1) n)

-- the nearest served length is served
pub nearest_is_served : (n : ℕ) → served (nearest_served n) ≡ true
unfolding nearest_served
nearest_is_served n = found_served n 0 n

-- that of 1,000 is 960
pub nearest_1000 : nearest_served 1000 ≡ 960
unfolding nearest_served served_from served
nearest_1000 = refl

-- that of 6,719 is 6,720
pub nearest_6719 : nearest_served 6719 ≡ 6720
unfolding nearest_served served_from served
nearest_6719 = refl

-- the bins of 200 to 300 hertz in blocks of 1,680 samples, 16,000 of them a second, are 21 to 31
pub default_band : band_of 1680 16000 200 300 ≡ record { lo = 21; hi = 31 }
unfolding band_of
default_band = refl
