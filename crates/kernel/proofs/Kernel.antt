-- What an iteration reads, the outputs of its kernel, and a radix written out. Assumes nothing.
use Rattle.sequences.proofs.Basics.{◌≡◌, refl, ap, ap₂, ◌∙◌, ℕ, zero, suc, ◌+◌, ◌-◌, ◌*◌, ◌/◌, ◌%◌, ◌≤◌, ◌<◌, zero-add, arith, Bool, true, false, List, [], ◌∷◌}
use Rattle.sequences.proofs.Basics.{inl, inr, eqb, get_or, digits_lt, ne_eqb, ℕ_discrete, length, set, get_or-set_same, get_or-set_other}
use lib.Ieee.{Float}
use Rattle.radices.specs.Lists.{is_radix}
use Rattle.radices.proofs.Products.{Radix, radix_is}
use Rattle.schedule.specs.Stage.{kernel_turn, twiddled_in, read, total, plain, output}
use Rattle.sequences.specs.Lists.{tabulate}
use Rattle.schedule.proofs.Cells.{read_lt}
use Rattle.sequences.proofs.Tables.{get_d_tabulate}
use Rattle.schedule.proofs.Sums as Sums
use Rattle.turn.specs.Calls.{part}
use Rattle.turn.specs.Turns.{turn_of}
use Rattle.turn.specs.declared.Turn.{Turn}
use Rattle.floats.specs.declared.complex.Complex.{Complex}
use Rattle.floats.specs.Complexes.{blank, plus, times, turned_by, cell}
use Rattle.kernel.specs.Floats.{floats}
use Rattle.kernel.specs.Parts.{lent_by, untwiddled, kernel_of, read_of, output_of, Sized}

-- iteration i's cell q is there
pub cell_room : (i q M r n : ℕ) → i < M → q < r → 2 * (M * r) ≤ n → 2 * (i + q * M) + 1 < n
cell_room i q M r n li lq l = omega (arith, digits_lt lq li)

-- eight values in a row
pub eight_listed : (f : ℕ → Complex) (a b c d e g h k : Complex) → a ≡ f 0 → b ≡ f 1 → c ≡ f 2 → d ≡ f 3 → e ≡ f 4 → g ≡ f 5 → h ≡ f 6 → k ≡ f 7
    → a ∷ b ∷ c ∷ d ∷ e ∷ g ∷ h ∷ k ∷ [] ≡ tabulate 8 0 f
unfolding tabulate
eight_listed f a b c d e g h k e0 e1 e2 e3 e4 e5 e6 e7 = λ i. e0 i ∷ e1 i ∷ e2 i ∷ e3 i ∷ e4 i ∷ e5 i ∷ e6 i ∷ e7 i ∷ []

-- ---- sums

-- one more term, as a loop over q has it
pub total_next : (r : ℕ) (x : ℕ → Complex) (p q : ℕ) (acc z sum : Complex) (t : Turn) → 0 < q → acc ≡ total untwiddled r x p (q - 1)
    → t ≡ turn_of (part (p * q % r) r) → z ≡ turned_by t (x q) → sum ≡ plus acc z → sum ≡ total untwiddled r x p q
unfolding floats kernel_turn
total_next r x p q acc z sum t l ea et ez es = es ∙ ap (plus acc) (ez ∙ ap (λ (u : Turn). turned_by u (x q)) et) ∙ Sums.total_next untwiddled r x p q acc l ea

-- ---- reading

module _ (first : Bool) (M : ℕ) (src : List Float) (lent : ℕ → ℕ → Complex) (i : ℕ) where
  pub read_plain : (q : ℕ) (x : Complex) → x ≡ cell src (i + q * M) → x ≡ read_of true M src lent i q
  unfolding read_of
  read_plain zero x ex = let e : i + 0 * M ≡ i = omega arith in ex ∙ ap (cell src) e
  read_plain (suc q) x ex = ex

  -- a cell of the first stage, twiddled
  pub read_twiddled : (q : ℕ) (x t y : Complex) → 0 < q → x ≡ read_of true M src lent i q → t ≡ lent i q → y ≡ times x t → y ≡ read_of false M src lent i q
  unfolding read_of
  read_twiddled zero x t y l ex et ey = absurd (omega arith)
  read_twiddled (suc q) x t y l ex et ey = ey ∙ ap₂ times ex et

  -- the cells below q are twiddled, and those from q on are as in the first stage
  abbrev pub Turned : (r : ℕ) → List Complex → ℕ → Type 0
  Turned r c q = (k : ℕ) → k < r → (k < q → get_or c k blank ≡ read_of false M src lent i k) × (q ≤ k → get_or c k blank ≡ read_of true M src lent i k)

  pub turned_none : (r : ℕ) (c : List Complex) → ((k : ℕ) → k < r → get_or c k blank ≡ read_of true M src lent i k) → Turned r c 1
  unfolding read_of
  turned_none r c e k l = (λ b. go k (e k l) b, λ b. e k l)
    where
      go : (k : ℕ) → get_or c k blank ≡ read_of true M src lent i k → k < 1 → get_or c k blank ≡ read_of false M src lent i k
      go zero e b = e
      go (suc k) e b = absurd (omega arith)

  pub turned_next : (r : ℕ) (c : List Complex) (q : ℕ) (t y : Complex) → 0 < q → q < length c → q < r → t ≡ lent i q → y ≡ times (get_or c q blank) t
      → Turned r c q → Turned r (set c q y) (q + 1)
  turned_next r c q t y some room few et ey w k l = pick (ℕ_discrete k q)
    where
      pick : Dec (k ≡ q) → (k < q + 1 → get_or (set c q y) k blank ≡ read_of false M src lent i k)
          × (q + 1 ≤ k → get_or (set c q y) k blank ≡ read_of true M src lent i k)
      pick (yes e) = (
        λ b. rw e (get_or-set_same c q y blank room ∙ read_twiddled q _ t y some ((w q few).1 (omega arith)) et ey),
        λ b. absurd (omega arith),
      )
      pick (no n) = (
        λ b. get_or-set_other c q k y blank n ∙ (w k l).0 (omega (arith, n)),
        λ b. get_or-set_other c q k y blank n ∙ (w k l).1 (omega arith),
      )

  -- the outputs of the cells read
  pub output_of_lem : (r : ℕ) (c : List Complex) → 0 < r → ((q : ℕ) → q < r → get_or c q blank ≡ read_of first M src lent i q)
      → (p : ℕ) → kernel_of r (λ q. get_or c q blank) p ≡ output_of first M r src lent i p
  output_of_lem r c some reads p = Sums.plain_same untwiddled untwiddled (λ u w. refl) r _ _ p some (λ q l. (reads q l, λ z. refl))

  pub outputs_of : (r : ℕ) (c o : List Complex) → 0 < r → r ≤ 8 → ((q : ℕ) → q < r → get_or c q blank ≡ read_of first M src lent i q)
      → o ≡ tabulate 8 0 (kernel_of r (λ q. get_or c q blank)) → (p : ℕ) → p < r → get_or o p blank ≡ output_of first M r src lent i p
  outputs_of r c o some few reads outs p l =
      ap (λ (os : List Complex). get_or os p blank) outs ∙ get_d_tabulate 8 0 _ p blank (omega arith) ∙ rw zero-add (output_of_lem r c some reads p)

-- all later stages do alike, and an output rests on the cells that are there
module _ (lent : ℕ → ℕ → Complex) (j h s r : ℕ) (src : List Float) (d : ℕ → Complex) (e : (n : ℕ) → n < h → cell src n ≡ d n) (i : ℕ) (li : i < h / r) where
  read_same : (q : ℕ) → q < r → read_of (eqb j 0) (h / r) src lent i q ≡ read (lent_by lent) j (h / r) s r d i q
  unfolding read_of read twiddled_in floats
  read_same = go j
    where
      go : (j q : ℕ) → q < r → read_of (eqb j 0) (h / r) src lent i q ≡ read (lent_by lent) j (h / r) s r d i q
      go j zero lq = e i (omega (arith, read_lt h r i 0 li lq))
      go zero (suc q) lq = e (i + suc q * (h / r)) (read_lt h r i (suc q) li lq)
      go (suc j) (suc q) lq =
          let later : suc j ≡ 0 → ⊥ = λ z. omega arith in
          rw (ne_eqb (suc j) 0 later) (ap (λ (x : Complex). times x (lent i (suc q))) (e (i + suc q * (h / r)) (read_lt h r i (suc q) li lq)))

  pub output_same : (p : ℕ) → 0 < r → output_of (eqb j 0) (h / r) r src lent i p ≡ output plain (lent_by lent) j (h / r) s r d i p
  unfolding output floats
  output_same p some = Sums.plain_same untwiddled (lent_by lent) (λ u w. refl) r _ _ p some (λ q l. (read_same q l, λ z. refl))

-- ---- a radix written out

-- a radix that is none of the others
pub eight : {r : ℕ} → is_radix r ≡ true → (r ≡ 2 → ⊥) → (r ≡ 3 → ⊥) → (r ≡ 4 → ⊥) → (r ≡ 5 → ⊥) → (r ≡ 7 → ⊥) → r ≡ 8
eight {r} k a b c d e = go (radix_is r k)
  where
    go : Radix r → r ≡ 8
    go (inl x) = absurd (a x)
    go (inr (inl x)) = absurd (b x)
    go (inr (inr (inl x))) = absurd (c x)
    go (inr (inr (inr (inl x)))) = absurd (d x)
    go (inr (inr (inr (inr (inl x))))) = absurd (e x)
    go (inr (inr (inr (inr (inr x))))) = x

pub sized_at : {M r ns : ℕ} (ρ : ℕ) → r ≡ ρ → Sized M r ns → Sized M ρ ns
sized_at ρ e k = rw e at k
