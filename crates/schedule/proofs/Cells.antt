-- Where a stage reads and writes, for any arithmetic.
-- Assumes nothing.
use Rattle.sequences.proofs.Basics.{◌≡◌, ap, ◌∙◌, ℕ, zero, suc, ◌+◌, ◌*◌, ◌/◌, ◌%◌, ◌<◌, zero-add, zero-mul, mul_comm, zero-lt-suc, not-suc-le-zero, mod-lt}
use Rattle.sequences.proofs.Basics.{div-add-mod', div-lt_iff_lt-mul, mul-add-mod_self_right, mod-mod_of_dvd, dvd-mul_right, mul-pos, mul-div-le}
use Rattle.sequences.proofs.Basics.{div-eq_of_eq-mul_left, arith, List, length, get_or, digits_div, digits_mod, digits_lt}
use Rattle.sequences.proofs.Tables.{length_tabulate, get_d_tabulate}
use Rattle.schedule.specs.Stage.{Kernel, Arith, index, iteration, place, output, stage_by}

pub pos_left : (a b : ℕ) → 0 < a * b → 0 < a
pos_left zero b l = absurd (not-suc-le-zero (rw zero-mul at l))
pos_left (suc a) b l = zero-lt-suc a

pub pos_right : (a b : ℕ) → 0 < a * b → 0 < b
pos_right a b l = pos_left b a (rw mul_comm l)

-- h cells are n blocks of s * r.
module _ (h n s r : ℕ) (parts : h ≡ n * (s * r)) (ps : 0 < s) (pr : 0 < r) where
  pub by_stride : h / s ≡ n * r
  by_stride = div-eq_of_eq-mul_left ps (parts ∙ omega arith)

  pub by_radix : h / r ≡ n * s
  by_radix = div-eq_of_eq-mul_left pr (parts ∙ omega arith)

  pub by_both : h / (s * r) ≡ n
  by_both = div-eq_of_eq-mul_left (mul-pos ps pr) parts

-- Cell k of block b, in blocks of s * r cells
module _ (s r b k : ℕ) (lk : k < s * r) where
  pub iteration_block : iteration s r (b * (s * r) + k) ≡ b * s + k % s
  unfolding iteration
  iteration_block =
      let column : (b * (s * r) + k) % s ≡ k % s = ap (λ (n : ℕ). (n + k) % s) (omega arith) ∙ mul-add-mod_self_right (b * r) s k in
      rw (digits_div b lk, column)

  pub place_block : place s r (b * (s * r) + k) ≡ k / s
  unfolding place
  place_block = rw (digits_mod b lk)

-- The pairs of an iteration i and a p below r are the cells.
module _ (s r i p : ℕ) (ps : 0 < s) (lp : p < r) where
  in_block : p * s + i % s < s * r
  in_block = omega (arith, digits_lt lp (mod-lt i ps))

  as_block : index s r i p ≡ i / s * (s * r) + (p * s + i % s)
  unfolding index
  as_block = omega arith

  pub iteration_index : iteration s r (index s r i p) ≡ i
  iteration_index = rw (as_block, iteration_block s r (i / s) (p * s + i % s) in_block, digits_mod p (mod-lt i ps), div-add-mod')

  pub place_index : place s r (index s r i p) ≡ p
  place_index = rw (as_block, place_block s r (i / s) (p * s + i % s) in_block, digits_div p (mod-lt i ps))

  pub index_lt : (h n : ℕ) → h ≡ n * (s * r) → i < h / r → index s r i p < h
  index_lt h n parts li =
      let block : i / s < n = (div-lt_iff_lt-mul ps).1 (rw (by_radix h n s r parts ps (omega arith)) at li) in
      rw (as_block, parts) (digits_lt block in_block)

module _ (s r j : ℕ) (ps : 0 < s) (pr : 0 < r) where
  pub index_of_cell : index s r (iteration s r j) (place s r j) ≡ j
  unfolding index iteration place
  index_of_cell = rw (digits_div (j / (s * r)) (mod-lt j ps), digits_mod (j / (s * r)) (mod-lt j ps))
      (omega (arith, div-add-mod' j (s * r), div-add-mod' (j % (s * r)) s, mod-mod_of_dvd s j (dvd-mul_right s r)))

  pub place_lt : place s r j < r
  unfolding place
  place_lt = (div-lt_iff_lt-mul ps).1 (omega (arith, mod-lt j (mul-pos ps pr)))

  pub iteration_lt : (h n : ℕ) → h ≡ n * (s * r) → j < h → iteration s r j < h / r
  unfolding iteration
  iteration_lt h n parts l = rw (by_radix h n s r parts ps pr) (digits_lt ((div-lt_iff_lt-mul (mul-pos ps pr)).1 (rw parts at l)) (mod-lt j ps))

-- ---- any kernel, any arithmetic

module _ {A : Type 0} (kernel : Kernel A) (a : Arith A) (j h n s r : ℕ) (parts : h ≡ n * (s * r)) (ps : 0 < s) where
  -- cell `index s r i p` of the list that a stage makes is output p of iteration i
  pub stage_output : (xs : List A) (i p : ℕ) → i < h / r → p < r
      → get_or (stage_by kernel a j h s r xs) (index s r i p) a.blank ≡ output kernel a j (h / r) s r (λ q. get_or xs q a.blank) i p
  unfolding stage_by
  stage_output xs i p li lp = get_d_tabulate h 0 _ (index s r i p) a.blank (index_lt s r i p ps lp h n parts li)
      ∙ rw (zero-add, iteration_index s r i p ps lp, place_index s r i p ps lp)

pub length_stage : {A : Type 0} (kernel : Kernel A) (a : Arith A) (j h s r : ℕ) (xs : List A) → length (stage_by kernel a j h s r xs) ≡ h
unfolding stage_by
length_stage kernel a j h s r xs = length_tabulate h 0 _

-- iteration i reads within the list
pub read_lt : (h r i q : ℕ) → i < h / r → q < r → i + q * (h / r) < h
read_lt h r i q li lq = omega (arith, digits_lt lq li, mul-div-le h r)
