-- Laws of filling the stages of an accepted plan one after the other. Assumes nothing.
use Rattle.sequences.proofs.Basics.{◌≡◌, refl, sym, ap, ap₂, ◌∙◌, ℕ, zero, suc, ◌+◌, ◌-◌, ◌*◌, ◌/◌, ◌<◌, ◌≤◌, le_of_lt, div-le_self, add-one, arith, true, List}
use Rattle.sequences.proofs.Basics.{◌++◌, append_assoc, length, get_or, take, drop, length-append, take_at, take_all, length-take-le}
use lib.Ieee.{Float}
use borrow.Rule.Slice.PartMut.{mid_of, put_mid, same_len_mid, mid_len}
use Rattle.packing.proofs.Fill.{length_packed}
use Rattle.packing.specs.Places.{packed}
use Rattle.counts.specs.Counts.{radix, stride, twiddle_count, twiddle_start, stage_twiddles}
use Rattle.radices.specs.Lists.{product}
use Rattle.plan.specs.declared.Record.{Record}
use Rattle.plan.proofs.Bounds.{plan_half, plan_sized, plan_radix_bounds}
use Rattle.counts.proofs.Counts.{count_later, start_next, start_up, start_few}
use Rattle.schedule.specs.Plans.{in_use}
use Rattle.schedule.proofs.Plans.{use-stride, use-radix, use-parts, use-stride-some}
use Rattle.turn.specs.Turns.{housed}
use Rattle.packing.specs.Packs.{Packs}
use Rattle.packing.specs.Parts.{Packable, Fillable}
use Rattle.packing.specs.Twiddles.{twiddle, stage_words, stages_words}
use Rattle.packing.proofs.Circle.{housed_part}
use Rattle.packing.proofs.Widths.{width_bounds}

-- the first stage has no words
pub stages_none : (h : ℕ) (rs us : List ℕ) (W : ℕ) (ys : List Float) → take (2 * twiddle_start h rs 1) ys ≡ stages_words h us W 1
unfolding twiddle_start twiddle_count stages_words stage_words
stages_none h rs us W ys = refl

module _ (p : Record) (W words : ℕ) (h : Packable p W words) where
  -- where the words of stage j start
  abbrev start : ℕ → ℕ
  start j = 2 * twiddle_start p.half p.radices j

  -- Its words lie in the slice, from 2 * a to 2 * b, and the numbers that tell where are small
  module _ (j : ℕ) (known : j < p.count) (a b : ℕ) (ea : a ≡ twiddle_start p.half p.radices j)
      (eb : b ≡ twiddle_start p.half p.radices (j + 1)) where
    pub part_bounds : (a ≤ b) × (2 * b ≤ words) × (b ≤ 400000) × (0 < get_or p.radices j 0)
    part_bounds =
        let last : j + 1 + (p.count - (j + 1)) ≡ p.count = omega arith in
        let up : twiddle_start p.half p.radices (j + 1) ≤ stage_twiddles p = rw last at (start_up p.half p.radices (j + 1) (p.count - (j + 1))) in (
          omega (arith, start_next p.half p.radices j),
          omega (arith, up, h.long),
          omega (arith, start_few p h.planned (j + 1) (omega arith)),
          omega (arith, plan_radix_bounds p h.planned j known),
        )

    pub part_room : (ys : List Float) → length ys ≡ words → length (mid_of (2 * a) (2 * b - 2 * a) ys) ≡ start (j + 1) - start j
    part_room ys e = mid_len (2 * a) (2 * b) ys (omega (arith, part_bounds, e)) ∙ rw (ea, eb)

  -- The numbers that the code finds for stage j
  module _ (j : ℕ) (later : 1 ≤ j) (known : j < p.count) (s r : ℕ) (es : s ≡ stride p.radices j) (er : r ≡ get_or p.radices j 0) where
    same_stride : s ≡ stride (in_use p) j
    same_stride = es ∙ sym (use-stride p h.planned j (le_of_lt known))

    same_radix : r ≡ radix (in_use p) j
    same_radix = er ∙ sym (use-radix p h.planned j known)

    -- so many words
    part_long : start (j + 1) - start j ≡ 2 * (p.half / r * (r - 1))
    part_long =
        let count : p.half / r * (r - 1) ≡ twiddle_count p.half p.radices j = rw er (count_later p h.planned j (λ z. omega (arith, z)) known) in
        omega (arith, count, start_next p.half p.radices j)

    -- its circle is a part of the plan's
    part_circle : housed (s * r) ≡ true
    part_circle =
        let blocks = product (drop (suc j) (in_use p)) in
        let parts : p.half ≡ blocks * (s * r) = rw (same_stride, same_radix) (use-parts p h.planned j known) in
        let whole : p.n ≡ 2 * blocks * (s * r) = omega (arith, parts, (plan_sized p h.planned).twice) in
        housed_part p.n (2 * blocks) (s * r) whole h.housed

    -- what filling it asks for
    pub stage_fillable : (room : ℕ) → room ≡ start (j + 1) - start j → Fillable (p.half / r) s r room
    stage_fillable room e =
        record {
          columns = rw same_stride (use-stride-some p h.planned j known);
          two = omega (arith, plan_radix_bounds p h.planned j known, er);
          circle = part_circle;
          long = e ∙ part_long;
        }

    -- how it is packed
    pub stage_packs : Packs (p.half / r) r W
    stage_packs =
        let bounds = plan_radix_bounds p h.planned j known in let width = width_bounds W h.width in
        record {
          iterations = omega (arith, div-le_self p.half r, plan_half p h.planned);
          some = omega (arith, bounds, er);
          eight = omega (arith, bounds, er);
          lane = width.0;
          narrow = width.1;
        }

    -- the words of stage j
    stage_words_lem : packed (p.half / r) r W (twiddle s r) ≡ stage_words p.half (in_use p) W j
    unfolding stage_words
    stage_words_lem = rw (same_stride, same_radix) (at j later)
      where
        at : (j : ℕ) → 1 ≤ j → packed (p.half / radix (in_use p) j)
            (radix (in_use p) j) W (twiddle (stride (in_use p) j) (radix (in_use p) j)) ≡ stage_words p.half (in_use p) W j
        at zero l = absurd (omega arith)
        at (suc j) l = refl

    -- The part of stage j, from 2 * a to 2 * b
    module _ (a b : ℕ) (ea : a ≡ twiddle_start p.half p.radices j) (eb : b ≡ twiddle_start p.half p.radices (j + 1)) where
      -- one stage more
      pub stages_next : (ys part out : List Float) → length ys ≡ words → take (start j) ys ≡ stages_words p.half (in_use p) W j
          → part ≡ packed (p.half / r) r W (twiddle s r) → out ≡ put_mid (2 * a) (2 * b - 2 * a) ys part
          → (length out ≡ words) × (take (start (j + 1)) out ≡ stages_words p.half (in_use p) W (j + 1))
      unfolding stages_words
      stages_next ys part out e done d eo =
          let bounds = part_bounds j known a b ea eb in
          let here : out ≡ put_mid (start j) (start (j + 1) - start j) ys part = eo ∙ ap₂ (λ (n m : ℕ). put_mid (2 * n) (2 * m - 2 * n) ys part) ea eb in
          let room : length part ≡ start (j + 1) - start j = ap length d ∙ length_packed (p.half / r) r W (twiddle s r) ∙ sym part_long in
          let front : length (take (start j) ys) ≡ start j = length-take-le (start j) ys (omega arith) in
          let seam : length (take (start j) ys ++ part) ≡ start (j + 1) = omega (arith, length-append (take (start j) ys) part) in (
            ap length here ∙ same_len_mid (start j) (start (j + 1) - start j) ys part (room
                ∙ sym (mid_len (start j) (start (j + 1)) ys (omega arith))) ∙ e,
            ap (take (start (j + 1))) (here ∙ sym (append_assoc (take (start j) ys) part _)) ∙ take_at (take (start j) ys ++ part) _ (start (j + 1)) seam
                ∙ ap₂ (λ (xs zs : List Float). xs ++ zs) done (d ∙ stage_words_lem) ∙ ap (stages_words p.half (in_use p) W) (sym (add-one j)),
          )

  -- all stages
  pub stages_done : (j : ℕ) (ys : List Float) → length ys ≡ words → (0 < p.count → j ≤ p.count) → p.count ≤ j
      → take (start j) ys ≡ stages_words p.half (in_use p) W j → ys ≡ stages_words p.half (in_use p) W p.count
  unfolding twiddle_start stages_words
  stages_done j ys e small large done = go p.count refl
    where
      all : ys ≡ take (start p.count) ys
      all = sym (take_all (start p.count) ys (omega (arith, e, h.long)))

      go : (c : ℕ) → p.count ≡ c → ys ≡ stages_words p.half (in_use p) W p.count
      go zero z = all ∙ rw z
      go (suc c) z =
          let same : j ≡ p.count = omega (arith, small (omega arith)) in
          all ∙ rw same at done
