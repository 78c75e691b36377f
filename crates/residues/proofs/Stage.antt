-- From iteration to iteration of a stage, and that all of them make it. Assumes nothing.
use Rattle.sequences.proofs.Basics.{◌≡◌, sym, ap, ap₂, ◌∙◌, ℕ, ◌+◌, ◌*◌, ◌/◌, ◌%◌, ◌^◌, ◌<◌, ◌≤◌, mod-eq_of_lt, div-eq_of_lt, zero-mul, mod-lt, mul-div_left}
use Rattle.sequences.proofs.Basics.{mul-le-mul, div-le_self, le_of_lt, arith, true, false≢true, List, length, get_or, digits_lt}
use Rattle.radices.specs.Lists.{is_radix}
use Rattle.counts.specs.Counts.{stride}
use Rattle.plan.specs.declared.Record.{Record}
use Rattle.plan.proofs.Bounds.{plan_half, plan_radix, plan_radix_bounds}
use Rattle.counts.proofs.Counts.{stride_small, stride_none}
use Rattle.schedule.specs.Stage.{index, plain}
use Rattle.schedule.proofs.Cells.{index_lt}
use Rattle.schedule.proofs.Fill.{wrote_as, done_iteration, same_block, next_block}
use Rattle.schedule.proofs.Plans.{found_some, found_stride, found_blocks, found_whole, found_size, found_stage}
use Rattle.powers.proofs.Powers.{power_none, next_power, power_power, below_mod}
use Rattle.residues.specs.Parts.{Lent, kernel_of, read_of, output_of, Spread, Made, Reading, Writing, Staged, Workable}
use Rattle.residues.specs.Residues.{residues, stage_of, Under}
use Rattle.residues.proofs.Iteration.{all_under, column_output, lent_output}

-- ---- from iteration to iteration

-- iteration i stands at column k of the block that starts at `block`, and its twiddles are the powers of v
pub record Standing (m step s r i block k v : ℕ) : Type 0 where
  pub starts : block ≡ i / s * (s * r)
  pub column : k ≡ i % s
  pub power : v ≡ step ^ (i % s) % m

module _ (m step s r : ℕ) (ps : 0 < s) where
  pub standing_first : 1 < m → Standing m step s r 0 0 0 1
  standing_first two =
      let c = mod-eq_of_lt ps in
      record { starts = rw (div-eq_of_lt ps) (sym (zero-mul (s * r))); column = sym c; power = rw c (power_none step m two) }

  module _ {i block k v : ℕ} (h : Standing m step s r i block k v) where
    -- in the same block
    pub standing_next : (k + 1 ≡ s → ⊥) → Standing m step s r (i + 1) block (k + 1) (v * step % m)
    standing_next f =
        let b = same_block s i 1 (omega (arith, mod-lt i ps, h.column, f)) in
        record { starts = rw b.0 h.starts; column = rw (b.1, h.column); power = rw b.1 (next_power step m (i % s) v h.power) }

    -- at the start of the next
    pub standing_block : 1 < m → k + 1 ≡ s → Standing m step s r (i + 1) (block + s * r) 0 1
    standing_block two e =
        let b = next_block s i 1 ps (omega (arith, h.column)) in
        record { starts = rw b.0 (omega (arith, h.starts)); column = sym b.1; power = rw b.1 (power_none step m two) }

-- ---- what the iterations ask for

module _ {m M s r : ℕ} {src : List ℕ} {room : ℕ} (h : Staged m M s r src room) where
  room_few : M * r ≤ 4096 * 8
  room_few = mul-le-mul h.blocks.small h.blocks.few

  pub width_few : s * r ≤ 4096 * 8
  width_few = mul-le-mul h.blocks.narrow h.blocks.few

  module _ {step : ℕ} {turns : List ℕ} (lent : Lent m s step turns) {i block k v : ℕ} (w : Standing m step s r i block k v) where
    pub reading : i < M → Reading m v M i r src
    reading l =
        record {
          some = h.blocks.some;
          few = h.blocks.few;
          power = below_mod v _ m w.power (omega (arith, lent.modulus.two));
          cells = h.cells;
          reads = λ q lq. rw h.long (omega (arith, digits_lt lq l));
        }

    pub writing : i < M → Writing (block + k) s r room
    unfolding index
    writing l =
        let parts : M * r ≡ M / s * (s * r) = ap (λ (n : ℕ). n * r) h.blocks.whole ∙ omega arith in
        let to : block + k ≡ i / s * (s * r) + i % s = ap₂ (λ (x y : ℕ). x + y) w.starts w.column in
        record {
          some = h.blocks.some;
          few = h.blocks.few;
          writes = λ p lp. rw (h.wide, to) (index_lt s r i p lent.stride lp (M * r)
              (M / s) parts (rw (mul-div_left M {n = r} (omega (arith, h.blocks.some))) l));
        }

    -- the block is in the room
    pub block_few : i < M → block + k < 4096 * 8
    block_few l = let x = writing l in omega (arith, x.writes 0 (omega (arith, x.some)), h.wide, room_few)

    -- one more iteration is made
    pub made_next : (ys ys' : List ℕ) → Spread (λ p. p < r) (block + k) s (kernel_of m turns r (read_of m v M src i)) ys ys'
        → Made s r (output_of m step M s r src turns) ys i → Made s r (output_of m step M s r src turns) ys' (i + 1)
    unfolding index
    made_next ys ys' x = done_iteration s r _ lent.stride i (λ i' p l f. omega (arith, f))
        (wrote_as (λ p l. (
          rw (w.starts, w.column),
          column_output m step M s r src turns (omega (arith, h.blocks.some))
              (all_under m (omega (arith, lent.modulus.two)) src h.cells) i p v w.power,
        )) x)

-- ---- stage j of an accepted plan

six : is_radix 6 ≡ true → ⊥
unfolding is_radix
six e = false≢true e

module _ (p : Record) (j m w : ℕ) (src : List ℕ) (room : ℕ) (h : Workable p m w src room) (known : j < p.count) where
  abbrev r : ℕ
  r = get_or p.radices j 0

  abbrev s : ℕ
  s = stride p.radices j

  pub work_staged : Staged m (p.half / r) s r src room
  work_staged =
      let size = found_size p h.planned j known in
      record {
        blocks = record {
          some = (plan_radix_bounds p h.planned j known).0;
          few = (plan_radix_bounds p h.planned j known).1;
          other = λ e. six (ap is_radix (sym e) ∙ plan_radix p h.planned j known);
          whole = found_whole p h.planned j known;
          small = omega (arith, div-le_self p.half r, plan_half p h.planned);
          narrow = stride_small p h.planned j (le_of_lt known);
        };
        cells = h.cells;
        long = h.long ∙ sym size;
        wide = h.wide ∙ sym size;
      }

  -- what it is lent
  pub work_lent : (step : ℕ) (turns : List ℕ) → step < m → Under m 8 turns → Lent m s step turns
  work_lent step turns base turning = record { modulus = h.modulus; stride = found_stride p h.planned j known; base = base; turning = turning }

  -- all its iterations make the stage
  pub work_done : (step root : ℕ) (turns dst : List ℕ) → step ≡ w ^ (p.half / r / s) % m → root ≡ w ^ (p.half / r) % m
      → ((t : ℕ) → t < 8 → get_or turns t 0 ≡ root ^ t % m) → length dst ≡ room
      → Made s r (output_of m step (p.half / r) s r src turns) dst (p.half / r) → dst ≡ stage_of p j m w src
  unfolding residues
  work_done step root turns dst stepping rooted turned wide done =
      let k = found_some p h.planned j known in
      found_stage p h.planned j known plain (residues m w p.half) src dst (wide ∙ h.wide) (λ i q l lq.
      done i q l lq ∙ lent_output m step (p.half / r) s r src turns k (all_under m (omega (arith, h.modulus.two)) src h.cells) i q w p.half j
      (plan_radix_bounds p h.planned j known).1 (λ z. ap (stride p.radices) z ∙ sym (stride_none p.radices))
      (stepping ∙ ap (λ (t : ℕ). w ^ t % m) (found_blocks p h.planned j known)) (λ t lt. turned t lt ∙ power_power m w (p.half / r) root t rooted))
