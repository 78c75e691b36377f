-- How many cells are stored at once, the place that the next go to, and the iterations in lanes stored so. Assumes nothing.
use Rattle.sequences.proofs.Basics.{◌≡◌, refl, sym, ap, ap₂, ◌∙◌, ℕ, ◌+◌, ◌-◌, ◌*◌, ◌/◌, ◌%◌, ◌≤◌, ◌<◌, add_assoc, add-zero, div-add-mod', mod-lt}
use Rattle.sequences.proofs.Basics.{mul-le-mul_right, arith, ℕ_discrete, List, length, digits_div, digits_mod}
use lib.Ieee.{Float}
use Rattle.floats.specs.declared.complex.Complex.{Complex}
use Rattle.lanes.specs.Parts.{lane, Held, Paired}
use Rattle.storing.specs.Parts.{Done, InBlock, Blocks, Stored, Batch, Even, Evenly, Placed, Waiting}
use Rattle.storing.proofs.Places.{block_room, held_from}

-- so many are there
pub even_le : (e n : ℕ) → Batch e → Even e n → 0 < e → 0 < n → e ≤ n
even_le e n b v pe pn = pick (ℕ_discrete e 2) (ℕ_discrete e 4)
  where
    pick : Dec (e ≡ 2) → Dec (e ≡ 4) → e ≤ n
    pick (yes x) d = omega (arith, v.1 x)
    pick (no x) (yes y) = omega (arith, v.2 y)
    pick (no x) (no y) = absurd (omega (arith, b.0, b.1, v.0, x, y))

pub even_self : (e n : ℕ) → Even e n → Even e e
even_self e n v = (v.0, λ x. omega arith, λ x. omega arith)

pub even_none : (e n : ℕ) → Even e n → Even e 0
even_none e n v = (v.0, λ x. omega arith, λ x. omega arith)

pub even_fours : (e n k : ℕ) → Even e n → k % 4 ≡ 0 → Even e k
even_fours e n k v z = (v.0, λ x. omega arith, λ x. z)

pub even_add : (e a b : ℕ) → Even e a → Even e b → Even e (a + b)
even_add e a b v w = (v.0, λ x. omega (arith, v.1 x, w.1 x), λ x. omega (arith, v.2 x, w.2 x))

pub even_sub : (e a b : ℕ) → Even e a → Even e b → Even e (a - b)
even_sub e a b v w = (v.0, λ x. omega (arith, v.1 x, w.1 x), λ x. omega (arith, v.2 x, w.2 x))

pub even_mul : (e n s : ℕ) → Even e s → Even e (n * s)
even_mul e n s v = (
  v.0,
  λ x.
      let d : s ≡ 2 * (s / 2) = omega (arith, v.1 x) in
      let m : n * s ≡ 2 * (n * (s / 2)) = ap (λ (k : ℕ). n * k) d ∙ omega arith in
      omega (arith, m),
  λ x.
      let d : s ≡ 4 * (s / 4) = omega (arith, v.2 x) in
      let m : n * s ≡ 4 * (n * (s / 4)) = ap (λ (k : ℕ). n * k) d ∙ omega arith in
      omega (arith, m),
)

-- n iterations on, in the same block
pub placed_within : (e i s r block col n : ℕ) → 0 < s → Even e n → Placed e i s r block col → col + n < s → Placed e (i + n) s r block (col + n)
placed_within e i s r block col n ps v w l =
    let l' : i % s + n < s = rw w.column at l in
    let d : i + n ≡ i / s * s + (i % s + n) = omega (arith, div-add-mod' i s) in
    record {
      starts = w.starts ∙ ap (λ (k : ℕ). k * (s * r)) (sym (ap (λ (k : ℕ). k / s) d ∙ digits_div (i / s) l'));
      column = ap (λ (k : ℕ). k + n) w.column ∙ sym (ap (λ (k : ℕ). k % s) d ∙ digits_mod (i / s) l');
      even = even_add e col n w.even v;
    }

-- .. and at the start of the next
pub placed_next : (e i s r block col n : ℕ) → 0 < s → Placed e i s r block col → col + n ≡ s → Placed e (i + n) s r (block + s * r) 0
placed_next e i s r block col n ps w l =
    let d : i + n ≡ (i / s + 1) * s + 0 = omega (arith, div-add-mod' i s, w.column) in
    let q : (i + n) / s ≡ i / s + 1 = ap (λ (k : ℕ). k / s) d ∙ digits_div (i / s + 1) ps in
    record { starts = rw q (omega (arith, w.starts)); column = sym (ap (λ (k : ℕ). k % s) d ∙ digits_mod (i / s + 1) ps); even = even_none e col w.even }

pub placed_on : (e i j s r block col n : ℕ) {block' col' : ℕ} → 0 < s → Even e n → Placed e (i + j) s r block col → col + n ≤ s
    → (col + n < s → (block' ≡ block) × (col' ≡ col + n)) × (col + n ≡ s → (block' ≡ block + s * r) × (col' ≡ 0)) → Placed e (i + (j + n)) s r block' col'
placed_on e i j s r block col n {block'} {col'} ps v w l moved = rw (← add_assoc i j n) (pick (ℕ_discrete (col + n) s))
  where
    pick : Dec (col + n ≡ s) → Placed e (i + j + n) s r block' col'
    pick (yes x) = rw ((moved.1 x).0, (moved.1 x).1) (placed_next e (i + j) s r block col n ps w x)
    pick (no x) =
        let m = moved.0 (omega (arith, x)) in
        rw (m.0, m.1) (placed_within e (i + j) s r block col n ps v w (omega (arith, x)))

-- a column is of the block, which has room
pub column_lt : (e i s r : ℕ) {block col : ℕ} → 0 < s → Placed e i s r block col → col < s
column_lt e i s r ps w = rw w.column (mod-lt i ps)

pub placed_room : (e i M s r nd : ℕ) {block col : ℕ} → Blocks M s r nd → i < M → Placed e i s r block col → 2 * (block + s * r) ≤ nd
placed_room e i M s r nd b l w = rw w.starts (block_room i M s r nd b l)

pub column_room : (e i M s r nd : ℕ) {block col : ℕ} → Blocks M s r nd → i < M → Placed e i s r block col → 2 * (block + col) ≤ nd
column_room e i M s r nd b l w =
    let m : 1 * s ≤ r * s = mul-le-mul_right s b.some in
    omega (arith, m, column_lt e i s r b.stride w, placed_room e i M s r nd b l w)

-- ---- the iterations in lanes stored in turn

-- n more of one block, once those below lane j are stored
module _ {e i M len s r nd block col j : ℕ} (st : Stored i M len s r nd) (v : Evenly e len s) (w : Waiting e i len s r block col j) (l : j < len) where
  waiting_column : col < s
  waiting_column = column_lt e (i + j) s r st.blocks.stride w.placed

  pub waiting_asks : Batch e × Even e (s - col) × Even e (len - j) × (0 < s - col) × (0 < len - j)
  waiting_asks = (v.batch, even_sub e s col v.stride w.placed.even, even_sub e len j v.lanes w.even, omega (arith, waiting_column), omega arith)

  waiting_early : i + j < M
  waiting_early = omega (arith, st.within)

  pub waiting_room : (2 * (block + col) ≤ nd) × (2 * (block + s * r) ≤ nd)
  waiting_room =
      (column_room e (i + j) M s r _ st.blocks waiting_early w.placed, placed_room e (i + j) M s r _ st.blocks waiting_early w.placed)

  module _ {n : ℕ} (b : Batch n × (0 < n) × (n ≤ s - col) × (n ≤ len - j) × Even e n) where
    pub waiting_within : col + n ≤ s
    waiting_within = omega (arith, b.2, waiting_column)

    pub waiting_rows : InBlock (i + j) n s r nd × (block + col ≡ (i + j) / s * (s * r) + (i + j) % s) × (j + n ≤ 16)
    waiting_rows = (
      record {
        stride = st.blocks.stride;
        some = st.blocks.some;
        few = st.blocks.few;
        one = omega (arith, waiting_within, w.placed.column);
        room = block_room (i + j) M s r _ st.blocks waiting_early;
      },
      ap₂ (λ (x y : ℕ). x + y) w.placed.starts w.placed.column,
      omega (arith, b.3, st.lanes),
    )

    pub waiting_next : {block' col' : ℕ} → (col + n < s → (block' ≡ block) × (col' ≡ col + n)) × (col + n ≡ s → (block' ≡ block + s * r) × (col' ≡ 0))
        → Waiting e i len s r block' col' (j + n)
    waiting_next moved =
        record {
          fits = omega (arith, b.3);
          even = even_add e j n w.even b.4;
          placed = placed_on e i j s r block col n st.blocks.stride b.4 w.placed waiting_within moved;
        }

    pub waiting_done : (re im ys ys' : List Float)
        → ((u : ℕ → ℕ → Complex) → ((t p : ℕ) → t < n → p < r → lane re im (16 * p + j + t) ≡ u (i + j + t) p) → Done s r u ys (i + j)
        → Done s r u ys' (i + j + n))
        → (u : ℕ → ℕ → Complex) → Held i len r u re im → Done s r u ys (i + j) → Done s r u ys' (i + (j + n))
    waiting_done re im ys ys' rows u held done i' p li lp = rows u (held_from i len r u re im j n (omega (arith, b.3)) held) done i' p (omega arith) lp

-- the loop that stores all of them, from ys₀ on
pub record Storing (e i len s r : ℕ) (ra ia rb ib ys₀ ys : List Float) (block col j : ℕ) : Type 0 where
  pub waiting : Waiting e i len s r block col j
  pub size : length ys ≡ length ys₀
  pub done : (v : ℕ → ℕ → Complex) → Paired i len r v ra ia rb ib → Done s r v ys₀ i → Done s r v ys (i + j)

module _ {e i len s r block col : ℕ} {ra ia rb ib ys₀ : List Float} where
  pub storing_none : Evenly e len s → Placed e i s r block col → Storing e i len s r ra ia rb ib ys₀ ys₀ block col 0
  storing_none v w =
      record {
        waiting = record { fits = omega arith; even = even_none e len v.lanes; placed = rw (add-zero i) w };
        size = refl;
        done = λ v held done i' p li lp. done i' p (omega arith) lp;
      }

  module _ {j : ℕ} {ys : List Float} (w : Storing e i len s r ra ia rb ib ys₀ ys block col j) where
    pub storing_asks : {M : ℕ} → Stored i M len s r (length ys₀) → j < len
        → Stored i M len s r (length ys) × Waiting e i len s r block col j × (j < len)
    storing_asks st l = (rw w.size st, w.waiting, l)

    pub storing_next : {block' col' j' : ℕ} {ys' : List Float} → length ys' ≡ length ys → Waiting e i len s r block' col' j' × (j < j')
        × ((v : ℕ → ℕ → Complex) → Paired i len r v ra ia rb ib → Done s r v ys (i + j) → Done s r v ys' (i + j'))
        → Storing e i len s r ra ia rb ib ys₀ ys' block' col' j'
    storing_next size more =
        record { waiting = more.0; size = size ∙ w.size; done = λ v held done. more.2 v held (w.done v held done) }

    pub storing_all : len ≤ j
        → Placed e (i + len) s r block col × ((v : ℕ → ℕ → Complex) → Paired i len r v ra ia rb ib → Done s r v ys₀ i → Done s r v ys (i + len))
    storing_all l =
        let all : j ≡ len = omega (arith, w.waiting.fits) in
        (rw all at w.waiting.placed, rw all at w.done)
