-- Laws of both directions: that the steps of the code, one after the other, make what the definitions state. Assumes nothing.
use Rattle.sequences.proofs.Basics.{◌≡◌, refl, sym, ap, ap₂, ◌∙◌, ℕ, zero, suc, ◌+◌, ◌-◌, ◌*◌, ◌≤◌, ◌<◌, arith, true, cond, List, ◌++◌, append_assoc, ltb}
use Rattle.sequences.proofs.Basics.{length, take, drop, length-append, length-drop, length-take-le, take_at, drop_at, drop-drop, drop-append-le, take-append-le}
use Rattle.sequences.proofs.Basics.{lt-ltb}
use borrow.Rule.Slice.PartMut.{put_mid}
use lib.Ieee.{Float}
use Rattle.sequences.proofs.Pasted.{tail_replaced, tail_length}
use Rattle.counts.specs.Counts.{result_in, buffer_number, end_count}
use Rattle.plan.specs.Record.{is_planned}
use Rattle.counts.specs.declared.Buffer.{Buffer}
use Rattle.counts.specs.declared.Buffer.TheVariants.{Data, Scratchpad}
use Rattle.plan.specs.declared.Record.{Record}
use Rattle.plan.proofs.Bounds.{plan_half, plan_twice}
use Rattle.counts.proofs.Counts.{pairs_lent}
use Rattle.schedule.specs.Buffers.{Two, held_in}
use Rattle.stage.specs.Runs.{run_of}
use Rattle.mixing.specs.Steps.{ifft_steps}
use Rattle.ends.specs.Ends.{postprocess_fft, preprocess_ifft, conjugated, zeros}
use Rattle.ends.specs.Parts.{prepared, Endable}
use Rattle.ends.proofs.Cells.{length_ended, length_conjugated}
use Rattle.ends.proofs.Prepared.{prepared_is}
use Rattle.scratch.specs.Scratch.{data_of, pad_of, with_both}
use Rattle.scratch.proofs.Scratch.{data_length, pad_length, front_data, front_drop, front_pad, front_rest, both_data, both_pad}
use Rattle.transform.specs.Transforms.{forward_run, forward_of, prepared_of, inverse_run, restored, inverse_of}
use Rattle.transform.proofs.Stages.{run_long, within_beside}

-- a result is one of two buffers of a length
pub held_long : (n : ℕ) (which : Buffer) (b : Two Float) → length b.0 ≡ n → length b.1 ≡ n → length (held_in which b) ≡ n
held_long n Data b l m = l
held_long n Scratchpad b l m = m

-- two buffers that equal two others
two : {b c : Two Float} → b.0 ≡ c.0 → b.1 ≡ c.1 → ◌≡◌ {A = Two Float} b c
two e f = λ i. (e i, f i)

-- ---- forward

module _ (p : Record) (W : ℕ) (stage end xs s : List Float) (samples : length xs ≡ 2 * p.half) (room : 4 * p.half ≤ length s) where
  -- what the stages leave
  abbrev ran : Two Float
  ran = run_of p W stage (xs, pad_of p.half s)

  ran_long : (length ran.0 ≡ 2 * p.half) × (length ran.1 ≡ 2 * p.half)
  ran_long = run_long p W stage (xs, pad_of p.half s) samples (pad_length p.half s room)

  pub forward_made : (s2 o : List Float) (which : Buffer) → s2 ≡ with_both p.half ran s → which ≡ result_in p.count
      → o ≡ postprocess_fft p.half end (held_in which (data_of p.half s2, pad_of p.half s2))
      → (o ≡ (forward_of p W stage end xs s).0) × (s2 ≡ (forward_of p W stage end xs s).1)
  unfolding forward_of forward_run
  forward_made s2 o which e2 ew eo =
      let h = p.half in
      let d : data_of h s2 ≡ ran.0 = ap (data_of h) e2 ∙ both_data h ran s ran_long.0 ran_long.1 in
      let q : pad_of h s2 ≡ ran.1 = ap (pad_of h) e2 ∙ both_pad h ran s ran_long.0 ran_long.1 in
      (eo ∙ ap₂ (λ (w : Buffer) (c : Two Float). postprocess_fft h end (held_in w c)) ew (two {b = (data_of h s2, pad_of h s2)} {c = ran} d q), e2)

-- ---- inverse

-- the bins prepared and conjugated
pub prepare_made : (h : ℕ) (end xs s q : List Float) → 0 < h → q ≡ prepared h end xs
    → q ++ drop (2 * (h + 1)) s ≡ conjugated h (data_of h (prepared_of h end xs s)) ++ drop (2 * h) (prepared_of h end xs s)
unfolding prepared_of
prepare_made h end xs s q some e =
    let made = preprocess_ifft h end xs in let rest = drop (2 * (h + 1)) s in
    let long : 2 * h ≤ length made = omega (arith, length_ended ifft_steps h end xs) in
    ap (λ (u : List Float). u ++ rest) (e ∙ prepared_is ifft_steps h end xs some) ∙ append_assoc (conjugated h (take (2 * h) made)) (drop (2 * h) made) rest
    ∙ ap₂ (λ (u v : List Float). conjugated h u ++ v) (sym (take-append-le (2 * h) made rest long)) (sym (drop-append-le (2 * h) made rest long))

-- what is prepared is as long as the scratch, and its rest is the scratch's
module _ (h : ℕ) (end xs s : List Float) (some : 0 < h) (room : 4 * h ≤ length s) where
  prepared_long : length (prepared_of h end xs s) ≡ length s
  unfolding prepared_of
  prepared_long = length-append (preprocess_ifft h end xs) (drop (2 * (h + 1)) s) ∙ omega (arith, length_ended ifft_steps h end xs, length-drop (2 * (h + 1)) s)

  prepared_rest : drop (4 * h) (prepared_of h end xs s) ≡ drop (4 * h) s
  unfolding prepared_of
  prepared_rest =
      let parts : 4 * h ≡ 2 * (h + 1) + (2 * h - 2) = omega arith in
      rw parts (sym (drop-drop (2 * h - 2) (2 * (h + 1)) (preprocess_ifft h end xs ++ drop (2 * (h + 1)) s))
      ∙ ap (drop (2 * h - 2)) (drop_at (preprocess_ifft h end xs) (drop (2 * (h + 1)) s) (2 * (h + 1)) (length_ended ifft_steps h end xs))
      ∙ drop-drop (2 * h - 2) (2 * (h + 1)) s)

-- the result is in the Scratchpad only if stages ran
ran_pad : (count : ℕ) → result_in count ≡ Scratchpad → 0 < count
unfolding result_in
ran_pad zero e = absurd (let z : ◌≡◌ {A = ℕ} 0 1 = ap buffer_number e in omega arith)
ran_pad (suc n) e = omega arith

-- what the stages make of Data and the other buffer, restored
module _ (p : Record) (W : ℕ) (tw s o : List Float) (room : 4 * p.half ≤ length s) (other : 2 * p.half ≤ length o)
    (d e : List Float) (ed : d ≡ (run_of p W tw (data_of p.half s, data_of p.half o)).0)
    (ee : e ≡ (run_of p W tw (data_of p.half s, data_of p.half o)).1) where
  abbrev h : ℕ
  h = p.half

  -- what is to be restored, and what is to be left
  abbrev run : Two Float
  run = run_of p W tw (data_of h s, pad_of h s)

  abbrev left : Two Float
  left = restored h (result_in p.count) run

  lens : (length d ≡ 2 * h) × (length e ≡ 2 * h)
  lens =
      let l = run_long p W tw (data_of h s, data_of h o) (data_length h s room) (length-take-le (2 * h) o other) in
      (ap length ed ∙ l.0, ap length ee ∙ l.1)

  pub from_data : (s3 o3 : List Float) → result_in p.count ≡ Data
      → s3 ≡ with_both h
      (conjugated h (data_of h (d ++ drop (2 * h) s)), cond (ltb 0 p.count) (data_of h (e ++ drop (2 * h) o)) (pad_of h (d ++ drop (2 * h) s)))
      (d ++ drop (2 * h) s)
      → o3 ≡ conjugated h (data_of h (d ++ drop (2 * h) s)) ++ drop (2 * h) (e ++ drop (2 * h) o) → (s3 ≡ with_both h left s) × (o3 ≡ left.0 ++ drop (2 * h) o)
  from_data s3 o3 told es eo =
      let w = within_beside p W tw (data_of h s) s o (data_length h s room) room other (ltb 0 p.count) refl d e ed ee in
      let fd : data_of h (d ++ drop (2 * h) s) ≡ run.0 = front_data h d s lens.0 ∙ w.0 in
      let fe : cond (ltb 0 p.count) (data_of h (e ++ drop (2 * h) o)) (pad_of h (d ++ drop (2 * h) s)) ≡ run.1
      = ap₂ (λ (u v : List Float). cond (ltb 0 p.count) u v) (front_data h e o lens.1) (front_pad h d s lens.0) ∙ w.1 in
      let back : ◌≡◌ {A = Two Float} (conjugated h run.0, run.1) left = ap (λ (k : Buffer). restored h k run) (sym told) in (
        es ∙ ap₂ (λ (u v : List Float). conjugated h u ++ v ++ drop (4 * h) (d ++ drop (2 * h) s)) fd fe
            ∙ ap (λ (t : List Float). conjugated h run.0 ++ run.1 ++ t) (front_rest h d s lens.0) ∙ ap (λ (b : Two Float). with_both h b s) back,
        eo ∙ ap₂ (λ (u v : List Float). conjugated h u ++ v) fd (front_drop h e o lens.1) ∙ ap (λ (b : Two Float). b.0 ++ drop (2 * h) o) back,
      )

  pub from_pad : (s3 o3 : List Float) → result_in p.count ≡ Scratchpad
      → s3 ≡ with_both h (conjugated h (data_of h (e ++ drop (2 * h) o)), conjugated h (data_of h (e ++ drop (2 * h) o))) (d ++ drop (2 * h) s)
      → o3 ≡ conjugated h (data_of h (e ++ drop (2 * h) o)) ++ drop (2 * h) (e ++ drop (2 * h) o) → (s3 ≡ with_both h left s) × (o3 ≡ left.0 ++ drop (2 * h) o)
  from_pad s3 o3 told es eo =
      let w = within_beside p W tw (data_of h s) s o (data_length h s room) room other true (lt-ltb 0 p.count (ran_pad p.count told)) d e ed ee in
      let fe : data_of h (e ++ drop (2 * h) o) ≡ run.1 = front_data h e o lens.1 ∙ w.1 in
      let back : ◌≡◌ {A = Two Float} (conjugated h run.1, conjugated h run.1) left = ap (λ (k : Buffer). restored h k run) (sym told) in (
        es ∙ ap₂ (λ (u v : List Float). conjugated h u ++ conjugated h u ++ v) fe (front_rest h d s lens.0) ∙ ap (λ (b : Two Float). with_both h b s) back,
        eo ∙ ap₂ (λ (u v : List Float). conjugated h u ++ v) fe (front_drop h e o lens.1) ∙ ap (λ (b : Two Float). b.0 ++ drop (2 * h) o) back,
      )

module _ (p : Record) (W : ℕ) (stage end xs s : List Float) (some : 0 < p.half) (room : 4 * p.half ≤ length s) where
  -- what is prepared, and what the stages start from
  abbrev q : List Float
  q = prepared_of p.half end xs s

  abbrev started : Two Float
  started = (conjugated p.half (data_of p.half q), pad_of p.half q)

  started_pad : length (pad_of p.half q) ≡ 2 * p.half
  started_pad = pad_length p.half q (rw (prepared_long p.half end xs s some room) room)

  back_long : (length (inverse_run p W stage end xs s).0 ≡ 2 * p.half) × (length (inverse_run p W stage end xs s).1 ≡ 2 * p.half)
  unfolding inverse_run
  back_long = run_long p W stage started (length_conjugated p.half (data_of p.half q)) started_pad

  -- what is restored
  abbrev ended_with : Two Float
  ended_with = restored p.half (result_in p.count) (inverse_run p W stage end xs s)

  restored_long : (which : Buffer) (b : Two Float) → length b.1 ≡ 2 * p.half
      → (length (restored p.half which b).0 ≡ 2 * p.half) × (length (restored p.half which b).1 ≡ 2 * p.half)
  restored_long Data b m = (search (length_conjugated), search (length_conjugated, m))
  restored_long Scratchpad b m = (search (length_conjugated), search (length_conjugated))

  module _ (s1 : List Float) (e1 : s1 ≡ conjugated p.half (data_of p.half q) ++ drop (2 * p.half) q) where
    -- what is restored of the stages on s1
    abbrev back : Two Float
    back = restored p.half (result_in p.count) (run_of p W stage (data_of p.half s1, pad_of p.half s1))

    back_is : back ≡ ended_with
    unfolding inverse_run
    back_is =
        let h = p.half in let long = length_conjugated h (data_of h q) in
        ap (λ (c : Two Float). restored h (result_in p.count) (run_of p W stage c))
        (two {b = (data_of h s1, pad_of h s1)} {c = started} (ap (data_of h) e1 ∙ front_data h started.0 q long)
        (ap (pad_of h) e1 ∙ front_pad h started.0 q long))

    pub invert_made : (s3 : List Float) (n : ℕ) → s3 ≡ with_both p.half back s1 → s3 ≡ (inverse_of p W stage end xs s n).1
    unfolding inverse_of
    invert_made s3 n e3 =
        let h = p.half in
        let rest : drop (4 * h) s1 ≡ drop (4 * h) s = ap (drop (4 * h)) e1 ∙ front_rest h started.0 q (length_conjugated h (data_of h q))
        ∙ prepared_rest h end xs s some room in
        e3 ∙ ap₂ (λ (c : Two Float) (t : List Float). c.0 ++ c.1 ++ t) back_is rest

    -- the samples are Data's, and +0 beyond
    pub inverse_made : (o o1 z : List Float) (n : ℕ) → n ≡ length o → 2 * p.half ≤ n → o1 ≡ back.0 ++ drop (2 * p.half) o
        → z ≡ zeros (length (take (length o1 - 2 * p.half) (drop (2 * p.half) o1)))
        → put_mid (2 * p.half) (length o1 - 2 * p.half) o1 z ≡ (inverse_of p W stage end xs s n).0
    unfolding inverse_of
    inverse_made o o1 z n en ln eo ez =
        let h = p.half in
        let lens = restored_long (result_in p.count) (inverse_run p W stage end xs s) back_long.1 in
        let f : o1 ≡ ended_with.0 ++ drop (2 * h) o = eo ∙ ap (λ (b : Two Float). b.0 ++ drop (2 * h) o) back_is in
        let many : length o1 ≡ n
        = ap length f ∙ length-append ended_with.0 (drop (2 * h) o) ∙ omega (arith, lens.0, length-drop (2 * h) o, en, ln) in
        let front : take (2 * h) o1 ≡ ended_with.0 = ap (take (2 * h)) f ∙ take_at ended_with.0 (drop (2 * h) o) (2 * h) lens.0 in
        tail_replaced (2 * h) z o1 (omega (arith, many, ln))
        ∙ ap₂ (λ (u v : List Float). u ++ v) front (ez ∙ ap zeros (tail_length (2 * h) o1 ∙ ap (λ (k : ℕ). k - 2 * h) many))

-- ---- what an accepted plan gives

-- the steps at the ends find what they ask for
pub plan_endable : (p : Record) → is_planned p ≡ true → (words ends : ℕ) → words ≡ 2 * (p.half + 1) → ends ≡ 2 * end_count p.n → Endable p.half words ends
plan_endable p e words ends l m =
    record {
      some = (plan_half p e).0;
      few = (plan_half p e).1;
      long = l;
      lent = λ k lk.
          let many : k ≤ end_count p.n = rw (plan_twice p e) (pairs_lent p.half k lk) in
          omega (arith, many, m);
    }
