-- A file of 44 bytes and its samples holds a format and the samples, and nothing else. Assumes nothing.
use Rattle.sequences.proofs.Basics.{◌≡◌, refl, sym, ap, ◌∙◌, subst, ℕ, zero, suc, ◌+◌, ◌-◌, ◌*◌, ◌/◌, ◌≤◌, arith, List, length, drop}
use Rattle.std.specs.Prelude.{Option, Some, None, Ok, Err}
use Rattle.refusal.specs.Refusal.{verdict}
use Rattle.refusal.specs.declared.Refusal.{Refusal}
use Rattle.refusal.specs.Refusal.{Verdict}
use Rattle.refusal.specs.Refusal.{Accepted, Refused}
use Rattle.little.specs.Numbers.{number_at}
use Rattle.fields.specs.Fields.{mark, padded, head_rows, data_rows, format_rows}
use Rattle.chunks.specs.Chunks.{Walking, samples_from, going, begun, stepped, walked, walk_of}
use Rattle.chunks.specs.declared.inner.walk.Walk.TheVariants.{Chunk, End}
use Rattle.chunks.specs.declared.inner.walk.Samples.{Samples}
use Rattle.fields.proofs.Told.{head_told}
use Rattle.chunks.proofs.Going.{AtEnd, at_end}
use Rattle.chunks.proofs.Steps.{step_cases}
use Rattle.chunks.proofs.Walks.{stands, walked_ended, walked_refused, walked_on, walk_ends, walk_inside}

-- a format takes 24 bytes and the samples' mark 8
abbrev least : (at : ℕ) (rate : Option ℕ) → ℕ
least at None = at + 32
least at (Some rate) = at + 8

least_later : (at on : ℕ) (rate : Option ℕ) → at ≤ on → least at rate ≤ least on rate
least_later at on None h = omega arith
least_later at on (Some rate) h = omega arith

module _ (see : ℕ → List ℕ) (L : ℕ) where
  -- samples that are found begin there at the earliest
  abbrev Far : (at : ℕ) (rate : Option ℕ) → Walking → Type 0
  Far at rate r = AtEnd (λ s. least at rate ≤ s.at) r

  far_later : (at on : ℕ) (rate next : Option ℕ) (r : Walking) → least at rate ≤ least on next → Far on next r → Far at rate r
  far_later at on rate next r h f = at_end (λ s. least on next ≤ s.at) (λ s. least at rate ≤ s.at) (λ s g. omega (arith, h, g)) r f

  walked_far : (k at : ℕ) (rate : Option ℕ) → Far at rate (walked k see L (Ok (Chunk at rate)))
  unfolding walked
  walked_far zero at rate = tt
  walked_far (suc k) at rate =
      step_cases (λ (n : Walking). Far at rate (walked k see L n)) (see at) at rate L
      (λ why. subst (Far at rate) (sym (walked_refused see L k why)) tt)
      (λ r e d a. let s = samples_from (at + 8) r (number_at 4 (see at) 4 / 2) in
      let here : least at rate ≤ at + 8 = rw e (omega arith) in
      subst (Far at rate) (sym (walked_ended see L k s)) here)
      (λ e f a. let on = at + 24 in let next : Option ℕ = Some (number_at 4 (see at) 12) in
      let less : least at rate ≤ least on next = rw e (omega arith) in
      far_later at on rate next (walked k see L (Ok (Chunk on next))) less (walked_far k on next))
      (λ a. let on = at + 8 + padded (number_at 4 (see at) 4) in
      far_later at on rate rate (walked k see L (Ok (Chunk on rate))) (least_later at on rate (omega arith)) (walked_far k on rate))

-- what such a file holds
pub record Tight (file : List ℕ) : Type 0 where
  pub head : verdict (head_rows file 0 (length file) (length file)) ≡ Accepted
  pub format_id : number_at 4 (drop 12 file) 0 ≡ mark "fmt "
  pub format : verdict (format_rows (drop 12 file) 12 (length file - 12) (length file)) ≡ Accepted
  pub data_id : number_at 4 (drop 36 file) 0 ≡ mark "data"
  pub samples : verdict (data_rows (drop 36 file) 36 (length file - 36) (length file)) ≡ Accepted
  pub walk : walk_of file ≡ Ok (samples_from 44 (number_at 4 (drop 12 file) 12) (number_at 4 (drop 36 file) 4 / 2))

-- a walk that comes to samples at place 44 or before
module _ (file : List ℕ) (s : Samples) (early : s.at ≤ 44) where
  abbrev L : ℕ
  L = length file

  abbrev rest : ℕ → List ℕ
  rest at = drop at file

  -- from a chunk it does not, unless that is early enough
  too_far : (k at : ℕ) (rate : Option ℕ) → 45 ≤ least at rate → walked k rest L (Ok (Chunk at rate)) ≡ Ok (End s) → ⊥
  too_far k at rate h e =
      let far : least at rate ≤ s.at = subst (Far rest L at rate) e (walked_far rest L k at rate) in
      absurd (omega (arith, early, h, far))

  refused_apart : (k : ℕ) (why : Refusal) → walked k rest L (Err why) ≡ Ok (End s) → ⊥
  refused_apart k why e = let is = walked_refused rest L k why in cc

  -- at place 36, after a format, the samples follow
  abbrev Second : (k rate : ℕ) → Walking → Type 0
  Second k rate n = walked k rest L n ≡ Ok (End s) → (number_at 4 (rest 36) 0 ≡ mark "data") × (verdict (data_rows (rest 36) 36 (L - 36) L) ≡ Accepted)
      × (s ≡ samples_from 44 rate (number_at 4 (rest 36) 4 / 2))

  second : (k rate : ℕ) → Second k rate (stepped (rest 36) 36 (Some rate) L)
  second k rate =
      step_cases (Second k rate) (rest 36) 36 (Some rate) L (λ why e. absurd (refused_apart k why e))
      (λ r q d a e. let is = walked_ended rest L k (samples_from 44 r (number_at 4 (rest 36) 4 / 2)) in
      let same : rate ≡ r = cc in let all : s ≡ samples_from 44 r (number_at 4 (rest 36) 4 / 2) = cc in (d, a, rw same all))
      (λ q f a e. absurd (cc q))
      (λ a e. absurd (too_far k (44 + padded (number_at 4 (rest 36) 4)) (Some rate) (omega arith) e))

  -- at place 12 a format stands, and then the samples
  abbrev First : (k : ℕ) → Walking → Type 0
  First k n = walked (suc k) rest L n ≡ Ok (End s) → (number_at 4 (rest 12) 0 ≡ mark "fmt ") × (verdict (format_rows (rest 12) 12 (L - 12) L) ≡ Accepted)
      × (number_at 4 (rest 36) 0 ≡ mark "data") × (verdict (data_rows (rest 36) 36 (L - 36) L) ≡ Accepted)
      × (s ≡ samples_from 44 (number_at 4 (rest 12) 12) (number_at 4 (rest 36) 4 / 2))

  first : (k : ℕ) → First k (stepped (rest 12) 12 None L)
  first k =
      step_cases (First k) (rest 12) 12 None L (λ why e. absurd (refused_apart (suc k) why e)) (λ r q d a e. absurd (cc q))
      (λ q f a e. let on = walked_on rest L k 36 (Some (number_at 4 (rest 12) 12)) in let t = second k (number_at 4 (rest 12) 12) (sym on ∙ e) in
      (f, a, t.0, t.1, t.2))
      (λ a e. absurd (too_far (suc k) (20 + padded (number_at 4 (rest 12) 4)) None (omega arith) e))

  begin : (v : Verdict) → verdict (head_rows file 0 L L) ≡ v → walked L rest L (going v (Ok (Chunk 12 None))) ≡ Ok (End s) → walk_of file ≡ Ok s → Tight file
  begin (Refused why) h e w = absurd (refused_apart L why e)
  begin Accepted h e w =
      let k = L - 2 in
      let more : suc (suc k) ≡ L = omega (arith, head_told file L h) in
      let on : walked (suc k) rest L (stepped (rest 12) 12 None L) ≡ Ok (End s)
      = sym (walked_on rest L (suc k) 12 None) ∙ ap (λ (j : ℕ). walked j rest L (Ok (Chunk 12 None))) more ∙ e in
      let f = first k on in
      record { head = h; format_id = f.0; format = f.1; data_id = f.2; samples = f.3; walk = rw (← f.4) w }

-- a file of 44 bytes and its samples
pub tight : (file : List ℕ) (s : Samples) → walk_of file ≡ Ok s → length file ≡ 44 + 2 * s.count → Tight file
unfolding begun walk_of
tight file s a e =
    begin file s (omega (arith, e, walk_inside file s a)) (verdict (head_rows file 0 (length file) (length file))) refl
    (walk_ends (λ at. drop at file) (length file) ∙ ap stands a) a
