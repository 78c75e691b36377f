-- `Radices::push_times` meets its contract. Assumes nothing.
use Rattle.sequences.proofs.Basics.{◌≡◌, ◌∙◌, ◌+◌, ◌-◌, ap, sym, arith, ℕ, take, drop, replicate, length, length-replicate, length-take, length-drop}
use Rattle.radices.proofs.Lists.{behind_listed, listed_entries, listed_count, length_padded}
use Rattle.radices.proofs.Radices.push_times.Goals as goal

pub returns-clause-list : goal.returns-clause-list
returns-clause-list c = λ xs e.
    let s = c.args.self.now in let few = listed_count xs s e in
    let long : length s.entries ≡ 13 = ap length (listed_entries xs s e) ∙ length_padded xs (omega (arith, few)) in
    let k : length (take (s.count + c.args.times - s.count) (drop s.count s.entries)) ≡ c.args.times = simp (length-take, length-drop) (omega (arith, long)) in
    let filled : c.fill.new.self ≡ replicate c.args.times c.args.radix = c.fill.ensures.after (λ y p. p) ∙ ap (λ (n : ℕ). replicate n c.args.radix) k in
    rw filled (behind_listed xs (replicate c.args.times c.args.radix) s e c.args.times (sym (length-replicate c.args.times c.args.radix)) c.requires)
