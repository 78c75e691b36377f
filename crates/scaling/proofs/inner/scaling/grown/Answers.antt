-- `scaling::inner::scaling::grown` meets its contract. Assumes nothing.
use Rattle.sequences.proofs.Basics.{sym, ap, ◌∙◌, ℕ, ◌/◌, List, ◌++◌, [], ◌∷◌, arith, replicate, append_assoc}
use Rattle.radices.specs.Lists.{listed}
use Rattle.scaling.proofs.Scaling.{grown_front, grown_room, gained_none, gained_one, gained_two}
use Rattle.scaling.proofs.inner.scaling.grown.Goals as goal

pub push_times-requires : goal.push_times-requires
push_times-requires c = omega (arith, c.of-all.ensures.count, grown_front c.args.list.now c.args.g c.requires)

pub push-requires : goal.push-requires
push-requires c = omega (arith, c.of-all.ensures.count, c.push_times.ensures.count, grown_room c.args.list.now c.args.g c.requires (λ e. omega arith))

pub push-requires-in_default : goal.push-requires-in_default
push-requires-in_default c =
    omega (arith, c.of-all.ensures.count, c.push_times.ensures.count, grown_room c.args.list.now c.args.g c.requires (λ e. omega arith))

pub returns-in-0 : goal.returns-in-0
returns-in-0 c = c.push_times.ensures.list _ c.of-all.ensures.list
    ∙ ap (λ (more : List ℕ). listed (c.args.list.now ++ more)) (sym (gained_none c.args.g c.in-0.is))

pub returns-in-1 : goal.returns-in-1
returns-in-1 c = let xs = c.args.list.now in let eights : List ℕ = replicate (c.args.g / 3) 8 in
    c.push.ensures.list _ (c.push_times.ensures.list xs c.of-all.ensures.list)
    ∙ ap listed (append_assoc xs eights (2 ∷ []) ∙ ap (λ (more : List ℕ). xs ++ more) (sym (gained_one c.args.g (λ e. omega arith) c.in-1.is)))

pub returns-in_default : goal.returns-in_default
returns-in_default c = let xs = c.args.list.now in let eights : List ℕ = replicate (c.args.g / 3) 8 in
    c.push-in_default.ensures.list _ (c.push_times.ensures.list xs c.of-all.ensures.list)
    ∙ ap listed (append_assoc xs eights (4 ∷ []) ∙ ap (λ (more : List ℕ). xs ++ more) (sym (gained_two c.args.g (λ e. omega arith) (λ e. omega arith))))
