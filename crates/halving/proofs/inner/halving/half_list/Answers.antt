-- `half_list` meets its contract. Assumes nothing.
use Rattle.sequences.proofs.Basics.{sym, ap, ◌∙◌, ℕ, ◌+◌, List, set, ◌++◌, take, length-set}
use Rattle.sequences.proofs.Pasted.{take_rest}
use Rattle.radices.specs.Lists.{listed}
use Rattle.radices.proofs.Lists.{listed_count, listed_entries, listed_is, set_padded}
use Rattle.halving.proofs.Half.{half_goes, half_becomes, half_stays}
use Rattle.halving.proofs.inner.halving.half_list.Goals as goal

pub returns-in-Goes : goal.returns-in-Goes
returns-in-Goes c =
    let xs = c.args.list.now in let at = c.in-Goes.at in
    c.extend_from_slice.ensures.list (take at xs) c.of-left.ensures.list ∙ ap (λ (rest : List ℕ). listed (take at xs ++ rest)) (take_rest (at + 1) xs)
    ∙ ap listed (sym (half_goes xs at (sym c.in-Goes.ensures.which)))

pub returns-in-Becomes : goal.returns-in-Becomes
returns-in-Becomes c =
    let xs = c.args.list.now in let at = c.in-Becomes.at in let to = c.in-Becomes.to in let e = c.of-left-in-Becomes.ensures.list in
    listed_is (set xs at to) _ _ (listed_count xs _ e ∙ sym (length-set xs at to))
    (ap (λ (l : List ℕ). set l at to) (listed_entries xs _ e) ∙ set_padded xs at to c.in-Becomes.ensures.within)
    ∙ ap listed (sym (half_becomes xs at to (sym c.in-Becomes.ensures.which)))

pub returns-in-Stays : goal.returns-in-Stays
returns-in-Stays c = c.of-in-Stays.ensures.list ∙ ap listed (sym (half_stays c.args.list.now (sym c.in-Stays.ensures.which)))
