-- `push_radix` adds a blank and at most three digits. Assumes nothing.
use Rattle.sequences.proofs.Basics.{sym, ap, ◌∙◌, ℕ, arith, List, ◌∷◌, append-nil}
use Rattle.text.specs.Lines.{decimal}
use Rattle.text.proofs.Decimal.{decimal_short}
use Rattle.text.proofs.Growing.{then, said}
use Rattle.text.proofs.Text.push_radix.Goals as goal

pub push_digits-requires : goal.push_digits-requires
push_digits-requires c = omega (arith, c.from.ensures, decimal_short 2 c.from.result (omega (arith, c.from.ensures)))

pub returns : goal.returns
returns c = let d = decimal c.args.b in
    said (ap (λ (n : ℕ). 32 ∷ decimal n) c.from.ensures ∙ ap (λ (l : List ℕ). 32 ∷ l) (sym (append-nil d)))
    (omega (arith, decimal_short 2 c.from.result (omega (arith, c.from.ensures))))
    (then c.push.ensures c.push_digits.ensures)
