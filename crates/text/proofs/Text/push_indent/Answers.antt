-- `push_indent` adds the blanks that are left of the width, or none. Assumes nothing.
use Rattle.sequences.proofs.Basics.{◌≡◌, ◌-◌, ap, ℕ, arith, length, replicate}
use Rattle.text.specs.Lines.{decimal, indent}
use Rattle.text.proofs.Growing.{said}
use Rattle.text.proofs.Text.push_indent.Goals as goal

pub returns : goal.returns
unfolding indent
returns c =
    let left : c.saturating_sub.result ≡ c.args.width - length (decimal c.args.n) = omega (arith, c.saturating_sub.ensures, c.digits.ensures) in
    said (ap (λ (k : ℕ). replicate k 32) left) (omega arith) c.push_times.ensures
