-- `radices::inner::lists::running_product` meets its contract. Assumes nothing.
use Rattle.sequences.proofs.Basics.{◌≡◌, refl, sym, ap, ◌∙◌, ℕ, ◌*◌, arith, get_or}
use Rattle.radices.proofs.Lists.{product_next, over_skip, over_here}
use Rattle.radices.specs.Lists
use Rattle.radices.proofs.inner.lists.running_product.Goals as goal

pub loop-i-init : goal.loop-i-init
unfolding Lists.product
loop-i-init c = record { small = omega arith; whole = refl; rest = omega arith }

pub returns-then-next-gt8192 : goal.returns-then-next-gt8192
returns-then-next-gt8192 c =
    let l = c.loop-i in let xs = c.args.list.now in let b = get_or xs l.i 0 in
    (sym (over_here xs l.product l.i (omega arith) (rw c.from.ensures at c.if-next-gt8192.true) l.invariant.rest), l.invariant.whole, omega arith)

pub loop-i-preserved : goal.loop-i-preserved
loop-i-preserved c =
    let l = c.loop-i in let xs = c.args.list.now in let b : c.from.result ≡ get_or xs l.i 0 = c.from.ensures in record {
      small = omega arith;
      whole = ap (λ (n : ℕ). l.product * n) b ∙ ap (λ (n : ℕ). n * get_or xs l.i 0) l.invariant.whole ∙ sym (product_next xs l.i (omega arith));
      rest = rw b (over_skip xs l.product l.i (omega arith) (rw b at c.if-next-gt8192.false) l.invariant.rest);
    }
