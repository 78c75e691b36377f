-- `radices::inner::lists::product` meets its contract. Assumes nothing.
use Rattle.sequences.proofs.Basics.{◌≡◌, ◌≤◌, refl, sym, ap, ◌∙◌, ℕ, ◌*◌, arith, get_or}
use Rattle.radices.specs.Lists.{product, largest}
use Rattle.radices.proofs.Lists.{product_next, over_skip, within_next}
use Rattle.radices.proofs.inner.lists.product.Goals as goal

pub loop-b-init : goal.loop-b-init
unfolding product
loop-b-init c = record { small = omega arith; whole = refl; rest = omega arith }

pub loop-b-preserved : goal.loop-b-preserved
loop-b-preserved c =
    let l = c.loop-b in let xs = c.args.list.now in let b : c.from-all.result ≡ get_or xs l.b-index 0 = c.from-all.ensures in
    let h : l.all * get_or xs l.b-index 0 ≤ largest = within_next xs l.all l.b-index (omega arith) c.requires l.invariant.rest in record {
      small = rw b h;
      whole = ap (λ (n : ℕ). l.all * n) b ∙ ap (λ (n : ℕ). n * get_or xs l.b-index 0) l.invariant.whole ∙ sym (product_next xs l.b-index (omega arith));
      rest = rw b (over_skip xs l.all l.b-index (omega arith) h l.invariant.rest);
    }
