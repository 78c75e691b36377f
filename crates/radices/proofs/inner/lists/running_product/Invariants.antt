-- `radices::inner::lists::running_product` meets its contract. Assumes nothing.
use Rattle.sequences.proofs.Basics.{◌≡◌, ◌+◌, ◌≤◌, take, drop}
use Rattle.radices.specs.Lists.{first_over, largest}
use Rattle.radices.specs.Lists
use Rattle.radices.proofs.inner.lists.running_product.Given as goal

abbrev pub invariant-loop-i : goal.invariant-loop-i
invariant-loop-i l = record {
  small : l.product ≤ largest;
  whole : l.product ≡ Lists.product (take l.i l.list);
  rest : first_over 1 l.list ≡ l.i + first_over l.product (drop l.i l.list);
}
