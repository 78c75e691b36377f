-- `radices::inner::lists::product` meets its contract. Assumes nothing.
use Rattle.sequences.proofs.Basics.{◌≡◌, ◌+◌, ◌≤◌, take, drop}
use Rattle.radices.specs.Lists.{first_over, largest, product}
use Rattle.radices.proofs.inner.lists.product.Given as goal

abbrev pub invariant-loop-b : goal.invariant-loop-b
invariant-loop-b l = record {
  small : l.all ≤ largest;
  whole : l.all ≡ product (take l.b-index l.list);
  rest : first_over 1 l.list ≡ l.b-index + first_over l.all (drop l.b-index l.list);
}
