-- `house::inner::rounding::nearest` meets its contract. Assumes nothing.
use Rattle.sequences.proofs.Basics.{◌≡◌, refl, ap, ◌∙◌, ℕ, ◌*◌, ◌%◌, ◌^◌, ◌≤◌, arith}
use lib.Ieee.Nearest.{closest}
use Rattle.house.proofs.Nearest.{few_beyond, shifted, nearest_is, cast_in_float, no_nan}
use Rattle.house.proofs.inner.rounding.nearest.Goals as goal

-- at most 37 digits are beyond, so `1 << k` loses none
near : (c k u q : ℕ) → k ≤ 37 → u ≡ 1 * 2 ^ k % 2 ^ 64 → q ≡ closest c u → q ≡ closest c (2 ^ k)
near c k u q few v e = e ∙ ap (λ (x : ℕ). closest c x) (v ∙ shifted k few)

pub overflow_shl-k : goal.overflow_shl-k
overflow_shl-k c = omega (arith, few_beyond c.args.c c.beyond-k.result c.requires c.beyond-k.ensures)

pub overflow_add-scale : goal.overflow_add-scale
overflow_add-scale c = omega (arith, few_beyond c.args.c c.beyond-k.result c.requires c.beyond-k.ensures)

pub overflow_mul-scale : goal.overflow_mul-scale
overflow_mul-scale c = omega (arith, few_beyond c.args.c c.beyond-k.result c.requires c.beyond-k.ensures)

pub float_from_bits-scale : goal.float_from_bits-scale
float_from_bits-scale c = no_nan c.beyond-k.result (few_beyond c.args.c c.beyond-k.result c.requires c.beyond-k.ensures)

pub int_to_float-result : goal.int_to_float-result
int_to_float-result c =
    let few = few_beyond c.args.c c.beyond-k.result c.requires c.beyond-k.ensures in
    cast_in_float c.args.c c.beyond-k.result c.closest-q.result few c.beyond-k.ensures
    (near c.args.c c.beyond-k.result _ c.closest-q.result few refl c.closest-q.ensures)

pub returns : goal.returns
returns c =
    let few = few_beyond c.args.c c.beyond-k.result c.requires c.beyond-k.ensures in
    nearest_is c.args.c c.beyond-k.result c.closest-q.result few c.beyond-k.ensures
    (near c.args.c c.beyond-k.result _ c.closest-q.result few refl c.closest-q.ensures)
