-- `scaling::inner::scaling::scaled_lists` meets its contract. Assumes nothing.
use Rattle.scaling.proofs.Scaling.{in_bounds, in_few, in_fits, in_power, out_power, out_fits, scale_large, scale_accepted}
use Rattle.scaling.proofs.inner.scaling.scaled_lists.Goals as goal

pub gain-g-requires : goal.gain-g-requires
gain-g-requires c = let h = c.requires in (h.low, in_bounds h c.product-in_product.ensures)

pub power-p-requires : goal.power-p-requires
power-p-requires c = in_few c.requires c.product-in_product.ensures c.gain-g.ensures

pub overflow_mul-p : goal.overflow_mul-p
overflow_mul-p c = record {
  fits = out_power c.requires c.product-in_product.ensures c.gain-g.ensures c.power-p.ensures
      c.product-out_product.ensures;
}

pub returns-then-p-out_product-gt8192 : goal.returns-then-p-out_product-gt8192
returns-then-p-out_product-gt8192 c = scale_large c.requires c.product-in_product.ensures c.gain-g.ensures c.power-p.ensures
    c.product-out_product.ensures c.if-p-out_product-gt8192.true

pub grown-grown_in-requires : goal.grown-grown_in-requires
grown-grown_in-requires c = in_fits c.requires c.product-in_product.ensures c.gain-g.ensures

pub grown-grown_out-requires : goal.grown-grown_out-requires
grown-grown_out-requires c = out_fits c.requires c.product-in_product.ensures c.gain-g.ensures c.power-p.ensures
    c.product-out_product.ensures c.if-p-out_product-gt8192.false

pub overflow_mul-result : goal.overflow_mul-result
overflow_mul-result c = record { fits = in_power c.requires c.product-in_product.ensures c.gain-g.ensures c.power-p.ensures }

pub returns : goal.returns
returns c = scale_accepted c.requires c.product-in_product.ensures c.gain-g.ensures c.power-p.ensures
    c.product-out_product.ensures c.if-p-out_product-gt8192.false c.grown-grown_in.ensures c.grown-grown_out.ensures
