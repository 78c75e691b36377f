-- `recorded::inner::words::float` is safe: what is not above an infinity's bits is no NaN's.
use Rattle.std.proofs.Common.{rules}
use Rattle.std.proofs.lemmas.Float.{not_nan_f32_bits}
use Rattle.recorded.proofs.inner.words.float.Goals as goal

pub float_from_bits-result : goal.float_from_bits-result
float_from_bits-result c = not_nan_f32_bits _ (search rules)
