-- `pcm::inner::samples::sample` meets its contract. Assumes nothing.
use Rattle.sequences.proofs.Basics.{◌≡◌, ◌∙◌, ap, ℕ, ◌+◌, ◌*◌, arith}
use lib.Ieee.{Float, binary32, div, of_int}
use mir.Val.{of_z, to_z}
use Rattle.std.proofs.lemmas.Int.{of_z-to_z}
use mir.Syntax.{w16}
use Rattle.pcm.proofs.Constants.{scale, scale_is}
use Rattle.pcm.proofs.Steps.{read_is}
use Rattle.pcm.proofs.inner.samples.sample.Goals as goal

pub returns : goal.returns
returns c =
    let v = c.args.low + 256 * c.args.high in
    let signed : c.from_le_bytes.result ≡ to_z w16 v = c.from_le_bytes.ensures ∙ ap (to_z w16) (omega arith) in
    let kept : of_z w16 c.from_le_bytes.result ≡ v = ap (of_z w16) signed ∙ of_z-to_z w16 v (omega arith) in
    rw scale_is (ap (λ (x : Float). div binary32 x scale) (c.from.ensures ∙ ap (λ (n : ℕ). of_int binary32 (to_z w16 n)) kept) ∙ read_is v (omega arith))
