-- `Text::extend_from_slice` adds the bytes. Assumes nothing.
use Rattle.text.proofs.Inside.{room_for, grown_text, grown_adds}
use Rattle.text.proofs.Text.extend_from_slice.Goals as goal

pub invariant_of-self : goal.invariant_of-self
invariant_of-self c =
    let t = c.self.inside in let i = c.self.invariant in let a = c.args in
    rw c.copy_from_slice.ensures.after (grown_text t i a.s.now (room_for t i a.s.now a.self.now c.self.view_is c.requires))

pub returns : goal.returns
returns c =
    let t = c.self.inside in let i = c.self.invariant in let a = c.args in
    rw c.copy_from_slice.ensures.after
    (grown_adds t i a.s.now (room_for t i a.s.now a.self.now c.self.view_is c.requires) a.self.now c.self.view_is)
