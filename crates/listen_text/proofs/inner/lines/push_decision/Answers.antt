-- `push_decision` adds either word and the line end. Assumes nothing.
use Rattle.sequences.proofs.Basics.{sym, ap, lit≤}
use Rattle.text.proofs.Growing.{said}
use Rattle.listen_text.specs.Lines.{decision_text}
use Rattle.listen_text.proofs.inner.lines.push_decision.Goals as goal

pub returns-in-Fanning : goal.returns-in-Fanning
returns-in-Fanning c = said (ap decision_text (sym c.in-Fanning.is)) (lit≤ tt) c.extend_from_slice.ensures

pub returns-in-Quiet : goal.returns-in-Quiet
returns-in-Quiet c = said (ap decision_text (sym c.in-Quiet.is)) (lit≤ tt) c.extend_from_slice-in-Quiet.ensures
