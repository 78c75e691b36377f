-- Two answers that meet a promise are equal. Assumes nothing.
use Rattle.sequences.proofs.Basics.{◌≡◌, ℕ, List}
use Rattle.refusal.proofs.Unique.{agree}
use Rattle.text.specs.declared.Text.{Text}
use Rattle.plan_text.specs.Report.{Reports}

pub Reports_one : {input : List ℕ} {r s : Text} → Reports input r → Reports input s → r ≡ s
Reports_one a b = agree a.answer b.answer
