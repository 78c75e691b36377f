-- The radices of a plan's stages. Assumes nothing.
use Rattle.std.specs.Prelude.{ℕ, List, take}
use Rattle.plan.specs.declared.Record.{Record}

-- the radices in use, without the 0s that follow them
unfoldable pub in_use : Record → List ℕ
in_use p = take p.count p.radices
