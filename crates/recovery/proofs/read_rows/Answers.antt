-- `read_rows` meets its contract: the rows stand at the front of the array (proofs/RecoveryRows.antt). Assumes nothing.
use mathlib.Core.Path.{ap, ◌∙◌}
use lib.ListN.{replicate}
use Rattle.segment.specs.declared.ImageRow.{ImageRow}
use Rattle.recovery.proofs.RecoveryRows.{rows-read, rows-many}
use Rattle.recovery.proofs.read_rows.Goals as goal

pub returns-then-rows-gt64 : goal.returns-then-rows-gt64
returns-then-rows-gt64 c =
    ap (λ (r : ImageRow). record { count = 65; rows = replicate 64 r }) c.no_row-entries.ensures ∙ rows-many _ c.if-rows-gt64.true

pub returns : goal.returns
returns c = rows-read _ _ _ c.no_row-entries.ensures c.copy_from_slice.ensures.after c.if-rows-gt64.false
