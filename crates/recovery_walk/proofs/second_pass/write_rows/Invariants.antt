-- `second_pass::write_rows` meets its contract: each turn of a loop is one law of Rows.antt or RowsTurn.antt. Assumes nothing.
use Prim.Native.Nat.{◌-◌}
use lib.ListN.{length}
use Rattle.recovery_walk.proofs.RowsTurn.{AtRows, AtAll}
use Rattle.recovery_walk.proofs.second_pass.write_rows.Given as goal

abbrev pub invariant-records : goal.invariant-records
invariant-records l =
    AtRows l.img l.row.slot l.range.s l.range.e l.initial.index l.initial.at l.initial.scan l.index l.at l.scan

abbrev pub decreases-records : goal.decreases-records
decreases-records l = length l.img - l.scan.pos

abbrev pub invariant-images : goal.invariant-images
invariant-images l =
    AtAll l.area l.c l.range.s l.range.e l.rows l.initial.index l.index l.at l.scan l.row-index
