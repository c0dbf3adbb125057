-- The table that is lent, as the library holds it. The loop's invariant: the rows so far are those of the table that is lent.
-- Assumes nothing.
use Rattle.iflughan.specs.Deltas.{row_in}
use Rattle.iflughan.proofs.DeltasRows.{Turned}
use Rattle.iflughan.proofs.deltas.TableFromDelta.from.Given as goal

abbrev pub invariant-loop-i : goal.invariant-loop-i
invariant-loop-i l = Turned row_in l.fn.t.rows l.rows l.i
