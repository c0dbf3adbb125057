-- The library's rows, as they are answered. The loop's invariant: the rows so far are the library's, turned.
-- Assumes nothing.
use Rattle.iflughan.specs.Deltas.{row_out}
use Rattle.iflughan.proofs.DeltasRows.{Turned}
use Rattle.iflughan.proofs.deltas.rows_out.Given as goal

abbrev pub invariant-loop-i : goal.invariant-loop-i
invariant-loop-i l = Turned row_out l.rows l.out l.i
