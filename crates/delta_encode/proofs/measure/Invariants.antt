-- `delta_encode::measure` meets its contract. The loop's invariant: what is counted, and what the rows from here on count, is all.
-- Assumes nothing.
use Rattle.std.proofs.Common.{◌≡◌, ◌+◌, ◌*◌, ◌^◌, ◌≤◌}
use Rattle.delta_encode.proofs.BytesWritten.{Measuring}
use Rattle.delta_encode.proofs.measure.Given as goal

abbrev pub invariant-loop-row : goal.invariant-loop-row
invariant-loop-row l = record {
  counted : l.sizes.erases + l.sizes.reinstates ≡ l.row-index;
  small : l.sizes.size ≤ 8 + l.row-index * 2 ^ 33;
  measured : Measuring l.rows l.row-index l.sizes;
}
