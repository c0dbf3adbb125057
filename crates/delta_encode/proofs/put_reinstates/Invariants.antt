-- `delta_encode::put_reinstates` meets its contract. The loop's invariant: what the rows from here on give is left to be written.
-- Assumes nothing.
use Rattle.std.proofs.Common.{drop}
use Rattle.delta_encode.specs.Bytes.{concat, reinstate_bytes}
use Rattle.delta_encode.proofs.BytesWritten.{Writing}
use Rattle.delta_encode.proofs.put_reinstates.Given as goal

abbrev pub invariant-loop-row : goal.invariant-loop-row
invariant-loop-row l =
    Writing l.initial.out l.at (concat (reinstate_bytes l.values) l.rows) l.out l.p
    (concat (reinstate_bytes l.values) (drop l.row-index l.rows))
