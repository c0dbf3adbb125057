-- `delta_encode::put_erases` meets its contract. The loop's invariant: what the rows from here on give is left to be written.
-- Assumes nothing.
use Rattle.std.proofs.Common.{drop}
use Rattle.delta_encode.specs.Bytes.{concat, erase_bytes}
use Rattle.delta_encode.proofs.BytesWritten.{Writing}
use Rattle.delta_encode.proofs.put_erases.Given as goal

abbrev pub invariant-loop-row : goal.invariant-loop-row
invariant-loop-row l =
    Writing l.initial.out l.at (concat erase_bytes l.rows) l.out l.p (concat erase_bytes (drop l.row-index l.rows))
