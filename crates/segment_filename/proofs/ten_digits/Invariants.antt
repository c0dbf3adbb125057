-- `segment_filename::ten_digits` meets its contract. The loop's invariant: the digits are those still to come and those written behind i.
-- Assumes nothing.
use mathlib.Core.Path.{◌≡◌}
use mathlib.Core.List.{◌++◌}
use Prim.Native.Nat.{◌≤◌}
use lib.ListN.{length, drop}
use Rattle.segment_filename.specs.Digits.{digits}
use Rattle.segment_filename.proofs.ten_digits.Given as goal

abbrev pub invariant-loop-i : goal.invariant-loop-i
invariant-loop-i l =
    (l.i ≤ 10) × (length l.bytes ≡ 10) × (digits 10 l.id ≡ digits l.i l.rest ++ drop l.i l.bytes)

abbrev pub decreases-loop-i : goal.decreases-loop-i
decreases-loop-i l =
    l.i
