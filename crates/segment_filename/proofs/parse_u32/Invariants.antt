-- `segment_filename::parse_u32` meets its contract. The loop's invariant: what is left to read decides whether all are digits, and the
-- number read so far goes on to the whole number. Assumes nothing.
use mathlib.Core.Path.{◌≡◌}
use Prim.Native.Nat.{◌<◌, ◌^◌}
use lib.ListN.{drop}
use Rattle.segment_filename.specs.Digits.{all_digits, value_from, value_of}
use Rattle.segment_filename.proofs.parse_u32.Given as goal

abbrev pub invariant-loop-b : goal.invariant-loop-b
invariant-loop-b l =
    (l.value < 10 ^ l.b-index) × (all_digits l.ten ≡ all_digits (drop l.b-index l.ten))
    × (value_of l.ten ≡ value_from l.value (drop l.b-index l.ten))
