-- `walk::walk_image` meets its contract: each turn is one law of the walk; what is left of the image falls.
-- Assumes nothing.
use mathlib.Core.Path.{◌≡◌}
use Prim.Native.Nat.{◌-◌}
use lib.ListN.{length}
use Rattle.walk.specs.Walk.{walk_of}
use Rattle.walk.proofs.walk_image.Given as goal

abbrev pub invariant-records : goal.invariant-records
invariant-records l =
    walk_of l.img l.range.s l.range.e l.initial.scan ≡ walk_of l.img l.range.s l.range.e l.scan

abbrev pub decreases-records : goal.decreases-records
decreases-records l =
    length l.img - l.scan.pos
