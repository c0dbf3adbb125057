-- `first_pass::walk_images` meets its contract: each turn of a loop is one law of the walk or of ImagesTurn.antt. Assumes nothing.
use mathlib.Core.Path.{◌≡◌}
use Prim.Native.Nat.{◌-◌}
use lib.ListN.{length}
use Rattle.std.specs.Prelude.{None}
use Rattle.recovery_walk.proofs.ImagesTurn.{AtImages, AtRecords}
use Rattle.recovery_walk.proofs.first_pass.walk_images.Given as goal

abbrev pub invariant-images : goal.invariant-images
invariant-images l = (l.fault ≡ None) × AtImages l.area l.c l.range.s l.range.e l.rows l.segs l.scan l.i

abbrev pub invariant-records : goal.invariant-records
invariant-records l = (l.fault ≡ None) × AtRecords l.img l.range.s l.range.e l.initial.scan l.scan

abbrev pub decreases-records : goal.decreases-records
decreases-records l = length l.img - l.scan.pos
