-- `list_images::main`: the area has its length, by the law of repeated elements and not by counting half a million of them.
-- Assumes nothing.
use mathlib.Core.Path.{sym}
use Prim.Native.Nat.{ℕ}
use lib.ListN.{length-replicate}
use Rattle.list_images.proofs.main.Goals as goal

pub slice_bounds-work-end : goal.slice_bounds-work-end
slice_bounds-work-end c = sym (length-replicate {0} {A = ℕ} 524288 0)
