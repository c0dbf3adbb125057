-- `lowest_free` meets its contract: the slots of the segments in front are marked (seglog/proofs/Slots.antt). Assumes nothing.
use lib.ListN.{take}
use Rattle.seglog.proofs.Slots.{Marked}
use Rattle.seglog_append.proofs.lowest_free.Given as goal

abbrev pub invariant-loop-g : goal.invariant-loop-g
invariant-loop-g l =
    Marked l.used (take l.g-index l.listed)
