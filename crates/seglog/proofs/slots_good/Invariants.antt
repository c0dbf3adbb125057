-- `slots_good` meets its contract: the segments in front have slots of their own, which are marked (proofs/Slots.antt). Assumes nothing.
use Rattle.seglog.proofs.Slots.{Apart}
use Rattle.seglog.proofs.slots_good.Given as goal

abbrev pub invariant-loop-g : goal.invariant-loop-g
invariant-loop-g l =
    Apart l.used l.listed l.g-index
