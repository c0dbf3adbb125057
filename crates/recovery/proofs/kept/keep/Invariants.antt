-- `kept::keep` meets its contract: by the laws of its loop in proofs/Keeping.antt. Assumes nothing.
use Rattle.recovery.proofs.Keeping.{AtKeep}
use Rattle.recovery.proofs.kept.keep.Given as given

abbrev pub invariant-loop-g : given.invariant-loop-g
invariant-loop-g l = AtKeep l.range.s l.range.e l.found l.kept.segs l.kept.count l.g-index
