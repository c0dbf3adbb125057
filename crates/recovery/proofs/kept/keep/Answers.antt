-- `kept::keep` meets its contract: by the laws of its loop in proofs/Keeping.antt. Assumes nothing.
use mathlib.Core.Path.{sym, ◌∙◌}
use Rattle.recovery.proofs.Keeping.{keep-start, keep-dead, keep-live}
use Rattle.recovery.proofs.kept.keep.Goals as goal

pub loop-g-init : goal.loop-g-init
loop-g-init c = rw c.no_segment.ensures (keep-start _ _ _)

pub loop-g-preserved-then-not-holds_live : goal.loop-g-preserved-then-not-holds_live
loop-g-preserved-then-not-holds_live c =
    keep-dead _ _ _ _ _ _ c.requires c.loop-g.invariant c.loop-g-test.true (sym c.holds_live.ensures ∙ c.if-not-holds_live.true)

pub loop-g-preserved : goal.loop-g-preserved
loop-g-preserved c =
    keep-live _ _ _ _ _ _ c.requires c.loop-g.invariant c.loop-g-test.true (sym c.holds_live.ensures ∙ c.if-not-holds_live.false)
