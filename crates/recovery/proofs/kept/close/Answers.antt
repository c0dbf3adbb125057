-- `kept::close` meets its contract: the last kept segment is closed in its entry, and its image is cut there. Assumes nothing.
use lib.ListN.{take}
use Rattle.recovery.specs.Keeping.{kept_of}
use Rattle.recovery.proofs.Keeping.{close-did}
use Rattle.recovery.proofs.kept.close.Goals as goal

pub returns : goal.returns
returns c =
    let a = c.args in
    close-did _ _ _ _ _ _ _ _ _ (kept_of a.range.s a.range.e (take a.count a.found.segs)) _ c.keep-kept.ensures c.requires _ _
    c.ended_at.ensures c.truncate.ensures
