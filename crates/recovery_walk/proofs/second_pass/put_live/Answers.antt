-- `second_pass::put_live` meets its contract: four words for a live record, none for another. Assumes nothing.
use Rattle.recovery_walk.proofs.Rows.{room-four, put_four, put-none}
use Rattle.recovery_walk.proofs.second_pass.put_live.Goals as goal

pub returns-then-not-live : goal.returns-then-not-live
returns-then-not-live c = put-none _ _ _ _ _ _ _ c.if-not-live.true

pub slice_bounds-copy_from_slice-end : goal.slice_bounds-copy_from_slice-end
slice_bounds-copy_from_slice-end c = room-four _ _ _ _ _ _ _ c.if-not-live.false c.requires

pub returns : goal.returns
returns c = put_four _ _ _ _ _ _ _ c.if-not-live.false c.requires _ c.copy_from_slice.ensures.after
