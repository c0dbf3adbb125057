-- `second_pass::write_rows` meets its contract: each turn of a loop is one law of Rows.antt or RowsTurn.antt. Assumes nothing.
use mathlib.Core.Path.{◌≡◌, sym, ◌∙◌}
use mathlib.Core.Bool.{true}
use Prim.Native.Nat.{◌+◌, ◌≤◌}
use lib.ListN.{length}
use Rattle.walk.specs.Judging.{more_of}
use Rattle.recovery_walk.specs.Images.{row_at}
use Rattle.recovery_walk.specs.Rows.{row_of}
use Rattle.walk.proofs.Judging.{more-inside, step-moves}
use Rattle.recovery_walk.proofs.Bounds.{still-room, place-falls}
use Rattle.recovery_walk.proofs.Rows.{rows_end, rows-fault}
use Rattle.recovery_walk.proofs.ImagesTurn.{part_of, part-size}
use Rattle.recovery_walk.proofs.RowsTurn.{row_room, row_next, image-room, rows-done, image-next}
use Rattle.recovery_walk.proofs.second_pass.write_rows.Goals as goal
use Rattle.recovery_walk.proofs.second_pass.write_rows.Goals.{else-records-test, then-records-test+in_default}

pub put_live-at-requires : goal.put_live-at-requires
put_live-at-requires c =
    let a = c.args in
    let row = row_at a.rows.now c.images.row-index in
    let img = part_of a.area.now a.c row in
    let size : length img ≡ row.size = part-size a.area.now a.c row (c.requires.walk_pre.within c.images.row-index c.images-test.true) in
    let going : more_of c.records.scan (length img) ≡ true = rw size (sym c.more.ensures ∙ c.records-test.true) in
    row_room _ _ _ _ _ _ _ _ _ _ c.records.invariant _ going (sym c.record_step.ensures ∙ c.in-Ok.is) _ c.holds-live.ensures
    (still-room
    (image-room _ _ _ _ _ _ _ _ _ _ c.images.invariant c.images-test.true _ c.opened-scan.ensures c.requires.pen_of_in_bounds)
    c.records.invariant.long)

pub records-smaller : goal.records-smaller
records-smaller c =
    let a = c.args in
    let row = row_at a.rows.now c.images.row-index in
    let img = part_of a.area.now a.c row in
    let size : length img ≡ row.size = part-size a.area.now a.c row (c.requires.walk_pre.within c.images.row-index c.images-test.true) in
    let going : more_of c.records.scan (length img) ≡ true = rw size (sym c.more.ensures ∙ c.records-test.true) in
    place-falls (more-inside _ _ going) (step-moves _ _ _ _ _ _ (sym c.record_step.ensures ∙ c.in-Ok.is))

pub records-preserved : goal.records-preserved
records-preserved c =
    let a = c.args in
    let row = row_at a.rows.now c.images.row-index in
    let img = part_of a.area.now a.c row in
    let size : length img ≡ row.size = part-size a.area.now a.c row (c.requires.walk_pre.within c.images.row-index c.images-test.true) in
    let going : more_of c.records.scan (length img) ≡ true = rw size (sym c.more.ensures ∙ c.records-test.true) in
    let room : let d = c.in-Ok.next in
    c.records.at + length (row_of c.holds-live.result d.last row.slot d.body d.len) ≤ length c.records.index =
    row_room _ _ _ _ _ _ _ _ _ _ c.records.invariant _ going (sym c.record_step.ensures ∙ c.in-Ok.is) _ c.holds-live.ensures
    (still-room
    (image-room _ _ _ _ _ _ _ _ _ _ c.images.invariant c.images-test.true _ c.opened-scan.ensures c.requires.pen_of_in_bounds)
    c.records.invariant.long) in
    row_next _ _ _ _ _ _ _ _ _ _ c.records.invariant _ going (sym c.record_step.ensures ∙ c.in-Ok.is) _ c.holds-live.ensures
    _ _ room c.put_live-at.ensures

pub images-preserved : goal.images-preserved
images-preserved c =
    let a = c.args in
    let row = row_at a.rows.now c.images.row-index in
    let img = part_of a.area.now a.c row in
    let size : length img ≡ row.size = part-size a.area.now a.c row (c.requires.walk_pre.within c.images.row-index c.images-test.true) in
    image-next _ _ _ _ _ _ _ _ _ _ c.images.invariant c.images-test.true _ c.opened-scan.ensures _ _ _ c.records.invariant
    elim c.records-test.branch [
      | else-records-test w ↦ rows_end _ _ _ _ _ (rw size (sym c.more.ensures ∙ w.records-test.false))
      | then-records-test+in_default w ↦
          rows-fault _ _ _ _ _ _ (rw size (sym c.more.ensures ∙ w.records-test.true)) (sym w.record_step.ensures ∙ w.in_default.is)
    ]

pub returns : goal.returns
returns c = rows-done _ _ _ _ _ _ _ _ _ _ c.images.invariant c.images-test.false
