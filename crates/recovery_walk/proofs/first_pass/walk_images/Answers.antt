-- `first_pass::walk_images` meets its contract: each turn of a loop is one law of the walk or of ImagesTurn.antt. Assumes nothing.
use mathlib.Core.Path.{◌≡◌, refl, sym, ◌∙◌}
use mathlib.Core.Bool.{true}
use lib.ListN.{length}
use Rattle.std.proofs.lemmas.Option.{none-some}
use Rattle.walk.specs.Judging.{more_of}
use Rattle.walk.proofs.Judging.{more-inside, step-moves}
use Rattle.walk.proofs.Walk.{walk_more, walk_end, walk-fault}
use Rattle.recovery_walk.specs.Images.{row_at}
use Rattle.recovery_walk.proofs.Bounds.{place-falls}
use Rattle.recovery_walk.proofs.Images.{image-refused}
use Rattle.recovery_walk.proofs.ImagesTurn.{part_of, part-size, image-by-part, at_first, turn-fault, turn-next, turns-end, carried, carried-none}
use Rattle.recovery_walk.proofs.first_pass.walk_images.Goals as goal
use Rattle.recovery_walk.proofs.first_pass.walk_images.Goals.{
  else-images-test,
  then-images-test+in_default,
  then-images-test+in-Ok+then-records-test+in_default-step,
}

pub images-init : goal.images-init
images-init c = (refl, rw (c.start-scan.ensures, c.requires.blank) (at_first _ _ _ _ _))

pub records-init : goal.records-init
records-init c = (c.images.invariant.0, record { so_far = refl })

pub records-smaller : goal.records-smaller
records-smaller c =
    let a = c.args in
    let row = row_at a.rows.now c.images.i in
    let img = part_of a.area.now a.c row in
    let size : length img ≡ row.size = part-size a.area.now a.c row (c.requires.walk_pre.within c.images.i c.images-test.true) in
    let going : more_of c.records.scan (length img) ≡ true = rw size (sym c.more.ensures ∙ c.records-test.true) in
    place-falls (more-inside _ _ going) (step-moves _ _ _ _ _ _ (sym c.record_step-step.ensures ∙ c.in-Ok-step.is))

pub records-preserved : goal.records-preserved
records-preserved c =
    let a = c.args in
    let row = row_at a.rows.now c.images.i in
    let img = part_of a.area.now a.c row in
    let size : length img ≡ row.size = part-size a.area.now a.c row (c.requires.walk_pre.within c.images.i c.images-test.true) in
    let going : more_of c.records.scan (length img) ≡ true = rw size (sym c.more.ensures ∙ c.records-test.true) in (
      c.records.invariant.0,
      record {
        so_far = c.records.invariant.1.so_far ∙ walk_more _ _ _ _ _ _ going (sym c.record_step-step.ensures ∙ c.in-Ok-step.is);
      },
    )

pub images-preserved : goal.images-preserved
images-preserved c =
    let a = c.args in
    let row = row_at a.rows.now c.images.i in
    let img = part_of a.area.now a.c row in
    let size : length img ≡ row.size = part-size a.area.now a.c row (c.requires.walk_pre.within c.images.i c.images-test.true) in (
      c.records.invariant.0,
      turn-next _ _ _ _ _ c.requires.walk_pre.few _ _ _ c.images.invariant.1 c.images-test.true _ _ c.filled.ensures
          (image-by-part _ _ _ _ _ _ _ _ (sym c.next_image-entry.ensures ∙ c.in-Ok.is)
          (c.records.invariant.1.so_far ∙ walk_end _ _ _ _ _ (rw size (sym c.more.ensures ∙ c.records-test.false)))),
    )

pub returns-in-Some : goal.returns-in-Some
returns-in-Some c =
    let a = c.args in
    let few = c.requires.walk_pre.few in
    elim c.images-test.branch [
      | else-images-test w ↦ absurd (none-some _ (sym c.images.invariant.0 ∙ sym w.fault-is ∙ c.in-Some.is))
      | then-images-test+in_default w ↦
          turn-fault _ _ _ _ _ few _ _ _ c.images.invariant.1 w.images-test.true (record { refusal = c.in-Some.refusal; scan = c.images.scan })
          (image-refused _ _ _ _ _ _ _
          (sym w.next_image-entry.ensures ∙ carried w.in_default.is w.err-fault.ensures.value w.fault-is c.in-Some.is))
      | then-images-test+in-Ok+then-records-test+in_default-step w ↦
          let row = row_at a.rows.now c.images.i in
          let img = part_of a.area.now a.c row in
          let size : length img ≡ row.size = part-size a.area.now a.c row (c.requires.walk_pre.within c.images.i w.images-test.true) in
          turn-fault _ _ _ _ _ few _ _ _ c.images.invariant.1 w.images-test.true (record { refusal = c.in-Some.refusal; scan = w.records.scan })
          (image-by-part _ _ _ _ _ _ _ _ (sym w.next_image-entry.ensures ∙ w.in-Ok.is)
          (w.records.invariant.1.so_far
          ∙ walk-fault _ _ _ _ _ _ (rw size (sym w.more.ensures ∙ w.records-test.true))
          (sym w.record_step-step.ensures
          ∙ carried w.in_default-step.is w.err-fault-in_default-step.ensures.value w.fault-is c.in-Some.is)))
    ]

pub returns-in-None : goal.returns-in-None
returns-in-None c =
    elim c.images-test.branch [
      | else-images-test w ↦
          rw w.scan-is
          (turns-end _ _ _ _ _ c.requires.walk_pre.few _ _ _ c.images.invariant.1 w.images-test.false)
      | then-images-test+in_default w ↦ absurd (carried-none w.in_default.is w.err-fault.ensures.value w.fault-is c.in-None.is)
      | then-images-test+in-Ok+then-records-test+in_default-step w ↦
          absurd (carried-none w.in_default-step.is w.err-fault-in_default-step.ensures.value w.fault-is c.in-None.is)
    ]
