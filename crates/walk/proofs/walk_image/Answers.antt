-- `walk::walk_image` meets its contract: each turn is one law of the walk; what is left of the image falls.
-- Assumes nothing.
use mathlib.Core.Path.{◌≡◌, sym, ◌∙◌}
use mathlib.Core.Bool.{true}
use native.Mathlib.Omega.{arith}
use lib.ListN.{length}
use Rattle.std.specs.Prelude.{Ok}
use Rattle.walk.specs.Judging.{record_step, more_of}
use Rattle.walk.proofs.Judging.{more-inside, step-moves}
use Rattle.walk.proofs.Walk.{walk_end, walk_more, walk-fault}
use Rattle.walk.proofs.walk_image.Goals as goal

pub records-smaller : goal.records-smaller
records-smaller c =
    let going : more_of c.records.scan (length c.args.img.now) ≡ true = sym c.more.ensures ∙ c.records-test.true in
    let stepped : let a = c.args in
    record_step a.img.now a.range.s a.range.e c.records.scan ≡ Ok c.in-Ok.next = sym c.record_step.ensures ∙ c.in-Ok.is in
    omega (arith, more-inside _ _ going, step-moves _ _ _ _ _ _ stepped)

pub records-preserved : goal.records-preserved
records-preserved c =
    let going : more_of c.records.scan (length c.args.img.now) ≡ true = sym c.more.ensures ∙ c.records-test.true in
    let stepped : let a = c.args in
    record_step a.img.now a.range.s a.range.e c.records.scan ≡ Ok c.in-Ok.next = sym c.record_step.ensures ∙ c.in-Ok.is in
    c.records.invariant ∙ walk_more _ _ _ _ _ _ going stepped

pub returns-in-Err : goal.returns-in-Err
returns-in-Err c =
    let going : more_of c.records.scan (length c.args.img.now) ≡ true = sym c.more.ensures ∙ c.records-test.true in
    sym (c.records.invariant ∙ walk-fault _ _ _ _ _ _ going (sym c.record_step.ensures ∙ c.in-Err.is))

pub returns : goal.returns
returns c =
    sym (c.records.invariant ∙ walk_end _ _ _ _ _ (sym c.more.ensures ∙ c.records-test.false))
