-- `scan_images` meets its contract: each way out is one law of Scan.antt. Assumes nothing.
use mathlib.Core.Path.{sym, ap, subst, ◌∙◌}
use native.Mathlib.Omega.{arith}
use borrow.Author.Tests.{not-true, not-false}
use Rattle.std.specs.Prelude.{Result}
use Rattle.lists.proofs.Outcome.{handed-on}
use Rattle.refusal.specs.declared.Refusal.{Refusal}
use lib.ListN.{replicate}
use Rattle.segment.specs.declared.Segment.{Segment}
use Rattle.recovery_walk.specs.declared.Scanned.{Scanned}
use Rattle.recovery_walk.specs.Scan.{ScanDid, seen_in}
use Rattle.recovery_walk.proofs.Scan.{scan-fault, scan-no-start, scan-no-end, scan-few-words, scan-room, scan-done}
use Rattle.recovery_walk.proofs.scan_images.Goals as goal

pub walk_images-requires-clause-blank : goal.walk_images-requires-clause-blank
walk_images-requires-clause-blank c = ap (λ (g : Segment). replicate 64 g) c.no_segment-none.ensures

pub returns-in_err-found : goal.returns-in_err-found
returns-in_err-found c =
    let a = c.args in
    let e = c.in_err-found.field-0.0 in
    subst (λ (r : Result Scanned Refusal). ScanDid a.area.now a.c a.range.s a.range.e a.rows.now a.index.now a.index.now r)
    (sym (handed-on c.from_residual.result e c.from_residual.ensures.1))
    (scan-fault _ _ _ _ _ _ e (ap (seen_in c.walk_images.new.segs) (sym c.in_err-found.was) ∙ c.walk_images.ensures))

pub returns-then-not-found : goal.returns-then-not-found
returns-then-not-found c =
    scan-no-start _ _ _ _ _ _ _ (ap (seen_in c.walk_images.new.segs) (sym c.in_ok-found.was) ∙ c.walk_images.ensures) (not-true _ c.if-not-found.true)

pub returns-then-not-found-2 : goal.returns-then-not-found-2
returns-then-not-found-2 c =
    scan-no-end _ _ _ _ _ _ _ (ap (seen_in c.walk_images.new.segs) (sym c.in_ok-found.was) ∙ c.walk_images.ensures) (not-false _ c.if-not-found.false) (not-true _ c.if-not-found-2.true)

pub returns-then-words-live : goal.returns-then-words-live
returns-then-words-live c =
    let p = c.requires.range_pre in
    scan-few-words _ _ _ _ _ _ _ (ap (seen_in c.walk_images.new.segs) (sym c.in_ok-found.was) ∙ c.walk_images.ensures) (not-false _ c.if-not-found.false) (not-false _ c.if-not-found-2.false)
    (omega (arith, c.if-words-live.true, p.order))

pub write_rows-requires-clause-pen_of_in_bounds : goal.write_rows-requires-clause-pen_of_in_bounds
write_rows-requires-clause-pen_of_in_bounds c =
    let p = c.requires.range_pre in
    scan-room _ _ _ _ _ _ _ (ap (seen_in c.walk_images.new.segs) (sym c.in_ok-found.was) ∙ c.walk_images.ensures) (not-false _ c.if-not-found.false) (not-false _ c.if-not-found-2.false) p
    (omega (arith, c.if-words-live.false, p.order))

pub returns : goal.returns
returns c =
    let p = c.requires.range_pre in
    scan-done _ _ _ _ _ _ _ (ap (seen_in c.walk_images.new.segs) (sym c.in_ok-found.was) ∙ c.walk_images.ensures) (not-false _ c.if-not-found.false) (not-false _ c.if-not-found-2.false)
    (omega (arith, c.if-words-live.false, p.order)) _ c.write_rows.ensures
