-- `scan` meets its contract: what the scan tells is enough to close the log, by the laws of proofs/RecoveryScan.antt. Assumes nothing.
use mathlib.Core.Path.{sym, subst}
use lib.ListN.{length}
use Rattle.std.specs.Prelude.{Result}
use Rattle.lists.proofs.Outcome.{handed-on}
use Rattle.refusal.specs.declared.Refusal.{Refusal}
use Rattle.recovery_walk.specs.declared.Scanned.{Scanned}
use Rattle.recovery_walk.specs.Scan.{ScanDid}
use Rattle.recovery.specs.declared.Recovered.{Recovered}
use Rattle.recovery.specs.Recovery.{scanned, RecoveryDid}
use Rattle.recovery.proofs.RecoveryScan.{walk-asks, did-fault, close-pre, did-close}
use Rattle.recovery.proofs.scan.Goals as goal

pub scan_images-requires-clause-walk_pre : goal.scan_images-requires-clause-walk_pre
scan_images-requires-clause-walk_pre c =
    walk-asks _ _ c.args.shape.m _ _ _ _ c.requires

pub returns-in_err-found : goal.returns-in_err-found
returns-in_err-found c =
    let a = c.args in
    let e = c.in_err-found.field-0.0 in
    let did = subst (λ (r : Result Scanned Refusal). ScanDid a.area.now a.shape.c a.range.s a.range.e a.rows.now a.index.now c.scan_images.new.index r)
    c.in_err-found.was c.scan_images.ensures in
    subst (λ (r : Result Recovered Refusal). RecoveryDid
    (scanned a.shape.k a.shape.c a.shape.m a.area.now a.rows.now a.range.s a.range.e (length a.index.now)) a.area.now a.index.now r a.area.now c.scan_images.new.index)
    (sym (handed-on c.from_residual.result e c.from_residual.ensures.1))
    (did-fault _ _ _ _ _ _ _ _ c.requires _ e did)

pub close-requires : goal.close-requires
close-requires c =
    let a = c.args in
    let did = subst (λ (r : Result Scanned Refusal). ScanDid a.area.now a.shape.c a.range.s a.range.e a.rows.now a.index.now c.scan_images.new.index r)
    c.in_ok-found.was c.scan_images.ensures in
    close-pre _ _ a.shape.m _ _ _ _ _ c.requires _ _ did

pub returns : goal.returns
returns c =
    let a = c.args in
    let did = subst (λ (r : Result Scanned Refusal). ScanDid a.area.now a.shape.c a.range.s a.range.e a.rows.now a.index.now c.scan_images.new.index r)
    c.in_ok-found.was c.scan_images.ensures in
    did-close _ _ _ _ _ _ _ _ c.requires _ _ did _ _ c.close.ensures
