-- `recover` meets its contract: each `return` is a way of the definition (proofs/RecoveryWays.antt). Assumes nothing.
use mathlib.Core.Path.{◌≡◌, sym, ap, subst, ◌∙◌}
use mathlib.Core.Bool.{true, false}
use lib.ListN.{length}
use borrow.Author.Rules.{rules}
use Rattle.std.specs.Prelude.{Result}
use Rattle.lists.proofs.Arrays.{unmapped}
use Rattle.lists.proofs.Outcome.{handed-on}
use Rattle.refusal.specs.declared.Refusal.{Refusal}
use Rattle.refusal.specs.declared.Refusal.TheVariants.{OutsideRules, OneEndZero, RangeReversed}
use Rattle.refusal.specs.Refusals.{number, outcome}
use Rattle.seglog.specs.declared.Log.{Log}
use Rattle.seglog.specs.New.{roomy_of}
use Rattle.image_rows.specs.Rows.{listed_of}
use Rattle.recovery.specs.declared.Recovered.{Recovered}
use Rattle.recovery.specs.Recovery.{one_zero, recovery_of, RecoveryDid}
use Rattle.recovery.proofs.RecoveryWays.{recovery-refuses-1, recovery-refuses-11, recovery-refuses-12, rows-refused, rows-taken}
use Rattle.recovery.proofs.RecoveryWays.{rows-sorted, sorted-few, scan-asks, recovery-empty, recovery-scans, did-refused, did-empty, did-scan}
use Rattle.recovery.proofs.recover.Goals as goal

pub returns-then-not-sizes_fit : goal.returns-then-not-sizes_fit
returns-then-not-sizes_fit c =
    did-refused _ _ _ OutsideRules (recovery-refuses-1 _ _ _ _ _ _ _ _ (sym c.sizes_fit.ensures ∙ c.if-not-sizes_fit.true))

pub returns-then-one_zero : goal.returns-then-one_zero
returns-then-one_zero c =
    did-refused _ _ _ OneEndZero
    (recovery-refuses-11 _ _ _ _ _ _ _ _ (sym c.sizes_fit.ensures ∙ c.if-not-sizes_fit.false) (sym c.one_zero.ensures ∙ c.if-one_zero.true))

pub returns-then-range : goal.returns-then-range
returns-then-range c =
    did-refused _ _ _ RangeReversed
    (recovery-refuses-12 _ _ _ _ _ _ _ _ (sym c.sizes_fit.ensures ∙ c.if-not-sizes_fit.false) (sym c.one_zero.ensures ∙ c.if-one_zero.false)
    c.if-range.true)

pub returns-in_err-sorted : goal.returns-in_err-sorted
returns-in_err-sorted c =
    let a = c.args in
    let e = c.in_err-sorted.field-0.0 in
    subst (λ (r : Result Recovered Refusal). RecoveryDid
    (recovery_of a.shape.k a.shape.c a.shape.m a.area.now (listed_of a.rows) a.range.s a.range.e (length a.index.now))
    a.area.now a.index.now r a.area.now a.index.now)
    (sym (handed-on c.from_residual.result e c.from_residual.ensures.1))
    (did-refused _ _ _ e
    (rows-refused _ _ _ _ _ _ _ _ (sym c.sizes_fit.ensures ∙ c.if-not-sizes_fit.false) (sym c.one_zero.ensures ∙ c.if-one_zero.false)
    c.if-range.false (number e) (ap outcome (sym c.in_err-sorted.was) ∙ c.arrange.ensures)))

pub returns-then-range-eq0 : goal.returns-then-range-eq0
returns-then-range-eq0 c =
    let a = c.args in
    let roomy : roomy_of a.shape.k a.shape.c a.shape.m (length a.area.now) ≡ true = sym c.sizes_fit.ensures ∙ c.if-not-sizes_fit.false in
    let range : one_zero a.range.s a.range.e ≡ false = sym c.one_zero.ensures ∙ c.if-one_zero.false in
    let p = rows-taken _ _ _ _ a.rows _ _ (length a.index.now) roomy range c.if-range.false _ (ap outcome (sym c.in_ok-sorted.was) ∙ c.arrange.ensures) in
    did-empty _ _ _ _ _ _ _ (ap (λ (l : Log). record { rows = 0; log = l }) c.empty_log.ensures)
    (recovery-empty _ _ _ _ _ _ _ _ roomy range c.if-range.false p.took.fit p.took.low p.took.apart c.if-range-eq0.true)

pub shared_ref_as_front-scan : goal.shared_ref_as_front-scan
shared_ref_as_front-scan c =
    let a = c.args in
    let full : length a.rows.rows ≡ 64 = search (rules, unmapped) in
    let roomy : roomy_of a.shape.k a.shape.c a.shape.m (length a.area.now) ≡ true = sym c.sizes_fit.ensures ∙ c.if-not-sizes_fit.false in
    let range : one_zero a.range.s a.range.e ≡ false = sym c.one_zero.ensures ∙ c.if-one_zero.false in
    let p = rows-taken _ _ _ _ a.rows _ _ (length a.index.now) roomy range c.if-range.false _ (ap outcome (sym c.in_ok-sorted.was) ∙ c.arrange.ensures) in
    sorted-few _ _ _ _ _ _ _ _ roomy range c.if-range.false _ p full

pub scan-requires : goal.scan-requires
scan-requires c =
    let a = c.args in
    let full : length a.rows.rows ≡ 64 = search (rules, unmapped) in
    let roomy : roomy_of a.shape.k a.shape.c a.shape.m (length a.area.now) ≡ true = sym c.sizes_fit.ensures ∙ c.if-not-sizes_fit.false in
    let range : one_zero a.range.s a.range.e ≡ false = sym c.one_zero.ensures ∙ c.if-one_zero.false in
    let p = rows-taken _ _ _ _ a.rows _ _ (length a.index.now) roomy range c.if-range.false _ (ap outcome (sym c.in_ok-sorted.was) ∙ c.arrange.ensures) in
    scan-asks _ _ _ _ _ _ _ _ roomy range c.if-range.false _ p full c.if-range-eq0.false

pub returns : goal.returns
returns c =
    let a = c.args in
    let full : length a.rows.rows ≡ 64 = search (rules, unmapped) in
    let roomy : roomy_of a.shape.k a.shape.c a.shape.m (length a.area.now) ≡ true = sym c.sizes_fit.ensures ∙ c.if-not-sizes_fit.false in
    let range : one_zero a.range.s a.range.e ≡ false = sym c.one_zero.ensures ∙ c.if-one_zero.false in
    let p = rows-taken _ _ _ _ a.rows _ _ (length a.index.now) roomy range c.if-range.false _ (ap outcome (sym c.in_ok-sorted.was) ∙ c.arrange.ensures) in
    did-scan _ _ _ _ _ _ _ _ _ _ _ _ _ _ (rows-sorted _ _ _ _ _ _ _ _ roomy range c.if-range.false _ p full)
    (recovery-scans _ _ _ _ _ _ _ _ roomy range c.if-range.false p.took.fit p.took.low p.took.apart c.if-range-eq0.false)
    c.scan.ensures
