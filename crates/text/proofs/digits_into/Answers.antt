-- `text::digits_into`: one digit more is put, and the first digit is put.
-- Assumes nothing.
use Rattle.std.proofs.Common.{arith, ◌≡◌, ◌-◌, ℕ, suc, subst, ◌++◌, drop}
use Rattle.text.specs.Decimal.{decimal_in}
use Rattle.text.proofs.DecimalDigits.{Placed, placed-turn, placed-ends}
use Rattle.text.proofs.digits_into.Goals as goal

pub loop-i-preserved : goal.loop-i-preserved
loop-i-preserved c =
    let l = c.loop-i in
    let one : l.i ≡ suc (l.i - 1) = omega arith in
    placed-turn (l.i - 1) (omega arith) c.if-rest-eq0.false
    (subst (λ (k : ℕ). Placed c.args.v l.rest k l.digits) one l.invariant)

pub returns-then-rest-eq0-clause-digits : goal.returns-then-rest-eq0-clause-digits
returns-then-rest-eq0-clause-digits c =
    let l = c.loop-i in
    let one : l.i ≡ suc (l.i - 1) = omega arith in
    placed-ends (l.i - 1) (omega arith) c.if-rest-eq0.true
    (subst (λ (k : ℕ). Placed c.args.v l.rest k l.digits) one l.invariant)

pub returns-clause-digits : goal.returns-clause-digits
unfolding decimal_in
returns-clause-digits c =
    let l = c.loop-i in
    let none : l.i ≡ 0 = omega arith in
    subst (λ (k : ℕ). decimal_in k l.rest ++ drop k l.digits ≡ decimal_in 20 c.args.v) none l.invariant.whole
