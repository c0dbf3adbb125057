-- `segment_filename::ten_digits` meets its contract. The loop's invariant: the digits are those still to come and those written behind i.
-- Assumes nothing.
use mathlib.Core.Path.{◌≡◌, refl, sym, ap, ◌∙◌}
use mathlib.Core.List.{◌++◌, append-nil}
use Prim.Native.Nat.{ℕ, suc, ◌-◌}
use native.Mathlib.Omega.{arith}
use lib.ListN.{length-set, drop}
use borrow.Author.Rules.{rules}
use Rattle.segment_filename.specs.Digits.{digits}
use Rattle.segment_filename.proofs.Digits.{digits-turn}
use Rattle.segment_filename.proofs.ten_digits.Goals as goal

pub loop-i-init : goal.loop-i-init
loop-i-init c =
    (search rules, refl, sym (append-nil (digits 10 c.args.id)))

pub loop-i-preserved : goal.loop-i-preserved
loop-i-preserved c =
    let l = c.loop-i in
    let one : l.i ≡ suc (l.i - 1) = omega arith in (
      omega arith,
      simp length-set l.invariant.1,
      l.invariant.2 ∙ ap (λ (k : ℕ). digits k l.rest ++ drop k l.bytes) one ∙ digits-turn (l.i - 1) l.rest l.bytes (omega arith),
    )

pub returns : goal.returns
unfolding digits
returns c =
    let l = c.loop-i in
    let none : l.i ≡ 0 = omega arith in sym (l.invariant.2 ∙ ap (λ (k : ℕ). digits k l.rest ++ drop k l.bytes) none)
