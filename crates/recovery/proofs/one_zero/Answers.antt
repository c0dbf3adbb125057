-- `one_zero` meets its contract: two tests that differ. Assumes nothing.
use mathlib.Core.Path.{◌≡◌, refl}
use mathlib.Core.Bool.{Bool, true, false, ◌&&◌, ◌||◌, not, beq}
use Rattle.recovery.specs.Recovery.{one_zero}
use Rattle.recovery.proofs.one_zero.Goals as goal

differ : (a b : Bool) → not (beq a b) ≡ (a && not b) || (not a && b)
differ true true = refl
differ true false = refl
differ false true = refl
differ false false = refl

pub returns : goal.returns
unfolding one_zero
returns c = differ _ _
