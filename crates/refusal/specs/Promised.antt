-- The statements that docs/PROMISES.md cites: no two refusals share a number, so that a number says which one it is. Proofs:
-- proofs/Refusals.antt. Assumes nothing.
use Rattle.std.specs.Prelude.{◌≡◌, Result}
use Rattle.refusal.specs.declared.Refusal.{Refusal}
use Rattle.refusal.specs.Refusals.{number, outcome}

-- two refusals with one number are the same
abbrev pub NumbersDiffer : Type 0
NumbersDiffer = (a b : Refusal) → number a ≡ number b → a ≡ b

-- two answers that come to the same are the same
abbrev pub OutcomesDiffer : Type 1
OutcomesDiffer = (A : Type 0) (a b : Result A Refusal) → outcome a ≡ outcome b → a ≡ b
