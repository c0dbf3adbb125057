-- The laws of `Outcome`: a refusal is nothing done; its number, and what was done, are one thing; going by the case; and answers that
-- are determined by what they come to; and what a `?` hands on. Assumes nothing.
use mathlib.Core.Path.{◌≡◌, refl, sym, ap, ◌∙◌}
use Prim.Native.Nat.{ℕ}
use Rattle.std.specs.Prelude.{Result, Ok, Err}
use Rattle.std.specs.Result.{IsErrAnd}
use Rattle.lists.specs.Outcome.{Outcome, refused, done}
use Rattle.lists.proofs.Bools.{zero-is-not-one}

-- a refusal is nothing done
pub refused-is-not-done : {A P : Type 0} {n : ℕ} {a : A} → refused n ≡ done a → P
refused-is-not-done e = zero-is-not-one (cc)

-- equal refusals have one number
pub refused-injective : {A : Type 0} {m n : ℕ} → ◌≡◌ {A = Outcome A} (refused m) (refused n) → m ≡ n
refused-injective e = cc

-- what was done is one thing
pub done-injective : {A : Type 0} {a b : A} → done a ≡ done b → a ≡ b
done-injective e = cc

-- what follows from a refusal, and from what was done, follows
pub by-outcome : {A P : Type 0} (o : Outcome A) → ((n : ℕ) → o ≡ refused n → P) → ((a : A) → o ≡ done a → P) → P
by-outcome (refused n) if-refused if-done = if-refused n refl
by-outcome (done a) if-refused if-done = if-done a refl

-- an answer that can be told from what it comes to is determined by that
pub determined : {A O : Type 0} (comes : A → O) (by : O → A) → ((a : A) → by (comes a) ≡ a) → (a b : A) → comes a ≡ comes b → a ≡ b
determined comes by back a b e = sym (back a) ∙ ap by e ∙ back b

-- what a `?` hands on of an error e
pub handed-on : {A E : Type 0} (r : Result A E) (e : E) → IsErrAnd r (λ x. x ≡ e) → r ≡ Err e
handed-on (Ok a) e h = absurd h
handed-on (Err x) e h = ap Err h
