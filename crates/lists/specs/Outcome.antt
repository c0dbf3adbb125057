-- What a call comes to: a refusal's number, or what it does. Assumes nothing.
use Rattle.std.specs.Prelude.{ℕ}

-- a refusal's number, or what was done
pub data Outcome (A : Type 0) : Type 0 where
  refused : ℕ → Outcome A
  done : A → Outcome A

-- what stands beside a number, or what comes of what was done
abbrev pub either : {A : Type 0} {B : Type 0} → (ℕ → B) → (A → B) → Outcome A → B
either f g (refused n) = f n
either f g (done a) = g a

-- lent memory afterwards: "it returns the number; the caller's log, area, index and buffers stay"
abbrev pub kept : {A : Type 0} {B : Type 0} → B → (A → B) → Outcome A → B
kept x g (refused n) = x
kept x g (done a) = g a
