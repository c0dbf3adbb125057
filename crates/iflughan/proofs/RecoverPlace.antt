-- The place of a row's payload: what stands there is the payload, and a row that isn't good has no place.
-- Assumes nothing.
use mathlib.Core.Path.{◌≡◌}
use Prim.Native.Nat.{ℕ}
use lib.Dec.{eqb}
use borrow.Author.Tests.{ne_eqb}
use Rattle.lists.proofs.Cases.{by-test}
use Rattle.seglog.specs.declared.Log.{Log}
use Rattle.payload.specs.Row.{row_question, payload_of}
use Rattle.iflughan.specs.Recover.{no_part, part_of}
use Rattle.iflughan.specs.Promised.{PartPayload}

-- a row that isn't good: its number, and no part
pub part-other : (l : Log) (slot offset n number : ℕ) → (number ≡ 0 → ⊥) → part_of l slot offset n number ≡ no_part number
part-other l slot offset n number h = simp (ne_eqb number 0 h)

pub part-payload : PartPayload
unfolding payload_of
part-payload l slot offset n area = by-test (eqb (row_question l area slot offset n) 0) (λ t. simp t) (λ t. simp t)
