-- An index row asked for: 2, 24 or good, and its payload as a part of the area. Laws: proofs/Row.antt.
-- Assumes nothing.
use Rattle.std.specs.Prelude.{List, [], ◌∷◌, Bool, ◌||◌, not, ℕ, ◌+◌, ◌*◌, ◌≤◌, ◌<◌, length, eqb, ltb, leb, Result}
use Rattle.lists.specs.Choice.{pick, ◌⇒◌, first}
use Rattle.lists.specs.Outcome.{either}
use Rattle.lists.specs.Splice.{part}
use Rattle.seglog.specs.declared.Log.{Log}
use Rattle.seglog.specs.Fit.{fitting_of}
use Rattle.refusal.specs.declared.Refusal.{Refusal}
use Rattle.refusal.specs.Refusals.{outcome}

-- document 01's number of an answer, 0 where the row is good
abbrev pub row_number : Result (Unit {0}) Refusal → ℕ
row_number answer = either (λ n. n) (λ u. 0) (outcome answer)

-- "row asked for (after 2): slot >= K, or offset + length above C as whole numbers"
unfoldable pub outside_of : Log → (slot offset length : ℕ) → Bool
outside_of l slot offset n = leb l.k slot || ltb l.c (offset + n)

-- the number of the row question, 0 where the row is good; the row's id is not looked at
unfoldable pub row_question : Log → List ℕ → (slot offset length : ℕ) → ℕ
row_question l area slot offset n = first ((not (fitting_of l (length area)) ⇒ 2) ∷ (outside_of l slot offset n ⇒ 24) ∷ []) 0

-- a good row's slot is one of the log's, and its payload ends inside the slot and so inside the area
pub record GoodRow (l : Log) (area : List ℕ) (slot offset n : ℕ) : Type 0 where
  pub listed : slot < l.k
  pub inside : offset + n ≤ l.c
  pub ends : slot * l.c + offset + n ≤ length area

-- the payload of a row, as a part of the area; "where it isn't good, the part handed back is empty"
unfoldable pub payload_of : Log → List ℕ → (slot offset length : ℕ) → List ℕ
payload_of l area slot offset n = pick (eqb (row_question l area slot offset n) 0) (part (slot * l.c + offset) n area) []
