-- Records one behind another, and the state of the walk after them. The law: proofs/Records.antt. Assumes nothing.
use Rattle.std.specs.Prelude.{List, [], ◌++◌, ℕ, zero, suc, ◌+◌, ◌^◌, ◌≤◌, ◌<◌, length}
use Rattle.lists.specs.Choice.{pick}
use Rattle.record.specs.Record.{max_payload, record_bytes}
use Rattle.walk.specs.declared.Scan.{Scan}
use Rattle.walk.specs.Judging.{advanced_of, goes_on}

-- the bytes of n records with the ids a, a + 1, .. and the payloads that f has for them
unfoldable pub records_from : (ℕ → List ℕ) → ℕ → ℕ → List ℕ
records_from f a zero = []
records_from f a (suc n) = record_bytes a (f a) ++ records_from f (suc a) n

-- the state after n records from the id a on, or after e's where it is among them
unfoldable pub over : (ℕ → List ℕ) → (s e : ℕ) → Scan → ℕ → ℕ → Scan
over f s e w a zero = w
over f s e w a (suc n) = pick (goes_on w) (over f s e (advanced_of w s e (length (f a)) a) (suc a) n) w

-- payloads are small and ids are of 64 bits
pub record Plain (f : ℕ → List ℕ) (a n : ℕ) : Type 0 where
  pub small : (i : ℕ) → a ≤ i → i < a + n → length (f i) ≤ max_payload
  pub ids : a + n ≤ 2 ^ 64
