-- The answers of recovery and of the row question as the structs that cross the C interface.
-- Assumes nothing.
use Rattle.std.specs.Prelude.{◌≡◌, List, ℕ, ◌+◌, ◌*◌, eqb}
use Rattle.lists.specs.Choice.{pick}
use Rattle.seglog.specs.declared.Log.{Log}
use Rattle.recovery.specs.Recovery.{Recovery, RecoveryAnswer, recovery_answer, recovery_area, recovery_index}
use Rattle.iflughan.specs.declared.Part.{Part}
use Rattle.iflughan.specs.declared.Recovered.{Recovered}

-- the refusal number, the number of index rows and the log of a recovery
abbrev pub recovered_out : RecoveryAnswer → Recovered
recovered_out answer = record { refusal = answer.refusal; reserved = 0; rows = answer.rows; log = answer.log }

-- what `iflughan_recover` ensures: the answer, every byte of the area, every word of the index
pub record Recovers (o : Recovery) (area index : List ℕ) (r : Recovered) (area' index' : List ℕ) : Type 0 where
  pub answer : r ≡ recovered_out (recovery_answer o)
  pub bytes : area' ≡ recovery_area area o
  pub words : index' ≡ recovery_index index o

-- a row that isn't good: its number, and no part
abbrev pub no_part : ℕ → Part
no_part n = record { refusal = n; reserved = 0; at = 0; length = 0 }

-- the place of a good row's payload in the area, by the number of the row question: slot x C + offset, also where its length is 0
abbrev pub part_of : Log → (slot offset length number : ℕ) → Part
part_of l slot offset n number =
    pick (eqb number 0) (record { refusal = 0; reserved = 0; at = slot * l.c + offset; length = n }) (no_part number)
