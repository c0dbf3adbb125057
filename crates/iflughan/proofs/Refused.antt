-- What stands beside a refusal's number in the structs that cross: zeros, but for the log of append and of the prunes, which is the log
-- given. Assumes nothing.
use mathlib.Core.Path.{◌≡◌, refl}
use mathlib.Core.List.{List}
use Prim.Native.Nat.{ℕ}
use lib.ListN.{replicate}
use lib.Dec.{eqb}
use Rattle.lists.specs.Outcome.{Outcome}
use Rattle.lists.proofs.Cases.{by-test}
use Rattle.seglog.specs.declared.Log.{Log}
use Rattle.seglog.specs.View.{zero_log}
use Rattle.seglog_append.specs.Appending.{Left, append_answer}
use Rattle.seglog_prune.specs.Prune.{Pruned, prune_answer}
use Rattle.recovery.specs.Recovery as Recovery
use Rattle.recovery.specs.Recovery.{recovery_answer}
use Rattle.delta.specs.declared.Row.{Row}
use Rattle.delta.specs.Table.{zero_row}
use Rattle.delta.specs.Reading.{answered}
use Rattle.iflughan.specs.Names.{written, parsed_name}
use Rattle.iflughan.specs.Log.{logged_out, appended_out}
use Rattle.iflughan.specs.Recover.{recovered_out, no_part, part_of}
use Rattle.iflughan.specs.Deltas.{row_out, decoded_delta}
use Rattle.iflughan.specs.declared.Delta.{Delta}

-- a number of a refusal
abbrev Refused : ℕ → Type 0
Refused n = n ≡ 0 → ⊥

-- a refused append: id 0, and the log given
pub append-refused : (l : Log) (o : Outcome Left) → let r = appended_out (append_answer l o) in Refused r.refusal → (r.id ≡ 0) ×
    (r.log ≡ l)
append-refused l (Outcome.refused n) h = (refl, refl)
append-refused l (Outcome.done w) h = absurd (h refl)

-- a refused prune: the log given
pub prune-refused : (l : Log) (o : Outcome Pruned) → let r = logged_out (prune_answer l o) in Refused r.refusal → r.log ≡ l
prune-refused l (Outcome.refused n) h = refl
prune-refused l (Outcome.done p) h = absurd (h refl)

-- a refused recovery: no rows, and the all-zero log
pub recovery-refused : (o : Recovery.Recovery) → let r = recovered_out (recovery_answer o) in Refused r.refusal → (r.rows ≡ 0) ×
    (r.log ≡ zero_log)
recovery-refused (Outcome.refused n) h = (refl, refl)
recovery-refused (Outcome.done a) h = absurd (h refl)

-- a row that isn't good: no part
pub part-refused : (l : Log) (slot offset n number : ℕ) → let r = part_of l slot offset n number in Refused r.refusal → r ≡ no_part number
part-refused l slot offset n number h = by-test (eqb number 0) (λ t. absurd (h (simp t))) (λ t. simp t)

-- a name or a delta that is not written: no length
pub write-refused : (o : Outcome ℕ) → let r = written o in Refused r.refusal → r.length ≡ 0
unfolding written
write-refused (Outcome.refused n) h = refl
write-refused (Outcome.done n) h = absurd (h refl)

-- a name that is not read: id 0
pub name-parse-refused : (o : Outcome ℕ) → let r = parsed_name o in Refused r.refusal → r.id ≡ 0
unfolding parsed_name
name-parse-refused (Outcome.refused n) h = refl
name-parse-refused (Outcome.done v) h = absurd (h refl)

-- the table of no rows: all zero
abbrev pub zero_delta : Delta
zero_delta = record { count = 0; rows = replicate 256 (row_out zero_row) }

-- a delta that is not decoded: nothing consumed, and no rows
pub delta-decode-refused : (o : Outcome ℕ) (rs : List Row) → let r = decoded_delta (answered o rs) in Refused r.refusal
    → (r.consumed ≡ 0) × (r.table ≡ zero_delta)
unfolding decoded_delta
delta-decode-refused (Outcome.refused n) rs h = (refl, refl)
delta-decode-refused (Outcome.done n) rs h = absurd (h refl)
