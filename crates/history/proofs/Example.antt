-- Demand 3 has instances: one append of three bytes to a new log, recovered, gives back the three bytes. The earlier moment is
-- computed by the definitions. Assumes nothing.
use mathlib.Core.List.{List, ◌∷◌, []}
use mathlib.Core.Path.{◌≡◌, refl, ◌∙◌}
use Prim.Native.Nat.{ℕ}
use native.Mathlib.Omega.{arith}
use lib.ListN.{replicate, length}
use Rattle.lists.specs.Each.{all, linked}
use Rattle.lists.specs.Distinct.{distinct}
use Rattle.page.specs.Page.{padded_end, multiple_from}
use Rattle.record.specs.Record.{record_room}
use Rattle.seglog.specs.View.{log_of, plain_of, zeros_of}
use Rattle.seglog.specs.Chain.{chain_of, goes_on, ends_of}
use Rattle.seglog.specs.Fit.{fitting_of, shaped_of, sizes_of}
use Rattle.seglog.specs.New.{new_of, roomy_of}
use Rattle.segment.specs.declared.Segment.{Segment}
use Rattle.seglog_append.specs.Deciding.{decide_log, decide_of, opens_of, next_id, free_from}
use Rattle.seglog_append.specs.Appending.{append_log}
use Rattle.recovery.specs.Recovery.{recovery_answer, recovery_area, recovery_index}
use Rattle.history.specs.Demand.{earlier, Asked, row_for, payload_at, recovering}
use Rattle.history.specs.History.{Held, append, run, last_under, begun, told}
use Rattle.history.proofs.Theorem.{demand3}

-- one slot of one page, of any content
abbrev area : List ℕ
area = replicate 4096 7

-- three bytes
abbrev bytes : List ℕ
bytes = 97 ∷ 98 ∷ 99 ∷ []

-- what is held after one append
abbrev held : Held
held = earlier 1 4096 4096 area (append bytes ∷ [])

-- one segment, one record
abbrev segment : Segment
segment = record { id = 1; slot = 0; size = 4096; min = 1; max = 1; newest_at = 0 }

log_is : held.log ≡ log_of (record { k = 1; c = 4096; m = 4096; start = 1; end = 1; segs = segment ∷ [] })
unfolding run append_log decide_log decide_of fitting_of plain_of zeros_of shaped_of sizes_of chain_of goes_on all linked distinct ends_of opens_of
    next_id free_from record_room padded_end multiple_from new_of roomy_of
log_is = refl

last-is : last_under (begun 1 4096 4096 area) (append bytes ∷ []) 1 ≡ bytes
unfolding told run append_log decide_log decide_of fitting_of plain_of zeros_of shaped_of sizes_of chain_of goes_on all linked distinct ends_of
    opens_of next_id free_from record_room padded_end multiple_from new_of roomy_of
last-is = refl

new_is : (new_of 1 4096 4096 (length area)).refusal ≡ 0
unfolding new_of roomy_of sizes_of
new_is = refl

-- an index of one row
abbrev index : List ℕ
index = 0 ∷ 0 ∷ 0 ∷ 0 ∷ []

asked : Asked 1 4096 4096 area (append bytes ∷ []) [] 1 1 (row_for segment ∷ []) index
unfolding run
asked =
    record {
      new = new_is;
      above = omega arith;
      order = omega arith;
      from = rw log_is (omega arith);
      to = rw log_is (omega arith);
      own-rows = rw log_is (record { before = []; behind = []; whole = refl; others = refl });
      room = omega arith;
    }

-- recovering 1..1 gives back the three bytes
pub example : payload_at (recovery_answer (recovering held (row_for segment ∷ []) 1 1 index)).log
    (recovery_area held.area (recovering held (row_for segment ∷ []) 1 1 index))
    (recovery_index index (recovering held (row_for segment ∷ []) 1 1 index)) 0 ≡ bytes
unfolding run
example =
    (demand3 1 4096 4096 area (append bytes ∷ []) [] 1 1 (row_for segment ∷ []) index asked).row-payload 0 (omega arith) ∙ last-is
