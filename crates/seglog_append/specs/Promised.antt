-- The statements that docs/PROMISES.md cites; proofs: DecidingFree.antt, Deciding.antt, Appending.antt and AppendingShape.antt in proofs/.
-- `length l.segs ≡ 64` and an id below 2^32 are what the code's types say. Assumes nothing.
use Rattle.std.specs.Prelude.{◌≡◌, ℕ, ◌-◌, ◌^◌, ◌<◌, ◌≤◌, true, false, ◌&&◌, List, length, ◌==◌, ◌≢◌}
use Rattle.lists.specs.Distinct.{fresh}
use Rattle.lists.specs.Outcome.{refused}
use Rattle.record.specs.Record.{max_payload, record_room}
use Rattle.segment.specs.Segment.{slot_number}
use Rattle.seglog.specs.declared.Log.{Log}
use Rattle.seglog.specs.View.{View, view_of, head_of}
use Rattle.seglog.specs.Fit.{fitting_of}
use Rattle.seglog_append.specs.Deciding.{lowest_free, opens_of, next_id, target_of, decide_log}
use Rattle.seglog_append.specs.Appending.{append_log, append_answer, append_area, advanced_of}

-- the lowest free slot is free where it is one of the K slots, and every slot before it is taken
abbrev pub FreeLowest : Type 0
FreeLowest =
    (a : View) → (lowest_free a < a.k → fresh slot_number (lowest_free a) a.segs ≡ true)
    × ((j : ℕ) → j < lowest_free a → fresh slot_number j a.segs ≡ false)

-- behind 2, 3 and 4: a new segment whose id would be 0 is refused with 5
abbrev pub AppendRefuses5 : Type 0
AppendRefuses5 =
    (l : Log) (bytes n : ℕ) → fitting_of l bytes ≡ true → n ≤ max_payload → (l.end ≢ 18446744073709551615)
    → opens_of (view_of l) ≡ true → next_id (view_of l).segs ≡ 0 → decide_log l bytes n ≡ refused 5

-- behind 2 to 6: a record that its target has no room for is refused with 7, and goes to no other segment
abbrev pub AppendRefuses7 : Type 0
AppendRefuses7 =
    (l : Log) (bytes n : ℕ) → fitting_of l bytes ≡ true → n ≤ max_payload → (l.end ≢ 18446744073709551615)
    → opens_of (view_of l) && (next_id (view_of l).segs == 0) ≡ false → opens_of (view_of l) && (lowest_free (view_of l) == l.k) ≡ false
    → l.c - (target_of (view_of l)).size < record_room n → decide_log l bytes n ≡ refused 7

-- an append answers what is foretold from the log and two lengths
abbrev pub AppendAdvances : Type 0
AppendAdvances = (l : Log) (area p : List ℕ) → append_answer l (append_log l area p) ≡ advanced_of l (length area) (length p)

-- well shaped in, well shaped out, whatever the outcome
abbrev pub AppendShaped : Type 0
AppendShaped =
    (l : Log) (area p : List ℕ) → length l.segs ≡ 64 → (head_of (view_of l).segs).id < 2 ^ 32 → fitting_of l (length area) ≡ true
    → fitting_of (append_answer l (append_log l area p)).log (length (append_area area (append_log l area p))) ≡ true
