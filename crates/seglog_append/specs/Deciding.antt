-- Where the next record of a log goes, or refusals 2 to 7 in order: from the log, the area's length and the payload's, and no byte of
-- either. Laws: proofs/Deciding.antt, proofs/DecidingFree.antt. Assumes nothing.
use Rattle.std.specs.Prelude.{ℕ, zero, suc, ◌+◌, ◌-◌, ◌%◌, ◌^◌, Bool, true, not, ◌&&◌, List, [], ◌∷◌, length, ◌==◌, nat_eq, nat_le, nat_lt, Option, Some, None}
use Rattle.lists.specs.Choice.{pick, ◌⇒◌, first}
use Rattle.lists.specs.Outcome.{Outcome, refused, done}
use Rattle.lists.specs.Distinct.{fresh}
use Rattle.segment.specs.Segment.{slot_number}
use Rattle.record.specs.Record.{max_payload, record_room}
use Rattle.segment.specs.declared.Segment.{Segment}
use Rattle.seglog.specs.declared.Log.{Log}
use Rattle.seglog.specs.View.{View, view_of, head_of, front_of}
use Rattle.seglog.specs.Fit.{fitting_of}
use Rattle.seglog_append.specs.declared.Place.{Place}

-- the lowest slot from i on that no listed segment has, looking at n slots; the one behind them where there is none
unfoldable pub free_from : ℕ → ℕ → List Segment → ℕ
free_from zero i gs = i
free_from (suc n) i gs = pick (fresh slot_number i gs) i (free_from n (suc i) gs)

-- "the lowest slot that no listed segment has"; K where all K slots are listed
abbrev pub lowest_free : View → ℕ
lowest_free a = free_from a.k 0 a.segs

-- that slot, where one of the K is left
abbrev pub free_slot : View → Option ℕ
free_slot a = pick (lowest_free a == a.k) None (Some (lowest_free a))

-- "It opens a new segment if there is none or the head's size >= M"
unfoldable pub opens_of : View → Bool
opens_of a = pick (length a.segs == 0) true (nat_le a.m (head_of a.segs).size)

-- "the last plus one, wrapping at 32 bits"; "with no segment the id is 1"
unfoldable pub next_id : List Segment → ℕ
next_id gs = pick (length gs == 0) 1 (((head_of gs).id + 1) % 2 ^ 32)

-- a new segment, before its first record
abbrev pub fresh_of : View → Segment
fresh_of a = record { id = next_id a.segs; slot = lowest_free a; size = 0; min = a.end + 1; max = a.end + 1; newest_at = 0 }

-- a new segment behind the id `last`, 0 where there is none: 5, 6, or the segment before its first record
unfoldable pub opened_of : View → ℕ → Outcome Segment
opened_of a last =
    first
    ((nat_eq ((last + 1) % 2 ^ 32) 0 ⇒ refused 5)
    ∷ (nat_eq (lowest_free a) a.k ⇒ refused 6)
    ∷ [])
    (done (record { id = (last + 1) % 2 ^ 32; slot = lowest_free a; size = 0; min = a.end + 1; max = a.end + 1; newest_at = 0 }))

-- the segment that the record goes to
abbrev pub target_of : View → Segment
target_of a = pick (opens_of a) (fresh_of a) (head_of a.segs)

-- the listed segments before it
abbrev pub before_of : View → List Segment
before_of a = pick (opens_of a) a.segs (front_of a.segs)

-- where a record of n payload bytes goes
abbrev pub place_of : View → ℕ → Place
place_of a n = record { target = target_of a; at = length (before_of a); room = record_room n }

-- 3 to 7, in order
unfoldable pub decide_of : View → ℕ → Outcome Place
decide_of a n =
    first
    ((nat_lt max_payload n ⇒ refused 3)
    ∷ (nat_eq a.end 18446744073709551615 ⇒ refused 4)
    ∷ (opens_of a && nat_eq (next_id a.segs) 0 ⇒ refused 5)
    ∷ (opens_of a && nat_eq (lowest_free a) a.k ⇒ refused 6)
    ∷ (nat_lt (a.c - (target_of a).size) (record_room n) ⇒ refused 7)
    ∷ [])
    (done (place_of a n))

-- 2 first: the log is not well shaped, or the area has not K x C bytes
unfoldable pub decide_log : Log → (bytes n : ℕ) → Outcome Place
decide_log l bytes n = first ((not (fitting_of l bytes) ⇒ refused 2) ∷ []) (decide_of (view_of l) n)
