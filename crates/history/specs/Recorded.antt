-- What a log that came from calls is, in terms of the history: well shaped, and each listed segment's image is the bytes of its
-- records, one behind the other, with the payloads that were last appended under their ids; the newest of them starts where the segment
-- says. Assumes nothing.
use Rattle.std.specs.Prelude.{◌≡◌, List, true, ℕ, ◌+◌, ◌-◌, ◌<◌, length, get_or, drop}
use Rattle.record.specs.Record.{record_bytes}
use Rattle.walk.specs.Records.{records_from}
use Rattle.segment.specs.declared.Segment.{Segment}
use Rattle.seglog.specs.Fit.{fitting_of}
use Rattle.segment.specs.Segment.{no_segment, image_in}
use Rattle.seglog.specs.New.{new_of}
use Rattle.seglog_prune.specs.Cut.{find_cut, cut_in}
use Rattle.history.specs.History.{Call, Held, begun, run, last_under, refusal_of}

-- the i-th entry of what is held
abbrev pub segment_at : Held → ℕ → Segment
segment_at t i = get_or t.log.segs i no_segment

-- a log and its area hold what f says
pub record Recorded (t : Held) (f : ℕ → List ℕ) : Type 0 where
  -- the log is well shaped, and the area has K x C bytes
  pub well-shaped : fitting_of t.log (length t.area) ≡ true
  -- each listed segment's image is its records, min to max, in order
  pub images : (i : ℕ) → i < t.log.count
      → image_in t.area t.log.c (segment_at t i)
      ≡ records_from f (segment_at t i).min ((segment_at t i).max + 1 - (segment_at t i).min)
  -- and from newest_at on it is its record max
  pub newest : (i : ℕ) → i < t.log.count
      → drop (segment_at t i).newest_at (image_in t.area t.log.c (segment_at t i))
      ≡ record_bytes (segment_at t i).max (f (segment_at t i).max)

-- any run of calls from a new log, over an area of any content, is recorded
abbrev pub RunsAreRecorded : Type 0
RunsAreRecorded =
    (k c m : ℕ) (area : List ℕ) (calls : List Call) → (new_of k c m (length area)).refusal ≡ 0
    → Recorded (run (begun k c m area) calls) (last_under (begun k c m area) calls)

-- after such a run the look at a segment's newest header finds what the search of its image would have found: document 02's ask 8 changed
-- no answer to a log that came from calls
abbrev pub RunsCutAsSearched : Type 0
RunsCutAsSearched =
    (k c m : ℕ) (area : List ℕ) (calls : List Call) → (new_of k c m (length area)).refusal ≡ 0 → (t : Held) → t ≡ run (begun k c m area) calls
    → (i n : ℕ) → i < t.log.count
    → cut_in (segment_at t i) (image_in t.area t.log.c (segment_at t i)) n ≡ find_cut (image_in t.area t.log.c (segment_at t i)) n 0

-- after such a run no call answers 2 or 10
abbrev pub RunsNeverMeet2Or10 : Type 0
RunsNeverMeet2Or10 =
    (k c m : ℕ) (area : List ℕ) (calls : List Call) → (new_of k c m (length area)).refusal ≡ 0 → (call : Call)
    → (refusal_of (run (begun k c m area) calls) call ≡ 2 → ⊥) × (refusal_of (run (begun k c m area) calls) call ≡ 10 → ⊥)
