-- Append, as document 01 says it: what was decided before any byte is written (Deciding.antt), then the id, the new log, and the record's
-- bytes in the area. Laws: proofs/Appending.antt. Assumes nothing.
use Rattle.std.specs.Prelude.{◌≡◌, ℕ, ◌+◌, ◌*◌, ◌<◌, List, [], ◌∷◌, ◌++◌, length, ◌==◌, slice_set, Result, Ok, Err}
use Rattle.lists.specs.Choice.{pick}
use Rattle.lists.specs.Outcome.{Outcome, refused, done, either, kept}
use Rattle.lists.specs.Splice.{splice}
use Rattle.refusal.specs.declared.Refusal.{Refusal}
use Rattle.refusal.specs.Refusals.{number}
use Rattle.record.specs.Record.{record_room, record_bytes}
use Rattle.segment.specs.declared.Segment.{Segment}
use Rattle.segment.specs.Segment.{ended_at}
use Rattle.seglog.specs.declared.Log.{Log}
use Rattle.seglog.specs.View.{View, view_of, log_of}
use Rattle.seglog_append.specs.declared.Appended.{Appended}
use Rattle.seglog_append.specs.declared.Place.{Place}
use Rattle.seglog_append.specs.Deciding.{target_of, before_of, decide_of, decide_log}

-- g with one record more, behind its bytes, which takes n bytes
abbrev pub grown_of : Segment → ℕ → ℕ → Segment
grown_of g n id = ended_at g id g.size (g.size + n)

-- "A first append sets both ends of the range"
abbrev pub start_after : View → ℕ
start_after a = pick (length a.segs == 0) (a.end + 1) a.start

-- the log with the record of n payload bytes in its target
abbrev pub with_record : View → ℕ → View
with_record a n = record {
  k = a.k;
  c = a.c;
  m = a.m;
  start = start_after a;
  end = a.end + 1;
  segs = before_of a ++ (grown_of (target_of a) (record_room n) (a.end + 1) ∷ []);
}

-- the area with the record's bytes from the target's size on
abbrev pub record_into : View → List ℕ → List ℕ → List ℕ
record_into a payload area = splice ((target_of a).slot * a.c + (target_of a).size) (record_bytes (a.end + 1) payload) area

-- what an accepted append leaves: the record's id, the log and the area
pub record Left : Type 0 where
  pub id : ℕ
  pub view : View
  pub area : List ℕ

-- by an append of the payload
abbrev pub left_of : View → List ℕ → List ℕ → Left
left_of a area payload = record { id = a.end + 1; view = with_record a (length payload); area = record_into a payload area }

-- an append to a log that is well shaped: 3 to 7, or what it leaves
unfoldable pub append_of : View → List ℕ → List ℕ → Outcome Left
append_of a area payload = either refused (λ s. done (left_of a area payload)) (decide_of a (length payload))

-- and to any log: 2 to 7
unfoldable pub append_log : Log → List ℕ → List ℕ → Outcome Left
append_log l area payload = either refused (λ s. done (left_of (view_of l) area payload)) (decide_log l (length area) (length payload))

-- a refusal's number with id 0 and the log given, or 0 with the record's id and the new log
pub record AppendAnswer : Type 0 where
  pub refusal : ℕ
  pub id : ℕ
  pub log : Log

-- beside a refusal's number stand 0 and the log given
abbrev pub refused_append : Log → ℕ → AppendAnswer
refused_append l n = record { refusal = n; id = 0; log = l }

-- an accepted record
abbrev pub taken : Appended → AppendAnswer
taken a = record { refusal = 0; id = a.id; log = a.log }

-- an answer with its log; l is the log given
abbrev pub appended : Log → Result Appended Refusal → AppendAnswer
appended l (Ok a) = taken a
appended l (Err r) = refused_append l (number r)

-- the answer
abbrev pub append_answer : Log → Outcome Left → AppendAnswer
append_answer l o = either (refused_append l) (λ w. record { refusal = 0; id = w.id; log = log_of w.view }) o

-- the area afterwards: a refusal changes nothing
abbrev pub append_area : List ℕ → Outcome Left → List ℕ
append_area area o = kept area (λ w. w.area) o

-- the answer to an append of n payload bytes, by what was decided
abbrev pub advanced_by : Log → ℕ → Outcome Place → AppendAnswer
advanced_by l n o = either (refused_append l) (λ s. record { refusal = 0; id = l.end + 1; log = log_of (with_record (view_of l) n) }) o

-- over an area of `bytes` bytes: no byte of area or payload is needed
abbrev pub advanced_of : Log → (bytes n : ℕ) → AppendAnswer
advanced_of l bytes n = advanced_by l n (decide_log l bytes n)

-- ---- as the code holds the log

-- the answer with a record at s, where the target is `size` bytes long then
abbrev pub grown_answer : Log → Place → ℕ → Appended
grown_answer l s size = record {
  id = l.end + 1;
  log = record {
    k = l.k;
    c = l.c;
    m = l.m;
    start = pick (l.count == 0) (l.end + 1) l.start;
    end = l.end + 1;
    count = s.at + 1;
    segs = slice_set l.segs s.at (ended_at s.target (l.end + 1) s.target.size size);
  };
}

-- what that asks: there is a next id, and s is one of the 64 entries
pub record GrownPre (l : Log) (s : Place) : Type 0 where
  pub more : l.end ≡ 18446744073709551615 → ⊥
  pub entry : s.at < 64
