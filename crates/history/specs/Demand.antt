-- Demand 3: run any appends and prunes, refused ones too, from a new log; let appends follow; recovering s..e, inside the live range
-- of the earlier moment, from the later log's own images delivers the payloads last appended under s to e, each once, in order, and
-- the log that pruning would have left at the earlier moment. The proof: proofs/Theorem.antt. Assumes nothing.
use Rattle.std.specs.Prelude.{◌≡◌, List, [], ◌∷◌, ℕ, ◌+◌, ◌-◌, ◌*◌, ◌≤◌, ◌<◌, length, get_or, take, drop}
pub use Rattle.lists.specs.AnyOrder.{AnyOrder}
use Rattle.segment.specs.declared.Segment.{Segment}
use Rattle.seglog.specs.declared.Log.{Log}
use Rattle.seglog.specs.New.{new_of}
use Rattle.segment.specs.declared.ImageRow.{ImageRow}
use Rattle.recovery.specs.Recovery.{Recovery, recovery_of, recovery_answer, recovery_area, recovery_index}
use Rattle.payload.specs.Row.{row_question, payload_of}
use Rattle.history.specs.History.{Call, oldest, recent, Held, begun, step, run, refusal_of, appends, last_under}

-- ---- the image rows of a log

-- a segment's image row
abbrev pub row_for : Segment → ImageRow
row_for g = record { id = g.id; slot = g.slot; size = g.size }

-- the image rows of segments
abbrev pub rows_for : List Segment → List ImageRow
rows_for [] = []
rows_for (g ∷ gs) = row_for g ∷ rows_for gs

-- the listed segments of a log
abbrev pub listed : Log → List Segment
listed l = take l.count l.segs

-- ---- recovery from what is held

-- recovering s..e from rows over what is held, with its K, C and M, and an index
abbrev pub recovering : Held → List ImageRow → (s e : ℕ) → List ℕ → Recovery
recovering u rows s e index = recovery_of u.log.k u.log.c u.log.m u.area rows s e (length index)

-- word j of row i
abbrev pub row_word : List ℕ → ℕ → ℕ → ℕ
row_word index i j = get_or index (4 * i + j) 0

-- the number of the row question for row i of an index
abbrev pub question_at : Log → List ℕ → List ℕ → ℕ → ℕ
question_at l area index i = row_question l area (row_word index i 1) (row_word index i 2) (row_word index i 3)

-- the payload of row i of an index
abbrev pub payload_at : Log → List ℕ → List ℕ → ℕ → List ℕ
payload_at l area index i = payload_of l area (row_word index i 1) (row_word index i 2) (row_word index i 3)

-- how many ids there are from s to e
abbrev pub ids_in : ℕ → ℕ → ℕ
ids_in s e = e + 1 - s

-- the calls that prune oldest to s, then recent to e
abbrev pub prunes_to : ℕ → ℕ → List Call
prunes_to s e = oldest s ∷ recent e ∷ []

-- what recovering s..e from u comes to, u held after t by appends alone; f has what was last appended up to t; r is the outcome
pub record Delivers (t u : Held) (f : ℕ → List ℕ) (s e : ℕ) (index : List ℕ) (r : Recovery) : Type 0 where
  -- recovery accepts
  pub accepts : (recovery_answer r).refusal ≡ 0
  -- at the earlier moment, prune oldest to s is accepted
  pub oldest-accepts : refusal_of t (oldest s) ≡ 0
  -- and prune recent to e, after it, too
  pub recent-accepts : refusal_of (step t (oldest s)) (recent e) ≡ 0
  -- the log returned is the one that these two leave
  pub log-same : (recovery_answer r).log ≡ (run t (prunes_to s e)).log
  -- its live range is s..e
  pub live-start : (recovery_answer r).log.start ≡ s
  pub live_end : (recovery_answer r).log.end ≡ e
  -- there are e - s + 1 index rows
  pub row_count : (recovery_answer r).rows ≡ ids_in s e
  -- row i has the id s + i
  pub row-id : (i : ℕ) → i < ids_in s e → row_word (recovery_index index r) i 0 ≡ s + i
  -- the row question for it is good
  pub row-good : (i : ℕ) → i < ids_in s e → question_at (recovery_answer r).log (recovery_area u.area r) (recovery_index index r) i ≡ 0
  -- its payload is the one last appended under s + i
  pub row-payload : (i : ℕ) → i < ids_in s e
      → payload_at (recovery_answer r).log (recovery_area u.area r) (recovery_index index r) i ≡ f (s + i)
  -- the index keeps its length, and its later words stay
  pub index-length : length (recovery_index index r) ≡ length index
  pub later-words : drop (4 * ids_in s e) (recovery_index index r) ≡ drop (4 * ids_in s e) index
  -- no byte of the area changes
  pub area_same : recovery_area u.area r ≡ u.area

-- ---- demand 3

-- the earlier moment: any calls from a new log over an area of any content
abbrev pub earlier : (k c m : ℕ) → List ℕ → List Call → Held
earlier k c m area calls = run (begun k c m area) calls

-- the later moment: appends alone have followed
abbrev pub later : (k c m : ℕ) → List ℕ → List Call → List (List ℕ) → Held
later k c m area calls further = run (earlier k c m area calls) (appends further)

-- what the caller must do, all of it under the caller's hand
pub record Asked (k c m : ℕ) (area : List ℕ) (calls : List Call) (further : List (List ℕ)) (s e : ℕ)
    (rows : List ImageRow) (index : List ℕ) : Type 0 where
  -- a new log was accepted
  pub new : (new_of k c m (length area)).refusal ≡ 0
  -- s and e lie inside the live range of the earlier moment
  pub above : 0 < s
  pub order : s ≤ e
  pub from : (earlier k c m area calls).log.start ≤ s
  pub to : e ≤ (earlier k c m area calls).log.end
  -- the rows are those of the later log's images, in any order
  pub own-rows : AnyOrder rows (rows_for (listed (later k c m area calls further).log))
  -- the index has room for a row an id
  pub room : 4 * ids_in s e ≤ length index

-- demand 3: recovery delivers
abbrev pub Demand3 : Type 0
Demand3 =
    (k c m : ℕ) (area : List ℕ) (calls : List Call) (further : List (List ℕ)) (s e : ℕ) (rows : List ImageRow) (index : List ℕ)
    → Asked k c m area calls further s e rows index
    → Delivers (earlier k c m area calls) (later k c m area calls further) (last_under (begun k c m area) calls) s e index
    (recovering (later k c m area calls further) rows s e index)
