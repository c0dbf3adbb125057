-- Relocation: recovery depends on the images and not on where they lie. Two runs over the same images, in whatever slots of whatever
-- areas, refuse alike or recover alike: the logs and the index rows differ in slots, K, C and M alone, and the payloads are the same.
-- And so demand 3 holds of images that were read back into any slots of any area that holds them.
-- The proofs: proofs/Relocation.antt, proofs/RelocationDemand.antt. Assumes nothing.
use Rattle.std.specs.Prelude.{◌≡◌, true, List, [], ◌∷◌, map, ℕ, ◌+◌, ◌*◌, ◌≤◌, ◌<◌, length, drop}
use Rattle.segment.specs.declared.Segment.{Segment}
use Rattle.segment.specs.declared.ImageRow.{ImageRow}
use Rattle.segment.specs.Segment.{image_of}
use Rattle.seglog.specs.declared.Log.{Log}
use Rattle.seglog.specs.New.{new_of, roomy_of}
use Rattle.image_rows.specs.ImageRows.{sort_rows, rows_fit}
use Rattle.recovery.specs.Recovery.{Recovery, recovery_of, recovery_answer, recovery_area, recovery_index}
use Rattle.history.specs.History.{Call, Held, begun, run, last_under}
use Rattle.history.specs.Demand.{rows_for, listed, row_word, question_at, payload_at, ids_in, prunes_to, earlier, later}

-- ---- images, wherever they lie

-- a segment image by itself: its segment's id, its size, its bytes
pub record Image : Type 0 where
  pub id : ℕ
  pub size : ℕ
  pub bytes : List ℕ

-- the images of rows over an area with slots of c bytes
abbrev pub images_of : List ℕ → ℕ → List ImageRow → List Image
images_of area c [] = []
images_of area c (r ∷ rs) = record { id = r.id; size = r.size; bytes = image_of area c r } ∷ images_of area c rs

-- a segment without its slot
abbrev pub placeless : Segment → Segment
placeless g = record { id = g.id; slot = 0; size = g.size; min = g.min; max = g.max; newest_at = g.newest_at }

-- a log without K, C, M and its segments' slots
abbrev pub placeless_log : Log → Log
placeless_log l = record { k = 0; c = 0; m = 0; start = l.start; end = l.end; count = l.count; segs = map placeless l.segs }

-- ---- two runs over the same images

-- both runs pass 1 and 13, and their rows, sorted, have the same ids, sizes and bytes
pub record SameImages (k c m : ℕ) (area : List ℕ) (rows : List ImageRow) (k' c' m' : ℕ) (area' : List ℕ) (rows' : List ImageRow)
    : Type 0 where
  pub roomy : roomy_of k c m (length area) ≡ true
  pub roomy' : roomy_of k' c' m' (length area') ≡ true
  pub fit : rows_fit k c rows ≡ true
  pub fit' : rows_fit k' c' rows' ≡ true
  pub images : images_of area c (sort_rows rows) ≡ images_of area' c' (sort_rows rows')

-- row i of two indexes differs in the slot alone
pub record SameRow (index index' : List ℕ) (i : ℕ) : Type 0 where
  pub id : row_word index i 0 ≡ row_word index' i 0
  pub offset : row_word index i 2 ≡ row_word index' i 2
  pub length : row_word index i 3 ≡ row_word index' i 3

-- r over one area and r' over another tell the same
pub record SameElsewhere (area index : List ℕ) (r : Recovery) (area' index' : List ℕ) (r' : Recovery) : Type 0 where
  -- the same refusal, or none
  pub refusal-same : (recovery_answer r).refusal ≡ (recovery_answer r').refusal
  -- as many index rows
  pub count_same : (recovery_answer r).rows ≡ (recovery_answer r').rows
  -- logs that differ in K, C, M and slots alone
  pub log-same : placeless_log (recovery_answer r).log ≡ placeless_log (recovery_answer r').log
  -- index rows that differ in slots alone
  pub row_same : (i : ℕ) → i < (recovery_answer r).rows → SameRow (recovery_index index r) (recovery_index index' r') i
  -- the same answer to each row question
  pub question-same : (i : ℕ) → i < (recovery_answer r).rows
      → question_at (recovery_answer r).log (recovery_area area r) (recovery_index index r) i
      ≡ question_at (recovery_answer r').log (recovery_area area' r') (recovery_index index' r') i
  -- the same payloads
  pub payload_same : (i : ℕ) → i < (recovery_answer r).rows
      → payload_at (recovery_answer r).log (recovery_area area r) (recovery_index index r) i
      ≡ payload_at (recovery_answer r').log (recovery_area area' r') (recovery_index index' r') i

-- recovery depends on the images and not on where they lie
abbrev pub Relocation : Type 0
Relocation =
    (k c m : ℕ) (area : List ℕ) (rows : List ImageRow) (k' c' m' : ℕ) (area' : List ℕ) (rows' : List ImageRow)
    → SameImages k c m area rows k' c' m' area' rows' → (s e : ℕ) (index index' : List ℕ) → length index ≡ length index'
    → SameElsewhere area index (recovery_of k c m area rows s e (length index)) area' index'
    (recovery_of k' c' m' area' rows' s e (length index'))

-- ---- demand 3 for images that were read back

-- what the caller must do: as demand 3, with the later log's images, read back into any slots of any area that holds them
pub record ReadBack (k c m : ℕ) (area : List ℕ) (calls : List Call) (further : List (List ℕ)) (s e : ℕ)
    (k' c' m' : ℕ) (area' : List ℕ) (rows : List ImageRow) (index : List ℕ) : Type 0 where
  -- a new log was accepted
  pub new : (new_of k c m (length area)).refusal ≡ 0
  -- s and e lie inside the live range of the earlier moment
  pub above : 0 < s
  pub order : s ≤ e
  pub from : (earlier k c m area calls).log.start ≤ s
  pub to : e ≤ (earlier k c m area calls).log.end
  -- the other area has K' slots of C' bytes, and the rows pass 13
  pub roomy : roomy_of k' c' m' (length area') ≡ true
  pub fit : rows_fit k' c' rows ≡ true
  -- the rows, in any order, are of the later log's images
  pub images : images_of area' c' (sort_rows rows)
      ≡ images_of (later k c m area calls further).area (later k c m area calls further).log.c
      (rows_for (listed (later k c m area calls further).log))
  -- the index has room for a row an id
  pub room : 4 * ids_in s e ≤ length index

-- what recovering s..e from the other area comes to, against what was held at the earlier moment (t); f has what was last appended
pub record DeliversElsewhere (t : Held) (f : ℕ → List ℕ) (s e : ℕ) (area index : List ℕ) (r : Recovery) : Type 0 where
  -- recovery accepts
  pub accepts : (recovery_answer r).refusal ≡ 0
  -- the log is the one that the two prunes leave, but for K, C, M and slots
  pub log-same : placeless_log (recovery_answer r).log ≡ placeless_log (run t (prunes_to s e)).log
  -- its live range is s..e
  pub live-start : (recovery_answer r).log.start ≡ s
  pub live_end : (recovery_answer r).log.end ≡ e
  -- there are e - s + 1 index rows
  pub row_count : (recovery_answer r).rows ≡ ids_in s e
  -- row i has the id s + i
  pub row-id : (i : ℕ) → i < ids_in s e → row_word (recovery_index index r) i 0 ≡ s + i
  -- the row question for it is good
  pub row-good : (i : ℕ) → i < ids_in s e → question_at (recovery_answer r).log (recovery_area area r) (recovery_index index r) i ≡ 0
  -- its payload is the one last appended under s + i
  pub row-payload : (i : ℕ) → i < ids_in s e
      → payload_at (recovery_answer r).log (recovery_area area r) (recovery_index index r) i ≡ f (s + i)
  -- the index keeps its length, and its later words stay
  pub index-length : length (recovery_index index r) ≡ length index
  pub later-words : drop (4 * ids_in s e) (recovery_index index r) ≡ drop (4 * ids_in s e) index
  -- no byte of the area changes
  pub area_same : recovery_area area r ≡ area

-- demand 3 for images that were read back: recovery delivers
abbrev pub Demand3Elsewhere : Type 0
Demand3Elsewhere =
    (k c m : ℕ) (area : List ℕ) (calls : List Call) (further : List (List ℕ)) (s e : ℕ) (k' c' m' : ℕ) (area' : List ℕ)
    (rows : List ImageRow) (index : List ℕ)
    → ReadBack k c m area calls further s e k' c' m' area' rows index
    → DeliversElsewhere (earlier k c m area calls) (last_under (begun k c m area) calls) s e area' index
    (recovery_of k' c' m' area' rows s e (length index))
