-- Recovery, as document 01 says it: 1, 11 to 15, the scan (16 to 23), and what an accepted scan leaves. Assumes nothing.
use Rattle.std.specs.Prelude.{◌≡◌, List, [], ◌∷◌, ◌++◌, Bool, true, false, ◌&&◌, ◌||◌, not, ℕ, ◌/◌, ◌≤◌, length, drop, ltb, eqb, Result, Ok, Err}
use Rattle.lists.specs.Choice.{◌⇒◌, first}
use Rattle.lists.specs.Outcome.{Outcome, refused, done, either, kept}
use Rattle.refusal.specs.declared.Refusal.{Refusal}
use Rattle.refusal.specs.Refusals.{number}
use Rattle.segment.specs.declared.Segment.{Segment}
use Rattle.segment.specs.Segment.{ended_at, padded_to}
use Rattle.seglog.specs.declared.Log.{Log}
use Rattle.seglog.specs.View.{View, empty_of, log_of, zero_log, head_of, front_of}
use Rattle.seglog.specs.New.{roomy_of}
use Rattle.segment.specs.declared.ImageRow.{ImageRow}
use Rattle.recovery_walk.specs.Images.{Found}
use Rattle.recovery_walk.specs.Rows.{rows_all, pen_of}
use Rattle.recovery_walk.specs.Scan.{scan_of}
use Rattle.recovery.specs.declared.Recovered.{Recovered}
use Rattle.image_rows.specs.ImageRows.{sort_rows, rows_inside, rows_fit, lowest_zero, one_apart}
use Rattle.recovery.specs.Keeping.{kept_of}

-- what a recovery leaves: the log, the area and the words that the index begins with
pub record Restored : Type 0 where
  pub log : View
  pub area : List ℕ
  pub words : List ℕ

-- a refusal's number, or what is left
abbrev pub Recovery : Type 0
Recovery = Outcome Restored

-- a recovery that is accepted, with what it leaves
abbrev pub recovered : View → (area words : List ℕ) → Recovery
recovered a area words = done (record { log = a; area = area; words = words })

-- ---- what an accepted scan leaves

-- the log with the head g after hs, closed at e, whose header starts at `at` and whose padded end is x
abbrev pub closed_of : (k c m : ℕ) → List ℕ → (s e at x : ℕ) → List ℕ → List Segment → Segment → Recovery
closed_of k c m area s e at x words hs g =
    recovered (record { k = k; c = c; m = m; start = s; end = e; segs = hs ++ (ended_at g e at x ∷ []) }) (padded_to c area g x) words

-- a scan's outcome: its fault, or the kept segments, closed at e
abbrev pub outcome_of : (k c m : ℕ) → List ℕ → (s e : ℕ) → List ImageRow → Outcome Found → Recovery
outcome_of k c m area s e rows o =
    either refused
    (λ a. closed_of k c m area s e a.0.start_of_e a.0.end_of_e (rows_all area c s e rows pen_of)
    (front_of (kept_of s e a.1)) (head_of (kept_of s e a.1))) o

-- the scan of the sorted rows and what it leaves; `room` is the index's length in words
abbrev pub scanned : (k c m : ℕ) → List ℕ → List ImageRow → (s e room : ℕ) → Recovery
scanned k c m area rows s e room = outcome_of k c m area s e rows (scan_of area c s e rows room)

-- ---- recovery

-- refusal 11: "exactly one of s, e is 0"
unfoldable pub one_zero : ℕ → ℕ → Bool
one_zero s e = (eqb s 0 && not (eqb e 0)) || (not (eqb s 0) && eqb e 0)

-- 1, 11 to 15, the empty log for the range (0, 0), else the scan of the sorted rows; `room` is the index's length in words
unfoldable pub recovery_of : (k c m : ℕ) → List ℕ → List ImageRow → (s e room : ℕ) → Recovery
recovery_of k c m area rows s e room =
    first
    ((not (roomy_of k c m (length area)) ⇒ refused 1)
    ∷ (one_zero s e ⇒ refused 11)
    ∷ (ltb e s ⇒ refused 12)
    ∷ (not (rows_fit k c rows) ⇒ refused 13)
    ∷ (lowest_zero (sort_rows rows) ⇒ refused 14)
    ∷ (not (one_apart (sort_rows rows)) ⇒ refused 15)
    ∷ (eqb s 0 ⇒ recovered (empty_of k c m) area [])
    ∷ [])
    (scanned k c m area (sort_rows rows) s e room)

-- ---- as the code answers

-- a refusal's number, or 0, with the number of index rows written and the log
pub record RecoveryAnswer : Type 0 where
  pub refusal : ℕ
  pub rows : ℕ
  pub log : Log

-- the answer: "it is the log given, else all zeros"; the number of index rows written
abbrev pub recovery_answer : Recovery → RecoveryAnswer
recovery_answer o =
    either (λ n. record { refusal = n; rows = 0; log = zero_log })
    (λ a. record { refusal = 0; rows = length a.words / 4; log = log_of a.log }) o

-- the code's answer: beside a refusal no row and the all-zero log
abbrev pub answered : Result Recovered Refusal → RecoveryAnswer
answered (Ok a) = record { refusal = 0; rows = a.rows; log = a.log }
answered (Err r) = record { refusal = number r; rows = 0; log = zero_log }

-- the area afterwards
abbrev pub recovery_area : List ℕ → Recovery → List ℕ
recovery_area area o = kept area (λ a. a.area) o

-- the index afterwards: "later words of the index keep their content"
abbrev pub recovery_index : List ℕ → Recovery → List ℕ
recovery_index index o = kept index (λ a. a.words ++ drop (length a.words) index) o

-- what the outcome o ensures: the answer, every byte of the area, every word of the index
pub record RecoveryDid (o : Recovery) (area index : List ℕ) (r : Result Recovered Refusal) (area' index' : List ℕ) : Type 0 where
  pub answer : answered r ≡ recovery_answer o
  pub bytes : area' ≡ recovery_area area o
  pub words : index' ≡ recovery_index index o

-- ---- the code's way to the scan

-- what the scan of sorted rows asks: 1 and 11 to 15 were not met, and the range is not (0, 0)
pub record ScanPre (k c m : ℕ) (area : List ℕ) (rows : List ImageRow) (s e : ℕ) : Type 0 where
  pub roomy : roomy_of k c m (length area) ≡ true
  pub order : s ≤ e
  pub some : s ≡ 0 → ⊥
  pub few : length rows ≤ 64
  pub inside : rows_inside k c rows ≡ true
  pub low : lowest_zero rows ≡ false
  pub apart : one_apart rows ≡ true
