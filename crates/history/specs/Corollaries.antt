-- What follows from demand 3 and from the invariant, said on its own: the later data changes nothing; recovering the whole live range
-- gives back the log; a refused call does not matter; recovering twice gives the same; the two prunes of demand 3 may be made in either
-- order. Assumes nothing.
use Rattle.std.specs.Prelude.{◌≡◌, List, [], ◌∷◌, ◌++◌, ℕ, ◌*◌, ◌≤◌, ◌<◌, length, eqb}
use Rattle.lists.specs.Choice.{pick}
use Rattle.seglog.specs.declared.Log.{Log}
use Rattle.seglog.specs.New.{new_of}
use Rattle.segment.specs.declared.ImageRow.{ImageRow}
use Rattle.recovery.specs.Recovery.{Recovery, recovery_answer, recovery_area, recovery_index}
use Rattle.history.specs.History.{Call, oldest, recent, Held, step, refusal_of, run, told}
use Rattle.history.specs.Demand.{AnyOrder, rows_for, listed, recovering, ids_in, prunes_to, question_at, payload_at, earlier, later, Asked}

-- ---- the later data changes nothing

-- r, from what is held later (u), is what r₀ was, from what was held earlier (t)
pub record SameAsEarlier (t u : Held) (s e : ℕ) (index : List ℕ) (r₀ r : Recovery) : Type 0 where
  -- the same answer: no refusal, the same number of rows, the same log
  pub answer-same : recovery_answer r ≡ recovery_answer r₀
  -- the same words in the index
  pub index_same : recovery_index index r ≡ recovery_index index r₀
  -- the same answer to each row question
  pub question-same : (i : ℕ) → i < ids_in s e
      → question_at (recovery_answer r).log (recovery_area u.area r) (recovery_index index r) i
      ≡ question_at (recovery_answer r₀).log (recovery_area t.area r₀) (recovery_index index r₀) i
  -- the same payloads
  pub payload_same : (i : ℕ) → i < ids_in s e
      → payload_at (recovery_answer r).log (recovery_area u.area r) (recovery_index index r) i
      ≡ payload_at (recovery_answer r₀).log (recovery_area t.area r₀) (recovery_index index r₀) i

-- "the later data changes nothing": recovery after further appends is what it would have been before them
abbrev pub LaterChangesNothing : Type 0
LaterChangesNothing =
    (k c m : ℕ) (area : List ℕ) (calls : List Call) (further : List (List ℕ)) (s e : ℕ) (rows : List ImageRow) (index : List ℕ)
    → Asked k c m area calls further s e rows index
    → (rows₀ : List ImageRow) → AnyOrder rows₀ (rows_for (listed (earlier k c m area calls).log))
    → SameAsEarlier (earlier k c m area calls) (later k c m area calls further) s e index
    (recovering (earlier k c m area calls) rows₀ s e index) (recovering (later k c m area calls further) rows s e index)

-- ---- the whole live range

-- how many ids are live: none where the range is (0, 0)
abbrev pub live_count : Log → ℕ
live_count l = pick (eqb l.end 0) 0 (ids_in l.start l.end)

-- recovering the whole live range, the empty one too, from a log's own images gives back the log itself
abbrev pub WholeRangeGivesTheLog : Type 0
WholeRangeGivesTheLog =
    (k c m : ℕ) (area : List ℕ) (calls : List Call) → (new_of k c m (length area)).refusal ≡ 0 → (t : Held) → t ≡ earlier k c m area calls
    → (rows : List ImageRow) → AnyOrder rows (rows_for (listed t.log)) → (index : List ℕ) → 4 * live_count t.log ≤ length index
    → recovery_answer (recovering t rows t.log.start t.log.end index)
    ≡ record { refusal = 0; rows = live_count t.log; log = t.log }

-- ---- a refused call

-- a refused call does not matter: without it the run ends in the same log and area, and the history is the same
abbrev pub RefusedCallsDoNotMatter : Type 0
RefusedCallsDoNotMatter =
    (t : Held) (f : ℕ → List ℕ) (before : List Call) (call : Call) (after : List Call) → (refusal_of (run t before) call ≡ 0 → ⊥)
    → (run t (before ++ (call ∷ after)) ≡ run t (before ++ after)) × (told f t (before ++ (call ∷ after)) ≡ told f t (before ++ after))

-- ---- twice

-- what is held after an accepted recovery
abbrev pub after_recovery : Held → Recovery → Held
after_recovery u r = record { log = (recovery_answer r).log; area = recovery_area u.area r }

-- r₂ gives again what r gave, from what r left
pub record SameTwice (u : Held) (index : List ℕ) (r r₂ : Recovery) : Type 0 where
  -- the same answer: the same number of rows, the same log
  pub again-answer : recovery_answer r₂ ≡ recovery_answer r
  -- the index stays as it is
  pub again-index : recovery_index (recovery_index index r) r₂ ≡ recovery_index index r
  -- so does the area
  pub again-area : recovery_area (recovery_area u.area r) r₂ ≡ recovery_area u.area r

-- recovering s..e a second time from the same rows, over the area and the index that the first time left, gives the same
abbrev pub RecoveringTwice : Type 0
RecoveringTwice =
    (k c m : ℕ) (area : List ℕ) (calls : List Call) (further : List (List ℕ)) (s e : ℕ) (rows : List ImageRow) (index : List ℕ)
    → Asked k c m area calls further s e rows index → (u : Held) → u ≡ later k c m area calls further
    → (r : Recovery) → r ≡ recovering u rows s e index
    → SameTwice u index r (recovering (record { log = u.log; area = recovery_area u.area r }) rows s e (recovery_index index r))

-- so does recovering s..e from the log that the first time returned, by its own image rows
abbrev pub RecoveringTheRecovered : Type 0
RecoveringTheRecovered =
    (k c m : ℕ) (area : List ℕ) (calls : List Call) (further : List (List ℕ)) (s e : ℕ) (rows : List ImageRow) (index : List ℕ)
    → Asked k c m area calls further s e rows index → (u : Held) → u ≡ later k c m area calls further
    → (r : Recovery) → r ≡ recovering u rows s e index
    → (rows' : List ImageRow) → AnyOrder rows' (rows_for (listed (after_recovery u r).log))
    → SameTwice u index r (recovering (after_recovery u r) rows' s e (recovery_index index r))

-- ---- the order of the two prunes

-- inside the live range, prune recent to e and then oldest to s leave what prune oldest to s and then recent to e leave
abbrev pub PrunesInEitherOrder : Type 0
PrunesInEitherOrder =
    (k c m : ℕ) (area : List ℕ) (calls : List Call) → (new_of k c m (length area)).refusal ≡ 0 → (t : Held) → t ≡ earlier k c m area calls
    → (s e : ℕ) → 0 < s → s ≤ e → t.log.start ≤ s → e ≤ t.log.end → run t (recent e ∷ oldest s ∷ []) ≡ run t (prunes_to s e)

-- where e lies before s the order tells: prune oldest to s is carried out, and prune recent to e after it is refused with 9
pub record SecondRefused (t : Held) (s e : ℕ) : Type 0 where
  pub first-accepts : refusal_of t (oldest s) ≡ 0
  pub second-refuses : refusal_of (step t (oldest s)) (recent e) ≡ 9
  pub as-the-first-left-it : run t (prunes_to s e) ≡ step t (oldest s)

-- so it is after any calls from a new log, for s and e inside the live range
abbrev pub EndsCrossed : Type 0
EndsCrossed =
    (k c m : ℕ) (area : List ℕ) (calls : List Call) → (new_of k c m (length area)).refusal ≡ 0 → (t : Held) → t ≡ earlier k c m area calls
    → (s e : ℕ) → t.log.start ≤ e → e < s → s ≤ t.log.end → 0 < e → SecondRefused t s e
