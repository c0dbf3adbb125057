-- What a scan of the sorted rows' images comes to: 16 to 20 from the walk, then 21, 22 and 23; and the index afterwards.
-- Assumes nothing.
use Rattle.std.specs.Prelude.{◌≡◌, List, [], ◌∷◌, ◌++◌, not, ℕ, ◌+◌, ◌-◌, ◌*◌, ◌≤◌, ◌<◌, length, drop, replicate, ltb, Result, Ok, Err}
use Rattle.lists.specs.Choice.{◌⇒◌, first}
use Rattle.lists.specs.Outcome.{Outcome, refused, done, either, kept}
use Rattle.refusal.specs.declared.Refusal.{Refusal}
use Rattle.refusal.specs.Refusals.{number, outcome}
use Rattle.segment.specs.Segment.{no_segment}
use Rattle.segment.specs.declared.Segment.{Segment}
use Rattle.segment.specs.declared.ImageRow.{ImageRow}
use Rattle.walk.specs.declared.Scan.{Scan}
use Rattle.walk.specs.Judging.{start_of}
use Rattle.recovery_walk.specs.declared.Scanned.{Scanned}
use Rattle.recovery_walk.specs.Images.{Found, images}
use Rattle.recovery_walk.specs.Rows.{rows_all, pen_of}

-- the live records are s to e
abbrev pub live_count : ℕ → ℕ → ℕ
live_count s e = e + 1 - s

-- 21: s not found; 22: e not found; 23: fewer than 4 index words for each live record
abbrev pub judged_as : (s e words : ℕ) → Found → Outcome Found
judged_as s e words a =
    first
    ((not a.0.found_s ⇒ refused 21)
    ∷ (not a.0.found_e ⇒ refused 22)
    ∷ (ltb words (4 * live_count s e) ⇒ refused 23)
    ∷ [])
    (done a)

-- after the walk's own faults
unfoldable pub judged : (s e words : ℕ) → Outcome Found → Outcome Found
judged s e words o = either refused (judged_as s e words) o

-- the scan of the rows' images, with an index of `words` words
unfoldable pub scan_of : List ℕ → (c s e : ℕ) → List ImageRow → ℕ → Outcome Found
scan_of area c s e rows words = judged s e words (images area c s e rows start_of)

-- what was found, as the code holds it: the entries behind the segments are zero
abbrev pub entries_of : Found → Scanned
entries_of a = record { scan = a.0; segs = a.1 ++ replicate (64 - length a.1) no_segment }

-- the code's answer
abbrev pub scanned_of : Outcome Found → Outcome Scanned
scanned_of o = either refused (λ a. done (entries_of a)) o

-- the first pass's answer, with what the entries hold
abbrev pub seen_in : List Segment → Result Scan Refusal → Outcome Scanned
seen_in gs (Ok w) = done (record { scan = w; segs = gs })
seen_in gs (Err r) = refused (number r)

-- the index afterwards: untouched by a refusal; else the words, and "later words of the index keep their content"
unfoldable pub index_of : List ℕ → Outcome Found → List ℕ → List ℕ
index_of ws o index = kept index (λ _. ws ++ drop (length ws) index) o

-- what a scan asks besides what the walk does: a range of one record or more
pub record RangePre (s e : ℕ) : Type 0 where
  pub some : 0 < s
  pub order : s ≤ e

-- what a scan of the rows ensures: the answer and every word of the index
pub record ScanDid (area : List ℕ) (c s e : ℕ) (rows : List ImageRow) (index index' : List ℕ) (r : Result Scanned Refusal) : Type 0 where
  pub answer : outcome r ≡ scanned_of (scan_of area c s e rows (length index))
  pub words : index' ≡ index_of (rows_all area c s e rows pen_of) (scan_of area c s e rows (length index)) index
