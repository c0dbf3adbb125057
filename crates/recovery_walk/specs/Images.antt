-- The walk over the images in the order of their rows: "the first fault ends both the record walk and the image walk". Behind e's record it
-- reads nothing (walk's `goes_on`), and later rows give segments in which no record was seen. Laws: proofs/. Assumes nothing.
use Rattle.std.specs.Prelude.{List, [], ◌∷◌, ◌++◌, ℕ, ◌+◌, ◌*◌, ◌≤◌, ◌<◌, length, get_or, Result, Ok, Err}
use Rattle.lists.specs.Outcome.{Outcome, refused, done, either}
use Rattle.refusal.specs.declared.Refusal.{Refusal}
use Rattle.refusal.specs.Refusals.{number}
use Rattle.segment.specs.declared.Segment.{Segment}
use Rattle.segment.specs.declared.ImageRow.{ImageRow}
use Rattle.segment.specs.Segment.{no_row, image_of}
use Rattle.walk.specs.declared.Scan.{Scan}
use Rattle.walk.specs.declared.Fault.{Fault}
use Rattle.walk.specs.Judging.{next_image}
use Rattle.walk.specs.Walk.{faulted, walk_of}

-- ---- one image

-- the walk from an image's front on, or the fault that stands before it
abbrev pub entered : Scan → Result Scan Refusal → (Scan → Result Scan Fault) → Result Scan Fault
entered w (Ok d) k = k d
entered w (Err r) k = faulted r w

-- a row's image, slots of c bytes: "16 before an image's first header", else its records
unfoldable pub image_walk : List ℕ → (c s e : ℕ) → ImageRow → Scan → Result Scan Fault
image_walk area c s e r w = entered w (next_image w r.size) (walk_of (image_of area c r) s e)

-- ---- the images

-- what a walk finds: the last state, and the segments as they were seen
abbrev pub Found : Type 0
Found = Scan × List Segment

-- a walk that ended, with what it found
abbrev pub walked : Scan → List Segment → Outcome Found
walked w gs = done (w, gs)

-- a row's segment: "min and max are those seen", and the newest record starts where the last one seen does
abbrev pub filled_of : ImageRow → Scan → Segment
filled_of r w = record { id = r.id; slot = r.slot; size = r.size; min = w.min; max = w.max; newest_at = w.newest_at }

-- a fault ends the walk; else it goes on from the state
abbrev pub after : Result Scan Fault → (Scan → Outcome Found) → Outcome Found
after (Ok w) k = k w
after (Err f) k = refused (number f.refusal)

-- segments in front of an outcome's segments
abbrev pub behind : List Segment → Outcome Found → Outcome Found
behind gs o = either refused (λ a. walked a.0 (gs ++ a.1)) o

-- the images of the rows
unfoldable pub images : List ℕ → (c s e : ℕ) → List ImageRow → Scan → Outcome Found
images area c s e [] w = walked w []
images area c s e (r ∷ rs) w = after (image_walk area c s e r w) (λ d. behind (filled_of r d ∷ []) (images area c s e rs d))

-- ---- as the code holds the rows

-- the row at an index
abbrev pub row_at : List ImageRow → ℕ → ImageRow
row_at rs i = get_or rs i no_row

-- what the walk asks: 64 rows at most, and each one's image lies in the area
pub record WalkPre (area : List ℕ) (c : ℕ) (rs : List ImageRow) : Type 0 where
  pub few : length rs ≤ 64
  pub within : (i : ℕ) → i < length rs → (row_at rs i).slot * c + (row_at rs i).size ≤ length area
