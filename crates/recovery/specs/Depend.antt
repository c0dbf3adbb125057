-- "Recovery's answer and rows depend only on K, C, M, the area's length, the image rows, s, e, the index length and the headers walked."
-- The headers walked are those up to e's record; and nothing behind it matters, the sizes of later images neither.
-- Proofs: proofs/Depend.antt, proofs/DependBehind.antt. Assumes nothing.
use Rattle.std.specs.Prelude.{◌≡◌, List, [], ◌∷◌, ◌++◌, Bool, true, false, ◌&&◌, not, ℕ, length, ltb, leb, eqb}
use Rattle.seglog.specs.New.{roomy_of}
use Rattle.segment.specs.declared.Segment.{Segment}
use Rattle.segment.specs.declared.ImageRow.{ImageRow}
use Rattle.walk.specs.declared.Scan.{Scan}
use Rattle.walk.specs.Judging.{goes_on, start_of}
use Rattle.recovery_walk.specs.Images.{walked, images}
use Rattle.recovery_walk.specs.Headers.{EachWalked, SameHeader}
use Rattle.image_rows.specs.ImageRows.{sort_rows, rows_fit, lowest_zero, one_apart}
use Rattle.recovery.specs.Recovery.{Recovery, one_zero, recovery_of, recovery_answer, recovery_index}

-- two outcomes have the same answer, and leave the same words in any index
pub record Agree (r r' : Recovery) : Type 0 where
  pub answer : recovery_answer r ≡ recovery_answer r'
  pub rows : (index : List ℕ) → recovery_index index r ≡ recovery_index index r'

-- whether images are walked at all: none of 1 and 11 to 15 is met, and the range is not (0, 0)
unfoldable pub walks : (k c m : ℕ) → List ℕ → List ImageRow → (s e : ℕ) → Bool
walks k c m area rows s e =
    roomy_of k c m (length area) && not (one_zero s e) && not (ltb e s) && rows_fit k c rows && not (lowest_zero (sort_rows rows))
    && one_apart (sort_rows rows) && not (eqb s 0)

-- two runs that agree on the area's length and, where images are walked, on the twelve bytes of each header walked agree in answer and
-- rows, whatever else the areas hold; where none is walked, the areas' bytes do not matter at all
abbrev pub DependsOnHeaders : Type 0
DependsOnHeaders =
    (k c m : ℕ) (area area' : List ℕ) (rows : List ImageRow) (s e room : ℕ) → length area ≡ length area'
    → (walks k c m area rows s e ≡ true → EachWalked (SameHeader area area') area c s e (sort_rows rows) start_of)
    → Agree (recovery_of k c m area rows s e room) (recovery_of k c m area' rows s e room)

-- ---- nothing behind e matters

-- two rows with one id and one slot, whose sizes are both at most C (else 13) or both not
pub record SameButSize (c : ℕ) (r r' : ImageRow) : Type 0 where
  pub id : r.id ≡ r'.id
  pub slot : r.slot ≡ r'.slot
  pub within : leb r.size c ≡ leb r'.size c

-- as many rows, each with its own
abbrev pub SameButSizes : ℕ → List ImageRow → List ImageRow → Type 0
SameButSizes c [] [] = Unit {0}
SameButSizes c [] (r' ∷ rs') = ⊥
SameButSizes c (r ∷ rs) [] = ⊥
SameButSizes c (r ∷ rs) (r' ∷ rs') = SameButSize c r r' × SameButSizes c rs rs'

-- two runs that agree up to e
pub record SameUpToE (c s e : ℕ) (area area' : List ℕ) (rows rows' : List ImageRow) : Type 0 where
  -- their sorted rows begin alike; behind that they agree in id and slot
  pub front : List ImageRow
  pub later : List ImageRow
  pub later' : List ImageRow
  pub sorted : sort_rows rows ≡ front ++ later
  pub sorted' : sort_rows rows' ≡ front ++ later'
  pub places : SameButSizes c later later'
  -- in the images of the first rows e's record is read
  pub last : Scan
  pub segs : List Segment
  pub walk : images area c s e front start_of ≡ walked last segs
  pub stops : goes_on last ≡ false
  -- and the areas have the same bytes in each header walked there
  pub headers : EachWalked (SameHeader area area') area c s e front start_of

-- then they agree in answer and rows, whatever else stands behind e
abbrev pub NothingBehind : Type 0
NothingBehind =
    (k c m : ℕ) (area area' : List ℕ) (rows rows' : List ImageRow) (s e room : ℕ) → length area ≡ length area'
    → SameUpToE c s e area area' rows rows' → Agree (recovery_of k c m area rows s e room) (recovery_of k c m area' rows' s e room)
