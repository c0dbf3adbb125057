-- The statements of this crate that docs/PROMISES.md cites, each of every accepted recovery, whatever bytes the images hold; that recovery
-- depends on the headers walked alone: specs/Depend.antt. Proofs: proofs/Recovery.antt, proofs/RecoveryWhole.antt. Assumes nothing.
use Rattle.std.specs.Prelude.{◌≡◌, true, List, [], ℕ, ◌+◌, ◌*◌, ◌≤◌, length, drop}
use Rattle.lists.specs.Splice.{part, slot_of}
use Rattle.segment.specs.declared.Segment.{Segment}
use Rattle.segment.specs.declared.ImageRow.{ImageRow}
use Rattle.image_rows.specs.ImageRows.{sort_rows}
use Rattle.recovery_walk.specs.Rows.{Pen, pen_of}
use Rattle.recovery_walk.specs.Scan.{live_count}
use Rattle.recovery_walk.specs.Whole.{WholeImages}
use Rattle.seglog.specs.View.{View, empty_of, head_of, front_of}
use Rattle.seglog.specs.Fit.{fits_of}
use Rattle.recovery.specs.Keeping.{kept_of}
use Rattle.recovery.specs.Recovery.{recovered, recovery_of, closed_of}
use Rattle.recovery.specs.Depend.{walks}

-- every accepted log is well shaped, and the area has K x C bytes
abbrev pub RecoveredFits : Type 0
RecoveredFits =
    (k c m : ℕ) (area : List ℕ) (rows : List ImageRow) (s e room : ℕ) (a : View) (area' words : List ℕ)
    → recovery_of k c m area rows s e room ≡ recovered a area' words → fits_of a area' ≡ true

-- area' is the area but for the bytes from `size` to `x` in one slot of c bytes
pub record Framed (c : ℕ) (area area' : List ℕ) (slot size x : ℕ) : Type 0 where
  pub long : length area' ≡ length area
  pub others : (j : ℕ) → (slot ≡ j → ⊥) → slot_of c j area' ≡ slot_of c j area
  pub before : (i n : ℕ) → i + n ≤ slot * c + size → part i n area' ≡ part i n area
  pub behind : (i : ℕ) → slot * c + size ≤ i → slot * c + x ≤ i → drop i area' ≡ drop i area

-- the head's slot, the size of its image, and the padded end of e, which is the head's size afterwards
pub record Padding (c : ℕ) (area : List ℕ) (a : View) (area' : List ℕ) : Type 0 where
  pub slot : ℕ
  pub size : ℕ
  pub framed : Framed c area area' slot size (head_of a.segs).size
  pub head : (head_of a.segs).slot ≡ slot

-- no byte changes but those of the head's missing padding
abbrev pub RecoveredFrame : Type 0
RecoveredFrame =
    (k c m : ℕ) (area : List ℕ) (rows : List ImageRow) (s e room : ℕ) (a : View) (area' words : List ℕ) → (s ≡ 0 → ⊥)
    → recovery_of k c m area rows s e room ≡ recovered a area' words → Padding c area a area'

-- for the range (0, 0) the log is the empty one, no byte changes and no index word is written
abbrev pub RecoveredEmpty : Type 0
RecoveredEmpty =
    (k c m : ℕ) (area : List ℕ) (rows : List ImageRow) (s e room : ℕ) (a : View) (area' words : List ℕ) → s ≡ 0
    → recovery_of k c m area rows s e room ≡ recovered a area' words → (a ≡ empty_of k c m) × (area' ≡ area) × (words ≡ [])

-- document 02's ask 1 changed no recovery that was accepted: where document 01's walk over whole images, to their ends, finds s and e and the
-- index has room, recovery accepts, and the log, the area and the index rows are those of that walk
abbrev pub AcceptedStays : Type 0
AcceptedStays =
    (k c m : ℕ) (area : List ℕ) (rows : List ImageRow) (s e room : ℕ) (z : Pen) (gs : List Segment) → walks k c m area rows s e ≡ true
    → WholeImages area c s e (sort_rows rows) pen_of z gs → z.scan.found_s ≡ true → z.scan.found_e ≡ true → 4 * live_count s e ≤ room
    → recovery_of k c m area rows s e room
    ≡ closed_of k c m area s e z.scan.start_of_e z.scan.end_of_e z.words (front_of (kept_of s e gs))
    (head_of (kept_of s e gs))
