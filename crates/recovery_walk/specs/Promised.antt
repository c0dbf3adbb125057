-- The statements of this crate that docs/PROMISES.md cites; proofs: proofs/ImagesBehind.antt, proofs/Headers.antt, proofs/RowsIds.antt.
-- Assumes nothing.
use Rattle.std.specs.Prelude.{◌≡◌, ◌⊎◌, List, ◌∷◌, ◌++◌, true, false, ℕ, ◌+◌, ◌≤◌, ◌<◌, length}
use Rattle.lists.specs.Outcome.{refused}
use Rattle.lists.specs.Splice.{splice}
use Rattle.refusal.specs.declared.Refusal.{Refusal}
use Rattle.refusal.specs.Refusals.{number}
use Rattle.segment.specs.declared.Segment.{Segment}
use Rattle.segment.specs.declared.ImageRow.{ImageRow}
use Rattle.walk.specs.declared.Scan.{Scan}
use Rattle.walk.specs.Judging.{start_of}
use Rattle.walk.specs.Walk.{faulted}
use Rattle.recovery_walk.specs.Images.{image_walk, walked, images}
use Rattle.recovery_walk.specs.Rows.{rows_all, pen_of, RowIds}
use Rattle.recovery_walk.specs.Scan.{live_count, scan_of, index_of}
use Rattle.recovery_walk.specs.Headers.{EachWalked, SameHeader}

-- where a fault of the walk stands: the images in front of its image are good, and at the state there e's record is not read yet
pub record FaultUpToE (area : List ℕ) (c s e : ℕ) (rows : List ImageRow) (w : Scan) (n : ℕ) : Type 0 where
  pub front : List ImageRow
  pub at : ImageRow
  pub later : List ImageRow
  pub split : rows ≡ front ++ (at ∷ later)
  pub before : Scan
  pub segs : List Segment
  pub good : images area c s e front w ≡ walked before segs
  pub there : Scan
  pub why : Refusal
  pub fault : image_walk area c s e at before ≡ faulted why there
  pub told : number why ≡ n
  pub unread : there.found_e ≡ false

-- "Refusals 16 to 20 speak only of what stands up to e": where the walk is refused, the fault stands before e's record
abbrev pub RefusedUpToE : Type 0
RefusedUpToE =
    (area : List ℕ) (c s e : ℕ) (rows : List ImageRow) (w : Scan) (n : ℕ) → images area c s e rows w ≡ refused n
    → FaultUpToE area c s e rows w n

-- what the scans of two areas agree in: the outcome, and what any index is afterwards
pub record ScansAgree (area area' : List ℕ) (c s e : ℕ) (rows : List ImageRow) (words : ℕ) : Type 0 where
  pub outcome : scan_of area c s e rows words ≡ scan_of area' c s e rows words
  pub index : (l : List ℕ) → index_of (rows_all area c s e rows pen_of) (scan_of area c s e rows words) l
      ≡ index_of (rows_all area' c s e rows pen_of) (scan_of area' c s e rows words) l

-- two areas of one length, with the same bytes in every header walked, are scanned alike, whatever else they hold
abbrev pub ScanDepends : Type 0
ScanDepends =
    (area area' : List ℕ) (c s e : ℕ) → length area ≡ length area' → (rows : List ImageRow) (words : ℕ)
    → EachWalked (SameHeader area area') area c s e rows start_of → ScansAgree area area' c s e rows words

-- any bytes written over the area outside every header walked, as over payloads and padding, change neither answer nor rows
abbrev pub PayloadUnread : Type 0
PayloadUnread =
    (area : List ℕ) (c s e : ℕ) (rows : List ImageRow) (words at : ℕ) (xs : List ℕ)
    → EachWalked (λ p. (p + 12 ≤ at) ⊎ (at + length xs ≤ p)) area c s e rows start_of → ScansAgree area (splice at xs area) c s e rows words

-- an accepted scan has exactly the rows of s..e, in order
abbrev pub ScanRows : Type 0
ScanRows =
    (area : List ℕ) (c s e : ℕ) (rows : List ImageRow) (d : Scan) (gs : List Segment) → 0 < s
    → images area c s e rows start_of ≡ walked d gs → d.found_s ≡ true → d.found_e ≡ true
    → RowIds s (live_count s e) (rows_all area c s e rows pen_of)
