-- "The headers walked": which bytes of the area a scan reads, by the places in the area of the headers that the walk comes to; none is
-- behind e's record. proofs/Headers.antt shows that a scan depends on the twelve bytes at these places and on no other byte. Assumes nothing.
use Rattle.std.specs.Prelude.{◌≡◌, List, [], ◌∷◌, true, ℕ, ◌+◌, ◌*◌, length, Ok}
use Rattle.lists.specs.Splice.{part}
use Rattle.record.specs.Record.{header_at}
use Rattle.segment.specs.declared.ImageRow.{ImageRow}
use Rattle.segment.specs.Segment.{image_of}
use Rattle.walk.specs.declared.Scan.{Scan}
use Rattle.walk.specs.Judging.{gap_of, opened_of}
use Rattle.walk.specs.Headers.{EachHeader}
use Rattle.recovery_walk.specs.Images.{image_walk}

-- P holds of the place of each header that the walk of a row's image reads, from a state on; slots have c bytes
abbrev pub EachInRow : (ℕ → Type 0) → List ℕ → (c s e : ℕ) → ImageRow → Scan → Type 0
EachInRow P area c s e r w = EachHeader (λ p. P (r.slot * c + p)) (length (image_of area c r)) (header_at (image_of area c r)) s e w

-- P holds of the place of each header that the walk of the rows' images reads, from a state on
pub data EachWalked (P : ℕ → Type 0) (area : List ℕ) (c s e : ℕ) : List ImageRow → Scan → Type 0 where
  -- no image is left
  no-image : {w : Scan} → EachWalked P area c s e [] w
  -- 16 ends the walk before the image's first header
  gap-over : {r : ImageRow} {rs : List ImageRow} {w : Scan} → gap_of w r.size ≡ true → EachWalked P area c s e (r ∷ rs) w
  -- the headers of an image, and those of the images behind it where the walk goes on
  image-here : {r : ImageRow} {rs : List ImageRow} {w : Scan} → EachInRow P area c s e r (opened_of w r.size)
      → ((d : Scan) → image_walk area c s e r w ≡ Ok d → EachWalked P area c s e rs d)
      → EachWalked P area c s e (r ∷ rs) w

-- the twelve bytes at a place are the same in two areas
abbrev pub SameHeader : List ℕ → List ℕ → ℕ → Type 0
SameHeader area area' p = part p 12 area ≡ part p 12 area'
