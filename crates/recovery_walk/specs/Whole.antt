-- Document 01's walk before document 02's ask 1: over whole images to their ends, wherever e's record stands. It is kept to say that what it
-- accepted is accepted still, with the same outcome (recovery's `AcceptedStays`). Assumes nothing.
use Rattle.std.specs.Prelude.{◌≡◌, List, [], ◌∷◌, false, ◌&&◌, ℕ, ◌≤◌, ◌<◌, length, ltb, Ok}
use Rattle.segment.specs.declared.Segment.{Segment}
use Rattle.segment.specs.declared.ImageRow.{ImageRow}
use Rattle.segment.specs.Segment.{image_of}
use Rattle.walk.specs.declared.Scan.{Scan}
use Rattle.walk.specs.Judging.{record_step, opened_of}
use Rattle.recovery_walk.specs.Images.{filled_of}
use Rattle.recovery_walk.specs.Rows.{Pen, pen_with, moved_of}

-- the records of an image, from a state and words on to the image's end, are good, and lead to a state and words
pub data WholeImage (img : List ℕ) (slot s e : ℕ) : Pen → Pen → Type 0 where
  -- the image has ended
  whole-end : {v : Pen} → length img ≤ v.scan.pos → WholeImage img slot s e v v
  -- a good record, and those behind it
  whole-more : {v z : Pen} {d : Scan} → v.scan.pos < length img → record_step img s e v.scan ≡ Ok d
      → WholeImage img slot s e (moved_of slot s e v d) z → WholeImage img slot s e v z

-- the images of rows are good to their ends, and lead to a state, words and segments
pub data WholeImages (area : List ℕ) (c s e : ℕ) : List ImageRow → Pen → Pen → List Segment → Type 0 where
  -- no image is left
  whole-none : {v : Pen} → WholeImages area c s e [] v v []
  -- an image, not of size above 0 directly after one of size 0, and those behind it
  whole-image : {r : ImageRow} {rs : List ImageRow} {v m z : Pen} {gs : List Segment} → v.scan.gap && ltb 0 r.size ≡ false
      → WholeImage (image_of area c r) r.slot s e (pen_with v.words (opened_of v.scan r.size)) m
      → WholeImages area c s e rs m z gs → WholeImages area c s e (r ∷ rs) v z (filled_of r m.scan ∷ gs)
