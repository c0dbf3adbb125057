-- A row for each segment: the rows that the entries of a log give are the mapped list.
-- Assumes nothing.
use mathlib.Core.Path.{◌≡◌, sym, ◌∙◌}
use mathlib.Core.List.{List, map}
use Prim.Native.Nat.{ℕ, ◌<◌}
use native.Mathlib.Omega.{arith}
use lib.ListN.{length, get_or, length-map, get_or-map}
use lib.Seq.{ext_get_or}
use Rattle.segment.specs.declared.Segment.{Segment}
use Rattle.segment.specs.Segment.{no_segment, no_row}
use Rattle.segment.specs.declared.ImageRow.{ImageRow}
use Rattle.listing.specs.Images.{image_row_of}

-- rows that are those of the segments, one by one
pub mapped-whole : (segs : List Segment) (rows : List ImageRow) → length rows ≡ length segs
    → ((i : ℕ) → i < length segs → get_or rows i no_row ≡ image_row_of (get_or segs i no_segment)) → rows ≡ map image_row_of segs
mapped-whole segs rows long each =
    ext_get_or no_row rows (map image_row_of segs) (long ∙ sym (length-map segs image_row_of))
    (λ i l. each i (omega (arith, long)) ∙ sym (get_or-map image_row_of segs i no_segment))
