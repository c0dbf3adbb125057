-- A segment and its image: the entry of no segment, the image as a part of the area, a segment that ends with a given record, and the
-- area with the padding that was missing there. Assumes nothing.
use Rattle.std.specs.Prelude.{List, ℕ, ◌+◌, ◌-◌, ◌*◌, replicate}
use Rattle.lists.specs.Splice.{part, splice}
use Rattle.segment.specs.declared.Segment.{Segment}
use Rattle.segment.specs.declared.ImageRow.{ImageRow}

-- the entry of no segment
abbrev pub no_segment : Segment
no_segment = record { id = 0; slot = 0; size = 0; min = 0; max = 0; newest_at = 0 }

-- the entry of no row
abbrev pub no_row : ImageRow
no_row = record { id = 0; slot = 0; size = 0 }

-- a segment's slot, the number that it has for its own
abbrev pub slot_number : Segment → ℕ
slot_number g = g.slot

-- an image: the first `size` bytes of its slot, slots of c bytes
abbrev pub image_at : List ℕ → (c slot size : ℕ) → List ℕ
image_at area c slot size = part (slot * c) size area

-- a segment's image
abbrev pub image_in : List ℕ → ℕ → Segment → List ℕ
image_in area c g = image_at area c g.slot g.size

-- a row's image
abbrev pub image_of : List ℕ → ℕ → ImageRow → List ℕ
image_of area c r = image_at area c r.slot r.size

-- g ends with the record n, whose header starts at `at` and whose padded end is x
abbrev pub ended_at : Segment → (n at x : ℕ) → Segment
ended_at g n at x = record { id = g.id; slot = g.slot; size = x; min = g.min; max = n; newest_at = at }

-- "A missing tail of padding is written as zeros": from the old size of g to its new one, x
abbrev pub padded_to : ℕ → List ℕ → Segment → ℕ → List ℕ
padded_to c area g x = splice (g.slot * c + g.size) (replicate (x - g.size) 0) area
