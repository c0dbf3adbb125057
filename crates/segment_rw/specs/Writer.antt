-- One record written to a segment's slot: which bytes of the area change, and the segment's size afterwards. Where the record does not
-- fit the slot, or the slot the area, nothing changes. Assumes nothing.
use Rattle.std.specs.Prelude.{◌≡◌, List, ◌++◌, Bool, ◌&&◌, ℕ, ◌+◌, ◌-◌, ◌*◌, ◌≤◌, length, replicate, leb}
use Rattle.lists.specs.Choice.{pick}
use Rattle.lists.specs.Splice.{splice}
use Rattle.little_endian.specs.LittleEndian.{le_bytes}
use Rattle.record.specs.Record.{max_payload}
use Rattle.segment.specs.Cut.{inside_of}
use Rattle.segment_rw.specs.declared.SegmentWriter.{SegmentWriter}

-- a record of n payload bytes has its place in `room` bytes behind `size` of a slot of c bytes, in an area of `bytes` bytes
unfoldable pub fits_slot : (c slot size room n bytes : ℕ) → Bool
fits_slot c slot size room n bytes = leb n max_payload && leb (12 + n) room && leb (size + room) c && inside_of c slot bytes

-- a record's bytes, with zeros up to `room` of them: where `room` is its own, a record's bytes (`record-in`)
unfoldable pub record_in : (room id : ℕ) → List ℕ → List ℕ
record_in room id payload = le_bytes 4 (length payload) ++ (le_bytes 8 id ++ (payload ++ replicate (room - (12 + length payload)) 0))

-- the segment's size afterwards
unfoldable pub size_after : (c slot size room n bytes : ℕ) → ℕ
size_after c slot size room n bytes = pick (fits_slot c slot size room n bytes) (size + room) size

-- the area afterwards: the record's bytes from the segment's size on
unfoldable pub area_after : (c slot size room id : ℕ) → List ℕ → List ℕ → List ℕ
area_after c slot size room id payload area =
    pick (fits_slot c slot size room (length payload) (length area)) (splice (slot * c + size) (record_in room id payload) area) area

-- the writer afterwards: its slot stays, and its size is the segment's
abbrev pub written_by : SegmentWriter → (c room n bytes : ℕ) → SegmentWriter
written_by w c room n bytes = record { slot = w.slot; size = size_after c w.slot w.size room n bytes }

-- a record was written: the segment's size r and the area `after`
pub record Wrote (c slot size room id : ℕ) (payload area : List ℕ) (r : ℕ) (after : List ℕ) : Type 0 where
  pub size_is : r ≡ size_after c slot size room (length payload) (length area)
  pub area-is : after ≡ area_after c slot size room id payload area

-- what writing at a place asks: n payload bytes have their place in `room` bytes from `at` on, in a slot that ends at `end`
pub record PutPre (at end room n bytes : ℕ) : Type 0 where
  pub small : n ≤ max_payload
  pub holds : 12 + n ≤ room
  pub room-inside : at + room ≤ end
  pub slot-inside : end ≤ bytes
