-- A record: "length u32 little-endian, record id u64 little-endian, payload, zeros to the next multiple of 4096".
-- Writer, walk and cut all cite the definitions of this file. Laws: proofs/Record.antt. Assumes nothing.
use Rattle.std.specs.Prelude.{List, [], ◌∷◌, ◌++◌, ℕ, ◌+◌, ◌-◌, length, replicate, ltb, eqb, Result, Ok, Err}
use Rattle.lists.specs.Choice.{pick, ◌⇒◌, first}
use Rattle.lists.specs.Outcome.{Outcome, refused, done}
use Rattle.page.specs.Page.{padded_end}
use Rattle.little_endian.specs.LittleEndian.{le_at, le_bytes}
use Rattle.refusal.specs.declared.Refusal.{Refusal}
use Rattle.refusal.specs.declared.Refusal.TheVariants.{ShortHeader, HeaderTooLong}
use Rattle.record.specs.declared.RecordHeader.{RecordHeader}

-- the most bytes that a payload may have
abbrev pub max_payload : ℕ
max_payload = 1073741824

-- the bytes of a header: length and id
unfoldable pub header_bytes : RecordHeader → List ℕ
header_bytes h = le_bytes 4 h.length ++ le_bytes 8 h.id

-- the room that a record of n payload bytes takes: header, payload and padding
unfoldable pub record_room : ℕ → ℕ
record_room n = padded_end 4096 (12 + n)

-- the bytes of the record with an id and a payload
unfoldable pub record_bytes : ℕ → List ℕ → List ℕ
record_bytes id payload =
    le_bytes 4 (length payload)
    ++ (le_bytes 8 id ++ (payload ++ replicate (record_room (length payload) - (12 + length payload)) 0))

-- what stands at a position of an image, read as a header: 17 short header, 18 header length above 2^30
unfoldable pub header_of : List ℕ → ℕ → Outcome RecordHeader
header_of img pos =
    first ((ltb (length img - pos) 12 ⇒ refused 17) ∷ (ltb max_payload (le_at 4 img pos) ⇒ refused 18) ∷ [])
    (done (record { length = le_at 4 img pos; id = le_at 8 img (pos + 4) }))

-- the answer that an outcome belongs to
abbrev pub header_by : Outcome RecordHeader → Result RecordHeader Refusal
header_by (done h) = Ok h
header_by (refused n) = Err (pick (eqb n 17) ShortHeader HeaderTooLong)

-- the header at a position as an answer of `read_header`, for those who go on by its cases
unfoldable pub header_at : List ℕ → ℕ → Result RecordHeader Refusal
header_at img pos = header_by (header_of img pos)
