-- The statements that docs/PROMISES.md cites: how long a record is, and that what is written is read back. Proofs: proofs/Record.antt.
-- Assumes nothing.
use Rattle.std.specs.Prelude.{◌≡◌, List, ◌++◌, ℕ, ◌^◌, ◌≤◌, ◌<◌, length}
use Rattle.lists.specs.Outcome.{done}
use Rattle.lists.specs.Splice.{part}
use Rattle.record.specs.Record.{max_payload, record_room, record_bytes, header_of}

-- a record's bytes fill its room
abbrev pub RecordLength : Type 0
RecordLength = (id : ℕ) (p : List ℕ) → length (record_bytes id p) ≡ record_room (length p)

-- a record's bytes, wherever they stand, are read as its header: for any payload of at most 2^30 bytes and any id of 64 bits
abbrev pub RecordReads : Type 0
RecordReads =
    (id : ℕ) (p pre post : List ℕ) (at : ℕ) → at ≡ length pre → length p ≤ max_payload → id < 2 ^ 64
    → header_of (pre ++ (record_bytes id p ++ post)) at ≡ done (record { length = length p; id = id })

-- a record's payload stands twelve bytes in
abbrev pub RecordPayload : Type 0
RecordPayload = (id : ℕ) (p post : List ℕ) → part 12 (length p) (record_bytes id p ++ post) ≡ p
