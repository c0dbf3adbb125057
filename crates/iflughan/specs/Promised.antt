-- The statement of this crate that docs/PROMISES.md cites; proof: proofs/RecoverPlace.antt. Assumes nothing.
use Rattle.std.specs.Prelude.{◌≡◌, List, ℕ}
use Rattle.lists.specs.Splice.{part}
use Rattle.seglog.specs.declared.Log.{Log}
use Rattle.payload.specs.Row.{row_question, payload_of}
use Rattle.iflughan.specs.Recover.{part_of}

-- the part of the area that `iflughan_payload` answers is the row's payload
abbrev pub PartPayload : Type 0
PartPayload =
    (l : Log) (slot offset n : ℕ) (area : List ℕ) → let p = part_of l slot offset n (row_question l area slot offset n) in
    part p.at p.length area ≡ payload_of l area slot offset n
