-- The statements that docs/PROMISES.md cites: "Decoding an accepted encoding gives the same keys, marks and value bytes, in ascending
-- order", whatever order the rows had. Proofs: proofs/BytesRoundTrip.antt, proofs/BytesOrder.antt, proofs/BytesOutside.antt. Assumes
-- nothing.
use Rattle.std.specs.Prelude.{ℕ, false, List, ◌++◌, ◌≡◌}
use Rattle.lists.specs.AnyOrder.{AnyOrder}
use Rattle.lists.specs.Outcome.{done}
use Rattle.keys.specs.Sorting.{sort_by, Ascending}
use Rattle.delta.specs.Table.{row_key, rows_of}
use Rattle.delta.specs.Reading.{DecodeOutcome, decoded_of}
use Rattle.delta.specs.declared.Row.{Row}
use Rattle.delta.specs.declared.Table.{Table}
use Rattle.delta_encode.specs.Bytes.{outside, bytes_of, encoded_of, after_of}
use Rattle.delta_encode.specs.Entries.{Entry, entries, Shaped}

-- what decoding some bytes must give: all n bytes consumed, and rows that ascend and say what is said
pub record GivesBack (said : List Entry) (n : ℕ) (bytes : List ℕ) (d : DecodeOutcome) : Type 0 where
  pub consumed : d.answer ≡ done n
  pub says : entries bytes (rows_of d.table) ≡ said
  pub rises : Ascending row_key (rows_of d.table)

-- an accepted encoding, with anything behind it, decodes to the same keys, marks and value bytes, in ascending order, and just the
-- encoding is consumed
abbrev pub EncodeDecode : Type 0
EncodeDecode =
    (t : Table) (v out rest : List ℕ) (n : ℕ) → Shaped t → encoded_of 256 t v out ≡ done n
    → GivesBack (entries v (sort_by row_key (rows_of t))) n (bytes_of t v ++ rest) (decoded_of 256 (bytes_of t v ++ rest))

-- two tables with the same rows, up to their order
pub record SameRows (t u : Table) : Type 0 where
  pub count : t.count ≡ u.count
  pub rows : AnyOrder (rows_of t) (rows_of u)

-- they are encoded to the same bytes, and refused alike
abbrev pub EncodeOrder : Type 0
EncodeOrder =
    (most : ℕ) (t u : Table) (v out : List ℕ) → SameRows t u
    → (encoded_of most t v out ≡ encoded_of most u v out) × (after_of most t v out ≡ after_of most u v out)

-- "An absent row's offset and length are ignored on encoding": wherever its value would lie, it is not outside
abbrev pub OutsideAbsent : Type 0
OutsideAbsent = (n : ℕ) (r : Row) → r.present ≡ false → outside n r ≡ false
