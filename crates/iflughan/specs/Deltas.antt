-- The delta's table and the answers on deltas as the structs that cross the C interface: document 01's number and value of each case.
-- Assumes nothing.
use Rattle.std.specs.Prelude.{ℕ, Bool, not, map, eqb, replicate}
use Rattle.lists.specs.Choice.{pick}
use Rattle.lists.specs.Outcome.{either}
use Rattle.delta.specs.declared.Row.{Row}
use Rattle.delta.specs.declared.Table.{Table}
use Rattle.delta.specs.Reading.{DecodeOutcome}
use Rattle.iflughan.specs.declared.DeltaRow.{DeltaRow}
use Rattle.iflughan.specs.declared.Delta.{Delta}
use Rattle.iflughan.specs.declared.DecodedDelta.{DecodedDelta}

-- a row that is lent, as the library holds it: any mark but 0 is present; what is reserved is not looked at
abbrev pub row_in : DeltaRow → Row
row_in r = record { key = r.key; present = not (eqb r.present 0); offset = r.offset; length = r.length }

-- the table that is lent, as the library holds it
abbrev pub table_in : Delta → Table
table_in t = record { rows = map row_in t.rows; count = t.count }

-- the mark that is written
abbrev pub mark_of : Bool → ℕ
mark_of present = pick present 1 0

-- the library's row, as it is answered: what is reserved is 0
abbrev pub row_out : Row → DeltaRow
row_out r = record {
  key = r.key;
  present = mark_of r.present;
  reserved = replicate 7 0;
  offset = r.offset;
  length = r.length;
  reserved_too = 0;
}

-- the library's table, as it is answered
abbrev pub table_out : Table → Delta
table_out t = record { count = t.count; rows = map row_out t.rows }

-- the refusal number, the bytes consumed and the rows of a delta that is decoded
unfoldable pub decoded_delta : DecodeOutcome → DecodedDelta
decoded_delta d = record {
  refusal = either (λ n. n) (λ n. 0) d.answer;
  reserved = 0;
  consumed = either (λ n. 0) (λ n. n) d.answer;
  table = table_out d.table;
}
