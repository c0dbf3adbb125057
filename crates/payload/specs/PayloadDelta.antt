-- A row's payload decoded as a delta: 2, 24, then the decoder's answer to the bytes of the payload. Assumes nothing.
use Rattle.std.specs.Prelude.{List, [], ℕ, ◌+◌, ◌*◌, eqb}
use Rattle.lists.specs.Choice.{pick}
use Rattle.lists.specs.Outcome.{either}
use Rattle.lists.specs.Splice.{part}
use Rattle.seglog.specs.declared.Log.{Log}
use Rattle.delta.specs.Table.{table_of}
use Rattle.delta.specs.Reading.{DecodeOutcome, decoded_of}
use Rattle.delta.specs.declared.Table.{Table}
use Rattle.payload.specs.Row.{row_question}

-- what asking for a row's delta comes to: a refusal's number or 0, the bytes consumed, the rows
pub record PayloadDelta : Type 0 where
  pub refusal : ℕ
  pub consumed : ℕ
  pub table : Table

-- a refusal before decoding: its number, and no rows
abbrev pub no_delta : ℕ → PayloadDelta
no_delta n = record { refusal = n; consumed = 0; table = table_of [] }

-- what decoding comes to: its number, the bytes consumed, the rows
abbrev pub delta_answer : DecodeOutcome → PayloadDelta
delta_answer d = record {
  refusal = either (λ n. n) (λ n. 0) d.answer;
  consumed = either (λ n. 0) (λ n. n) d.answer;
  table = d.table;
}

-- the payload of a row, decoded
unfoldable pub payload_delta : Log → List ℕ → (slot offset length : ℕ) → PayloadDelta
payload_delta l area slot offset n =
    pick (eqb (row_question l area slot offset n) 0)
    (delta_answer (decoded_of 256 (part (slot * l.c + offset) n area)))
    (no_delta (row_question l area slot offset n))
