-- What a table says, wherever its values lie: key, mark and value bytes of each row. This is what a round trip keeps.
-- Assumes nothing.
use Rattle.std.specs.Prelude.{ℕ, ◌<◌, Bool, List, [], map}
use Rattle.lists.specs.Choice.{pick}
use Rattle.lists.specs.Each.{Every}
use Rattle.delta.specs.Table.{rows_of}
use Rattle.delta.specs.declared.Row.{Row}
use Rattle.delta.specs.declared.Table.{Table}
use Rattle.delta_encode.specs.Bytes.{value_of, Keyed}

-- a row's key, mark and value bytes; an absent row has none
pub record Entry : Type 0 where
  pub key : List ℕ
  pub present : Bool
  pub value : List ℕ

-- a row over the slice that its value lies in
abbrev pub entry : List ℕ → Row → Entry
entry values r = record { key = r.key; present = r.present; value = pick r.present (value_of values r) [] }

-- the entries of rows
abbrev pub entries : List ℕ → List Row → List Entry
entries values ys = map (entry values) ys

-- lengths that 32 bits hold
abbrev pub Small : List Row → Type 0
Small ys = Every (λ r. r.length < 4294967296) ys

-- the rows of a table as their type has them: keys of 32 bytes and lengths of 32 bits
pub record Shaped (t : Table) : Type 0 where
  pub keyed : Keyed (rows_of t)
  pub small : Small (rows_of t)
