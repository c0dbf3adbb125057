-- What decoding a delta comes to, from document 01, "Delta bytes": the reading, row by row in reading order; a key twice; the rows sorted.
-- The limit on the number of keys is a parameter. Laws: proofs/. Assumes nothing.
use Rattle.std.specs.Prelude.{ℕ, zero, suc, ◌+◌, ◌≤◌, List, [], ◌∷◌, ◌++◌, ◌≡◌, ltb, Result, Ok, Err}
use Rattle.lists.specs.Choice.{pick}
use Rattle.lists.specs.Outcome.{Outcome, refused, done}
use Rattle.lists.specs.Splice.{part}
use Rattle.refusal.specs.declared.Refusal.{Refusal}
use Rattle.refusal.specs.declared.Refusal.TheVariants.{EndsEarly}
use Rattle.refusal.specs.Refusals.{number, outcome}
use Rattle.little_endian.specs.LittleEndian.{le_at, stand_at, number_at}
use Rattle.keys.specs.Sorting.{has, sort_by}
use Rattle.delta.specs.Table.{row_key, erased, reinstated, rows_of, table_of, Plain}
use Rattle.delta.specs.declared.Row.{Row}
use Rattle.delta.specs.declared.Table.{Table}
use Rattle.delta.specs.declared.Decoded.{Decoded}

-- what decoding comes to: a number, or the bytes consumed; and the rows
pub record DecodeOutcome : Type 0 where
  pub answer : Outcome ℕ
  pub table : Table

-- the same of what `decode` answers: no rows beside a refusal
abbrev pub decode_outcome : Result Decoded Refusal → DecodeOutcome
decode_outcome (Ok d) = record { answer = done d.consumed; table = d.table }
decode_outcome (Err r) = record { answer = refused (number r); table = table_of [] }

-- what stands at a position: too little, or a whole row and where it ends
pub data Got : Type 0 where
  short : Got
  got : Row → ℕ → Got

-- a row of the erase group: a key
unfoldable pub erase_at : List ℕ → ℕ → Got
erase_at s p = pick (stand_at 32 s p) (got (erased (part p 32 s)) (p + 32)) short

-- a row of the reinstate group: a key, the value's length, the value
unfoldable pub reinstate_at : List ℕ → ℕ → Got
reinstate_at s p =
    pick (stand_at (36 + le_at 4 s (p + 32)) s p)
    (got (reinstated (part p 32 s) (p + 36) (le_at 4 s (p + 32))) (p + (36 + le_at 4 s (p + 32)))) short

-- what reading it answers: the row and where it ends
abbrev pub entry : Got → Result (Row × ℕ) Refusal
entry short = Err EndsEarly
entry (got r q) = Ok (r, q)

-- a reading: the rows as they are read in full, and how it ends
pub data Reading : Type 0 where
  ends : Outcome ℕ → Reading
  row : Row → Reading → Reading

-- where a row is whole, the row and what follows it; else the input ends early
abbrev pub entered : Got → (ℕ → Reading) → Reading
entered short next = ends (refused 40)
entered (got r q) next = row r (next q)

-- where a count is whole, what follows it, and where a group is, what follows its end; else the reading ends with the refusal
abbrev pub onward : Outcome ℕ → (ℕ → Reading) → Reading
onward (done n) next = next n
onward (refused e) next = ends (refused e)

-- n rows from p on, and what follows them
unfoldable pub group : (ℕ → Got) → ℕ → ℕ → (ℕ → Reading) → Reading
group at zero p next = next p
group at (suc n) p next = entered (at p) (λ q. group at n q next)

-- the reinstate count, which may not pass the limit with the erase count n, and its rows; then all is consumed
unfoldable pub reinstates : ℕ → List ℕ → ℕ → ℕ → Reading
reinstates most s n p =
    onward (number_at 4 s p) (λ m. pick (ltb most (n + m)) (ends (refused 41)) (group (reinstate_at s) m (p + 4) (λ q. ends (done q))))

-- the erase count, which may not pass the limit, and its rows; then the reinstate group
unfoldable pub reading : ℕ → List ℕ → Reading
reading most s = onward (number_at 4 s 0) (λ n. pick (ltb most n) (ends (refused 41)) (group (erase_at s) n 4 (λ p. reinstates most s n p)))

-- in reading order: a row that is whole and has the key of an earlier one is refused; else the rows and how the reading ends
unfoldable pub walk : List Row → Reading → Outcome ℕ × List Row
walk seen (ends e) = (e, seen)
walk seen (row r next) = pick (has row_key r.key seen) (refused 42, []) (walk (seen ++ (r ∷ [])) next)

-- accepted: the rows in ascending key order; a refusal: no rows
abbrev pub answered : Outcome ℕ → List Row → DecodeOutcome
answered (done n) rs = record { answer = done n; table = table_of (sort_by row_key rs) }
answered (refused n) rs = record { answer = refused n; table = table_of [] }

-- what decoding comes to, with at most `most` keys
abbrev pub decoded_of : ℕ → List ℕ → DecodeOutcome
decoded_of most s = answered (walk [] (reading most s)).0 (walk [] (reading most s)).1

-- rows before a reading
unfoldable pub prepend : List Row → Reading → Reading
prepend [] w = w
prepend (r ∷ rs) w = row r (prepend rs w)

-- a position inside a slice of `size` bytes
abbrev pub Inside : ℕ → Outcome ℕ → Type 0
Inside size (done p) = p ≤ size
Inside size (refused n) = Unit {0}

-- reading a group behind earlier rows: the table has the earlier rows and the group's, whatever follows
pub record Reads (size most : ℕ) (before : List Row) (rest : (ℕ → Reading) → Reading) (answer : Result ℕ Refusal) (table : Table) : Type 0 where
  pub same : (next : ℕ → Reading) → prepend before (rest next) ≡ prepend (rows_of table) (onward (outcome answer) next)
  pub inside : Inside size (outcome answer)
  pub room : table.count ≤ most
  pub plain : Plain table

-- reading both groups: the table has the rows read in full, and the answer is how the reading ended
pub record WholeRead (most : ℕ) (s : List ℕ) (answer : Result ℕ Refusal) (table : Table) : Type 0 where
  pub same : reading most s ≡ prepend (rows_of table) (ends (outcome answer))
  pub room : table.count ≤ most
  pub plain : Plain table
