-- The bytes of a delta as a concatenation, and what encoding a table comes to, from document 01, "Delta bytes".
-- The limit on the number of keys is a parameter. Laws: proofs/. Assumes nothing.
use Rattle.std.specs.Prelude.{ℕ, ◌+◌, Bool, ◌&&◌, List, [], ◌∷◌, ◌++◌, ◌≡◌, length, ltb}
use Rattle.lists.specs.Choice.{pick, first, Rule.◌⇒◌}
use Rattle.lists.specs.Outcome.{Outcome, refused, done}
use Rattle.lists.specs.Splice.{part, splice}
use Rattle.little_endian.specs.LittleEndian.{le_bytes}
use Rattle.lists.specs.Each.{any, Every}
use Rattle.keys.specs.Sorting.{sort_by, clash}
use Rattle.delta.specs.Table.{row_key, rows_of}
use Rattle.delta.specs.declared.Row.{Row}
use Rattle.delta.specs.declared.Table.{Table}
use Rattle.delta_encode.specs.declared.Sizes.{Sizes}

-- the bytes of a row's value
abbrev pub value_of : List ℕ → Row → List ℕ
value_of values r = part r.offset r.length values

-- what a row is in the erase group: its key, where it is absent
abbrev pub erase_bytes : Row → List ℕ
erase_bytes r = pick r.present [] r.key

-- what a row is in the reinstate group: key, length and value, where it is present
abbrev pub reinstate_bytes : List ℕ → Row → List ℕ
reinstate_bytes values r = pick r.present (r.key ++ (le_bytes 4 r.length ++ value_of values r)) []

-- what each row gives, one behind the other
unfoldable pub concat : (Row → List ℕ) → List Row → List ℕ
concat f [] = []
concat f (r ∷ rs) = f r ++ concat f rs

-- what each row counts, together
unfoldable pub sum : (Row → ℕ) → List Row → ℕ
sum f [] = 0
sum f (r ∷ rs) = f r + sum f rs

-- 1 for an absent row
abbrev pub erases : Row → ℕ
erases r = pick r.present 0 1

-- 1 for a present row
abbrev pub reinstates : Row → ℕ
reinstates r = pick r.present 1 0

-- how many bytes a row takes
abbrev pub size_of : Row → ℕ
size_of r = pick r.present (36 + r.length) 32

-- the bytes of a delta: the erase count and keys, the reinstate count and rows
unfoldable pub delta_bytes : List ℕ → List Row → List ℕ
delta_bytes values ys = le_bytes 4 (sum erases ys) ++ concat erase_bytes ys ++ le_bytes 4 (sum reinstates ys) ++ concat
    (reinstate_bytes values) ys

-- a present row whose value does not lie inside the n bytes that are lent
abbrev pub outside : ℕ → Row → Bool
outside n r = r.present && ltb n (r.offset + r.length)

-- the bytes of a table: its rows in ascending key order
abbrev pub bytes_of : Table → List ℕ → List ℕ
bytes_of t values = delta_bytes values (sort_by row_key (rows_of t))

-- what encoding comes to, with at most `most` rows
unfoldable pub encoded_of : ℕ → Table → List ℕ → List ℕ → Outcome ℕ
encoded_of most t values out =
    first
    ((ltb most t.count ⇒ refused 43)
    ∷ (any (outside (length values)) (rows_of t) ⇒ refused 43)
    ∷ (clash row_key (rows_of t) ⇒ refused 42)
    ∷ (ltb (length out) (length (bytes_of t values)) ⇒ refused 44)
    ∷ [])
    (done (length (bytes_of t values)))

-- the bytes at the front of the output where they were written; a refusal changes nothing
abbrev pub written : Outcome ℕ → List ℕ → List ℕ → List ℕ
written (done n) bytes out = splice 0 bytes out
written (refused n) bytes out = out

-- the output after encoding
abbrev pub after_of : ℕ → Table → List ℕ → List ℕ → List ℕ
after_of most t values out = written (encoded_of most t values out) (bytes_of t values) out

-- every key has 32 bytes
abbrev pub Keyed : List Row → Type 0
Keyed ys = Every (λ r. length r.key ≡ 32) ys

-- what measuring the rows of a table finds
pub record Sized (ys : List Row) (r : Sizes) : Type 0 where
  pub erased : r.erases ≡ sum erases ys
  pub kept : r.reinstates ≡ sum reinstates ys
  pub size : r.size ≡ sum size_of ys + 8
  pub keyed : Keyed ys
