-- The statements that docs/PROMISES.md cites: what `format` writes, that `parse` reads it back, and that it reads nothing else.
-- Proofs: proofs/RoundTrip.antt, proofs/ParsingWritten.antt. Assumes nothing.
use Rattle.std.specs.Prelude.{◌≡◌, List, ℕ, ◌+◌, ◌^◌, ◌≤◌, ◌<◌, length, take, drop}
use Rattle.lists.specs.Outcome.{refused, done}
use Rattle.segment_filename.specs.Formatting.{name_of, format_of, format_into}
use Rattle.segment_filename.specs.Parsing.{parse_of}

-- "Writing needs prefix length + 15 bytes; the answer is that length"
abbrev pub FormatRoom : Type 0
FormatRoom = (prefix out : List ℕ) (n : ℕ) → format_of prefix (length out) ≡ done n → (n ≡ length prefix + 15) × (n ≤ length out)

-- so many bytes of the buffer are the name
abbrev pub FormatWritten : Type 0
FormatWritten =
    (prefix : List ℕ) (id : ℕ) (out : List ℕ) (n : ℕ) → format_of prefix (length out) ≡ done n
    → take n (format_into prefix id out) ≡ name_of prefix id

-- "and later bytes stay"
abbrev pub FormatLater : Type 0
FormatLater =
    (prefix : List ℕ) (id : ℕ) (out : List ℕ) (n : ℕ) → format_of prefix (length out) ≡ done n
    → drop n (format_into prefix id out) ≡ drop n out

-- what is written is read back as the same id, of 32 bits
abbrev pub ParseFormat : Type 0
ParseFormat =
    (prefix : List ℕ) (id : ℕ) (out : List ℕ) (n : ℕ) → format_of prefix (length out) ≡ done n → id < 2 ^ 32
    → parse_of prefix (take n (format_into prefix id out)) ≡ done id

-- two ids give different names
abbrev pub FormatInjective : Type 0
FormatInjective = (prefix : List ℕ) (a b : ℕ) → a < 2 ^ 32 → b < 2 ^ 32 → name_of prefix a ≡ name_of prefix b → a ≡ b

-- ---- document 02, ask 3: "a name is accepted for a non-empty prefix exactly when writing some id gives the same bytes"

-- writing this id, a number of 32 bits, gives this name
abbrev pub Writes : List ℕ → ℕ → List ℕ → Type 0
Writes prefix id name = (id < 2 ^ 32) × (name_of prefix id ≡ name)

-- a name is read as an id exactly when writing that id gives the name
abbrev pub ParseExact : Type 0
ParseExact =
    (prefix name : List ℕ) (id : ℕ) → (length prefix ≡ 0 → ⊥)
    → (parse_of prefix name ≡ done id → Writes prefix id name) × (Writes prefix id name → parse_of prefix name ≡ done id)

-- a name is accepted exactly when some id writes it
abbrev pub ParseAccepts : Type 0
ParseAccepts =
    (prefix name : List ℕ) → (length prefix ≡ 0 → ⊥)
    → ((id : ℕ) × (parse_of prefix name ≡ done id) → (id : ℕ) × Writes prefix id name)
    × ((id : ℕ) × Writes prefix id name → (id : ℕ) × (parse_of prefix name ≡ done id))

-- and refused exactly when none does
abbrev pub ParseRefuses : Type 0
ParseRefuses =
    (prefix name : List ℕ) → (length prefix ≡ 0 → ⊥)
    → ((n : ℕ) × (parse_of prefix name ≡ refused n) → (id : ℕ) → Writes prefix id name → ⊥)
    × (((id : ℕ) → Writes prefix id name → ⊥) → (n : ℕ) × (parse_of prefix name ≡ refused n))

-- two names never give one id, whatever the prefix
abbrev pub ParseInjective : Type 0
ParseInjective = (prefix a b : List ℕ) (id : ℕ) → parse_of prefix a ≡ done id → parse_of prefix b ≡ done id → a ≡ b
