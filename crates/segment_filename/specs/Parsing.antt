-- What `parse` answers for any prefix and name: document 01's steps, in its order, with its refusal numbers.
-- Laws: proofs/Parsing.antt. Assumes nothing.
use Rattle.std.specs.Prelude.{not, List, [], ◌∷◌, ℕ, length, eqb}
use Rattle.lists.specs.Choice.{◌⇒◌, first}
use Rattle.lists.specs.Outcome.{Outcome, refused, done}
use Rattle.segment_filename.specs.Words.{is_empty, starts_with, ends_with, behind, before}
use Rattle.segment_filename.specs.Digits.{is_u32, value_of}
use Rattle.segment_filename.specs.Formatting.{dot, suffix}

-- a name without its prefix
abbrev pub without_prefix : List ℕ → List ℕ → List ℕ
without_prefix prefix name = behind prefix name

-- a name without its prefix and without the suffix of what is left
abbrev pub without_suffix : List ℕ → List ℕ → List ℕ
without_suffix prefix name = before suffix (without_prefix prefix name)

-- a name without prefix, suffix and dot, stripped in this order: the bytes of the id
abbrev pub id_bytes : List ℕ → List ℕ → List ℕ
id_bytes prefix name = behind dot (without_suffix prefix name)

-- ten bytes read as a u32, or 35
abbrev pub u32_of : List ℕ → Outcome ℕ
u32_of ten = first ((not (is_u32 ten) ⇒ refused 35) ∷ []) (done (value_of ten))

-- what `parse` comes to: it strips prefix, suffix and dot, wants 10 bytes left, and reads them as a u32
unfoldable pub parse_of : List ℕ → List ℕ → Outcome ℕ
parse_of prefix name =
    first
    ((is_empty prefix ⇒ refused 30)
    ∷ (not (starts_with prefix name) ⇒ refused 31)
    ∷ (not (ends_with suffix (without_prefix prefix name)) ⇒ refused 32)
    ∷ (not (starts_with dot (without_suffix prefix name)) ⇒ refused 33)
    ∷ (not (eqb (length (id_bytes prefix name)) 10) ⇒ refused 34)
    ∷ [])
    (u32_of (id_bytes prefix name))
