-- A segment's name, as document 01 words it, and what `format` answers and leaves in the buffer for any arguments.
-- Laws: proofs/Formatting.antt. Assumes nothing.
use Rattle.std.specs.Prelude.{List, [], ◌∷◌, ◌++◌, ℕ, ◌+◌, length, ltb}
use Rattle.lists.specs.Choice.{◌⇒◌, first}
use Rattle.lists.specs.Outcome.{Outcome, refused, done, kept}
use Rattle.lists.specs.Splice.{splice}
use Rattle.segment_filename.specs.Words.{is_empty}
use Rattle.segment_filename.specs.Digits.{digits}

-- the byte string "."
abbrev pub dot : List ℕ
dot = 46 ∷ []

-- the byte string ".log"
abbrev pub suffix : List ℕ
suffix = 46 ∷ 108 ∷ 111 ∷ 103 ∷ []

-- prefix, a dot, ten decimal digits with leading zeros; the four bytes .log close every name
unfoldable pub name_of : List ℕ → ℕ → List ℕ
name_of prefix id = prefix ++ (dot ++ (digits 10 id ++ suffix))

-- what `format` comes to where the buffer has n bytes: writing needs prefix length + 15 bytes; the answer is that length
unfoldable pub format_of : List ℕ → ℕ → Outcome ℕ
format_of prefix n =
    first ((is_empty prefix ⇒ refused 30) ∷ (ltb n (length prefix + 15) ⇒ refused 36) ∷ []) (done (length prefix + 15))

-- the buffer after `format`: the name at its front, and later bytes stay; a refusal changes nothing
unfoldable pub format_into : List ℕ → ℕ → List ℕ → List ℕ
format_into prefix id out = kept out (λ n. splice 0 (name_of prefix id) out) (format_of prefix (length out))
