-- Words at the two ends of a list of bytes: whether a list begins or ends with a word, and what is left without it.
-- Laws: proofs/Words.antt. Assumes nothing.
use Rattle.std.specs.Prelude.{Bool, List, ℕ, ◌-◌, length, take, drop, eqb}
use Rattle.std.specs.Str.{bytes_eq}

-- whether two lists have the same bytes
unfoldable pub same : List ℕ → List ℕ → Bool
same = bytes_eq

-- whether a list has no byte
abbrev pub is_empty : List ℕ → Bool
is_empty l = eqb (length l) 0

-- whether l begins with the word w
unfoldable pub starts_with : List ℕ → List ℕ → Bool
starts_with w l = same (take (length w) l) w

-- whether l ends with the word w
unfoldable pub ends_with : List ℕ → List ℕ → Bool
ends_with w l = same (drop (length l - length w) l) w

-- what is left of l, which begins with w, behind it
abbrev pub behind : List ℕ → List ℕ → List ℕ
behind w l = drop (length w) l

-- what is left of l, which ends with w, before it
abbrev pub before : List ℕ → List ℕ → List ℕ
before w l = take (length l - length w) l
