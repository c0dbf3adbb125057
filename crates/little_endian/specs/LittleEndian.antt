-- Little-endian numbers of any width: the bytes that spell a number, and the number that bytes spell.
-- Laws: proofs/LittleEndian.antt. Assumes nothing.
use Rattle.std.specs.Prelude.{Bool, not, List, [], ◌∷◌, ℕ, zero, suc, ◌+◌, ◌*◌, ◌/◌, ◌%◌, length, get_or, leb}
use Rattle.lists.specs.Choice.{◌⇒◌, first}
use Rattle.lists.specs.Outcome.{Outcome, refused, done}
use Rattle.lists.specs.Splice.{part}

-- the n lowest bytes of v, the lowest first
unfoldable pub le_bytes : ℕ → ℕ → List ℕ
le_bytes zero v = []
le_bytes (suc n) v = v % 256 ∷ le_bytes n (v / 256)

-- the number that the n bytes from `at` on spell, the lowest first
unfoldable pub le_at : ℕ → List ℕ → ℕ → ℕ
le_at zero s at = 0
le_at (suc n) s at = get_or s at 0 + 256 * le_at n s (suc at)

-- n bytes stand from `at` on
abbrev pub stand_at : ℕ → List ℕ → ℕ → Bool
stand_at n s at = leb (at + n) (length s)

-- the n bytes from `at` on; 40, "input ends early", where they don't all stand
unfoldable pub bytes_at : ℕ → List ℕ → ℕ → Outcome (List ℕ)
bytes_at n s at = first ((not (stand_at n s at) ⇒ refused 40) ∷ []) (done (part at n s))

-- what reading n bytes from `at` on comes to: the number that they spell; 40, "input ends early", where they don't all stand
unfoldable pub number_at : ℕ → List ℕ → ℕ → Outcome ℕ
number_at n s at = first ((not (stand_at n s at) ⇒ refused 40) ∷ []) (done (le_at n s at))
