-- A number as decimal digits with no leading zeros. Assumes nothing.
use Rattle.std.specs.Prelude.{List, [], ◌∷◌, ◌++◌, ℕ, zero, suc, ◌+◌, ◌/◌, ◌%◌, ltb}
use Rattle.lists.specs.Choice.{pick}

-- at most n decimal digits of v, the highest first; the byte 48 is the digit 0
unfoldable pub decimal_in : ℕ → ℕ → List ℕ
decimal_in zero v = []
decimal_in (suc n) v = pick (ltb v 10) ((48 + v) ∷ []) (decimal_in n (v / 10) ++ ((48 + v % 10) ∷ []))

-- the digits of a number of 64 bits, of which there are at most 20
abbrev pub decimal_of : ℕ → List ℕ
decimal_of v = decimal_in 20 v
