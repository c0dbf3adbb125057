-- Decimal digits as bytes, over any number of places: written with leading zeros, and read with nothing else among them.
-- Laws: proofs/Digits.antt. Assumes nothing.
use Rattle.std.specs.Prelude.{Bool, true, ◌&&◌, List, [], ◌∷◌, ◌++◌, ℕ, zero, suc, ◌+◌, ◌-◌, ◌*◌, ◌/◌, ◌%◌, leb}

-- the last n decimal digits of v, the highest first, with leading zeros; the byte 48 is the digit 0
unfoldable pub digits : ℕ → ℕ → List ℕ
digits zero v = []
digits (suc n) v = digits n (v / 10) ++ ((48 + v % 10) ∷ [])

-- whether a byte is one of the digits 0 to 9
abbrev pub is_digit : ℕ → Bool
is_digit b = leb 48 b && leb b 57

-- whether each byte is a digit
unfoldable pub all_digits : List ℕ → Bool
all_digits [] = true
all_digits (b ∷ s) = is_digit b && all_digits s

-- the number that the digits of s spell, read on from the number v that was spelled before them
unfoldable pub value_from : ℕ → List ℕ → ℕ
value_from v [] = v
value_from v (b ∷ s) = value_from (v * 10 + (b - 48)) s

-- the number that the digits of s spell
abbrev pub value_of : List ℕ → ℕ
value_of s = value_from 0 s

-- whether s spells a number of 32 bits: digits and nothing else, up to 2^32 - 1
abbrev pub is_u32 : List ℕ → Bool
is_u32 s = all_digits s && leb (value_of s) 4294967295
