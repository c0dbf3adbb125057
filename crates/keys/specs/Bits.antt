-- The 256 bits of a key: byte by byte, the lowest bit of each byte first.
-- Assumes nothing.
use Rattle.std.specs.Prelude.{ℕ, ◌/◌, ◌%◌, ◌^◌, ◌<◌, List, ◌≡◌, length, get_or}

-- bit i of a key
abbrev pub bit_of : List ℕ → ℕ → ℕ
bit_of key i = get_or key (i / 8) 0 / 2 ^ (i % 8) % 2

-- a list of 32 bytes, as every key by its type
pub record Key (key : List ℕ) : Type 0 where
  pub long : length key ≡ 32
  pub bytes : (i : ℕ) → get_or key i 0 < 256
