-- The statements that docs/PROMISES.md cites: a number of any width that is written is read back. Proofs: proofs/LittleEndian.antt.
-- Assumes nothing.
use Rattle.std.specs.Prelude.{◌≡◌, List, ◌++◌, ℕ, ◌+◌, ◌^◌, ◌≤◌, ◌<◌, length, drop}
use Rattle.lists.specs.Splice.{part, splice}
use Rattle.little_endian.specs.LittleEndian.{le_bytes, le_at}

-- what is written is read back, and everything before and behind it stays
pub record Kept (n v at : ℕ) (s : List ℕ) : Type 0 where
  pub back : le_at n (splice at (le_bytes n v) s) at ≡ v
  pub before : (a k : ℕ) → a + k ≤ at → part a k (splice at (le_bytes n v) s) ≡ part a k s
  pub behind : (a : ℕ) → at + n ≤ a → drop a (splice at (le_bytes n v) s) ≡ drop a s

-- so it is wherever the n bytes have room, of every number that n bytes can spell
abbrev pub WriteRead : Type 0
WriteRead = (n v at : ℕ) (s : List ℕ) → at + n ≤ length s → v < 256 ^ n → Kept n v at s

-- a number's bytes, wherever they stand, spell it
abbrev pub LeRead : Type 0
LeRead = (n v : ℕ) (pre post : List ℕ) (at : ℕ) → at ≡ length pre → v < 256 ^ n → le_at n (pre ++ (le_bytes n v ++ post)) at ≡ v
