-- The statements that docs/PROMISES.md cites: what a write to lent bytes changes and what stays, for elements of any kind A.
-- Proofs: proofs/Splice.antt. Assumes nothing.
use Rattle.std.specs.Prelude.{◌≡◌, List, ℕ, ◌+◌, ◌*◌, ◌≤◌, length, drop}
use Rattle.lists.specs.Splice.{part, splice, slot_of}

module _ (A : Type 0) where
  -- the length stays
  abbrev pub SpliceLength : Type 0
  SpliceLength = (at : ℕ) (xs l : List A) → length (splice at xs l) ≡ length l

  -- a piece that fits stands at its place
  abbrev pub SpliceInside : Type 0
  SpliceInside = (at : ℕ) (xs l : List A) → at + length xs ≤ length l → part at (length xs) (splice at xs l) ≡ xs

  -- every part before the piece stays
  abbrev pub SpliceBefore : Type 0
  SpliceBefore = (at : ℕ) (xs l : List A) (a n : ℕ) → a + n ≤ at → part a n (splice at xs l) ≡ part a n l

  -- everything behind the piece stays
  abbrev pub SpliceBehind : Type 0
  SpliceBehind = (at : ℕ) (xs l : List A) (a : ℕ) → at + length xs ≤ a → drop a (splice at xs l) ≡ drop a l

  -- two pieces apart may be written in either order
  abbrev pub SpliceCommute : Type 0
  SpliceCommute =
      (a b : ℕ) (xs ys l : List A) → a + length xs ≤ b → b + length ys ≤ length l
      → splice b ys (splice a xs l) ≡ splice a xs (splice b ys l)

  -- a piece inside one slot leaves the others
  abbrev pub SpliceSlot : Type 0
  SpliceSlot =
      (c i j at : ℕ) (xs l : List A) → i * c ≤ at → at + length xs ≤ i * c + c → (i ≡ j → ⊥)
      → slot_of c j (splice at xs l) ≡ slot_of c j l
