-- Segments in a row, each going on where the one before it ends: its id is the next one, and so is the id of its first record. `P` says
-- what holds of each. Laws: proofs/Chain.antt. Assumes nothing.
use Rattle.std.specs.Prelude.{List, [], ◌∷◌, ◌≡◌, ℕ, ◌+◌, ◌%◌, ◌≤◌, ◌<◌}
use Rattle.segment.specs.declared.Segment.{Segment}

-- one segment of a chain: its id and its first record id, and what P says of it
pub record Link (P : Segment → Type 0) (i a : ℕ) (g : Segment) : Type 0 where
  pub id : g.id ≡ i
  pub min : g.min ≡ a
  pub order : a ≤ g.max
  pub good : P g

-- from the segment id i and the record id a on, up to j and b
abbrev pub Chain : (Segment → Type 0) → ℕ → ℕ → List Segment → ℕ → ℕ → Type 0
Chain P i a [] j b = (i ≡ j) × (a ≡ b)
Chain P i a (g ∷ gs) j b = Link P i a g × Chain P (i + 1) (g.max + 1) gs j b

-- a newest record at `at`, on a whole page, whose header fits below the size
pub record NewestFits (at size : ℕ) : Type 0 where
  pub pages : at % 4096 ≡ 0
  pub header : at + 12 ≤ size

-- a segment in one of k slots of c bytes, with a byte or more, whose newest record fits
pub record InSlot (k c : ℕ) (g : Segment) : Type 0 where
  pub slot : g.slot < k
  pub some : 1 ≤ g.size
  pub size : g.size ≤ c
  pub newest : NewestFits g.newest_at g.size
