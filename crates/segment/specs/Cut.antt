-- An image cut at a place of its slot: the area afterwards, for any numbers. Laws: proofs/Cut.antt. Assumes nothing.
use Rattle.std.specs.Prelude.{Bool, ◌&&◌, List, ℕ, ◌+◌, ◌-◌, ◌*◌, length, replicate, leb}
use Rattle.lists.specs.Choice.{pick}
use Rattle.lists.specs.Splice.{splice}

-- a slot of c bytes lies in an area of n bytes
abbrev pub inside_of : (c slot n : ℕ) → Bool
inside_of c slot n = leb (slot * c + c) n

-- the area after an image of `size` bytes was cut at x: its missing tail is zeros, and no other byte changes. Where the slot does not
-- lie in the area, or x does not lie in the slot, nothing changes
unfoldable pub truncated_area : List ℕ → (c slot size x : ℕ) → List ℕ
truncated_area area c slot size x =
    pick (inside_of c slot (length area) && leb x c) (splice (slot * c + size) (replicate (x - size) 0) area) area
