-- A text in a buffer: what it is that `put` did. Assumes nothing.
use Rattle.std.specs.Prelude.{◌≡◌, List, ℕ, ◌+◌, min, length}
use Rattle.lists.specs.Splice.{splice}

-- the text was written over the buffer from `at` on, as far as there is room, and ends at `end`
pub record Put (at : ℕ) (text before : List ℕ) (end : ℕ) (after : List ℕ) : Type 0 where
  pub written : after ≡ splice at text before
  pub ends : end ≡ min (length before) (at + length text)
