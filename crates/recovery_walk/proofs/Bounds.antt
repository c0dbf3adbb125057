-- The bounds that both passes ask, over plain numbers: at a place of a pass much else is in scope, which `omega` would read.
-- Those that loops share stand in lists. Assumes nothing.
use mathlib.Core.Path.{◌≡◌}
use Prim.Native.Nat.{ℕ, ◌-◌, ◌≤◌, ◌<◌}
use native.Mathlib.Omega.{arith}

pub still-room : {a b n : ℕ} → n ≤ a → b ≡ a → n ≤ b
still-room h e = omega arith

-- what is left of an image falls
pub place-falls : {p q n : ℕ} → p < n → p < q → n - q < n - p
place-falls h l = omega arith
