-- The bound of the last listed entry, over plain numbers: at a place of the code much else is in scope, which `omega` would read.
-- Assumes nothing.
use mathlib.Core.Path.{◌≡◌}
use Prim.Native.Nat.{ℕ, ◌-◌, ◌≤◌, ◌<◌}
use native.Mathlib.Omega.{arith}

-- the last of n entries, or the first where there is none
pub last-below : {i n : ℕ} → n ≤ 64 → i ≡ n - 1 → i < 64
last-below s e = omega arith
