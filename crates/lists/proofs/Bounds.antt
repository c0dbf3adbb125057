-- The bounds that loops over rows ask, over plain numbers: at a place of a loop's code much else is in scope, which `omega` would read.
-- Assumes nothing.
use mathlib.Core.Path.{◌≡◌}
use Prim.Native.Nat.{ℕ, ◌+◌, ◌-◌, ◌^◌, ◌≤◌, ◌<◌}
use native.Mathlib.Omega.{arith}
use mir.Syntax.{w64}
use mir.Val.{Fits}

-- ---- from the last of n rows to the first: i are left

pub left_below : {i n : ℕ} → 0 < i → i ≤ n → i - 1 < n
left_below s h = omega arith

-- ---- b bytes at a, in n bytes

pub part-first : (a b : ℕ) → a ≤ a + b
part-first a b = omega arith

pub part-size : (a b : ℕ) → a + b - a ≡ b
part-size a b = omega arith

pub part-within : (a b c : ℕ) {n : ℕ} → a + c ≤ n → b ≤ c → a + b ≤ n
part-within a b c h l = omega arith

pub part-start-fits : (a b : ℕ) {n : ℕ} → a + b ≤ n → n < 2 ^ 64 → Fits w64 a
part-start-fits a b h s = omega arith

pub part-end-fits : (a b : ℕ) {n : ℕ} → a + b ≤ n → n < 2 ^ 64 → Fits w64 (a + b)
part-end-fits a b h s = omega arith
