-- The bound that each store of a segment into an array of them asks. Assumes nothing.
use Prim.Native.Nat.{ℕ, ◌*◌, ◌<◌}
use native.Mathlib.Omega.{arith}
use mir.Syntax.{w64}
use mir.Val.{Fits}

-- where the entry i of 64 segments begins: each has 40 bytes
pub entry-fits : {i : ℕ} → i < 64 → Fits w64 (i * 40)
entry-fits h = omega arith
