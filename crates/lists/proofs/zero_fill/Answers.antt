-- `lists::zero_fill` meets its contract: the part that begins at the place, filled as far as there is room.
-- Assumes nothing.
use native.Mathlib.Omega.{arith}
use mathlib.Core.Path.{◌≡◌, ◌∙◌, ap, sym}
use Prim.Native.Nat.{ℕ, ◌-◌}
use lib.ListN.{length, take, drop, replicate, length-replicate, length-take, length-drop}
use Rattle.std.proofs.lemmas.List.{take-replicate}
use Rattle.lists.proofs.SpliceWrites.{written}
use Rattle.lists.proofs.zero_fill.Goals as goal

pub returns : goal.returns
returns c =
    let a = c.args in
    let k : ℕ = c.max-end.result - c.min-start.result in
    let zeros = length-replicate {A = ℕ} (a.to - a.from) 0 in
    let long : length (take k (drop c.min-start.result a.out.now)) ≡ k = simp (length-take, length-drop) (omega arith) in
    written a.from _ k (replicate (a.to - a.from) 0) a.out.now _ c.min-start.ensures (omega arith)
    (c.fill.ensures.after (λ y e. e) ∙ ap (λ (n : ℕ). replicate n 0) long ∙ sym (take-replicate k (a.to - a.from) 0 (omega arith)))
