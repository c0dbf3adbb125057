-- `truncate` meets its contract: where something is missing and it lies in the slot, zeros; else nothing changes.
-- Assumes nothing.
use mathlib.Core.Path.{◌≡◌, sym, ◌∙◌}
use Prim.Native.Nat.{ℕ, ◌+◌, ◌*◌, ◌-◌, ◌≤◌}
use native.Mathlib.Omega.{arith}
use lib.ListN.{length}
use borrow.Author.Tests.{leb-true}
use Rattle.segment.proofs.Cut.{truncated-outside, truncated-past, truncated-tail, truncated-whole}
use Rattle.segment.proofs.truncate.Goals.{else-size-x-via-then-size-x+then-x-c+else-slot_inside, else-size-x-via-then-size-x+else-x-c, else-size-x-via-else-size-x}
use Rattle.segment.proofs.truncate.Goals as goal

pub returns-then-slot_inside : goal.returns-then-slot_inside
returns-then-slot_inside c =
    let a = c.args in
    let inside : a.slot * a.c + a.c ≤ length a.area.now = leb-true _ _ (sym c.slot_inside.ensures ∙ c.if-slot_inside.true) in
    let from : ℕ = a.slot * a.c in
    let start = c.from.ensures in
    let size : from + a.x - (from + a.size) ≡ a.x - a.size = omega arith in
    c.zero_fill.ensures ∙ rw (start, size) (sym (truncated-tail a.area.now a.c a.slot a.size a.x inside c.if-x-c.true))

pub returns-else-size-x : goal.returns-else-size-x
returns-else-size-x c =
    let a = c.args in
    sym (elim c.else-size-x.branch [
      | else-size-x-via-then-size-x+then-x-c+else-slot_inside w ↦ truncated-outside a.area.now a.c a.slot a.size a.x (sym w.slot_inside.ensures ∙ w.if-slot_inside.false)
      | else-size-x-via-then-size-x+else-x-c w ↦ truncated-past a.area.now a.c a.slot a.size a.x w.if-x-c.false
      | else-size-x-via-else-size-x w ↦ truncated-whole a.area.now a.c a.slot a.size a.x w.if-size-x.false
    ])
