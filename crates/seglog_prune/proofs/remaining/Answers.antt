-- `seglog_prune::remaining` meets its contract: those at the back whose min is above go.
-- Assumes nothing.
use mathlib.Core.Path.{◌≡◌, ap, sym, ◌∙◌}
use mathlib.Core.List.{reverse}
use Prim.Native.Nat.{ℕ, ◌-◌}
use native.Mathlib.Omega.{arith}
use lib.ListN.{length, take}
use lib.Dec.{ltb}
use Rattle.std.proofs.lemmas.List.Folds.{length-prefix_len}
use Rattle.segment.specs.declared.Segment.{Segment}
use Rattle.seglog_prune.proofs.Drop.{above, new-trailing}
use Rattle.seglog_prune.proofs.remaining.Goals as goal

pub returns : goal.returns
returns c =
    let a = c.args in
    let many : c.above.result ≡ above a.n (reverse a.segs.now) =
    c.above.ensures ∙ length-prefix_len (λ (g : Segment). ltb a.n g.min) (reverse a.segs.now) in
    (omega arith, new-trailing a.n a.segs.now ∙ ap (λ (k : ℕ). take (length a.segs.now - k) a.segs.now) (sym many))
