-- `seglog_prune::leading` meets its contract: those whose max is below go, but for the last of all.
-- Assumes nothing.
use mathlib.Core.Path.{◌≡◌, ◌∙◌}
use native.Mathlib.Omega.{arith}
use lib.Dec.{ltb}
use Rattle.std.proofs.lemmas.List.Folds.{length-prefix_len}
use Rattle.segment.specs.declared.Segment.{Segment}
use Rattle.seglog_prune.proofs.Drop.{below, old-leading}
use Rattle.seglog_prune.proofs.leading.Goals as goal

pub returns : goal.returns
returns c =
    let a = c.args in
    let many : c.below.result ≡ below a.n a.segs.now =
    c.below.ensures ∙ length-prefix_len (λ (g : Segment). ltb g.max a.n) a.segs.now in
    (omega arith, old-leading a.n a.segs.now c.min.result (omega arith))
