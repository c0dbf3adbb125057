-- `lists::copy_into` meets its contract: as much of the source as there is room for, from the place on, or nothing from the end on.
-- Assumes nothing.
use native.Mathlib.Omega.{arith}
use mathlib.Core.Path.{refl, ◌∙◌}
use lib.ListN.{length-set}
use lib.Seq.{paste-zero}
use Rattle.lists.proofs.SpliceWrites.{paste-turn, pasted-splice}
use Rattle.lists.proofs.copy_into.Goals as goal

pub loop-i-init : goal.loop-i-init
loop-i-init c = (refl, paste-zero c.args.out.now c.min-start.result c.args.src.now)

pub loop-i-preserved : goal.loop-i-preserved
loop-i-preserved c =
    let l = c.loop-i in
    let a = c.args in (
      simp length-set l.invariant.0,
      paste-turn l.out a.out.now a.src.now c.min-start.result l.i 0 (omega arith) (omega arith) l.invariant.1,
    )

pub returns : goal.returns
returns c =
    let l = c.loop-i in
    let a = c.args in
    l.invariant.1 ∙ pasted-splice a.at c.min-start.result l.i a.src.now a.out.now (omega arith) (omega arith)
