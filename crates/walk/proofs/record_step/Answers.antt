-- `walk::record_step` meets its contract: the header's answer, judged.
-- Assumes nothing.
use mathlib.Core.Path.{ap, ◌∙◌}
use Rattle.record.proofs.Record.{header-answer}
use Rattle.walk.specs.Judging.{judge_of}
use Rattle.walk.proofs.record_step.Goals as goal

pub returns : goal.returns
returns c =
    let h = c.read_header-answer in c.judge.ensures ∙ ap (judge_of _ _ _ _) (header-answer h.result _ _ h.ensures)
