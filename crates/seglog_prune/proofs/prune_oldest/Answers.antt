-- `seglog_prune::prune_oldest` meets its contract: the shared tests decide, or the leading segments go.
-- Assumes nothing.
use mathlib.Core.Path.{◌≡◌, sym, ap, ◌∙◌}
use lib.ListN.{length}
use Rattle.std.specs.Prelude.{Ok}
use Rattle.seglog.specs.New.{accepted, logged}
use Rattle.lists.proofs.Arrays.{unmapped}
use Rattle.lists.proofs.Outcome.{handed-on}
use Rattle.seglog_prune.specs.declared.Early.TheVariants.{Onward}
use Rattle.seglog_prune.specs.Prune.{prune_answer, prune_area}
use Rattle.seglog_prune.proofs.Decide.{early-inner, fits-plain}
use Rattle.seglog_prune.proofs.Prune.{early_log, oldest-refused, oldest-settled, oldest-drops}
use borrow.Author.Rules.{rules}
use Rattle.seglog_prune.proofs.prune_oldest.Goals as goal

pub returns-in_err-early : goal.returns-in_err-early
returns-in_err-early c =
    let long_of : length c.args.log.segs ≡ 64 = search (rules, unmapped) in
    let both = oldest-refused c.args.log c.args.area.now c.args.new_start_live long_of _ (sym c.in_err-early.was ∙ c.decide_early.ensures) in
    record { answer = ap (logged c.args.log) (handed-on c.from_residual.result _ c.from_residual.ensures.1) ∙ both.0; bytes = both.1 }

pub returns-in_default : goal.returns-in_default
returns-in_default c =
    let long_of : length c.args.log.segs ≡ 64 = search (rules, unmapped) in
    let both = oldest-settled c.args.log c.args.area.now c.args.new_start_live long_of _ (sym c.in_ok-early.was ∙ c.decide_early.ensures)
    c.in_default.not-Onward in record { answer = ap accepted c.settled.ensures ∙ both.0; bytes = both.1 }

pub started-requires : goal.started-requires
started-requires c =
    let a = c.args in
    let onward-here : Ok Onward ≡ early_log a.log a.area.now a.new_start_live =
    ap Ok (sym c.in-Onward.is) ∙ sym c.in_ok-early.was ∙ c.decide_early.ensures in
    fits-plain a.log (length a.area.now) (early-inner _ _ _ onward-here).good

pub returns : goal.returns
returns c =
    let a = c.args in
    let onward-here : Ok Onward ≡ early_log a.log a.area.now a.new_start_live =
    ap Ok (sym c.in-Onward.is) ∙ sym c.in_ok-early.was ∙ c.decide_early.ensures in
    let is = oldest-drops a.log a.area.now a.new_start_live onward-here in
    record { answer = ap accepted c.started.ensures ∙ ap (prune_answer a.log) (sym is); bytes = ap (prune_area a.area.now) (sym is) }
