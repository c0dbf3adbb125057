-- `append` meets its contract: what was decided is answered or done. Assumes nothing.
use Rattle.std.proofs.Common.{rules, sym, ap, ◌∙◌}
use Rattle.refusal.specs.Refusals.{outcome}
use Rattle.seglog_append.specs.Appending.{append_area}
use Rattle.seglog_append.proofs.Appending.{append-refused}
use Rattle.seglog_append.proofs.append.Goals as goal

pub returns-in_err-place-clause-answer : goal.returns-in_err-place-clause-answer
returns-in_err-place-clause-answer c =
    let a = c.args in
    let why = append-refused a.log a.area.now a.payload.now _ (sym c.decide.ensures ∙ ap outcome c.in_err-place.was) in
    rw why (search rules)

pub returns-in_err-place-clause-bytes : goal.returns-in_err-place-clause-bytes
returns-in_err-place-clause-bytes c =
    let a = c.args in
    ap (append_area a.area.now) (sym (append-refused a.log a.area.now a.payload.now _ (sym c.decide.ensures ∙ ap outcome c.in_err-place.was)))
