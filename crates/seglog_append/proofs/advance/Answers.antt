-- `advance` meets its contract: what was decided is answered. Assumes nothing.
use Rattle.std.proofs.Common.{◌≡◌, length, sym, refl, ap, ◌∙◌, arith, rules}
use Rattle.lists.specs.Outcome.{done}
use Rattle.lists.proofs.Arrays.{unmapped}
use Rattle.refusal.specs.Refusals.{outcome}
use Rattle.seglog_append.specs.Deciding.{decide_log}
use Rattle.seglog_append.specs.Appending.{taken}
use Rattle.seglog_append.proofs.Appending.{decided-ready, decided-room, grown-answer}
use Rattle.seglog_append.proofs.advance.Goals as goal

pub overflow_add-place : goal.overflow_add-place
overflow_add-place c =
    let long-at : length c.args.log.segs ≡ 64 = search (rules, unmapped) in
    let decided-at : let a = c.args in decide_log a.log a.bytes a.n ≡ done c.in_ok-place.place = sym c.decide.ensures ∙ ap outcome c.in_ok-place.was in
    let a = c.args in
    omega (arith, decided-room a.log a.bytes a.n long-at c.in_ok-place.place decided-at)

pub grown-requires : goal.grown-requires
grown-requires c =
    let long-at : length c.args.log.segs ≡ 64 = search (rules, unmapped) in
    let a = c.args in
    decided-ready a.log a.bytes a.n long-at c.in_ok-place.place (sym c.decide.ensures ∙ ap outcome c.in_ok-place.was)

pub returns : goal.returns
returns c =
    let long-at : length c.args.log.segs ≡ 64 = search (rules, unmapped) in
    let a = c.args in
    ap taken c.grown.ensures
    ∙ grown-answer a.log a.bytes a.n long-at c.in_ok-place.place _ (sym c.decide.ensures ∙ ap outcome c.in_ok-place.was) refl
