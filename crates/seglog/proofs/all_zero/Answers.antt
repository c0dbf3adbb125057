-- `all_zero` meets its contract: the library's test of each entry. Assumes nothing.
use Rattle.std.proofs.Common.{rules, ◌≡◌, true, false}
use Rattle.std.proofs.lemmas.Iterator.{YieldsList-from_slice, cases_from_all}
use Rattle.seglog.specs.View.{zero_of}
use Rattle.seglog.proofs.Listed.{zeros-answer}
use Rattle.seglog.proofs.all_zero.Goals as goal

pub returns : goal.returns
returns c =
    zeros-answer _ _
    (cases_from_all _ _ _ (λ g. zero_of g ≡ true) (λ g. zero_of g ≡ false) c.all.ensures.ran (YieldsList-from_slice c.args.entries.now cc)
    (λ x q k. search rules) (λ x q k. search rules))
