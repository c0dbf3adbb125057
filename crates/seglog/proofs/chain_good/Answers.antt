-- `chain_good` meets its contract: the library's tests of each segment and of each two neighbours. Assumes nothing.
use Rattle.std.proofs.Common.{rules, ◌≡◌, true, false, sym, ◌∙◌}
use Rattle.std.proofs.lemmas.Iterator.{YieldsList-from_slice, cases_from_all}
use Rattle.std.proofs.lemmas.List.Sorted.{answers_always}
use Rattle.lists.specs.Each.{all}
use Rattle.segment.specs.Segment.{no_segment}
use Rattle.seglog.specs.Chain.{seg_of, goes_on}
use Rattle.seglog.proofs.Listed.{all-answer, linked-answer, chain-then, chain-else}
use Rattle.seglog.proofs.chain_good.Goals as goal

pub returns-then-all : goal.returns-then-all
returns-then-all c =
    let a = c.args in
    let each : c.all.result ≡ all (seg_of a.shape.k a.shape.c) a.listed.now = all-answer (seg_of a.shape.k a.shape.c) no_segment a.listed.now _
    (cases_from_all _ _ _ (λ g. seg_of a.shape.k a.shape.c g ≡ true) (λ g. seg_of a.shape.k a.shape.c g ≡ false) c.all.ensures.ran
    (YieldsList-from_slice a.listed.now cc) (λ x q k. search rules) (λ x q k. search rules)) in
    chain-then a.shape.k a.shape.c a.listed.now _ (sym each ∙ c.if-all.true)
    (linked-answer goes_on no_segment _ _
    (c.is_sorted_by.ensures.cases goes_on (answers_always _ (λ a r. r ≡ goes_on a.0.now a.1.0.now) _ (λ f a r g h. search rules))))

pub returns-else-all : goal.returns-else-all
returns-else-all c =
    let a = c.args in
    let each : c.all.result ≡ all (seg_of a.shape.k a.shape.c) a.listed.now = all-answer (seg_of a.shape.k a.shape.c) no_segment a.listed.now _
    (cases_from_all _ _ _ (λ g. seg_of a.shape.k a.shape.c g ≡ true) (λ g. seg_of a.shape.k a.shape.c g ≡ false) c.all.ensures.ran
    (YieldsList-from_slice a.listed.now cc) (λ x q k. search rules) (λ x q k. search rules)) in
    c.if-all.false ∙ chain-else a.shape.k a.shape.c a.listed.now (sym each ∙ c.if-all.false)
