-- `lowest_free` meets its contract: the marks of the loop tell the free slots, and the search finds the first of them. Assumes nothing.
use Rattle.std.proofs.Common.{rules, ◌≡◌, ◌*◌, ◌≤◌, true, false, get_or, take, arith}
use Rattle.std.proofs.lemmas.Iterator.{serves_from_Range, first_from_Range}
use Rattle.lists.proofs.Arrays.{unmapped}
use Rattle.seglog.proofs.Fit.{Fitting, fitting-is, chain-few}
use Rattle.seglog.proofs.Slots.{marked_none, slot-few, marked_next, marked_all}
use Rattle.seglog_append.proofs.DecidingFree.{free-searched}
use Rattle.seglog_append.proofs.lowest_free.Goals as goal

pub shared_ref_as_front-listed : goal.shared_ref_as_front-listed
shared_ref_as_front-listed c =
    let l = c.args.log in
    let fit : Fitting l (l.k * l.c) = fitting-is l (l.k * l.c) (search (rules, unmapped)) c.requires in
    omega (arith, fit.few, fit.sizes.few-slots)

pub loop-g-init : goal.loop-g-init
loop-g-init c =
    marked_none

pub bounds-used-g : goal.bounds-used-g
bounds-used-g c =
    let l = c.args.log in
    let fit : Fitting l (l.k * l.c) = fitting-is l (l.k * l.c) (search (rules, unmapped)) c.requires in
    slot-few c.loop-g.used (take l.count l.segs) c.loop-g.g-index c.loop-g-test.true (chain-few l.k l.c l.m (take l.count l.segs) fit.sizes fit.chain)

pub loop-g-preserved : goal.loop-g-preserved
loop-g-preserved c =
    let l = c.args.log in
    let fit : Fitting l (l.k * l.c) = fitting-is l (l.k * l.c) (search (rules, unmapped)) c.requires in
    marked_next c.loop-g.used (take l.count l.segs) c.loop-g.g-index c.loop-g-test.true
    (chain-few l.k l.c l.m (take l.count l.segs) fit.sizes fit.chain) c.loop-g.invariant

pub overflow_cast-log : goal.overflow_cast-log
overflow_cast-log c =
    let l = c.args.log in
    let fit : Fitting l (l.k * l.c) = fitting-is l (l.k * l.c) (search (rules, unmapped)) c.requires in
    omega (arith, fit.sizes.few-slots)

pub find-requires-clause-callable : goal.find-requires-clause-callable
find-requires-clause-callable c =
    let l = c.args.log in
    let fit : Fitting l (l.k * l.c) = fitting-is l (l.k * l.c) (search (rules, unmapped)) c.requires in
    let few : l.k ≤ 64 = fit.sizes.few-slots in
    let long = c.loop-g.invariant.long in
    serves_from_Range (λ x q h. search rules) (λ x a b. search rules)

pub returns : goal.returns
returns c =
    let l = c.args.log in
    let fit : Fitting l (l.k * l.c) = fitting-is l (l.k * l.c) (search (rules, unmapped)) c.requires in
    let marked = marked_all c.loop-g.used (take l.count l.segs) c.loop-g.g-index c.loop-g-test.false c.loop-g.invariant in
    free-searched l.k (take l.count l.segs) c.loop-g.used fit.sizes.few-slots marked _
    (first_from_Range _ _ _ _ (λ n. get_or c.loop-g.used n false ≡ false) (λ n. get_or c.loop-g.used n false ≡ true)
    c.find.ensures.ran (λ x q k. search rules) (λ x q k. search rules))
