-- `seglog_prune::find_cut` meets its contract: what is found from the place reached is what is found from the start.
-- Assumes nothing.
use mathlib.Core.Path.{◌≡◌, refl, sym, ◌∙◌}
use Prim.Native.Nat.{◌<◌}
use lib.ListN.{length}
use Rattle.seglog_prune.specs.declared.Look.TheVariants.{Other}
use Rattle.seglog_prune.specs.Cut.{look_at, find_cut}
use Rattle.seglog_prune.proofs.Cut.{cut-end, cut-none, cut-here, cut_on, cut-nearer}
use borrow.Author.Rules.{rules}
use Rattle.seglog_prune.proofs.find_cut.Goals as goal

pub loop-at-init : goal.loop-at-init
loop-at-init c =
    refl

pub returns-in-Here : goal.returns-in-Here
returns-in-Here c =
    let img-of = c.args.img.now in
    let n-of = c.args.n in
    let at_of = c.loop-at.at in
    let inside : at_of < length img-of = search rules in
    let so_far : find_cut img-of n-of 0 ≡ find_cut img-of n-of at_of = c.loop-at.invariant in
    sym (so_far
    ∙ cut-here img-of n-of at_of inside _ (sym c.look_at.ensures ∙ c.in-Here.is))

pub loop-at-smaller : goal.loop-at-smaller
loop-at-smaller c =
    let img-of = c.args.img.now in
    let n-of = c.args.n in
    let at_of = c.loop-at.at in
    let inside : at_of < length img-of = search rules in
    let other : look_at img-of n-of at_of ≡ Other c.in-Other.next = sym c.look_at.ensures ∙ c.in-Other.is in
    cut-nearer img-of n-of at_of inside _ other

pub loop-at-preserved : goal.loop-at-preserved
loop-at-preserved c =
    let img-of = c.args.img.now in
    let n-of = c.args.n in
    let at_of = c.loop-at.at in
    let inside : at_of < length img-of = search rules in
    let so_far : find_cut img-of n-of 0 ≡ find_cut img-of n-of at_of = c.loop-at.invariant in
    let other : look_at img-of n-of at_of ≡ Other c.in-Other.next = sym c.look_at.ensures ∙ c.in-Other.is in
    so_far ∙ cut_on img-of n-of at_of inside _ other

pub returns-in-Nothing : goal.returns-in-Nothing
returns-in-Nothing c =
    let img-of = c.args.img.now in
    let n-of = c.args.n in
    let at_of = c.loop-at.at in
    let inside : at_of < length img-of = search rules in
    let so_far : find_cut img-of n-of 0 ≡ find_cut img-of n-of at_of = c.loop-at.invariant in
    sym (so_far ∙ cut-none img-of n-of at_of inside (sym c.look_at.ensures ∙ c.in-Nothing.is))

pub returns : goal.returns
returns c =
    sym (c.loop-at.invariant ∙ cut-end c.args.img.now _ c.loop-at.at (search rules))
