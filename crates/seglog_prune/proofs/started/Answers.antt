-- `seglog_prune::started` meets its contract: the leading segments that go, and the others moved to the front.
-- Assumes nothing.
use mathlib.Core.Path.{◌≡◌}
use native.Mathlib.Omega.{arith}
use lib.ListN.{length, length-take}
use Rattle.lists.proofs.Arrays.{unmapped}
use Rattle.seglog_prune.proofs.Decide.{plain-few}
use Rattle.seglog_prune.proofs.Prune.{started-is}
use borrow.Author.Rules.{rules}
use Rattle.seglog_prune.proofs.started.Goals as goal

pub shared_ref_as_front-leading : goal.shared_ref_as_front-leading
shared_ref_as_front-leading c =
    plain-few _ c.requires

pub shifted-requires : goal.shifted-requires
shifted-requires c =
    omega (arith, plain-few _ c.requires, c.leading-first.ensures.0, length-take c.args.log.count c.args.log.segs)

pub returns : goal.returns
returns c =
    let l = c.args.log in
    let long : length l.segs ≡ 64 = search (rules, unmapped) in
    let found = c.leading-first.ensures in
    started-is l _ _ _ long c.requires (omega (arith, found.0, length-take l.count l.segs)) found.1 c.shifted.ensures
