-- `seglog_prune::find_cut` meets its contract: what is found from the place reached is what is found from the start.
-- Assumes nothing.
use mathlib.Core.Path.{◌≡◌}
use Prim.Native.Nat.{◌-◌}
use lib.ListN.{length}
use Rattle.seglog_prune.specs.Cut.{find_cut}
use Rattle.seglog_prune.proofs.find_cut.Given as goal

-- what is found from the place reached is what is found from the start
abbrev pub invariant-loop-at : goal.invariant-loop-at
invariant-loop-at l =
    find_cut l.img l.n 0 ≡ find_cut l.img l.n l.at

abbrev pub decreases-loop-at : goal.decreases-loop-at
decreases-loop-at l =
    length l.img - l.at
