-- `samples::filled`: the appends that are left lead to the whole sample.
-- Assumes nothing.
use Rattle.std.proofs.Common.{◌≡◌, ◌-◌}
use Rattle.samples.specs.Sample.{abcs}
use Rattle.samples.proofs.filled.Given as goal

abbrev pub invariant-loop : goal.invariant-loop
invariant-loop l =
    abcs (l.n - l.counter) (record { log = l.log; area = l.area }) ≡ abcs l.n (record { log = l.initial.log; area = l.initial.area })
