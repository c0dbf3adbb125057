-- `text::digits_into`: the digits that are put stand behind place i; those of `rest` are still to be put.
-- Assumes nothing.
use Rattle.text.proofs.DecimalDigits.{Placed}
use Rattle.text.proofs.digits_into.Given as goal

abbrev pub invariant-loop-i : goal.invariant-loop-i
invariant-loop-i l = Placed l.v l.rest l.i l.digits
