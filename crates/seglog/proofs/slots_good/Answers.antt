-- `slots_good` meets its contract: by the turns of proofs/Slots.antt. Assumes nothing.
use mathlib.Core.Path.{sym}
use Rattle.seglog.proofs.Slots.{apart_none, slot-few, apart_twice, apart_more, apart_all}
use Rattle.seglog.proofs.slots_good.Goals as goal

pub loop-g-init : goal.loop-g-init
loop-g-init c =
    apart_none _

pub bounds-used-slot : goal.bounds-used-slot
bounds-used-slot c =
    let l = c.loop-g in
    slot-few l.used _ l.g-index c.loop-g-test.true c.requires

pub returns-then-used-slot : goal.returns-then-used-slot
returns-then-used-slot c =
    let l = c.loop-g in
    sym (apart_twice l.used _ l.g-index c.loop-g-test.true c.requires l.invariant c.if-used-slot.true)

pub loop-g-preserved : goal.loop-g-preserved
loop-g-preserved c =
    let l = c.loop-g in
    apart_more l.used _ l.g-index c.loop-g-test.true c.requires l.invariant c.if-used-slot.false

pub returns : goal.returns
returns c =
    let l = c.loop-g in
    sym (apart_all l.used _ l.g-index c.loop-g-test.false l.invariant)
