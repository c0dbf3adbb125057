-- `iflughan::iflughan_payload` meets its contract: a good row's payload lies in the area, so that its place fits. Assumes nothing.
use Rattle.std.proofs.Common.{sym, rules}
use Rattle.payload.specs.Row.{GoodRow}
use Rattle.payload.proofs.Row.{row-good}
use Rattle.iflughan.proofs.recover.iflughan_payload.Goals as goal

pub overflow_mul-result : goal.overflow_mul-result
overflow_mul-result c =
    let a = c.args in
    let good : GoodRow a.log a.area.now a.slot a.offset a.length = row-good _ _ _ _ _ (sym c.in-Ok.ensures) in
    search rules

pub overflow_add-result : goal.overflow_add-result
overflow_add-result c =
    let a = c.args in
    let good : GoodRow a.log a.area.now a.slot a.offset a.length = row-good _ _ _ _ _ (sym c.in-Ok.ensures) in
    search rules
