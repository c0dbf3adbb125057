-- `delta_encode::measure` meets its contract. Assumes nothing.
use Rattle.std.proofs.Common.{◌≡◌, [], ap, get_or, arith}
use Rattle.delta.specs.Table.{erased}
use Rattle.delta_encode.specs.declared.Sizes.{Sizes}
use Rattle.delta_encode.specs.Bytes.{erases, reinstates}
use Rattle.delta_encode.proofs.BytesWritten.{measuring-step, measuring-end}
use Rattle.delta_encode.proofs.measure.Goals.{then-row, else-row}
use Rattle.delta_encode.proofs.measure.Goals as goal

pub overflow_add-sizes : goal.overflow_add-sizes
overflow_add-sizes c = omega (arith, c.row_size.ensures)

pub loop-row-preserved : goal.loop-row-preserved
loop-row-preserved c =
    let d = erased [] in
    let rows = c.args.rows.now in
    let i = c.loop-row.row-index in
    let m = c.loop-row.sizes in
    let m' = c.if-row.sizes in
    let s = c.row_size.ensures.value in
    let b = c.row_size.ensures.bound in
    let step = measuring-step rows i d c.loop-row-test.true m m' c.row_size.ensures.keyed in
    elim c.if-row.branch [
      | then-row w ↦
          let x = ap (λ (z : Sizes). z.erases) w.sizes-is in
          let y = ap (λ (z : Sizes). z.reinstates) w.sizes-is in
          let z = ap (λ (z : Sizes). z.size) w.sizes-is in
          let e : erases (get_or rows i d) ≡ 0 = rw w.if-row.true in
          let k : reinstates (get_or rows i d) ≡ 1 = rw w.if-row.true in
          record {
            counted = omega arith;
            small = omega arith;
            measured = step (omega arith) (omega arith) (omega arith) c.loop-row.invariant.measured;
          }
      | else-row w ↦
          let x = ap (λ (z : Sizes). z.erases) w.sizes-is in
          let y = ap (λ (z : Sizes). z.reinstates) w.sizes-is in
          let z = ap (λ (z : Sizes). z.size) w.sizes-is in
          let e : erases (get_or rows i d) ≡ 1 = rw w.if-row.false in
          let k : reinstates (get_or rows i d) ≡ 0 = rw w.if-row.false in
          record {
            counted = omega arith;
            small = omega arith;
            measured = step (omega arith) (omega arith) (omega arith) c.loop-row.invariant.measured;
          }
    ]

pub returns : goal.returns
returns c = measuring-end c.args.rows.now c.loop-row.row-index c.loop-row.sizes c.loop-row-test.false c.loop-row.invariant.measured
