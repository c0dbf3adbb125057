-- The library's rows, as they are answered, row by row. Assumes nothing.
use Rattle.std.proofs.Common.{◌≡◌, [], length, refl, sym, rules}
use Rattle.lists.proofs.Arrays.{unmapped}
use Rattle.delta.specs.Table.{erased}
use Rattle.iflughan.specs.Deltas.{row_out}
use Rattle.iflughan.proofs.DeltasRows.{turned-more, turned-all}
use Rattle.iflughan.proofs.deltas.rows_out.Goals as goal

pub loop-i-init : goal.loop-i-init
loop-i-init c =
    let l : length c.args.rows.now ≡ 256 = search (rules, unmapped) in
    record { long = sym l; front = refl }

pub loop-i-preserved : goal.loop-i-preserved
loop-i-preserved c =
    let l : length c.args.rows.now ≡ 256 = search (rules, unmapped) in
    rw c.from.ensures (turned-more row_out c.args.rows.now c.loop-i.out c.loop-i.i (erased []) (rw l c.loop-i-test.true) c.loop-i.invariant)

pub returns : goal.returns
returns c =
    let l : length c.args.rows.now ≡ 256 = search (rules, unmapped) in
    turned-all row_out c.args.rows.now c.loop-i.out c.loop-i.i (rw l c.loop-i-test.false) c.loop-i.invariant
