-- The table that is lent, as the library holds it, row by row. Assumes nothing.
use Rattle.std.proofs.Common.{◌≡◌, [], length, refl, sym, rules}
use Rattle.lists.proofs.Arrays.{unmapped}
use Rattle.iflughan.specs.declared.DeltaRow.{DeltaRow}
use Rattle.iflughan.specs.Deltas.{row_in}
use Rattle.iflughan.proofs.DeltasRows.{turned-more, turned-all}
use Rattle.iflughan.proofs.deltas.TableFromDelta.from.Goals as goal

abbrev nothing : DeltaRow
nothing = record { key = []; present = 0; reserved = []; offset = 0; length = 0; reserved_too = 0 }

pub loop-i-init : goal.loop-i-init
loop-i-init c =
    let l : length c.args.t.rows ≡ 256 = search (rules, unmapped) in
    record { long = sym l; front = refl }

pub loop-i-preserved : goal.loop-i-preserved
loop-i-preserved c =
    let l : length c.args.t.rows ≡ 256 = search (rules, unmapped) in
    rw c.from.ensures (turned-more row_in c.args.t.rows c.loop-i.rows c.loop-i.i nothing (rw l c.loop-i-test.true) c.loop-i.invariant)

pub returns : goal.returns
returns c =
    let l : length c.args.t.rows ≡ 256 = search (rules, unmapped) in
    let rows = turned-all row_in c.args.t.rows c.loop-i.rows c.loop-i.i (rw l c.loop-i-test.false) c.loop-i.invariant in
    λ i. record { rows = rows i; count = c.args.t.count }
