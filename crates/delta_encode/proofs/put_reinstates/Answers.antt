-- `delta_encode::put_reinstates` meets its contract: a present row's key, length and value are the next piece, and an absent row gives
-- none. Assumes nothing.
use Rattle.std.proofs.Common.{[], ◌++◌, ◌+◌, ◌≡◌, length, get_or, drop, arith, ◌∙◌}
use Rattle.lists.proofs.Each.{every-at}
use Rattle.lists.specs.Splice.{splice}
use Rattle.little_endian.specs.LittleEndian.{le_bytes}
use Rattle.delta.specs.Table.{erased}
use Rattle.delta_encode.specs.Bytes.{concat, reinstate_bytes, value_of}
use Rattle.delta_encode.proofs.BytesWritten.{writing_step, writing-room, writing-end, concat-end, reinstate-absent, reinstate-present}
use Rattle.delta_encode.proofs.BytesWritten.{inside, present-length}
use Rattle.delta_encode.proofs.put_reinstates.Goals.{then-row, else-row}
use Rattle.delta_encode.proofs.put_reinstates.Goals as goal

pub value_in-requires : goal.value_in-requires
value_in-requires c = inside c.args.rows.now c.loop-row.row-index (erased []) c.loop-row-test.true c.args.values.now c.requires.inside c.if-row.true

pub put_row-p-requires-clause-in_bounds : goal.put_row-p-requires-clause-in_bounds
put_row-p-requires-clause-in_bounds c =
    let a = c.args in
    let v = a.values.now in
    let rows = a.rows.now in
    let i = c.loop-row.row-index in
    let d = erased [] in
    let r = get_or rows i d in
    let f = concat (reinstate_bytes v) in
    let k = every-at (λ x. length x.key ≡ 32) d rows i c.requires.keyed c.loop-row-test.true in
    let n = present-length v r k (inside rows i d c.loop-row-test.true v c.requires.inside c.if-row.true) in
    let room = writing-room a.out.now a.at (f rows) c.loop-row.out c.loop-row.p (f (drop i rows)) c.loop-row.invariant
    (r.key ++ (le_bytes 4 r.length ++ value_of v r)) (f (drop (i + 1) rows)) c.requires.in_bounds
    (reinstate-present rows i d c.loop-row-test.true v c.if-row.true) in
    omega (arith, c.value_in.ensures.long)

pub loop-row-preserved : goal.loop-row-preserved
loop-row-preserved c =
    let a = c.args in
    let v = a.values.now in
    let rows = a.rows.now in
    let i = c.loop-row.row-index in
    let d = erased [] in
    let r = get_or rows i d in
    let f = concat (reinstate_bytes v) in
    elim c.if-row.branch [
      | then-row w ↦
          let k = every-at (λ x. length x.key ≡ 32) d rows i c.requires.keyed c.loop-row-test.true in
          let n = present-length v r k (inside rows i d c.loop-row-test.true v c.requires.inside w.if-row.true) in
          let l : length w.value_in.result.now ≡ r.length = w.value_in.ensures.long in
          let q : c.if-row.p ≡ c.loop-row.p + length (r.key ++ (le_bytes 4 r.length ++ value_of v r)) =
          omega (arith, w.p-is, w.put_row-p.ensures.value) in
          let o : c.if-row.out ≡ splice c.loop-row.p (r.key ++ (le_bytes 4 r.length ++ value_of v r)) c.loop-row.out =
          w.out-is ∙ rw (← w.value_in.ensures.value, ← l) w.put_row-p.ensures.out_after in
          writing_step a.out.now a.at (f rows) c.loop-row.out c.loop-row.p (f (drop i rows)) c.loop-row.invariant
          (r.key ++ (le_bytes 4 r.length ++ value_of v r)) (f (drop (i + 1) rows)) c.if-row.out c.if-row.p
          (reinstate-present rows i d c.loop-row-test.true v w.if-row.true) o q
      | else-row w ↦
          rw (w.out-is, w.p-is, ← reinstate-absent rows i d c.loop-row-test.true v w.if-row.false) c.loop-row.invariant
    ]

pub returns : goal.returns
returns c =
    let a = c.args in
    let f = reinstate_bytes a.values.now in
    let both = writing-end a.out.now a.at (concat f a.rows.now) c.loop-row.out c.loop-row.p _ c.loop-row.invariant
    (concat-end a.rows.now c.loop-row.row-index f c.loop-row-test.false) in
    record { value = both.0; out_after = both.1 }
