-- `delta_encode::put_erases` meets its contract: an absent row's key is the next piece, and a present row gives none. Assumes nothing.
use Rattle.std.proofs.Common.{[], ◌+◌, ◌≡◌, length, get_or, drop, arith}
use Rattle.lists.proofs.Each.{every-at}
use Rattle.delta.specs.Table.{erased}
use Rattle.delta_encode.specs.Bytes.{concat, erase_bytes}
use Rattle.delta_encode.proofs.BytesWritten.{writing_step, writing-end, concat-end, erase-absent, erase-present}
use Rattle.delta_encode.proofs.put_erases.Goals.{then-not-row, else-not-row}
use Rattle.delta_encode.proofs.put_erases.Goals as goal

pub loop-row-preserved : goal.loop-row-preserved
loop-row-preserved c =
    let a = c.args in
    let rows = a.rows.now in
    let i = c.loop-row.row-index in
    let d = erased [] in
    let bytes = concat erase_bytes in
    let more = bytes (drop (i + 1) rows) in
    elim c.if-not-row.branch [
      | then-not-row w ↦
          let k = every-at (λ r. length r.key ≡ 32) d rows i c.requires.keyed c.loop-row-test.true in
          writing_step a.out.now a.at (bytes rows) c.loop-row.out c.loop-row.p (bytes (drop i rows)) c.loop-row.invariant
          (get_or rows i d).key more c.if-not-row.out c.if-not-row.p
          (erase-absent rows i d c.loop-row-test.true w.if-not-row.true) (cc) (omega (arith, w.p-is))
      | else-not-row w ↦
          rw (w.out-is, w.p-is, ← erase-present rows i d c.loop-row-test.true w.if-not-row.false) c.loop-row.invariant
    ]

pub returns : goal.returns
returns c =
    let a = c.args in
    let both = writing-end a.out.now a.at (concat erase_bytes a.rows.now) c.loop-row.out c.loop-row.p _ c.loop-row.invariant
    (concat-end a.rows.now c.loop-row.row-index erase_bytes c.loop-row-test.false) in
    record { value = both.0; out_after = both.1 }
