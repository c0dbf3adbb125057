-- `put_record` meets its contract: header, payload and zeros, one right behind the other. Assumes nothing.
use native.Mathlib.Omega.{arith}
use lib.ListN.{length}
use Rattle.record.specs.declared.RecordHeader.{RecordHeader}
use Rattle.record.specs.Record.{header_bytes}
use Rattle.record.proofs.Record.{header as head, header-length}
use Rattle.segment_rw.proofs.Writer.{lent-splice, record-written}
use Rattle.segment_rw.proofs.put_record.Goals as goal

pub returns : goal.returns
returns c =
    let a = c.args in
    let h : RecordHeader = head (length a.payload.now) a.id in
    record-written a.at a.room a.id a.payload.now a.area.now _ _ _
    (lent-splice a.at a.end (header_bytes h) a.area.now _
    (omega (arith, header-length h, c.requires.holds, c.requires.room-inside)) c.requires.slot-inside c.write_header.ensures)
    c.copy_into.ensures c.zero_fill.ensures
