-- `record::read_header` meets its contract: each way out is one case of the definition.
-- Assumes nothing.
use mathlib.Core.Path.{◌≡◌, sym, ap, ◌∙◌}
use Prim.Native.Nat.{◌+◌, ◌-◌, ◌≤◌}
use native.Mathlib.Omega.{arith}
use lib.ListN.{length}
use Rattle.refusal.specs.Refusals.{number, outcome}
use Rattle.little_endian.specs.LittleEndian.{le_at}
use Rattle.little_endian.proofs.LittleEndian.{number_is, number-stands}
use Rattle.record.proofs.Record.{header-refuses-17, header-refuses-18, header-reads}
use Rattle.record.proofs.read_header.Goals as goal

pub returns-then-saturating_sub-lt-HEADER_SIZE : goal.returns-then-saturating_sub-lt-HEADER_SIZE
returns-then-saturating_sub-lt-HEADER_SIZE c =
    let a = c.args in sym (header-refuses-17 a.img.now a.pos (omega arith))

pub returns-in_err-length : goal.returns-in_err-length
returns-in_err-length c =
    let img = c.args.img.now in
    let pos = c.args.pos in
    let stands : 12 ≤ length img - pos = omega arith in
    absurd (number-stands 4 img pos (omega (arith, stands)) (number c.in_err-length.field-0.0) (sym c.read_u32.ensures ∙ ap outcome c.in_err-length.was))

pub returns-then-length-gt-MAX_RECORD_PAYLOAD_SIZE : goal.returns-then-length-gt-MAX_RECORD_PAYLOAD_SIZE
returns-then-length-gt-MAX_RECORD_PAYLOAD_SIZE c =
    let img = c.args.img.now in
    let pos = c.args.pos in
    let stands : 12 ≤ length img - pos = omega arith in
    let spelled : le_at 4 img pos ≡ c.in_ok-length.length = number_is 4 img pos c.in_ok-length.length
    (sym c.read_u32.ensures ∙ ap outcome c.in_ok-length.was) in
    sym (header-refuses-18 img pos stands (omega (arith, c.if-length-gt-MAX_RECORD_PAYLOAD_SIZE.true, spelled)))

pub returns-in_err-id : goal.returns-in_err-id
returns-in_err-id c =
    let img = c.args.img.now in
    let pos = c.args.pos in
    let stands : 12 ≤ length img - pos = omega arith in
    absurd (number-stands 8 img (pos + 4) (omega (arith, stands)) (number c.in_err-id.field-0.0) (sym c.read_u64.ensures ∙ ap outcome c.in_err-id.was))

pub returns : goal.returns
returns c =
    let img = c.args.img.now in
    let pos = c.args.pos in
    let stands : 12 ≤ length img - pos = omega arith in
    let spelled : le_at 4 img pos ≡ c.in_ok-length.length = number_is 4 img pos c.in_ok-length.length
    (sym c.read_u32.ensures ∙ ap outcome c.in_ok-length.was) in
    let id-there = number_is 8 img (pos + 4) c.in_ok-id.id (sym c.read_u64.ensures ∙ ap outcome c.in_ok-id.was) in
    sym (header-reads img pos _ _ stands spelled id-there (omega (arith, c.if-length-gt-MAX_RECORD_PAYLOAD_SIZE.false)))
