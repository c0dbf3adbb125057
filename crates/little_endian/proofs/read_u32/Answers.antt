-- `little_endian::read_u32` meets its contract: the number that four bytes spell.
-- Assumes nothing.
use mathlib.Core.Path.{ap, sym, ◌∙◌}
use Rattle.lists.specs.Outcome.{done}
use Rattle.lists.proofs.Outcome.{handed-on}
use Rattle.refusal.specs.Refusals.{number, outcome}
use Rattle.little_endian.proofs.LittleEndian.{number-refused, number-of, u32-from}
use Rattle.little_endian.proofs.read_u32.Goals as goal

pub returns-in_err-bytes : goal.returns-in_err-bytes
returns-in_err-bytes c =
    let a = c.args in
    let e = c.in_err-bytes.field-0.0 in
    ap outcome (handed-on c.from_residual.result e c.from_residual.ensures.1)
    ∙ sym (number-refused 4 a.s.now a.at (number e) (ap outcome (sym c.in_err-bytes.was) ∙ c.array_at.ensures))

pub returns : goal.returns
returns c =
    let a = c.args in
    ap done (c.from_le_bytes.ensures ∙ u32-from c.in_ok-bytes.bytes) ∙ sym (number-of 4 a.s.now a.at _ (ap outcome (sym c.in_ok-bytes.was) ∙ c.array_at.ensures))
