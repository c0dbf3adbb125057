-- `little_endian::write_u32` meets its contract: the bytes of the number, copied.
-- Assumes nothing.
use mathlib.Core.Path.{ap, ◌∙◌}
use Rattle.lists.specs.Splice.{splice}
use Rattle.little_endian.proofs.LittleEndian.{u32-bytes}
use Rattle.little_endian.proofs.write_u32.Goals as goal

pub returns : goal.returns
returns c =
    let a = c.args in
    c.copy_into.ensures ∙ ap (λ b. splice a.at b a.out.now) (c.to_le_bytes.ensures ∙ u32-bytes a.v)
