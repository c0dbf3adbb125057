-- `record::write_header` meets its contract: two numbers, one right behind the other.
-- Assumes nothing.
use mathlib.Core.Path.{ap, ◌∙◌}
use mathlib.Core.List.{List}
use Prim.Native.Nat.{ℕ}
use Rattle.lists.specs.Splice.{splice}
use Rattle.lists.proofs.Splice.{splice-join}
use Rattle.little_endian.specs.LittleEndian.{le_bytes}
use Rattle.record.specs.Record.{header_bytes}
use Rattle.record.proofs.write_header.Goals as goal

pub returns : goal.returns
unfolding header_bytes le_bytes
returns c =
    let a = c.args in
    let len4 : List ℕ = le_bytes 4 a.header.length in
    c.write_u64.ensures ∙ ap (λ l. splice 4 (le_bytes 8 a.header.id) l) c.write_u32.ensures
    ∙ splice-join 0 len4 (le_bytes 8 a.header.id) a.slot.now
