-- `delta_encode::put_row` meets its contract: three pieces, one behind the other. Assumes nothing.
use Rattle.std.proofs.Common.{◌≡◌, length, rules}
use Rattle.little_endian.specs.LittleEndian.{le_bytes}
use Rattle.little_endian.proofs.LittleEndian.{le-bytes-length}
use Rattle.delta_encode.proofs.BytesWritten.{splice-three}
use Rattle.delta_encode.proofs.put_row.Goals as goal

pub returns-clause-out_after : goal.returns-clause-out_after
returns-clause-out_after c =
    let k : length c.args.key.now ≡ 32 = search rules in
    let v = c.args.value.now in
    splice-three c.args.out.now c.args.at c.args.key.now (le_bytes 4 (length v)) v
    c.copy_into.new.out c.write_u32.new.out c.copy_into-2.new.out k (le-bytes-length 4 (length v))
    c.copy_into.ensures c.write_u32.ensures c.copy_into-2.ensures
