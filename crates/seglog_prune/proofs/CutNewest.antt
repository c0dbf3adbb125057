-- The look at a segment's newest header, condition by condition: 10 exactly where the length, the payload's end or the id is wrong.
-- Assumes nothing.
use Prim.Native.Nat.{◌+◌, ◌-◌}
use native.Mathlib.Omega.{arith}
use mathlib.Core.Path.{◌≡◌}
use mathlib.Core.Bool.{true, false}
use lib.ListN.{length}
use lib.Dec.{ltb, eqb}
use borrow.Author.Tests.{le-ltb}
use Rattle.lists.proofs.Cases.{by-test}
use Rattle.little_endian.specs.LittleEndian.{le_at}
use Rattle.record.specs.Record.{max_payload, header_at, header_of}
use Rattle.walk.specs.Judging.{header_fits, record_at}
use Rattle.walk.proofs.Judging.{inside-fits}
use Rattle.seglog_prune.specs.Cut.{look_at}
use Rattle.seglog_prune.specs.Promised.{newest_cut, NewestCutIs}

pub newest-cut-is : NewestCutIs
unfolding newest_cut look_at record_at header_at header_of
newest-cut-is img n at room small =
    let fits : header_fits (length img) at ≡ true = inside-fits (length img) at (record { small = omega arith; room = room }) in
    let long : ltb (length img - at) 12 ≡ false = le-ltb (length img - at) 12 (omega arith) in
    by-test (ltb max_payload (le_at 4 img at)) (λ q. simp (fits, long, q))
    (λ q. by-test (ltb (length img) (at + 12 + le_at 4 img at)) (λ r. simp (fits, long, q, r))
    (λ r. by-test (eqb (le_at 8 img (at + 4)) n) (λ t. simp (fits, long, q, r, t)) (λ t. simp (fits, long, q, r, t))))
