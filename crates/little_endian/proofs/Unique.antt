-- For each public function of this crate: two answers, and two contents of the lent slice, that its contract allows are equal.
-- Assumes nothing.
use Rattle.lists.specs.Unique.{UniqueAnswer, UniqueMemory}
use Rattle.lists.proofs.Unique.{unique}
use Rattle.refusal.proofs.Refusals.{outcomes-differ}
use Rattle.std.specs.Prelude.{ℕ, List}
use Rattle.std.proofs.Common.{Fits, w64}
use Rattle.little_endian.proofs.array_at.Reads as array-at
use Rattle.little_endian.proofs.read_u32.Reads as read_u32
use Rattle.little_endian.proofs.read_u64.Reads as read_u64
use Rattle.little_endian.proofs.write_u32.Reads as write-u32
use Rattle.little_endian.proofs.write_u64.Reads as write-u64

pub array-at-unique : (n : ℕ) (f : Fits w64 n) → UniqueAnswer (array-at.Learnt n f)
array-at-unique n f κs a r r' e e' p q = outcomes-differ (List ℕ) r r' (unique p q)

pub read-u32-unique : UniqueAnswer read_u32.Learnt
read-u32-unique κs a r r' e e' p q = outcomes-differ ℕ r r' (unique p q)

pub read-u64-unique : UniqueAnswer read_u64.Learnt
read-u64-unique κs a r r' e e' p q = outcomes-differ ℕ r r' (unique p q)

pub write-u32-unique : UniqueMemory write-u32.Learnt (λ _ e. e.0.now)
write-u32-unique κs a r r' e e' = unique

pub write-u64-unique : UniqueMemory write-u64.Learnt (λ _ e. e.0.now)
write-u64-unique κs a r r' e e' = unique
