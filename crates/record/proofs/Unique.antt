-- For each public function of this crate: two answers, and two contents of the lent slice, that its contract allows are equal.
-- Assumes nothing.
use Rattle.lists.specs.Unique.{UniqueAnswer, UniqueMemory}
use Rattle.lists.proofs.Unique.{unique}
use Rattle.refusal.proofs.Refusals.{outcomes-differ}
use Rattle.record.specs.declared.RecordHeader.{RecordHeader}
use Rattle.record.proofs.read_header.Reads as read-header
use Rattle.record.proofs.write_header.Reads as write-header

pub read-header-unique : UniqueAnswer read-header.Learnt
read-header-unique κs a r r' e e' p q = outcomes-differ RecordHeader r r' (unique p q)

pub write-header-unique : UniqueMemory write-header.Learnt (λ _ e. e.0.now)
write-header-unique κs a r r' e e' = unique
