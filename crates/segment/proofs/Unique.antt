-- For each public function of this crate: two answers, or two areas afterwards, that its contract allows are equal. Assumes nothing.
use Rattle.lists.specs.Unique.{UniqueAnswer, UniqueMemory}
use Rattle.lists.proofs.Unique.{unique}
use Rattle.segment.proofs.no_segment.Reads as no-segment
use Rattle.segment.proofs.no_row.Reads as no_row
use Rattle.segment.proofs.ended_at.Reads as ended_at
use Rattle.segment.proofs.slot_inside.Reads as slot-inside
use Rattle.segment.proofs.truncate.Reads as truncate

pub no-segment-unique : UniqueAnswer no-segment.Learnt
no-segment-unique κs a r r' e e' = unique

pub no-row-unique : UniqueAnswer no_row.Learnt
no-row-unique κs a r r' e e' = unique

pub ended-at-unique : UniqueAnswer ended_at.Learnt
ended-at-unique κs a r r' e e' = unique

pub slot-inside-unique : UniqueAnswer slot-inside.Learnt
slot-inside-unique κs a r r' e e' = unique

pub truncate-unique : UniqueMemory truncate.Learnt (λ _ e. e.0.now)
truncate-unique κs a r r' e e' = unique
