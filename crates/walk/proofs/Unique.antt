-- For each public function of this crate: two answers that its contract allows are equal. Assumes nothing.
use Rattle.lists.specs.Unique.{UniqueAnswer}
use Rattle.lists.proofs.Unique.{unique}
use Rattle.walk.proofs.start.Reads as start
use Rattle.walk.proofs.opened.Reads as opened
use Rattle.walk.proofs.next_image.Reads as next-image
use Rattle.walk.proofs.goes_on.Reads as goes_on
use Rattle.walk.proofs.more.Reads as more
use Rattle.walk.proofs.record_at.Reads as record-at
use Rattle.walk.proofs.Range.holds.Reads as holds
use Rattle.walk.proofs.judge.Reads as judge
use Rattle.walk.proofs.record_step.Reads as record-step
use Rattle.walk.proofs.walk_image.Reads as walk-image

pub start-unique : UniqueAnswer start.Learnt
start-unique κs a r r' e e' = unique

pub opened-unique : UniqueAnswer opened.Learnt
opened-unique κs a r r' e e' = unique

pub next-image-unique : UniqueAnswer next-image.Learnt
next-image-unique κs a r r' e e' = unique

pub goes-on-unique : UniqueAnswer goes_on.Learnt
goes-on-unique κs a r r' e e' = unique

pub more-unique : UniqueAnswer more.Learnt
more-unique κs a r r' e e' = unique

pub record-at-unique : UniqueAnswer record-at.Learnt
record-at-unique κs a r r' e e' = unique

pub holds-unique : UniqueAnswer holds.Learnt
holds-unique κs a r r' e e' = unique

pub judge-unique : UniqueAnswer judge.Learnt
judge-unique κs a r r' e e' = unique

pub record-step-unique : UniqueAnswer record-step.Learnt
record-step-unique κs a r r' e e' = unique

pub walk-image-unique : UniqueAnswer walk-image.Learnt
walk-image-unique κs a r r' e e' = unique
