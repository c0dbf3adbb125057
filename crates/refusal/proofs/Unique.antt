-- For the public function of this crate: two answers that its contract allows are equal. Assumes nothing.
use Rattle.lists.specs.Unique.{UniqueAnswer}
use Rattle.lists.proofs.Unique.{unique}
use Rattle.refusal.proofs.Refusal.number.Reads as number

pub number-unique : UniqueAnswer number.Learnt
number-unique κs a r r' e e' = unique
