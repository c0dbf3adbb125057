-- For the public function of this crate: two answers that its contract allows are equal.
-- Assumes nothing.
use Rattle.lists.specs.Unique.{UniqueAnswer}
use Rattle.lists.proofs.Unique.{unique}
use Rattle.page.proofs.padded_end.Reads as padded-end

pub padded-end-unique : UniqueAnswer padded-end.Learnt
padded-end-unique κs a r r' e e' = unique
