-- For each public function of this crate: two answers, and two contents of the lent buffer, that its contract allows are equal.
-- Assumes nothing.
use Rattle.lists.specs.Unique.{UniqueAnswer, UniqueBoth}
use Rattle.lists.proofs.Unique.{unique}
use Rattle.refusal.proofs.Refusals.{outcomes-differ}
use Rattle.segment_filename.proofs.format.Reads as format
use Rattle.segment_filename.proofs.parse.Reads as parse

pub format-unique : UniqueBoth format.Learnt (λ _ e. e.1.1.0.now)
format-unique κs a r r' e e' p q = (outcomes-differ _ r r' (unique p.0 q.0), unique p.1 q.1)

pub parse-unique : UniqueAnswer parse.Learnt
parse-unique κs a r r' e e' p q = outcomes-differ _ r r' (unique p q)
