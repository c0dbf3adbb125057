-- For each public function of this crate: two answers, and two areas afterwards, that its contract allows are equal. Assumes nothing.
use Rattle.lists.specs.Unique.{UniqueBoth}
use Rattle.lists.proofs.Unique.{unique-both}
use Rattle.seglog.proofs.New.{logged-unique}
use Rattle.seglog_prune.proofs.prune_oldest.Reads as prune-oldest
use Rattle.seglog_prune.proofs.prune_recent.Reads as prune-recent

pub prune-oldest-unique : UniqueBoth prune-oldest.Learnt (λ _ e. e.1.0.now)
prune-oldest-unique κs a r r' e e' p q = let both = unique-both p q in (logged-unique _ r r' both.0, both.1)

pub prune-recent-unique : UniqueBoth prune-recent.Learnt (λ _ e. e.1.0.now)
prune-recent-unique κs a r r' e e' p q = let both = unique-both p q in (logged-unique _ r r' both.0, both.1)
