-- Two answers that the contract of `scan_images` allows are equal, and so are the index contents that they leave: said of the
-- generated contract itself. Assumes nothing.
use Rattle.lists.specs.Unique.{UniqueBoth}
use Rattle.lists.proofs.Unique.{unique}
use Rattle.refusal.proofs.Refusals.{outcomes-differ}
use Rattle.recovery_walk.specs.declared.Scanned.{Scanned}
use Rattle.recovery_walk.proofs.scan_images.Reads.{Learnt}

pub scan-images-unique : UniqueBoth Learnt (λ _ x. x.1.1.1.1.0.now)
scan-images-unique κs a r r' x x' p q = (outcomes-differ Scanned r r' (unique p.answer q.answer), unique p.words q.words)
