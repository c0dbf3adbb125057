-- For each public function of this crate: two answers, and two areas afterwards, that its contract allows are equal. Assumes nothing.
use mathlib.Core.Path.{sym, ◌∙◌}
use Rattle.lists.specs.Unique.{UniqueAnswer, UniqueBoth}
use Rattle.lists.proofs.Unique.{unique}
use Rattle.seglog.specs.View.{zero_log}
use Rattle.seglog.proofs.New.{logged-unique}
use Rattle.seglog.proofs.sizes_fit.Reads as sizes-fit
use Rattle.seglog.proofs.fits.Reads as fits
use Rattle.seglog.proofs.empty_log.Reads as empty-log
use Rattle.seglog.proofs.new_log.Reads as new-log
use Rattle.seglog.proofs.live_range.Reads as live-range

pub sizes-fit-unique : UniqueAnswer sizes-fit.Learnt
sizes-fit-unique κs a r r' e e' = unique

pub fits-unique : UniqueAnswer fits.Learnt
fits-unique κs a r r' e e' = unique

pub empty-log-unique : UniqueAnswer empty-log.Learnt
empty-log-unique κs a r r' e e' = unique

pub new-log-unique : UniqueBoth new-log.Learnt (λ _ e. e.1.0.now)
new-log-unique κs a r r' e e' p q = (logged-unique zero_log r r' (p.0 ∙ sym q.0), p.1 ∙ sym q.1)

pub live-range-unique : UniqueAnswer live-range.Learnt
live-range-unique κs a r r' e e' = unique
