-- Two answers, and two areas afterwards, that the contract of `filled` allows are equal. Assumes nothing.
use Rattle.lists.specs.Unique.{UniqueBoth}
use Rattle.lists.proofs.Unique.{unique-both}
use Rattle.samples.proofs.filled.Reads as filled

pub filled-unique : UniqueBoth filled.Learnt (λ _ e. e.0.now)
filled-unique κs a r r' e e' = unique-both
