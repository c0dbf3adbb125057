-- Two answers of `path_into`, and two contents of the lent buffer, that its contract allows are equal. (What a file gives is in no contract.)
-- Assumes nothing.
use Rattle.lists.specs.Unique.{UniqueBoth}
use Rattle.text.proofs.Unique.{text-unique}
use Rattle.folders.proofs.path_into.Reads as path-into

pub path-into-unique : UniqueBoth path-into.Learnt (λ _ e. e.1.1.0.now)
path-into-unique κs a r r' e e' = text-unique
