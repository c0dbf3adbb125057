-- For the public function: two answers that its contract allows, and two contents of the lent output, are equal. Stated of the contract
-- itself, as a caller learns it. Assumes nothing.
use Prim.Native.Nat.{ℕ}
use Rattle.lists.specs.Unique.{UniqueBoth}
use Rattle.lists.proofs.Unique.{unique}
use Rattle.refusal.proofs.Refusals.{outcomes-differ}
use Rattle.delta_encode.proofs.encode.Reads as encode

-- of `encode`: the answer with the length, and every byte of the output
pub encode-unique : UniqueBoth encode.Learnt (λ _ e. e.1.1.0.now)
encode-unique κs a r r' e e' p q = (outcomes-differ ℕ r r' (unique p.0 q.0), unique p.1 q.1)
