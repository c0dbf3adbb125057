-- For each public function: two answers that its contract allows are equal. Stated of the contract itself, as a caller learns it.
-- Assumes nothing.
use Rattle.lists.specs.Unique.{UniqueAnswer, UniqueBoth}
use Rattle.lists.proofs.Unique.{unique}
use Rattle.refusal.proofs.Refusals.{outcomes-differ}
use Rattle.delta.proofs.Reading.{decode-determined, order-determined}
use Rattle.delta.proofs.arrange.Reads as arrange
use Rattle.delta.proofs.decode.Reads as decode
use Rattle.delta.proofs.in_order.Reads as in_order

-- of `arrange`: the refusal, or every row of the table
pub arrange-unique : UniqueAnswer arrange.Learnt
arrange-unique κs a r r' e e' p q = outcomes-differ _ r r' (unique p q)

-- of `decode`: the refusal, or the bytes consumed and every row of the table
pub decode-unique : UniqueAnswer decode.Learnt
decode-unique κs a r r' e e' p q = decode-determined r r' (unique p q)

-- of `in_order`: the refusal, and every row of the table afterwards
pub in_order-unique : UniqueBoth in_order.Learnt (λ _ e. e.0.now)
in_order-unique κs a r r' e e' p q = order-determined _ e.0.now e'.0.now r r' (unique p.0 q.0) p.1 q.1
