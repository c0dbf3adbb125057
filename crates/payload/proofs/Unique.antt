-- For each public function of this crate: two answers that its contract allows are equal. Of a part that is handed back its bytes are
-- meant. Assumes nothing.
use mathlib.Core.Path.{◌≡◌}
use Rattle.lists.specs.Unique.{UniqueAnswer}
use Rattle.lists.proofs.Unique.{unique}
use Rattle.payload.proofs.Row.{row-determined, delta-determined}
use Rattle.payload.proofs.row_question.Reads as row-question
use Rattle.payload.proofs.payload_delta.Reads as payload-delta
use Rattle.payload.proofs.payload.Reads as payload
use Rattle.payload.proofs.payload.Kinds as Payload
use borrow.Fn.Kinds.{Dens, ended_of, res_t}
use contract.Lifetimes.{Lfts}
use denote.Triple.Clauses.{AtExit}

pub row-question-unique : UniqueAnswer row-question.Learnt
row-question-unique κs a r r' e e' p q = row-determined r r' (unique p q)

-- the bytes of the part; its place: docs/DECISIONS.md
pub payload-unique : (κs : Lfts 1) (a : Dens κs Payload.ps) (r r' : (res_t Payload.r κs).Denot)
    (e e' : AtExit (ended_of 1 Payload.ps Payload.r) κs) → payload.Learnt κs a r e → payload.Learnt κs a r' e' → r.now ≡ r'.now
payload-unique κs a r r' e e' = unique

pub payload-delta-unique : UniqueAnswer payload-delta.Learnt
payload-delta-unique κs a r r' e e' p q = delta-determined r r' (unique p q)
