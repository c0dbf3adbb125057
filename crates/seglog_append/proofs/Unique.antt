-- Two answers, and two areas afterwards, that the contract of `append` allows are equal. So are two decisions, and two answers foretold.
-- Assumes nothing.
use Rattle.std.proofs.Common.{◌≡◌, sym, ap, ◌∙◌}
use Rattle.std.specs.Prelude.{Result, Ok, Err}
use Rattle.lists.specs.Unique.{UniqueAnswer, UniqueBoth}
use Rattle.refusal.specs.declared.Refusal.{Refusal}
use Rattle.refusal.proofs.Refusals.{numbers-differ, outcomes-differ}
use Rattle.seglog.specs.declared.Log.{Log}
use Rattle.seglog.proofs.New.{number-some}
use Rattle.seglog_append.specs.declared.Appended.{Appended}
use Rattle.seglog_append.specs.declared.Place.{Place}
use Rattle.seglog_append.specs.Appending.{AppendAnswer, appended}
use Rattle.seglog_append.proofs.advance.Reads as advance
use Rattle.seglog_append.proofs.append.Reads as append
use Rattle.seglog_append.proofs.decide.Reads as decide

-- an answer and a log are two answers' only where the answers are one
pub appended-unique : (l : Log) (r q : Result Appended Refusal) → appended l r ≡ appended l q → r ≡ q
appended-unique l (Ok a) (Ok b) e = ap Ok (ap (λ (x : AppendAnswer). record { id = x.id; log = x.log }) e)
appended-unique l (Ok a) (Err b) e = absurd (number-some b (sym (ap (λ (x : AppendAnswer). x.refusal) e)))
appended-unique l (Err a) (Ok b) e = absurd (number-some a (ap (λ (x : AppendAnswer). x.refusal) e))
appended-unique l (Err a) (Err b) e = ap Err (numbers-differ a b (ap (λ (x : AppendAnswer). x.refusal) e))

pub decide-unique : UniqueAnswer decide.Learnt
decide-unique κs a r r' e e' p q = outcomes-differ Place r r' (p ∙ sym q)

pub advance-unique : UniqueAnswer advance.Learnt
advance-unique κs a r r' e e' p q = appended-unique _ r r' (p ∙ sym q)

pub append-unique : UniqueBoth append.Learnt (λ _ e. e.1.0.now)
append-unique κs a r r' e e' p q = (appended-unique _ r r' (p.0 ∙ sym q.0), p.1 ∙ sym q.1)
