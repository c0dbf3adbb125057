-- Two answers that the contract of `recover` allows are equal, with every byte of the area and every word of the index; so are two answers
-- of `read_rows`. Each is stated of what a caller learns from the generated contract; of `read_rows` that is written here and shown to be
-- what its contract ensures. Assumes nothing.
use mathlib.Core.Path.{◌≡◌, refl, sym, ap}
use mathlib.Core.List.{List}
use Prim.Native.Nat.{ℕ}
use Rattle.lists.specs.Unique.{UniqueAnswer, UniqueBoth}
use Rattle.lists.proofs.Unique.{unique}
use Rattle.std.specs.Prelude.{Result, Ok, Err}
use Rattle.refusal.specs.declared.Refusal.{Refusal}
use Rattle.refusal.proofs.Refusals.{numbers-differ}
use Rattle.seglog.proofs.New.{number-some}
use Rattle.image_rows.specs.Rows.{rows_of}
use Rattle.recovery.specs.declared.Recovered.{Recovered}
use Rattle.recovery.specs.Recovery.{RecoveryAnswer, answered}
use Rattle.recovery.specs.ByHand.{Account, SaysAll}
use Rattle.recovery.proofs.recover.Reads.{Learnt}
use Rattle.recovery.specs.contracts.read_rows as read-rows

-- two answers that come to the same are the same
answered-unique : (r q : Result Recovered Refusal) → answered r ≡ answered q → r ≡ q
answered-unique (Ok a) (Ok b) e = ap (λ (x : RecoveryAnswer). Ok (record { rows = x.rows; log = x.log })) e
answered-unique (Ok a) (Err b) e = absurd (number-some b (sym (ap (λ (x : RecoveryAnswer). x.refusal) e)))
answered-unique (Err a) (Ok b) e = absurd (number-some a (ap (λ (x : RecoveryAnswer). x.refusal) e))
answered-unique (Err a) (Err b) e = ap Err (numbers-differ a b (ap (λ (x : RecoveryAnswer). x.refusal) e))

pub recover-unique : UniqueBoth Learnt {M = List ℕ × List ℕ} (λ _ x. (x.1.0.now, x.1.1.1.1.0.now))
recover-unique κs a r r' x x' p q =
    (answered-unique r r' (unique p.answer q.answer), (λ i. (unique p.bytes q.bytes i, unique p.words q.words i)))

-- what a caller of `read_rows` learns: the answer is the rows of the lent list
abbrev pub ReadRowsLearnt : Account read-rows.ended
ReadRowsLearnt κs a r e = r ≡ rows_of a.0.now

-- its generated contract says this, and no more
pub read-rows-says : SaysAll read-rows.ended (λ M 𝓤. read-rows.clauses {M = M} {𝓤 = 𝓤}) ReadRowsLearnt
read-rows-says M 𝓤 𝓛 mem run κs a g r e = (refl, refl)

pub read-rows-unique : UniqueAnswer ReadRowsLearnt
read-rows-unique κs a r r' e e' = unique
