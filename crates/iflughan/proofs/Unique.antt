-- For each exported function: two answers, and two contents of each lent slice, that its contract allows are equal. Each is stated of what
-- a caller learns from the generated contract; of `iflughan_recover` that is written here and shown to be what its contract ensures.
-- Assumes nothing.
use mathlib.Core.Path.{refl}
use mathlib.Core.List.{List}
use Prim.Native.Nat.{ℕ}
use lib.ListN.{length}
use Rattle.lists.specs.Unique.{UniqueAnswer, UniqueBoth}
use Rattle.lists.proofs.Unique.{unique, unique-both}
use Rattle.recovery.specs.Recovery.{recovery_of}
use Rattle.recovery.specs.ByHand.{Account, SaysAll}
use Rattle.iflughan.specs.Recover.{Recovers}
use Rattle.iflughan.proofs.log.iflughan_new.Reads as new
use Rattle.iflughan.proofs.log.iflughan_append.Reads as append
use Rattle.iflughan.proofs.log.iflughan_prune_oldest.Reads as prune-oldest
use Rattle.iflughan.proofs.log.iflughan_prune_recent.Reads as prune-recent
use Rattle.iflughan.specs.contracts.recover.iflughan_recover as recover
use Rattle.iflughan.proofs.recover.iflughan_row_question.Reads as row-question
use Rattle.iflughan.proofs.recover.iflughan_payload.Reads as payload
use Rattle.iflughan.proofs.names.iflughan_name_write.Reads as name-write
use Rattle.iflughan.proofs.names.iflughan_name_parse.Reads as name-parse
use Rattle.iflughan.proofs.deltas.iflughan_delta_decode.Reads as delta-decode
use Rattle.iflughan.proofs.deltas.iflughan_delta_encode.Reads as delta-encode

-- ---- the log: the answer, and the area

pub iflughan-new-unique : UniqueBoth new.Learnt (λ _ e. e.1.1.1.0.now)
iflughan-new-unique κs a r r' e e' = unique-both

pub iflughan-append-unique : UniqueBoth append.Learnt (λ _ e. e.1.0.now)
iflughan-append-unique κs a r r' e e' = unique-both

pub iflughan-prune-oldest-unique : UniqueBoth prune-oldest.Learnt (λ _ e. e.1.0.now)
iflughan-prune-oldest-unique κs a r r' e e' = unique-both

pub iflughan-prune-recent-unique : UniqueBoth prune-recent.Learnt (λ _ e. e.1.0.now)
iflughan-prune-recent-unique κs a r r' e e' = unique-both

-- ---- recovery: the answer, the area and the index

-- what a caller of `iflughan_recover` learns: the answer, every byte of the area and every word of the index are the recovery's
abbrev pub RecoverLearnt : Account recover.ended
RecoverLearnt κs (k, (c, (m, (area, (images, (s, (e, (index, _)))))))) r x =
    Recovers (recovery_of k c m area.now images.now s e (length index.now)) area.now index.now r x.1.1.1.0.now
    x.1.1.1.1.1.1.1.0.now

-- its generated contract says this, and no more
pub iflughan-recover-says : SaysAll recover.ended (λ M 𝓤. recover.clauses {M = M} {𝓤 = 𝓤}) RecoverLearnt
iflughan-recover-says M 𝓤 𝓛 mem run κs a g r x = (refl, refl)

pub iflughan-recover-unique : UniqueBoth RecoverLearnt {M = List ℕ × List ℕ}
    (λ _ x. (x.1.1.1.0.now, x.1.1.1.1.1.1.1.0.now))
iflughan-recover-unique κs a r r' x x' p q =
    (unique p.answer q.answer, (λ i. (unique p.bytes q.bytes i, unique p.words q.words i)))

-- ---- an index row: the answer

pub iflughan-row-question-unique : UniqueAnswer row-question.Learnt
iflughan-row-question-unique κs a r r' e e' = unique

pub iflughan-payload-unique : UniqueAnswer payload.Learnt
iflughan-payload-unique κs a r r' e e' = unique

-- ---- names: the answer, and the buffer that is written

pub iflughan-name-write-unique : UniqueBoth name-write.Learnt (λ _ e. e.1.1.0.now)
iflughan-name-write-unique κs a r r' e e' = unique-both

pub iflughan-name-parse-unique : UniqueAnswer name-parse.Learnt
iflughan-name-parse-unique κs a r r' e e' = unique

-- ---- deltas: the answer, and the buffer that is written

pub iflughan-delta-decode-unique : UniqueAnswer delta-decode.Learnt
iflughan-delta-decode-unique κs a r r' e e' = unique

pub iflughan-delta-encode-unique : UniqueBoth delta-encode.Learnt (λ _ e. e.1.1.0.now)
iflughan-delta-encode-unique κs a r r' e e' = unique-both
