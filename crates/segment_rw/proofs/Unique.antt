-- Two answers, and two areas afterwards, that the contract of `append_record` allows are equal. Assumes nothing.
use Rattle.lists.specs.Unique.{UniqueBoth}
use Rattle.lists.proofs.Unique.{unique-both}
use Rattle.segment_rw.proofs.append_record.Reads as append-record

pub append-record-unique : UniqueBoth append-record.Learnt (λ _ e. e.0.now)
append-record-unique κs a r r' e e' p q = unique-both (p.size_is, p.area-is) (q.size_is, q.area-is)
