-- For each public function of this crate: two answers, and two contents of the lent buffer, that its contract allows are equal.
-- Assumes nothing.
use mathlib.Core.List.{List}
use Prim.Native.Nat.{ℕ}
use Rattle.lists.specs.Unique.{UniqueAnswer, UniqueMemory}
use Rattle.lists.proofs.Unique.{unique}
use Rattle.text.proofs.Unique.{same-text}
use Rattle.listing.proofs.images_of.Reads as images-of
use Rattle.listing.proofs.kept.Reads as kept
use Rattle.listing.proofs.row.Reads as row
use Rattle.listing.proofs.rows.Reads as rows

pub images-of-unique : UniqueAnswer images-of.Learnt
images-of-unique κs a r r' e e' = unique

pub kept-unique : UniqueMemory kept.Learnt {M = ℕ × List ℕ} (λ _ e. (e.1.0.now.end, e.1.0.now.out.now))
kept-unique κs a r r' e e' p q = same-text p.0 q.0

pub row-unique : UniqueMemory row.Learnt {M = ℕ × List ℕ} (λ _ e. (e.1.0.now.end, e.1.0.now.out.now))
row-unique κs a r r' e e' p q = same-text p.0 q.0

pub rows-unique : UniqueMemory rows.Learnt {M = ℕ × List ℕ} (λ _ e. (e.1.1.0.now.end, e.1.1.0.now.out.now))
rows-unique κs a r r' e e' p q = same-text p.0 q.0
