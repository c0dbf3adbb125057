-- The laws of records that stand one behind the other: one more, equal payloads, neighbours, whole pages, the front.
-- Assumes nothing.
use mathlib.Core.List.{List, ◌++◌, append-nil, append_assoc}
use mathlib.Core.Path.{◌≡◌, ap, refl, ◌∙◌, sym}
use Prim.Native.Nat.{◌-◌, ℕ, suc, ◌+◌, zero, ◌≤◌, ◌<◌, ◌%◌}
use native.Mathlib.Nat.{add-zero}
use native.Mathlib.Omega.{arith}
use lib.ListN.{length, length-append, take, replicate}
use lib.Seq.{take_at}
use Rattle.lists.proofs.Splice.{splice-none}
use Rattle.lists.specs.Splice.{splice}
use Rattle.page.proofs.Page.{multiple-add}
use Rattle.record.proofs.Record.{record-length, room-pages}
use Rattle.record.specs.Record.{record_bytes, record_room}
use Rattle.walk.specs.Records.{records_from}

-- one record more
pub from_more : (f : ℕ → List ℕ) (a n : ℕ) → records_from f a (suc n) ≡ records_from f a n ++ record_bytes (a + n) (f (a + n))
unfolding records_from
from_more f a zero = rw (append-nil, add-zero) refl
from_more f a (suc n) =
    ap (λ (l : List ℕ). record_bytes a (f a) ++ l)
    (from_more f (suc a) n ∙ ap (λ (k : ℕ). records_from f (suc a) n ++ record_bytes k (f k)) (omega arith))
    ∙ sym (append_assoc (record_bytes a (f a)) (records_from f (suc a) n) (record_bytes (a + suc n) (f (a + suc n))))

-- only the payloads of their own ids count
pub from-agree : (f g : ℕ → List ℕ) (a n : ℕ) → ((i : ℕ) → a ≤ i → i < a + n → f i ≡ g i) → records_from f a n ≡ records_from g a n
unfolding records_from
from-agree f g a zero h = refl
from-agree f g a (suc n) h =
    rw (h a (omega arith) (omega arith), from-agree f g (suc a) n (λ i l m. h i (omega arith) (omega arith)))

-- neighbours are one
pub from-join : (f : ℕ → List ℕ) (a m n : ℕ) → records_from f a (m + n) ≡ records_from f a m ++ records_from f (a + m) n
unfolding records_from
from-join f a zero n = let z : 0 + n ≡ n = omega arith in rw (z, add-zero) refl
from-join f a (suc m) n =
    let y : suc m + n ≡ suc (m + n) = omega arith in
    let z : suc a + m ≡ a + suc m = omega arith in
    rw (y, append_assoc, ← z) (ap (λ (l : List ℕ). record_bytes a (f a) ++ l) (from-join f (suc a) m n))

-- records take whole pages
pub from-pages : (f : ℕ → List ℕ) (a n : ℕ) → length (records_from f a n) % 4096 ≡ 0
unfolding records_from
from-pages f a zero = refl
from-pages f a (suc n) =
    rw (length-append, record-length)
    (multiple-add 4096 (record_room (length (f a))) (length (records_from f (suc a) n)) (room-pages (length (f a))) (from-pages f (suc a) n))

-- a front of records
pub from_front : (f : ℕ → List ℕ) (a m n : ℕ) → m ≤ n
    → (length (records_from f a m) ≤ length (records_from f a n))
    × (take (length (records_from f a m)) (records_from f a n) ≡ records_from f a m)
from_front f a m n h =
    let z : n ≡ m + (n - m) = omega arith in
    let is : records_from f a n ≡ records_from f a m ++ records_from f (a + m) (n - m) = ap (records_from f a) z ∙ from-join f a m (n - m) in (
      omega (arith, ap length is, length-append (records_from f a m) (records_from f (a + m) (n - m))),
      ap (take (length (records_from f a m))) is
          ∙ take_at (records_from f a m) (records_from f (a + m) (n - m)) (length (records_from f a m)) refl,
    )

-- no zeros are written where no padding is missing
pub splice-whole : (at n m : ℕ) (l : List ℕ) → n ≤ m → splice at (replicate (n - m) 0) l ≡ l
splice-whole at n m l h = let z : n - m ≡ 0 = omega arith in rw z (splice-none at l)
