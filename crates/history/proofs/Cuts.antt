-- The cut that prune recent looks for, in an image that is records one behind the other: the search finds it, and so does a look at the
-- newest record's header.
-- Assumes nothing.
use mathlib.Core.Bool.{Bool, true, false}
use mathlib.Core.List.{List, [], ◌++◌, append-nil, append_assoc}
use mathlib.Core.Path.{◌≡◌, refl, ap, ◌∙◌, sym}
use Prim.Native.Nat.{◌-◌, ℕ, ◌%◌, ◌≤◌, ◌<◌, ◌+◌, ◌^◌, zero, suc}
use native.Mathlib.Omega.{arith}
use lib.Dec.{eqb}
use lib.ListN.{length, length-append}
use borrow.Author.Tests.{eqb-true, eqb-false}
use Rattle.page.proofs.Page.{multiple-add}
use Rattle.page.specs.Page.{padded_end}
use Rattle.record.proofs.Record.{record-length, room-ge, header, record-header, room-pages}
use Rattle.record.specs.Record.{max_payload, record_bytes, record_room, header_at}
use Rattle.seglog_prune.specs.declared.Newest.{Newest}
use Rattle.seglog_prune.proofs.Cut.{found_at, newest-here, search-here, search-on}
use Rattle.lists.specs.Outcome.{done}
use Rattle.seglog_prune.specs.Cut.{cut_at, find_cut}
use Rattle.walk.specs.Judging.{max_image, placed_of}
use Rattle.std.specs.Prelude.{Ok}
use Rattle.walk.specs.Records.{records_from, Plain}
use Rattle.walk.proofs.Judging.{inside-fits, record-good}
use Rattle.walk.proofs.Records.{next_place}
use Rattle.history.proofs.Records.{from_more, from-pages}

-- ---- a record between others

module _ (n a : ℕ) (p pre post : List ℕ) (at : ℕ) (is : at ≡ length pre) (whole : length pre % 4096 ≡ 0) (little : length p ≤ max_payload)
    (top : a < 2 ^ 64) (all : length pre + (record_room (length p) + length post) ≤ max_image) where
  abbrev img : List ℕ
  img = pre ++ (record_bytes a p ++ post)

  long : length img ≡ length pre + (record_room (length p) + length post)
  long =
      length-append pre (record_bytes a p ++ post)
      ∙ ap (λ (k : ℕ). length pre + k) (length-append (record_bytes a p) post ∙ ap (λ (k : ℕ). k + length post) (record-length a p))

  inside : at < length img
  inside = omega (arith, long, room-ge (length p))

  room : at + 12 + length p ≤ length img
  room = omega (arith, long, room-ge (length p))

  read : found_at img n at ≡ Ok (placed_of at (length p) a)
  read =
      sym (record-good (length img) at
      (inside-fits (length img) at (record { small = omega (arith, long, all, room-ge (length p)); room = omega (arith, room) }))
      (header (length p) a) (header_at img at) (record-header a p pre post at is little top) little)

  next : padded_end 4096 (at + 12 + length p) ≡ length pre + record_room (length p)
  next = rw is (next_place (length pre) (length p) whole)

  -- it is the one looked for: a look finds it, and so does the search
  abbrev here : Newest
  here = record { at = length pre; end = length pre + record_room (length p) }

  pub look-same : a ≡ n → cut_at img n at ≡ done here
  look-same e = newest-here img n at (placed_of at (length p) a) read room e ∙ (λ i. done (record { at = is i; end = next i }))

  pub cut-same : a ≡ n → find_cut img n at ≡ done here
  cut-same e = search-here img n at (placed_of at (length p) a) read room inside e ∙ (λ i. done (record { at = is i; end = next i }))

  -- it is another one: the search goes on behind it
  pub cut-next : (a ≡ n → ⊥) → find_cut img n at ≡ find_cut img n (length pre + record_room (length p))
  cut-next e = search-on img n at (placed_of at (length p) a) read room inside e ∙ ap (find_cut img n) next

-- ---- the search

-- the record n of records from a on
abbrev pub record_of : (ℕ → List ℕ) → (a n : ℕ) → Newest
record_of f a n = record { at = length (records_from f a (n - a)); end = length (records_from f a (n + 1 - a)) }

-- behind `before` bytes
abbrev pub newest_from : (ℕ → List ℕ) → (before a n : ℕ) → Newest
newest_from f before a n = record {
  at = before + length (records_from f a (n - a));
  end = before + length (records_from f a (n + 1 - a));
}

-- the search finds it
pub cut-records : (f : ℕ → List ℕ) (n m : ℕ) (pre : List ℕ) (a at : ℕ) → at ≡ length pre → length pre % 4096 ≡ 0 → Plain f a m → a ≤ n
    → n < a + m → length pre + length (records_from f a m) ≤ max_image
    → find_cut (pre ++ records_from f a m) n at ≡ done (newest_from f (length pre) a n)
unfolding records_from
cut-records f n zero pre a at is whole plain low high small = absurd (omega arith)
cut-records f n (suc m) pre a at is whole plain low high small =
    go (eqb a n) refl (cut-records f n m (pre ++ record_bytes a (f a)) (suc a) (length pre + record_room (length (f a))))
  where
    rest : List ℕ
    rest = records_from f (suc a) m

    more : length (record_bytes a (f a) ++ rest) ≡ record_room (length (f a)) + length rest
    more = length-append (record_bytes a (f a)) rest ∙ ap (λ (k : ℕ). k + length rest) (record-length a (f a))

    all : length pre + (record_room (length (f a)) + length rest) ≤ max_image
    all = omega (arith, more)

    little : length (f a) ≤ max_payload
    little = plain.small a (omega arith) (omega arith)

    top : a < 2 ^ 64
    top = omega (arith, plain.ids)

    pre-long : length (pre ++ record_bytes a (f a)) ≡ length pre + record_room (length (f a))
    pre-long = length-append pre (record_bytes a (f a)) ∙ ap (λ (k : ℕ). length pre + k) (record-length a (f a))

    go : (b : Bool) → eqb a n ≡ b
        → (length pre + record_room (length (f a)) ≡ length (pre ++ record_bytes a (f a)) → length (pre ++ record_bytes a (f a)) % 4096 ≡ 0
        → Plain f (suc a) m → suc a ≤ n → n < suc a + m → length (pre ++ record_bytes a (f a)) + length rest ≤ max_image
        → find_cut ((pre ++ record_bytes a (f a)) ++ rest) n (length pre + record_room (length (f a)))
        ≡ done (newest_from f (length (pre ++ record_bytes a (f a))) (suc a) n))
        → find_cut (pre ++ (record_bytes a (f a) ++ rest)) n at ≡ done (newest_from f (length pre) a n)
    go true e ih =
        let same : a ≡ n = eqb-true a n e in
        let none : n - a ≡ 0 = omega arith in
        let one : n + 1 - a ≡ suc 0 = omega arith in
        let start : length pre ≡ length pre + length (records_from f a (n - a)) =
        sym (ap (λ (k : ℕ). length pre + length (records_from f a k)) none ∙ omega arith) in
        let end : length pre + record_room (length (f a)) ≡ length pre + length (records_from f a (n + 1 - a)) =
        sym (ap (λ (k : ℕ). length pre + length (records_from f a k)) one
        ∙ ap (λ (k : ℕ). length pre + k) (ap length (append-nil (record_bytes a (f a))) ∙ record-length a (f a))) in
        cut-same n a (f a) pre rest at is whole little top all same
        ∙ (λ i. done (record { at = start i; end = end i }))
    go false e ih =
        let other : suc a ≤ n = omega (arith, eqb-false a n e) in
        cut-next n a (f a) pre rest at is whole little top all (eqb-false a n e)
        ∙ ap (λ (l : List ℕ). find_cut l n (length pre + record_room (length (f a)))) (sym (append_assoc pre (record_bytes a (f a)) rest))
        ∙ ih (sym pre-long) (rw pre-long (multiple-add 4096 (length pre) (record_room (length (f a))) whole (room-pages (length (f a)))))
        (record { small = λ i l u. plain.small i (omega arith) (omega arith); ids = omega (arith, plain.ids) }) other (omega arith)
        (omega (arith, all, pre-long))
        ∙ (λ i. done (record { at = behind (n - a) (n - suc a) (omega arith) i; end = behind (n + 1 - a) (n + 1 - suc a) (omega arith) i }))
      where
        behind : (j k : ℕ) → j ≡ suc k
            → length (pre ++ record_bytes a (f a)) + length (records_from f (suc a) k) ≡ length pre + length (records_from f a j)
        behind j k q =
            sym (ap (λ (i : ℕ). length pre + length (records_from f a i)) q
            ∙ ap (λ (i : ℕ). length pre + i) (length-append (record_bytes a (f a)) (records_from f (suc a) k))
            ∙ omega (arith, pre-long, record-length a (f a)))

-- ---- the newest record's header alone

-- in an image that ends with the record n, a look where it starts finds it
pub cut-newest : (f : ℕ → List ℕ) (a n : ℕ) → Plain f a (n + 1 - a) → a ≤ n → length (records_from f a (n + 1 - a)) ≤ max_image
    → cut_at (records_from f a (n + 1 - a)) n (length (records_from f a (n - a))) ≡ done (record_of f a n)
cut-newest f a n plain low small =
    let pre : List ℕ = records_from f a (n - a) in
    let one : n + 1 - a ≡ suc (n - a) = omega arith in
    let last : a + (n - a) ≡ n = omega arith in
    let is : records_from f a (n + 1 - a) ≡ pre ++ (record_bytes n (f n) ++ []) =
    ap (records_from f a) one ∙ from_more f a (n - a) ∙ ap (λ (k : ℕ). pre ++ record_bytes k (f k)) last
    ∙ ap (λ (l : List ℕ). pre ++ l) (sym (append-nil (record_bytes n (f n)))) in
    let size : length (records_from f a (n + 1 - a)) ≡ length pre + record_room (length (f n)) =
    ap length is ∙ length-append pre (record_bytes n (f n) ++ [])
    ∙ ap (λ (k : ℕ). length pre + k) (ap length (append-nil (record_bytes n (f n))) ∙ record-length n (f n)) in
    ap (λ (l : List ℕ). cut_at l n (length pre)) is
    ∙ look-same n n (f n) pre [] (length pre) refl (from-pages f a (n - a)) (plain.small n low (omega arith))
    (omega (arith, plain.ids)) (omega arith) refl
    ∙ ap (λ (k : ℕ). done (record { at = length pre; end = k })) (sym size)
