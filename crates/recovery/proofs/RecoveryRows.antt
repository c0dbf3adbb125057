-- The lent rows and their array lead to the same recovery: where there are more than 64, both are refused alike. Assumes nothing.
use mathlib.Core.Path.{◌≡◌, refl, sym, ap, ◌∙◌}
use mathlib.Core.Bool.{Bool}
use mathlib.Core.List.{List, ◌++◌, append-nil}
use Prim.Native.Nat.{ℕ, ◌+◌, ◌-◌, ◌≤◌, ◌<◌}
use native.Mathlib.Omega.{arith}
use lib.ListN.{length, take, drop, replicate, length-replicate, replicate-append-replicate}
use lib.Seq.{take_at, drop_at}
use borrow.Author.Tests.{le-leb, lt-leb}
use Rattle.lists.specs.Choice.{pick}
use Rattle.lists.proofs.Cases.{by_order}
use Rattle.segment.specs.declared.ImageRow.{ImageRow}
use Rattle.segment.specs.Segment.{no_row}
use Rattle.image_rows.specs.Rows.{too_many, rows_of, listed_of}
use Rattle.recovery.specs.Recovery.{recovery_of}
use Rattle.image_rows.proofs.ImageRows.{fit-many}

-- few rows, as the array holds them
pub rows-few : (xs : List ImageRow) → length xs ≤ 64
    → record { count = length xs; rows = xs ++ replicate (64 - length xs) no_row } ≡ rows_of xs
unfolding rows_of
rows-few xs h =
    sym (ap (λ (t : Bool). pick t (record { count = length xs; rows = xs ++ replicate (64 - length xs) no_row }) too_many)
    (le-leb (length xs) 64 h))

-- few rows, copied over the front of 64 entries of no row
pub rows-read : (xs ys : List ImageRow) (r : ImageRow) → r ≡ no_row → ys ≡ xs → length xs ≤ 64
    → record { count = length xs; rows = ys ++ drop (length xs) (replicate 64 r) } ≡ rows_of xs
rows-read xs ys r none copied h =
    let all : length xs + (64 - length xs) ≡ 64 = omega arith in
    let rest : drop (length xs) (replicate 64 no_row) ≡ replicate (64 - length xs) no_row =
    ap (drop (length xs)) (ap (λ (n : ℕ). replicate n no_row) (sym all)
    ∙ sym (replicate-append-replicate (length xs) (64 - length xs) no_row))
    ∙ drop_at (replicate (length xs) no_row) (replicate (64 - length xs) no_row) (length xs) (length-replicate (length xs) no_row) in
    ap (λ (x : ImageRow). record { count = length xs; rows = ys ++ drop (length xs) (replicate 64 x) }) none
    ∙ ap (λ (l : List ImageRow). record { count = length xs; rows = l ++ drop (length xs) (replicate 64 no_row) }) copied
    ∙ ap (λ (l : List ImageRow). record { count = length xs; rows = xs ++ l }) rest ∙ rows-few xs h

-- more than there is room for
pub rows-many : (xs : List ImageRow) → 64 < length xs → too_many ≡ rows_of xs
unfolding rows_of
rows-many xs h =
    sym (ap (λ (t : Bool). pick t (record { count = length xs; rows = xs ++ replicate (64 - length xs) no_row }) too_many)
    (lt-leb (length xs) 64 h))

-- few rows are those of their array
listed-read : (xs : List ImageRow) → length xs ≤ 64 → listed_of (rows_of xs) ≡ xs
unfolding listed_of
listed-read xs h =
    let none : length xs - 64 ≡ 0 = omega arith in
    ap listed_of (sym (rows-few xs h))
    ∙ ap (λ (k : ℕ). take (length xs) (xs ++ replicate (64 - length xs) no_row) ++ replicate k no_row) none
    ∙ append-nil (take (length xs) (xs ++ replicate (64 - length xs) no_row))
    ∙ take_at xs (replicate (64 - length xs) no_row) (length xs) refl

-- too many are too many in both
many_read : (xs : List ImageRow) → 64 < length xs → 64 < length (listed_of (rows_of xs))
unfolding listed_of
many_read xs h = rw (← rows-many xs h) (omega arith)

pub read_same : (k c m : ℕ) (area : List ℕ) (xs : List ImageRow) (s e room : ℕ)
    → recovery_of k c m area (listed_of (rows_of xs)) s e room ≡ recovery_of k c m area xs s e room
unfolding recovery_of
read_same k c m area xs s e room =
    by_order (length xs) 64 (λ h. ap (λ (l : List ImageRow). recovery_of k c m area l s e room) (listed-read xs h))
    (λ h. simp (fit-many k c xs h, fit-many k c (listed_of (rows_of xs)) (many_read xs h)))
