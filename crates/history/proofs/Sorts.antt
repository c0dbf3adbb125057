-- Rows in any order pass the tests that the rows in order pass, and sorting gives these back.
-- Assumes nothing.
use mathlib.Core.Bool.{true}
use mathlib.Core.List.{List, [], ◌∷◌}
use mathlib.Core.Path.{◌≡◌, ◌∙◌}
use Prim.Native.Nat.{ℕ, ◌≤◌, ◌<◌, ◌+◌}
use native.Mathlib.Omega.{arith}
use lib.Dec.{ltb}
use borrow.Author.Tests.{lt-ltb}
use Rattle.lists.specs.AnyOrder.{AnyOrder}
use Rattle.lists.specs.Each.{Every}
use Rattle.lists.proofs.AnyOrder.{any-all}
use Rattle.lists.proofs.Distinct.{distinct-any}
use Rattle.lists.specs.Sort.{Rises}
use Rattle.lists.proofs.Sort.{sort-unique}
use Rattle.segment.specs.declared.ImageRow.{ImageRow}
use Rattle.image_rows.specs.ImageRows.{sort_rows, rows_inside, rows_apart}
use Rattle.image_rows.proofs.ImageRows.{below-once}

-- ids rise, from lo on
abbrev pub Rising : ℕ → List ImageRow → Type 0
Rising lo [] = Unit {0}
Rising lo (g ∷ gs) = (lo ≤ g.id) × Rising (g.id + 1) gs

-- a lower number is below each of them
rising-above : (n lo : ℕ) (gs : List ImageRow) → n < lo → Rising lo gs → Every (λ g. ltb n g.id ≡ true) gs
rising-above n lo [] l h = tt
rising-above n lo (g ∷ gs) l h =
    (lt-ltb n g.id (omega (arith, h.0)), rising-above n (g.id + 1) gs (omega (arith, h.0)) h.1)

rises : (lo : ℕ) (gs : List ImageRow) → Rising lo gs → Rises ltb (λ r. r.id) gs
rises lo [] h = tt
rises lo (g ∷ gs) h = (rising-above g.id (g.id + 1) gs (omega arith) h.1, rises (g.id + 1) gs h.1)

-- sorting gives back rows whose ids rise
pub sort-any : (lo : ℕ) (l t : List ImageRow) → AnyOrder l t → Rising lo t → sort_rows l ≡ t
sort-any lo l t o h = sort-unique ltb (λ r. r.id) below-once l t o (rises lo t h)

-- slots below K, sizes at most C
pub fit-any : (k c : ℕ) (l t : List ImageRow) → AnyOrder l t → rows_inside k c t ≡ true → rows_inside k c l ≡ true
fit-any k c l t o h = any-all _ l t o ∙ h

-- no slot twice
pub apart-any : (l t : List ImageRow) → AnyOrder l t → rows_apart t ≡ true → rows_apart l ≡ true
apart-any l t o h = distinct-any (λ r. r.slot) l t o ∙ h
