-- The image rows of a log of which the invariant holds, in order: they pass the tests of refusals 13 to 15.
-- Assumes nothing.
use mathlib.Core.Bool.{false, true}
use mathlib.Core.List.{List, [], ◌∷◌, map}
use mathlib.Core.Logic.{⊎_elim}
use mathlib.Core.Path.{◌≡◌, refl, ap, ◌∙◌, subst, sym}
use Prim.Native.Nat.{suc, ℕ, ◌+◌, ◌≤◌}
use native.Mathlib.Omega.{arith}
use lib.ListN.{length}
use borrow.Author.Tests.{lt-ltb, le-leb, ne_eqb, eq-eqb}
use Rattle.seglog.specs.Chain.{slots_apart}
use Rattle.segment.specs.declared.Segment.{Segment}
use Rattle.lists.specs.Each.{all, linked}
use Rattle.lists.specs.Distinct.{distinct}
use Rattle.lists.proofs.Distinct.{distinct-keys}
use Rattle.segment.specs.Segment.{slot_number}
use Rattle.segment.specs.Chain.{Chain}
use Rattle.image_rows.specs.ImageRows.{rows_apart, rows_inside, lowest_zero, one_apart}
use Rattle.history.specs.Demand.{rows_for}
use Rattle.history.proofs.Scans.{Has}
use Rattle.history.proofs.Slots.{Stored}
use Rattle.history.proofs.Sorts.{Rising}

-- as many rows as segments
pub length-rows : (gs : List Segment) → length (rows_for gs) ≡ length gs
length-rows [] = refl
length-rows (g ∷ gs) = ap suc (length-rows gs)

-- distinct slots
pub apart-rows : (gs : List Segment) → rows_apart (rows_for gs) ≡ slots_apart gs
apart-rows gs = distinct-keys (λ r. r.slot) (rows_for gs) ∙ ap (distinct (λ m. m)) (same gs) ∙ sym (distinct-keys slot_number gs)
  where
    same : (gs : List Segment) → map (λ r. r.slot) (rows_for gs) ≡ map slot_number gs
    same [] = refl
    same (g ∷ gs) = ap (λ (l : List ℕ). g.slot ∷ l) (same gs)

-- rising ids
pub rising-rows : (P : Segment → Type 0) (gs : List Segment) (i b j c : ℕ) → Chain P i b gs j c → Rising i (rows_for gs)
rising-rows P [] i b j c h = tt
rising-rows P (g ∷ gs) i b j c h = (
  omega (arith, h.0.id),
  subst (λ (x : ℕ). Rising (x + 1) (rows_for gs)) (sym h.0.id) (rising-rows P gs (i + 1) (g.max + 1) j c h.1),
)

module _ (area : List ℕ) (f : ℕ → List ℕ) (k c : ℕ) where
  abbrev G : Segment → Type 0
  G = Stored area f k c

  -- slots below K, sizes at most C
  pub inside-rows : (gs : List Segment) (i b j d : ℕ) → Chain G i b gs j d → rows_inside k c (rows_for gs) ≡ true
  unfolding all
  inside-rows [] i b j d h = refl
  inside-rows (g ∷ gs) i b j d h =
      simp (lt-ltb g.slot k h.0.good.slot, le-leb g.size c h.0.good.room) (inside-rows gs (i + 1) (g.max + 1) j d h.1)

  -- the lowest id is not 0
  pub lowest-rows : (gs : List Segment) (i b j d : ℕ) → 1 ≤ i → Chain G i b gs j d → lowest_zero (rows_for gs) ≡ false
  unfolding lowest_zero
  lowest-rows [] i b j d l h = refl
  lowest-rows (g ∷ gs) i b j d l h = ne_eqb g.id 0 (λ z. omega (arith, h.0.id))

  -- neighbours are 1 apart
  pub next-rows : (gs : List Segment) (i b j d : ℕ) → Chain G i b gs j d → one_apart (rows_for gs) ≡ true
  unfolding linked
  next-rows [] i b j d h = refl
  next-rows (g ∷ []) i b j d h = refl
  next-rows (g ∷ x ∷ gs) i b j d h =
      simp (eq-eqb x.id (g.id + 1) (omega (arith, h.0.id, h.1.0.id))) (next-rows (x ∷ gs) (i + 1) (g.max + 1) j d h.1)

  -- what holds of each listed segment holds of one of them
  pub has-good : (x : Segment) (gs : List Segment) (i b j d : ℕ) → Chain G i b gs j d → Has x gs → G x
  has-good x [] i b j d h m = absurd m
  has-good x (g ∷ gs) i b j d h m =
      ⊎_elim (λ (y : x ≡ g). subst G (sym y) h.0.good) (λ y. has-good x gs (i + 1) (g.max + 1) j d h.1 y) m
