-- The laws of segments in a row: two rows that meet are one, and one is two wherever it is taken apart; the last segment; what a change
-- in one slot leaves. Assumes nothing.
use mathlib.Core.Bool.{true}
use mathlib.Core.List.{List, [], ◌∷◌, ◌++◌}
use mathlib.Core.Path.{◌≡◌, refl, ap, subst, sym, ◌∙◌}
use Prim.Native.Nat.{ℕ, ◌≤◌, ◌+◌, ◌<◌}
use native.Mathlib.Omega.{arith}
use lib.ListN.{length, get_or}
use Rattle.lists.specs.Each.{Every}
use Rattle.lists.specs.Distinct.{fresh}
use Rattle.lists.proofs.Distinct.{fresh-cons}
use Rattle.segment.specs.declared.Segment.{Segment}
use Rattle.segment.specs.Segment.{no_segment, slot_number}
use Rattle.segment.specs.Chain.{Chain}

-- record ids only rise along a chain
pub chain-le : (P : Segment → Type 0) (gs : List Segment) (i a j b : ℕ) → Chain P i a gs j b → a ≤ b
chain-le P [] i a j b h = omega arith
chain-le P (g ∷ gs) i a j b h = omega (arith, h.0.order, chain-le P gs (i + 1) (g.max + 1) j b h.1)

-- and so do segment ids
pub chain-ids : (P : Segment → Type 0) (gs : List Segment) (i a j b : ℕ) → Chain P i a gs j b → i ≤ j
chain-ids P [] i a j b h = omega arith
chain-ids P (g ∷ gs) i a j b h = omega (arith, chain-ids P gs (i + 1) (g.max + 1) j b h.1)

-- P holds of each segment
pub chain-every : (P : Segment → Type 0) (gs : List Segment) (i a j b : ℕ) → Chain P i a gs j b → Every P gs
chain-every P [] i a j b h = tt
chain-every P (g ∷ gs) i a j b h = (h.0.good, chain-every P gs (i + 1) (g.max + 1) j b h.1)

-- the first segment begins where the chain does
pub chain_first : (P : Segment → Type 0) (gs : List Segment) (i a j b : ℕ) → 0 < length gs → Chain P i a gs j b
    → (get_or gs 0 no_segment).min ≡ a
chain_first P [] i a j b some h = absurd (omega arith)
chain_first P (g ∷ gs) i a j b some h = h.0.min

-- ---- two lists in a row

-- two chains that meet are one
pub chain-join : (P : Segment → Type 0) (gs hs : List Segment) (i a j b k c : ℕ) → Chain P i a gs j b → Chain P j b hs k c
    → Chain P i a (gs ++ hs) k c
chain-join P [] hs i a j b k c h g = rw (h.0, h.1) g
chain-join P (x ∷ gs) hs i a j b k c h g = (h.0, chain-join P gs hs (i + 1) (x.max + 1) j b k c h.1 g)

-- a chain taken apart where a list ends
pub record Split (P : Segment → Type 0) (i a : ℕ) (gs hs : List Segment) (k c : ℕ) : Type 0 where
  pub j : ℕ
  pub b : ℕ
  pub left : Chain P i a gs j b
  pub right : Chain P j b hs k c

-- a chain over two lists is two chains that meet
pub chain-split : {P : Segment → Type 0} (gs hs : List Segment) (i a k c : ℕ) → Chain P i a (gs ++ hs) k c → Split P i a gs hs k c
chain-split [] hs i a k c h = record { j = i; b = a; left = (refl, refl); right = h }
chain-split (x ∷ gs) hs i a k c h =
    let t = chain-split gs hs (i + 1) (x.max + 1) k c h.1 in
    record { j = t.j; b = t.b; left = (h.0, t.left); right = t.right }

-- ---- the last segment

-- one more at the end
pub chain_more : (P : Segment → Type 0) (hs : List Segment) (g : Segment) (i a : ℕ) → Chain P i a hs g.id g.min → g.min ≤ g.max
    → P g → Chain P i a (hs ++ (g ∷ [])) (g.id + 1) (g.max + 1)
chain_more P hs g i a h order good =
    chain-join P hs (g ∷ []) i a g.id g.min (g.id + 1) (g.max + 1) h
    (record { id = refl; min = refl; order = order; good = good }, (refl, refl))

-- a row with a last segment
pub record Ends (P : Segment → Type 0) (i a : ℕ) (hs : List Segment) (g : Segment) (j b : ℕ) : Type 0 where
  pub left : Chain P i a hs g.id g.min
  pub order : g.min ≤ g.max
  pub good : P g
  pub id : g.id + 1 ≡ j
  pub max : g.max + 1 ≡ b

-- a chain taken apart before its last segment
pub chain_snoc : (P : Segment → Type 0) (hs : List Segment) (g : Segment) (i a j b : ℕ) → Chain P i a (hs ++ (g ∷ [])) j b
    → Ends P i a hs g j b
chain_snoc P hs g i a j b h =
    let t = chain-split hs (g ∷ []) i a j b h in
    let l = t.right.0 in
    record {
      left = subst (λ (y : ℕ). Chain P i a hs y g.min) (sym l.id)
          (subst (λ (y : ℕ). Chain P i a hs t.j y) (sym l.min) t.left);
      order = omega arith;
      good = l.good;
      id = ap (λ (y : ℕ). y + 1)
          l.id ∙ t.right.1.0;
      max = t.right.1.1;
    }

-- ---- what follows of each segment

-- a chain of segments of which Q follows from P
pub chain-map : {P Q : Segment → Type 0} (gs : List Segment) (i a j b : ℕ) → ((g : Segment) → g.min ≤ g.max → P g → Q g)
    → Chain P i a gs j b → Chain Q i a gs j b
chain-map [] i a j b t h = h
chain-map (g ∷ gs) i a j b t h =
    let l = h.0 in (
      record { id = l.id; min = l.min; order = l.order; good = t g (omega (arith, l.min, l.order)) l.good },
      chain-map gs (i + 1) (g.max + 1) j b t h.1,
    )

-- what a change in one slot leaves of segments with other slots
pub chain-keep : {P Q : Segment → Type 0} (slot : ℕ) (gs : List Segment) (i a j b : ℕ)
    → ((g : Segment) → (g.slot ≡ slot → ⊥) → g.max < b → P g → Q g)
    → fresh slot_number slot gs ≡ true → Chain P i a gs j b → Chain Q i a gs j b
chain-keep {P} slot [] i a j b t n h = h
chain-keep {P} slot (g ∷ gs) i a j b t n h =
    let u = fresh-cons slot_number slot g gs n in
    let l = h.0 in (
      record {
        id = l.id;
        min = l.min;
        order = l.order;
        good = t g u.here (omega (arith, chain-le P gs (i + 1) (g.max + 1) j b h.1)) l.good;
      },
      chain-keep slot gs (i + 1) (g.max + 1) j b t u.rest h.1,
    )
