-- An array of marks that tells the slots that were seen: none at first, one segment's more, and what a mark says of a segment's slot.
-- Assumes nothing.
use mathlib.Core.Path.{◌≡◌, refl, sym, ap, subst, ◌∙◌}
use mathlib.Core.Bool.{Bool, true, false, ◌&&◌, not}
use mathlib.Core.List.{List, [], ◌∷◌, ◌++◌}
use Prim.Native.Nat.{ℕ, ◌+◌, ◌≤◌, ◌<◌}
use native.Mathlib.Numerals.{add-one}
use native.Mathlib.Omega.{arith}
use lib.ListN.{length, get_or, take, set, replicate, length-set, length-replicate, get_or-replicate}
use lib.Seq.{take_all, take-suc, get_or-set_same, get_or-set_other}
use lib.Dec.{eqb}
use borrow.Author.Tests.{eqb-true, eqb-false}
use Rattle.lists.specs.Distinct.{fresh, distinct}
use Rattle.lists.specs.Each.{Every, all}
use Rattle.lists.proofs.Bools.{clash}
use Rattle.lists.proofs.Cases.{by-test}
use Rattle.lists.proofs.Distinct.{fresh-snoc, distinct_more, distinct-front, snoc-distinct}
use Rattle.lists.proofs.Each.{every-at}
use Rattle.segment.specs.declared.Segment.{Segment}
use Rattle.segment.specs.Segment.{no_segment, slot_number}
use Rattle.seglog.specs.Chain.{slots_apart}

-- there are 64 marks, and those that stand are at the slots of gs
pub record Marked (used : List Bool) (gs : List Segment) : Type 0 where
  pub long : length used ≡ 64
  pub at : (n : ℕ) → n < 64 → get_or used n false ≡ not (fresh slot_number n gs)

-- no mark, and no segment
pub marked_none : Marked (replicate 64 false) []
unfolding all
marked_none = record { long = length-replicate 64 false; at = λ n h. get_or-replicate 64 n false false h }

-- one segment more
pub marked_more : (used : List Bool) (gs : List Segment) (g : Segment) → g.slot < 64 → Marked used gs
    → Marked (set used g.slot true) (gs ++ (g ∷ []))
unfolding all
marked_more used gs g few m = record { long = length-set used g.slot true ∙ m.long; at = λ n l. mark n l ∙ sym (ap not (fresh-snoc slot_number n gs g)) }
  where
    mark : (n : ℕ) → n < 64 → get_or (set used g.slot true) n false ≡ not (not (eqb n g.slot) && fresh slot_number n gs)
    mark n l =
        by-test (eqb n g.slot)
        (λ e.
        ap (λ (s : ℕ). get_or (set used g.slot true) s false) (eqb-true n g.slot e)
        ∙ get_or-set_same used g.slot true false (omega (arith, few, m.long))
        ∙ sym (ap (λ (b : Bool). not (not b && fresh slot_number n gs)) e))
        (λ e.
        get_or-set_other used g.slot n true false (eqb-false n g.slot e) ∙ m.at n l
        ∙ sym (ap (λ (b : Bool). not (not b && fresh slot_number n gs)) e))

-- a mark: some segment has the slot
pub marked-yes : (used : List Bool) (gs : List Segment) (n : ℕ) → n < 64 → Marked used gs → get_or used n false ≡ true
    → fresh slot_number n gs ≡ false
marked-yes used gs n l m h =
    by-test (fresh slot_number n gs) (λ t. clash (sym (ap not t) ∙ sym (m.at n l) ∙ h)) (λ f. f)

-- none: no segment has it
pub marked-no : (used : List Bool) (gs : List Segment) (n : ℕ) → n < 64 → Marked used gs → get_or used n false ≡ false
    → fresh slot_number n gs ≡ true
marked-no used gs n l m h =
    by-test (fresh slot_number n gs) (λ t. t) (λ f. clash (sym h ∙ m.at n l ∙ ap not f))

-- the first i of gs have slots of their own, which are marked
pub record Apart (used : List Bool) (gs : List Segment) (i : ℕ) : Type 0 where
  pub marked : Marked used (take i gs)
  pub apart : slots_apart (take i gs) ≡ true

-- none has been seen
pub apart_none : (gs : List Segment) → Apart (replicate 64 false) gs 0
unfolding distinct
apart_none gs = record { marked = marked_none; apart = refl }

module _ (used : List Bool) (gs : List Segment) (i : ℕ) (inside : i < length gs) where
  abbrev g : Segment
  g = get_or gs i no_segment

  -- one more of them
  pub one_more : take (i + 1) gs ≡ take i gs ++ (g ∷ [])
  one_more = ap (λ (n : ℕ). take n gs) (add-one i) ∙ take-suc gs i no_segment inside

  module _ (few : Every (λ (x : Segment). x.slot < 64) gs) where
    -- its slot has a mark's place
    pub slot-few : g.slot < 64
    slot-few = every-at (λ (x : Segment). x.slot < 64) no_segment gs i few inside

    -- and is seen with it
    pub marked_next : Marked used (take i gs) → Marked (set used g.slot true) (take (i + 1) gs)
    marked_next m = rw one_more (marked_more used (take i gs) g slot-few m)

    module _ (a : Apart used gs i) where
      -- a slot that was seen
      pub apart_twice : get_or used g.slot false ≡ true → slots_apart gs ≡ false
      apart_twice h =
          by-test (slots_apart gs)
          (λ t.
          let both = snoc-distinct slot_number (take i gs) g (ap slots_apart (sym one_more) ∙ distinct-front slot_number (i + 1) gs t) in
          clash (sym (marked-yes used (take i gs) g.slot slot-few a.marked h) ∙ both.1))
          (λ f. f)

      -- one that was not
      pub apart_more : get_or used g.slot false ≡ false → Apart (set used g.slot true) gs (i + 1)
      apart_more h = record {
        marked = marked_next a.marked;
        apart = ap slots_apart one_more
            ∙ distinct_more slot_number (take i gs) g a.apart (marked-no used (take i gs) g.slot slot-few a.marked h);
      }

-- all have been seen
pub apart_all : (used : List Bool) (gs : List Segment) (i : ℕ) → length gs ≤ i → Apart used gs i → slots_apart gs ≡ true
apart_all used gs i h a = ap slots_apart (sym (take_all i gs h)) ∙ a.apart

pub marked_all : (used : List Bool) (gs : List Segment) (i : ℕ) → length gs ≤ i → Marked used (take i gs) → Marked used gs
marked_all used gs i h m = subst (λ (l : List Segment). Marked used l) (take_all i gs h) m
