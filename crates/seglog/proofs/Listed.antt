-- What the library's tests of each element, and of each two neighbours, answer over a log's entries; and the unused entries from one of
-- them on. Assumes nothing.
use mathlib.Core.Path.{◌≡◌, refl, sym, ap, ◌∙◌}
use mathlib.Core.Bool.{Bool, true, false, ◌&&◌}
use mathlib.Core.List.{List, [], ◌∷◌}
use Prim.Native.Nat.{ℕ, ◌+◌, ◌≤◌, ◌<◌}
use native.Mathlib.Numerals.{add-one}
use native.Mathlib.Omega.{arith}
use lib.ListN.{length, get_or, drop, drop_of_length-le}
use lib.Seq.{drop-cons}
use Rattle.std.specs.Bool.{MatchBool}
use Rattle.std.specs.List.{AllWithin, HoldsAt, IsAllAdjacentAnswer}
use Rattle.lists.specs.Each.{all, linked}
use Rattle.lists.proofs.Each.{all-at, at_all, linked-at, at-linked}
use Rattle.lists.proofs.Bools.{both_ways}
use Rattle.lists.proofs.Cases.{by-test}
use Rattle.segment.specs.declared.Segment.{Segment}
use Rattle.segment.specs.Segment.{no_segment}
use Rattle.seglog.specs.View.{zero_of, zeros_of}
use Rattle.seglog.specs.Chain.{seg_of, goes_on, chain_of}

-- what a test of each element answers
pub all-answer : {A : Type 0} (p : A → Bool) (d : A) (xs : List A) (r : Bool)
    → MatchBool r (AllWithin (λ x. p x ≡ true) xs 0 (length xs)) ((k : ℕ) × (k < length xs) × HoldsAt (λ x. p x ≡ false) xs k)
    → r ≡ all p xs
all-answer p d xs true h = sym (at_all p d xs (λ i l. h i d (omega arith) l))
all-answer p d xs false h =
    by-test (all p xs) (λ t. both_ways _ (all-at p d xs h.0 t h.1) (h.2 d)) sym

zeros-all : (gs : List Segment) → all zero_of gs ≡ zeros_of gs
unfolding all zeros_of
zeros-all [] = refl
zeros-all (g ∷ gs) = ap (λ (b : Bool). zero_of g && b) (zeros-all gs)

pub zeros-answer : (gs : List Segment) (r : Bool)
    → MatchBool r (AllWithin (λ g. zero_of g ≡ true) gs 0 (length gs)) ((k : ℕ) × (k < length gs) × HoldsAt (λ g. zero_of g ≡ false) gs k)
    → r ≡ zeros_of gs
zeros-answer gs r h = all-answer zero_of no_segment gs r h ∙ zeros-all gs

-- ---- the entries from i on

module _ (gs : List Segment) (o : Bool) (i : ℕ) (so_far : o ≡ zeros_of (drop i gs)) where
  turn : i < length gs → o ≡ zero_of (get_or gs i no_segment) && zeros_of (drop (i + 1) gs)
  unfolding zeros_of
  turn h = so_far ∙ ap zeros_of (drop-cons gs i no_segment h ∙ ap (λ (k : ℕ). get_or gs i no_segment ∷ drop k gs) (sym (add-one i)))

  -- an entry that is not zero
  pub zeros-found : i < length gs → zero_of (get_or gs i no_segment) ≡ false → false ≡ o
  zeros-found h e = sym (turn h ∙ ap (λ (b : Bool). b && zeros_of (drop (i + 1) gs)) e)

  -- one that is
  pub zeros-turn : i < length gs → zero_of (get_or gs i no_segment) ≡ true → o ≡ zeros_of (drop (i + 1) gs)
  zeros-turn h e = turn h ∙ ap (λ (b : Bool). b && zeros_of (drop (i + 1) gs)) e

  -- the end
  pub zeros-end : length gs ≤ i → true ≡ o
  unfolding zeros_of
  zeros-end h = sym (so_far ∙ ap zeros_of (drop_of_length-le gs {i = i} h))

-- ---- neighbours

-- what a test of all neighbours answers
pub linked-answer : {A : Type 0} (e : A → A → Bool) (d : A) (xs : List A) (r : Bool) → IsAllAdjacentAnswer (λ x y b. b ≡ e x y) xs r → r ≡ linked e xs
linked-answer e d xs true h =
    sym (at-linked e d xs (λ i l. ap (λ (n : ℕ). e (get_or xs i d) (get_or xs n d)) (sym (add-one i)) ∙ sym (h i d (omega arith))))
linked-answer e d xs false h =
    by-test (linked e xs)
    (λ t. both_ways _ (linked-at e d xs h.0 t (omega (arith, h.1))) (ap (λ (n : ℕ). e (get_or xs h.0 d) (get_or xs n d)) (sym (add-one h.0)) ∙ sym (h.2 d)))
    sym

module _ (k c : ℕ) (gs : List Segment) where
  -- segments that are good by themselves are a chain where neighbours go on from each other
  pub chain-then : (r : Bool) → all (seg_of k c) gs ≡ true → r ≡ linked goes_on gs → r ≡ chain_of k c gs
  unfolding chain_of
  chain-then r h e = e ∙ sym (ap (λ (b : Bool). b && linked goes_on gs) h)

  -- others are none
  pub chain-else : all (seg_of k c) gs ≡ false → false ≡ chain_of k c gs
  unfolding chain_of
  chain-else h = sym (ap (λ (b : Bool). b && linked goes_on gs) h)
