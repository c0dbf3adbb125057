-- The lowest free slot: it is free, and none before it is; and what a search through the slots finds.
-- Assumes nothing.
use Rattle.std.proofs.Common.{◌≡◌, ℕ, zero, suc, ◌+◌, ◌-◌, ◌<◌, ◌≤◌, Bool, true, false, eqb, List, get_or, sym, refl, ap, ◌∙◌, add-one, arith, eq-eqb, ne_eqb}
use Rattle.std.specs.Prelude.{Option, Some, None, MatchOption}
use Rattle.lists.specs.Choice.{pick}
use Rattle.lists.proofs.Bools.{clash}
use Rattle.lists.proofs.Cases.{by-test, by_order}
use Rattle.lists.specs.Distinct.{fresh}
use Rattle.segment.specs.declared.Segment.{Segment}
use Rattle.segment.specs.Segment.{slot_number}
use Rattle.seglog.proofs.Slots.{Marked, marked-yes, marked-no}
use Rattle.seglog_append.specs.Deciding.{free_from}
use Rattle.seglog_append.specs.Promised.{FreeLowest}

-- ---- what is found

-- not behind the slots looked at
pub free-most : (gs : List Segment) (n i : ℕ) → free_from n i gs ≤ i + n
unfolding free_from
free-most gs zero i = omega arith
free-most gs (suc n) i =
    by-test (fresh slot_number i gs) (λ e. simp e (omega arith)) (λ e. simp e (omega (arith, free-most gs n (suc i))))

-- a slot that is found is free
pub free-good : (gs : List Segment) (n i : ℕ) → free_from n i gs < i + n → fresh slot_number (free_from n i gs) gs ≡ true
unfolding free_from
free-good gs zero i h = absurd (omega arith)
free-good gs (suc n) i h = go (fresh slot_number i gs) refl h (free-good gs n (suc i))
  where
    go : (b : Bool) → fresh slot_number i gs ≡ b → pick b i (free_from n (suc i) gs) < i + suc n
        → (free_from n (suc i) gs < suc i + n → fresh slot_number (free_from n (suc i) gs) gs ≡ true)
        → fresh slot_number (pick b i (free_from n (suc i) gs)) gs ≡ true
    go true e q ih = e
    go false e q ih = ih (omega arith)

-- every slot before it is taken
free-taken : (gs : List Segment) (n i j : ℕ) → i ≤ j → j < free_from n i gs → fresh slot_number j gs ≡ false
unfolding free_from
free-taken gs zero i j l h = absurd (omega arith)
free-taken gs (suc n) i j l h = go (fresh slot_number i gs) refl h (free-taken gs n (suc i) j)
  where
    go : (b : Bool) → fresh slot_number i gs ≡ b → j < pick b i (free_from n (suc i) gs)
        → (suc i ≤ j → j < free_from n (suc i) gs → fresh slot_number j gs ≡ false) → fresh slot_number j gs ≡ false
    go true e q ih = absurd (omega arith)
    go false e q ih = by_order (suc i) j (λ g. ih g q) (λ g. let same : j ≡ i = omega arith in rw same e)

-- the lowest free slot of a log
pub free-lowest : FreeLowest
free-lowest a = (λ h. free-good a.segs a.k 0 (omega arith), λ j h. free-taken a.segs a.k 0 j (omega arith) h)

-- ---- the search from i on

-- it begins at 0
pub free-start : (k : ℕ) (gs : List Segment) → free_from k 0 gs ≡ free_from (k - 0) 0 gs
free-start k gs = ap (λ (n : ℕ). free_from n 0 gs) (omega arith)

-- a taken slot
pub free-turn : (k i : ℕ) (gs : List Segment) → i < k → fresh slot_number i gs ≡ false
    → free_from (k - i) i gs ≡ free_from (k - (i + 1)) (i + 1) gs
unfolding free_from
free-turn k i gs h q =
    let n : k - i ≡ suc (k - (i + 1)) = omega arith in
    ap (λ (j : ℕ). free_from j i gs) n ∙ simp q (ap (λ (j : ℕ). free_from (k - (i + 1)) j gs) (sym (add-one i)))

-- a free one
pub free-found : (k i : ℕ) (gs : List Segment) → i < k → fresh slot_number i gs ≡ true → free_from (k - i) i gs ≡ i
unfolding free_from
free-found k i gs h q =
    let n : k - i ≡ suc (k - (i + 1)) = omega arith in ap (λ (j : ℕ). free_from j i gs) n ∙ simp q

-- none is left
pub free-none : (k i : ℕ) (gs : List Segment) → k ≤ i → free_from (k - i) i gs ≡ i
unfolding free_from
free-none k i gs h = let n : k - i ≡ 0 = omega arith in ap (λ (j : ℕ). free_from j i gs) n

-- ---- the search by marks

module _ (k : ℕ) (gs : List Segment) where
  -- the first of the K slots that is free is the lowest
  free-first : (i : ℕ) → i < k → fresh slot_number i gs ≡ true → ((j : ℕ) → j < i → fresh slot_number j gs ≡ false) → free_from k 0 gs ≡ i
  free-first i l it none =
      let m : ℕ = free_from k 0 gs in
      by_order i m
      (λ h. by_order m i (λ g. omega arith) (λ g. clash (sym (free-taken gs k 0 i (omega arith) (omega arith)) ∙ it)))
      (λ h. clash (sym (none m h) ∙ free-good gs k 0 (omega arith)))

  -- where none is, there is none
  free-full : ((j : ℕ) → j < k → fresh slot_number j gs ≡ false) → free_from k 0 gs ≡ k
  free-full none =
      let most = free-most gs k 0 in
      by_order k (free_from k 0 gs) (λ h. omega arith) (λ h. clash (sym (none _ h) ∙ free-good gs k 0 (omega arith)))

  -- what a search through the K slots finds, by the marks
  pub free-searched : (used : List Bool) → k ≤ 64 → Marked used gs → (r : Option ℕ)
      → MatchOption r ((j : ℕ) → 0 ≤ j → j < k → get_or used j false ≡ true)
      (λ i. (0 ≤ i) × (i < k) × (get_or used i false ≡ false) × ((j : ℕ) → 0 ≤ j → j < i → get_or used j false ≡ true))
      → r ≡ pick (eqb (free_from k 0 gs) k) None (Some (free_from k 0 gs))
  free-searched used few m None h =
      let e = free-full (λ j l. marked-yes used gs j (omega arith) m (h j (omega arith) l)) in sym (simp (e, eq-eqb k k refl))
  free-searched used few m (Some i) h =
      let l = h.1 in
      let e = free-first i l (marked-no used gs i (omega arith) m h.2) (λ j b. marked-yes used gs j (omega arith) m (h.3 j (omega arith) b)) in
      sym (simp (e, ne_eqb i k (λ z. omega arith)))
