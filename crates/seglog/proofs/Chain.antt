-- The test of segments that go on from each other: it is that of a chain (segment/specs/Chain.antt); one more at the end, and place by
-- place. And the two ends of the live range. Assumes nothing.
use mathlib.Core.Path.{◌≡◌, refl, sym, ap, subst, ◌∙◌}
use mathlib.Core.List.{List, [], ◌∷◌, ◌++◌}
use mathlib.Core.Bool.{true, ◌&&◌}
use Prim.Native.Nat.{ℕ, zero, suc, ◌+◌, ◌%◌, ◌≤◌, ◌<◌}
use native.Mathlib.Omega.{arith}
use lib.ListN.{length, get_or, take, drop, take-append-drop}
use lib.Dec.{eqb, leb}
use borrow.Author.Tests.{eq-eqb, eqb-true, le-leb, leb-true}
use Rattle.segment.specs.declared.Segment.{Segment}
use Rattle.seglog.specs.View.{head_of, front_of, zero_of, zeros_of}
use Rattle.seglog.specs.Chain.{seg_of, goes_on, chain_of, ends_of}
use Rattle.segment.specs.Segment.{no_segment}
use Rattle.segment.specs.Chain.{Link, Chain, InSlot}
use Rattle.segment.proofs.Chain.{chain-le, chain-ids, chain-split, chain_more, Ends}
use Rattle.segment.proofs.Chain as C
use Rattle.lists.specs.Each.{all, linked}
use Rattle.lists.proofs.Bools.{and_both, both-and}
use Rattle.lists.proofs.Each.{all-at, at_all, linked-at, at-linked}
use Rattle.seglog.proofs.View.{zero-entry, ends-with}
use Rattle.seglog.proofs.Fit.{SegmentGood, seg-is, is-seg}

-- "ids rise by 1", "the next min is max + 1": h goes on from g
pub record Follows (g h : Segment) : Type 0 where
  pub id : h.id ≡ g.id + 1
  pub min : h.min ≡ g.max + 1

-- what the test of two neighbours says
pub next-is : (g h : Segment) → goes_on g h ≡ true → Follows g h
unfolding goes_on
next-is g h q =
    let t = and_both (eqb h.id (g.id + 1)) (eqb h.min (g.max + 1)) q in
    record { id = eqb-true h.id (g.id + 1) t.0; min = eqb-true h.min (g.max + 1) t.1 }

-- and the other way
pub is-next : (g h : Segment) → Follows g h → goes_on g h ≡ true
unfolding goes_on
is-next g h f = simp (eq-eqb h.id (g.id + 1) f.id, eq-eqb h.min (g.max + 1) f.min)

-- ---- the test is that of a chain, from ids that are not 0

-- a chain of segments in slots passes
pub chain-passes : (k c : ℕ) (gs : List Segment) (i a j b : ℕ) → 1 ≤ i → 1 ≤ a → Chain (InSlot k c) i a gs j b → chain_of k c gs ≡ true
unfolding chain_of all linked
chain-passes k c [] i a j b some low h = refl
chain-passes k c (g ∷ gs) i a j b some low h =
    on gs h.1 (chain-passes k c gs (i + 1) (g.max + 1) j b (omega arith) (omega arith) h.1)
  where
    good : seg_of k c g ≡ true
    good =
        let t = h.0 in
        is-seg k c g
        (record {
          some_id = omega (arith, t.id);
          slot = t.good.slot;
          some_size = t.good.some;
          size = t.good.size;
          some-min = omega (arith, t.min);
          order = omega (arith, t.min, t.order);
          newest = t.good.newest;
        })

    on : (gs : List Segment) → Chain (InSlot k c) (i + 1) (g.max + 1) gs j b → chain_of k c gs ≡ true → chain_of k c (g ∷ gs) ≡ true
    on [] l q = simp good
    on (x ∷ gs) l q =
        let t = and_both (all (seg_of k c) (x ∷ gs)) (linked goes_on (x ∷ gs)) q in
        let next = is-next g x (record { id = l.0.id ∙ ap (λ (y : ℕ). y + 1) (sym h.0.id); min = l.0.min }) in
        both-and _ _ (both-and _ _ good t.0) (both-and _ _ next t.1)

-- a segment that passes lies in its slot
in-slot : (k c : ℕ) (g : Segment) → SegmentGood k c g → InSlot k c g
in-slot k c g s = record { slot = s.slot; some = s.some_size; size = s.size; newest = s.newest }

-- segments that are a chain
pub record Chained (k c : ℕ) (gs : List Segment) : Type 0 where
  pub i : ℕ
  pub a : ℕ
  pub j : ℕ
  pub b : ℕ
  pub some : 1 ≤ i
  pub low : 1 ≤ a
  pub chain : Chain (InSlot k c) i a gs j b

-- what passes is one
pub passes-chain : (k c : ℕ) (gs : List Segment) → chain_of k c gs ≡ true → Chained k c gs
unfolding chain_of all linked
passes-chain k c [] h = record { i = 1; a = 1; j = 1; b = 1; some = omega arith; low = omega arith; chain = (refl, refl) }
passes-chain k c (g ∷ gs) h =
    let t = and_both (all (seg_of k c) (g ∷ gs)) (linked goes_on (g ∷ gs)) h in
    let u = and_both (seg_of k c g) (all (seg_of k c) gs) t.0 in
    from gs (seg-is k c g u.0) t.1 (λ q. passes-chain k c gs (both-and _ _ u.1 q))
  where
    link : SegmentGood k c g → Link (InSlot k c) g.id g.min g
    link s = record { id = refl; min = refl; order = s.order; good = in-slot k c g s }

    from : (gs : List Segment) → SegmentGood k c g → linked goes_on (g ∷ gs) ≡ true → (linked goes_on gs ≡ true → Chained k c gs)
        → Chained k c (g ∷ gs)
    from [] s q more = record {
      i = g.id;
      a = g.min;
      j = g.id + 1;
      b = g.max + 1;
      some = s.some_id;
      low = s.some-min;
      chain = (link s, (refl, refl));
    }
    from (x ∷ gs) s q more =
        let v = and_both (goes_on g x) (linked goes_on (x ∷ gs)) q in
        let f = next-is g x v.0 in
        let r = more v.1 in
        let first = r.chain.0 in
        record {
          i = g.id;
          a = g.min;
          j = r.j;
          b = r.b;
          some = s.some_id;
          low = s.some-min;
          chain = (
            link s,
            subst (λ (y : ℕ). Chain (InSlot k c) y (g.max + 1) (x ∷ gs) r.j r.b) (sym first.id ∙ f.id)
                (subst (λ (y : ℕ). Chain (InSlot k c) r.i y (x ∷ gs) r.j r.b) (sym first.min ∙ f.min) r.chain),
          );
        }

-- a front of a chain is one, and so is what is behind it
pub chain-parts : (k c i : ℕ) (gs : List Segment) → chain_of k c gs ≡ true
    → (chain_of k c (take i gs) ≡ true) × (chain_of k c (drop i gs) ≡ true)
chain-parts k c i gs h =
    let r = passes-chain k c gs h in
    let P : Segment → Type 0 = InSlot k c in
    let s = chain-split {P = P} (take i gs) (drop i gs) r.i r.a r.j r.b
    (subst (λ (l : List Segment). Chain P r.i r.a l r.j r.b) (sym (take-append-drop i gs)) r.chain) in (
      chain-passes k c (take i gs) r.i r.a s.j s.b r.some r.low s.left,
      chain-passes k c (drop i gs) s.j s.b r.j r.b
          (omega (arith, r.some, chain-ids P (take i gs) r.i r.a s.j s.b s.left))
          (omega (arith, r.low, chain-le P (take i gs) r.i r.a s.j s.b s.left)) s.right,
    )

-- ---- the last segment of a chain

-- a chain taken apart before its head
pub chain-ends : (P : Segment → Type 0) (gs : List Segment) (i a j b : ℕ) → 0 < length gs → Chain P i a gs j b
    → Ends P i a (front_of gs) (head_of gs) j b
chain-ends P gs i a j b l h =
    C.chain_snoc P (front_of gs) (head_of gs) i a j b (subst (λ (x : List Segment). Chain P i a x j b) (ends-with gs l) h)

-- g goes on from the last of hs, where there is one
abbrev pub Goes : List Segment → Segment → Type 0
Goes hs g = 0 < length hs → Follows (head_of hs) g

-- a chain, taken apart at the end
pub record ChainLast (k c : ℕ) (hs : List Segment) (g : Segment) : Type 0 where
  pub rest : chain_of k c hs ≡ true
  pub good : SegmentGood k c g
  pub goes : Goes hs g

-- one more at the end
pub chain_snoc : (k c : ℕ) (hs : List Segment) (g : Segment) → ChainLast k c hs g → chain_of k c (hs ++ (g ∷ [])) ≡ true
chain_snoc k c hs g s = by hs s.goes (passes-chain k c hs s.rest)
  where
    more : (hs : List Segment) (i a : ℕ) → 1 ≤ i → 1 ≤ a → Chain (InSlot k c) i a hs g.id g.min → chain_of k c (hs ++ (g ∷ [])) ≡ true
    more hs i a some low h =
        let u = s.good in
        chain-passes k c (hs ++ (g ∷ [])) i a (g.id + 1) (g.max + 1) some low
        (chain_more (InSlot k c) hs g i a h u.order (in-slot k c g u))

    by : (hs : List Segment) → Goes hs g → Chained k c hs → chain_of k c (hs ++ (g ∷ [])) ≡ true
    by [] goes r = more [] g.id g.min s.good.some_id s.good.some-min (refl, refl)
    by (x ∷ hs) goes r =
        let f = goes (omega arith) in
        let e = chain-ends (InSlot k c) (x ∷ hs) r.i r.a r.j r.b (omega arith) r.chain in
        more (x ∷ hs) r.i r.a r.some r.low
        (subst (λ (y : ℕ). Chain (InSlot k c) r.i r.a (x ∷ hs) y g.min) (sym (f.id ∙ e.id))
        (subst (λ (y : ℕ). Chain (InSlot k c) r.i r.a (x ∷ hs) r.j y) (sym (f.min ∙ e.max)) r.chain))

-- and taken apart
pub snoc-chain : (k c : ℕ) (hs : List Segment) (g : Segment) → chain_of k c (hs ++ (g ∷ [])) ≡ true → ChainLast k c hs g
snoc-chain k c hs g h =
    let r = passes-chain k c (hs ++ (g ∷ [])) h in
    let e = C.chain_snoc (InSlot k c) hs g r.i r.a r.j r.b r.chain in
    record {
      rest = chain-passes k c hs r.i r.a g.id g.min r.some r.low e.left;
      good = record {
        some_id = omega (arith, r.some, chain-ids (InSlot k c) hs r.i r.a g.id g.min e.left);
        slot = e.good.slot;
        some_size = e.good.some;
        size = e.good.size;
        some-min = omega (arith, r.low, chain-le (InSlot k c) hs r.i r.a g.id g.min e.left);
        order = e.order;
        newest = e.good.newest;
      };
      goes = λ some.
          let u = chain-ends (InSlot k c) hs r.i r.a g.id g.min some e.left in
          record { id = sym u.id; min = sym u.max };
    }

-- ---- the two ends

-- "the live start lies in the first segment", "the last a multiple of 4096", "the last max is the live end"
pub record EndsGood (s e : ℕ) (gs : List Segment) : Type 0 where
  pub from : (get_or gs 0 no_segment).min ≤ s
  pub to : s ≤ (get_or gs 0 no_segment).max
  pub pages : (head_of gs).size % 4096 ≡ 0
  pub newest : (head_of gs).max ≡ e

-- what the test of the ends says where there are segments
pub ends-are : (s e : ℕ) (gs : List Segment) → 0 < length gs → ends_of s e gs ≡ true → EndsGood s e gs
unfolding ends_of
ends-are s e [] some h = absurd (omega arith)
ends-are s e (g ∷ gs) some h =
    let x : Segment = head_of (g ∷ gs) in
    let a = and_both (leb g.min s && leb s g.max && eqb (x.size % 4096) 0) (eqb x.max e) h in
    let b = and_both (leb g.min s && leb s g.max) (eqb (x.size % 4096) 0) a.0 in
    let c = and_both (leb g.min s) (leb s g.max) b.0 in
    record {
      from = leb-true g.min s c.0;
      to = leb-true s g.max c.1;
      pages = eqb-true (x.size % 4096) 0 b.1;
      newest = eqb-true x.max e a.1;
    }

-- and the other way
pub are-ends : (s e : ℕ) (gs : List Segment) → 0 < length gs → EndsGood s e gs → ends_of s e gs ≡ true
unfolding ends_of
are-ends s e [] some h = absurd (omega arith)
are-ends s e (g ∷ gs) some h =
    let x : Segment = head_of (g ∷ gs) in
    both-and (leb g.min s && leb s g.max && eqb (x.size % 4096) 0) (eqb x.max e)
    (both-and (leb g.min s && leb s g.max) (eqb (x.size % 4096) 0)
    (both-and (leb g.min s) (leb s g.max) (le-leb g.min s h.from) (le-leb s g.max h.to))
    (eq-eqb (x.size % 4096) 0 h.pages)) (eq-eqb x.max e h.newest)

-- where there are none
pub ends-empty : (s e : ℕ) (gs : List Segment) → length gs ≡ 0 → ends_of s e gs ≡ true → (s ≡ 0) × (e ≡ 0)
unfolding ends_of
ends-empty s e [] none h = let t = and_both (eqb s 0) (eqb e 0) h in (eqb-true s 0 t.0, eqb-true e 0 t.1)
ends-empty s e (g ∷ gs) none h = absurd (omega arith)

pub empty-ends : (s e : ℕ) (gs : List Segment) → length gs ≡ 0 → s ≡ 0 → e ≡ 0 → ends_of s e gs ≡ true
unfolding ends_of
empty-ends s e [] none a b = simp (eq-eqb s 0 a, eq-eqb e 0 b)
empty-ends s e (g ∷ gs) none a b = absurd (omega arith)

-- ---- place by place

-- each segment of a chain is good
pub chain-at : (k c : ℕ) (gs : List Segment) (i : ℕ) → chain_of k c gs ≡ true → i < length gs → SegmentGood k c (get_or gs i no_segment)
unfolding chain_of
chain-at k c gs i h l =
    seg-is k c (get_or gs i no_segment) (all-at (seg_of k c) no_segment gs i (and_both (all (seg_of k c) gs) (linked goes_on gs) h).0 l)

-- and goes on from the one before it
pub chain_next : (k c : ℕ) (gs : List Segment) (i : ℕ) → chain_of k c gs ≡ true → suc i < length gs
    → Follows (get_or gs i no_segment) (get_or gs (suc i) no_segment)
unfolding chain_of
chain_next k c gs i h l =
    next-is (get_or gs i no_segment) (get_or gs (suc i) no_segment)
    (linked-at goes_on no_segment gs i (and_both (all (seg_of k c) gs) (linked goes_on gs) h).1 l)

-- which is all that a chain is
pub at-chain : (k c : ℕ) (gs : List Segment) → ((i : ℕ) → i < length gs → SegmentGood k c (get_or gs i no_segment))
    → ((i : ℕ) → suc i < length gs → Follows (get_or gs i no_segment) (get_or gs (suc i) no_segment)) → chain_of k c gs ≡ true
unfolding chain_of
at-chain k c gs good next =
    both-and _ _ (at_all (seg_of k c) no_segment gs (λ i l. is-seg k c (get_or gs i no_segment) (good i l)))
    (at-linked goes_on no_segment gs (λ i l. is-next (get_or gs i no_segment) (get_or gs (suc i) no_segment) (next i l)))

-- entries that are zero
pub zeros-at : (gs : List Segment) (i : ℕ) → zeros_of gs ≡ true → i < length gs → get_or gs i no_segment ≡ no_segment
unfolding zeros_of
zeros-at [] i h l = refl
zeros-at (g ∷ gs) zero h l = zero-entry g (and_both (zero_of g) (zeros_of gs) h).0
zeros-at (g ∷ gs) (suc i) h l = zeros-at gs i (and_both (zero_of g) (zeros_of gs) h).1 (omega arith)

pub at-zeros : (gs : List Segment) → ((i : ℕ) → i < length gs → get_or gs i no_segment ≡ no_segment) → zeros_of gs ≡ true
unfolding zeros_of
at-zeros [] h = refl
at-zeros (g ∷ gs) h =
    both-and (zero_of g) (zeros_of gs) (ap (λ (x : Segment). zero_of x) (h 0 (omega arith)))
    (at-zeros gs (λ i l. h (suc i) (omega arith)))
