-- What the segments that a prune keeps are: neighbours still, in slots of their own, with the live range's ends in the first and the last.
-- Assumes nothing.
use mathlib.Core.Path.{◌≡◌, refl, sym, ap, ◌∙◌}
use mathlib.Core.Bool.{Bool, true, false}
use mathlib.Core.List.{List, [], ◌∷◌, ◌++◌}
use Prim.Native.Nat.{ℕ, suc, ◌+◌, ◌-◌, ◌%◌, ◌≤◌, ◌<◌}
use native.Mathlib.Omega.{arith}
use lib.ListN.{length, get_or, take}
use lib.Dec.{ltb}
use borrow.Author.Tests.{ltb-true, ltb-false, le-ltb}
use Rattle.lists.specs.Choice.{pick}
use Rattle.lists.proofs.Cases.{pick-either}
use Rattle.segment.specs.declared.Segment.{Segment}
use Rattle.seglog.specs.View.{head_of}
use Rattle.seglog.specs.Chain.{chain_of, slots_apart}
use Rattle.segment.specs.Segment.{no_segment, ended_at, slot_number}
use Rattle.lists.proofs.Bools.{and_both}
use Rattle.lists.specs.Distinct.{fresh, distinct}
use Rattle.segment.specs.Chain.{Chain, NewestFits, InSlot}
use Rattle.segment.proofs.Chain.{chain_first}
use Rattle.seglog.proofs.Chain.{EndsGood, passes-chain, chain-passes, chain-ends, chain_snoc, snoc-chain}
use Rattle.seglog_prune.specs.Drop.{drop_old, keep_at, drop_new}

-- the last of two or more is the last of the others
head_more : (g h : Segment) (hs : List Segment) → head_of (g ∷ h ∷ hs) ≡ head_of (h ∷ hs)
head_more g h hs =
    let one : suc (suc (length hs)) - 1 ≡ suc (length hs) = omega arith in
    let other : suc (length hs) - 1 ≡ length hs = omega arith in
    ap (λ (i : ℕ). get_or (g ∷ h ∷ hs) i no_segment) one ∙ ap (λ (i : ℕ). get_or (h ∷ hs) i no_segment) (sym other)

-- ---- prune oldest

-- what prune oldest leaves of a chain `whole`: a chain whose first segment holds n, with the same last segment
pub record Old (P : Segment → Type 0) (i b n j c : ℕ) (whole gs : List Segment) : Type 0 where
  pub i' : ℕ
  pub b' : ℕ
  pub first : i ≤ i'
  pub low : b ≤ b'
  pub chain : Chain P i' b' gs j c
  pub apart : slots_apart gs ≡ true
  pub some : 0 < length gs
  pub from : (get_or gs 0 no_segment).min ≤ n
  pub to : n ≤ (get_or gs 0 no_segment).max
  pub head : head_of gs ≡ head_of whole

pub old-chain : (P : Segment → Type 0) (gs : List Segment) (i b n j c : ℕ) → 0 < length gs → b ≤ n → n < c → Chain P i b gs j c
    → slots_apart gs ≡ true → Old P i b n j c gs (drop_old n gs)
unfolding drop_old distinct
old-chain P [] i b n j c some low high h apart = absurd (omega arith)
old-chain P (g ∷ []) i b n j c some low high h apart =
    record {
      i' = i;
      b' = b;
      first = omega arith;
      low = omega arith;
      chain = h;
      apart = apart;
      some = some;
      from = omega (arith, h.0.min);
      to = omega (arith, h.1.1);
      head = refl;
    }
old-chain P (g ∷ x ∷ gs) i b n j c some low high h apart =
    pick-either (Old P i b n j c (g ∷ x ∷ gs)) (ltb g.max n) (drop_old n (x ∷ gs)) (g ∷ x ∷ gs)
    (λ q.
    let t = old-chain P (x ∷ gs) (i + 1) (g.max + 1) n j c (omega arith) (omega (arith, ltb-true g.max n q)) high h.1
    (and_both (fresh slot_number g.slot (x ∷ gs)) (slots_apart (x ∷ gs)) apart).1 in
    record {
      i' = t.i';
      b' = t.b';
      first = omega (arith, t.first);
      low = omega (arith, t.low, h.0.order);
      chain = t.chain;
      apart = t.apart;
      some = t.some;
      from = t.from;
      to = t.to;
      head = t.head ∙ sym (head_more g x gs);
    })
    (λ q.
    record {
      i' = i;
      b' = b;
      first = omega arith;
      low = omega arith;
      chain = h;
      apart = apart;
      some = some;
      from = omega (arith, h.0.min);
      to = ltb-false g.max n q;
      head = refl;
    })

-- what holds of the segments that prune oldest keeps
pub record OldKept (k c n e : ℕ) (gs : List Segment) : Type 0 where
  pub some : 0 < length gs
  pub chain : chain_of k c gs ≡ true
  pub apart : slots_apart gs ≡ true
  pub ends : EndsGood n e gs

pub old-kept : (k c n s e : ℕ) (gs : List Segment) → 0 < length gs → chain_of k c gs ≡ true → slots_apart gs ≡ true → EndsGood s e gs
    → s ≤ n → n ≤ e → OldKept k c n e (drop_old n gs)
old-kept k c n s e gs some chain apart ends low high =
    let P : Segment → Type 0 = InSlot k c in
    let r = passes-chain k c gs chain in
    let first = chain_first P gs r.i r.a r.j r.b some r.chain in
    let last = chain-ends P gs r.i r.a r.j r.b some r.chain in
    let o = old-chain P gs r.i r.a n r.j r.b some (omega (arith, ends.from, first)) (omega (arith, last.max, ends.newest))
    r.chain apart in
    record {
      some = o.some;
      chain = chain-passes k c (drop_old n gs) o.i' o.b' r.j r.b (omega (arith, r.some, o.first))
          (omega (arith, r.low, o.low)) o.chain;
      apart = o.apart;
      ends = record {
        from = o.from;
        to = o.to;
        pages = ap (λ (x : Segment). x.size % 4096) o.head ∙ ends.pages;
        newest = ap (λ (x : Segment). x.max) o.head ∙ ends.newest;
      };
    }

pub old-fewer : (n : ℕ) (gs : List Segment) → length (drop_old n gs) ≤ length gs
unfolding drop_old
old-fewer n [] = omega arith
old-fewer n (g ∷ []) = omega arith
old-fewer n (g ∷ h ∷ gs) =
    pick-either (λ (l : List Segment). length l ≤ length (g ∷ h ∷ gs)) (ltb g.max n) (drop_old n (h ∷ gs)) (g ∷ h ∷ gs)
    (λ q. omega (arith, old-fewer n (h ∷ gs))) (λ q. omega arith)

-- ---- the last segment changed

-- a chain whose last segment ends with another record
pub chain-last : (k c : ℕ) (hs : List Segment) (g : Segment) (n at x : ℕ) → chain_of k c (hs ++ (g ∷ [])) ≡ true → NewestFits at x → x ≤ c
    → g.min ≤ n → chain_of k c (hs ++ (ended_at g n at x ∷ [])) ≡ true
chain-last k c hs g n at x h newest high order =
    let t = snoc-chain k c hs g h in
    chain_snoc k c hs (ended_at g n at x)
    (record {
      rest = t.rest;
      good = record {
        some_id = t.good.some_id;
        slot = t.good.slot;
        some_size = omega (arith, newest.header);
        size = high;
        some-min = t.good.some-min;
        order = order;
        newest = newest;
      };
      goes = λ some. record { id = (t.goes some).id; min = (t.goes some).min };
    })

-- the first segment's range, where the last one is changed
pub first-from : (hs : List Segment) (g : Segment) (n at x : ℕ)
    → (get_or (hs ++ (ended_at g n at x ∷ [])) 0 no_segment).min ≡ (get_or (hs ++ (g ∷ [])) 0 no_segment).min
first-from [] g n at x = refl
first-from (h ∷ hs) g n at x = refl

pub first_to : (hs : List Segment) (g : Segment) (s n at x : ℕ) → s ≤ n → s ≤ (get_or (hs ++ (g ∷ [])) 0 no_segment).max
    → s ≤ (get_or (hs ++ (ended_at g n at x ∷ [])) 0 no_segment).max
first_to [] g s n at x low h = low
first_to (y ∷ hs) g s n at x low h = h

-- ---- prune recent

-- the segments that prune recent keeps are a front
pub new-front : (n : ℕ) (gs : List Segment) → drop_new n gs ≡ take (length (drop_new n gs)) gs
unfolding drop_new
new-front n [] = refl
new-front n (g ∷ gs) = go (drop_new n gs) (new-front n gs)
  where
    go : (hs : List Segment) → hs ≡ take (length hs) gs → keep_at n g hs ≡ take (length (keep_at n g hs)) (g ∷ gs)
    go [] e = one (ltb n g.min)
      where
        one : (t : Bool) → pick t [] (g ∷ []) ≡ take (length (pick t [] (g ∷ []))) (g ∷ gs)
        one true = refl
        one false = refl
    go (h ∷ hs) e = ap (λ (l : List Segment). g ∷ l) e

-- and the last of them does not begin above n
pub new-low : (n : ℕ) (gs : List Segment) → 0 < length (drop_new n gs) → (head_of (drop_new n gs)).min ≤ n
unfolding drop_new
new-low n [] some = absurd (omega arith)
new-low n (g ∷ gs) some = go (drop_new n gs) (new-low n gs) some
  where
    go : (hs : List Segment) → (0 < length hs → (head_of hs).min ≤ n) → 0 < length (keep_at n g hs) → (head_of (keep_at n g hs)).min ≤ n
    go [] ih some = one (ltb n g.min) refl some
      where
        one : (t : Bool) → ltb n g.min ≡ t → 0 < length (pick t [] (g ∷ [])) → (head_of (pick t [] (g ∷ []))).min ≤ n
        one true e s = absurd (omega arith)
        one false e s = ltb-false n g.min e
    go (h ∷ hs) ih some = rw (head_more g h hs) (ih (omega arith))

-- where the first segment begins at n or before, some segment stays
pub some-stays : (n s e : ℕ) (gs : List Segment) → 0 < length gs → EndsGood s e gs → s ≤ n → 0 < length (drop_new n gs)
unfolding drop_new
some-stays n s e [] some ends low = absurd (omega arith)
some-stays n s e (g ∷ gs) some ends low = go (drop_new n gs)
  where
    go : (hs : List Segment) → 0 < length (keep_at n g hs)
    go [] = rw (le-ltb n g.min (omega (arith, ends.from))) (omega arith)
    go (h ∷ hs) = omega arith
