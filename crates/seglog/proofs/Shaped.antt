-- The test of refusal 2 decides document 01's list: a log passes exactly where it is well shaped and the area has K x C bytes.
-- `length l.segs ≡ 64` is the array's type. Assumes nothing.
use mathlib.Core.Path.{◌≡◌, sym, ap, ◌∙◌}
use mathlib.Core.List.{List}
use mathlib.Core.Bool.{true}
use Prim.Native.Nat.{ℕ, suc, ◌+◌, ◌-◌, ◌*◌, ◌≤◌, ◌<◌}
use native.Mathlib.Numerals.{add-one}
use native.Mathlib.Omega.{arith}
use lib.ListN.{length, get_or, take, drop, length-drop}
use lib.Seq.{get_or-drop}
use lib.Dec.{eqb}
use borrow.Author.Tests.{eqb-true, eqb-false}
use Rattle.lists.proofs.Cases.{by-test}
use Rattle.lists.proofs.Distinct.{distinct-at, at-distinct}
use Rattle.segment.specs.declared.Segment.{Segment}
use Rattle.seglog.specs.declared.Log.{Log}
use Rattle.seglog.specs.View.{head_of}
use Rattle.seglog.specs.Chain.{chain_of, ends_of, slots_apart}
use Rattle.seglog.specs.Fit.{fitting_of}
use Rattle.segment.specs.Segment.{no_segment, slot_number}
use Rattle.seglog.specs.Shape.{entry, WellShaped}
use Rattle.seglog.specs.Promised.{ShapedSound, ShapedComplete}
use Rattle.seglog.proofs.View.{listed-length, listed_at, listed-head}
use Rattle.seglog.proofs.Fit.{SegmentGood, Fitting, fitting-is, is-fitting}
use Rattle.seglog.proofs.Chain.{
  Follows,
  EndsGood,
  ends-are,
  are-ends,
  ends-empty,
  empty-ends,
  chain-at,
  chain_next,
  at-chain,
  zeros-at,
  at-zeros,
}

module _ (l : Log) (long : length l.segs ≡ 64) where
  abbrev gs : List Segment
  gs = take l.count l.segs

  module _ (n : ℕ) (fits : fitting_of l n ≡ true) where
    f : Fitting l n
    f = fitting-is l n long fits

    few : l.count ≤ 64
    few = omega (arith, f.few, f.sizes.few-slots)

    listed : length gs ≡ l.count
    listed = listed-length l.count l.segs long few

    at : (i : ℕ) → i < l.count → get_or gs i no_segment ≡ entry l i
    at i h = listed_at l.count l.segs long few i h

    good : (i : ℕ) → i < l.count → SegmentGood l.k l.c (entry l i)
    good i h = rw (at i h) at (chain-at l.k l.c gs i f.chain (rw listed h))

    next : (i : ℕ) → i + 1 < l.count → Follows (entry l i) (entry l (i + 1))
    next i h =
        let up : suc i ≡ i + 1 = sym (add-one i) in
        rw (up, at i (omega arith), at (i + 1) h) at (chain_next l.k l.c gs i f.chain (omega (arith, listed)))

    ends : 0 < l.count → EndsGood l.start l.end gs
    ends h = ends-are l.start l.end gs (omega (arith, listed)) f.ends

    none : l.count ≡ 0 → (l.start ≡ 0) × (l.end ≡ 0)
    none z = ends-empty l.start l.end gs (listed ∙ z) f.ends

    last : 0 < l.count → head_of gs ≡ entry l (l.count - 1)
    last h = listed-head l.count l.segs long few h

    sound : WellShaped l
    sound =
        record {
          sizes-obey = f.sizes;
          at-most-k = f.few;
          ids-non-zero = λ i h. (good i h).some_id;
          ids-rise = λ i h. (next i h).id;
          slots-below = λ i h. (good i h).slot;
          slots-distinct = λ i j h g e.
              distinct-at slot_number no_segment gs i j f.apart h (omega (arith, listed))
              (ap (λ (x : Segment). x.slot) (at i (omega arith)) ∙ e ∙ sym (ap (λ (x : Segment). x.slot) (at j g)));
          sizes-some = λ i h. (good i h).some_size;
          sizes-fit = λ i h. (good i h).size;
          last-size = λ h. rw (last h) at (ends h).pages;
          mins = λ i h. (good i h).some-min;
          min-max = λ i h. (good i h).order;
          next-min = λ i h. (next i h).min;
          last-max = λ h. rw (last h) at (ends h).newest;
          start-from = λ h. rw (at 0 h) at (ends h).from;
          start-to = λ h. rw (at 0 h) at (ends h).to;
          newest-pages = λ i h. (good i h).newest.pages;
          newest-fits = λ i h. (good i h).newest.header;
          none-start = λ z. (none z).0;
          none_end = λ z. (none z).1;
          unused-zero = λ i h g.
              let back : l.count + (i - l.count) ≡ i = omega arith in
              ap (λ (j : ℕ). entry l j) (sym back) ∙ sym (get_or-drop l.count l.segs (i - l.count) no_segment)
              ∙ zeros-at (drop l.count l.segs) (i - l.count) f.zeros (omega (arith, length-drop l.count l.segs));
        }

  module _ (s : WellShaped l) where
    few' : l.count ≤ 64
    few' = omega (arith, s.at-most-k, s.sizes-obey.few-slots)

    listed' : length gs ≡ l.count
    listed' = listed-length l.count l.segs long few'

    at' : (i : ℕ) → i < length gs → get_or gs i no_segment ≡ entry l i
    at' i h = listed_at l.count l.segs long few' i (omega (arith, listed'))

    chain' : chain_of l.k l.c gs ≡ true
    chain' =
        at-chain l.k l.c gs
        (λ i h.
        let h' : i < l.count = omega (arith, listed') in
        rw (at' i h)
        (record {
          some_id = s.ids-non-zero i h';
          slot = s.slots-below i h';
          some_size = s.sizes-some i h';
          size = s.sizes-fit i h';
          some-min = s.mins i h';
          order = s.min-max i h';
          newest = record { pages = s.newest-pages i h'; header = s.newest-fits i h' };
        }))
        (λ i h.
        let h' : i + 1 < l.count = omega (arith, listed') in
        let up : suc i ≡ i + 1 = sym (add-one i) in
        rw (at' i (omega arith), at' (suc i) h, up) (record { id = s.ids-rise i h'; min = s.next-min i h' }))

    apart' : slots_apart gs ≡ true
    apart' =
        at-distinct slot_number no_segment gs
        (λ i j h g e.
        s.slots-distinct i j h (omega (arith, listed'))
        (sym (ap (λ (x : Segment). x.slot) (at' i (omega arith))) ∙ e ∙ ap (λ (x : Segment). x.slot) (at' j g)))

    ends' : ends_of l.start l.end gs ≡ true
    ends' =
        by-test (eqb l.count 0)
        (λ e.
        let z = eqb-true l.count 0 e in
        empty-ends l.start l.end gs (listed' ∙ z) (s.none-start z) (s.none_end z))
        (λ e.
        let some : 0 < l.count = let z = eqb-false l.count 0 e in omega arith in
        let some' : 0 < length gs = omega (arith, listed') in
        let last : head_of gs ≡ entry l (l.count - 1) = listed-head l.count l.segs long few' some in
        are-ends l.start l.end gs some'
        (record {
          from = rw (at' 0 some') (s.start-from some);
          to = rw (at' 0 some') (s.start-to some);
          pages = rw last (s.last-size some);
          newest = rw last (s.last-max some);
        }))

    complete : (n : ℕ) → n ≡ l.k * l.c → fitting_of l n ≡ true
    complete n e =
        is-fitting l n long
        (record {
          sizes = s.sizes-obey;
          few = s.at-most-k;
          area = e;
          zeros = at-zeros (drop l.count l.segs)
              (λ i h.
              get_or-drop l.count l.segs i no_segment
              ∙ s.unused-zero (l.count + i) (omega arith) (omega (arith, length-drop l.count l.segs)));
          chain = chain';
          apart = apart';
          ends = ends';
        })

-- a log that passes is well shaped, and its area has K x C bytes
pub shaped-sound : ShapedSound
shaped-sound l n long fits = (sound l long n fits, (f l long n fits).area)

-- a well-shaped log with an area of K x C bytes passes
pub shaped-complete : ShapedComplete
shaped-complete l n long s e = complete l long s n e
