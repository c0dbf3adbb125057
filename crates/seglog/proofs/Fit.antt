-- Refusal 2 taken apart: what each of its tests says, and the ways of the code through them.
-- Assumes nothing.
use mathlib.Core.Path.{◌≡◌, refl, sym, ap, ◌∙◌}
use mathlib.Core.List.{List, ◌∷◌}
use mathlib.Core.Bool.{Bool, true, false, ◌&&◌}
use Prim.Native.Nat.{ℕ, ◌+◌, ◌-◌, ◌*◌, ◌%◌, ◌≤◌, ◌<◌}
use native.Mathlib.Nat.{mul-le-mul}
use native.Mathlib.Omega.{arith}
use mir.Syntax.{w64}
use mir.Val.{Fits}
use lib.ListN.{length, get_or, take, drop}
use lib.Seq.{drop-cons}
use lib.Dec.{eqb, leb, ltb}
use borrow.Author.Tests.{le-leb, leb-true, lt-ltb, ltb-true, eq-eqb, eqb-true, eqb-false}
use Rattle.lists.specs.Choice.{pick}
use Rattle.lists.proofs.Cases.{by-test}
use Rattle.segment.specs.declared.Segment.{Segment}
use Rattle.seglog.specs.declared.Log.{Log}
use Rattle.seglog.specs.View.{View, log_of, view_of, head_of, zeros_of, plain_of}
use Rattle.seglog.specs.Chain.{newest_of, seg_of, goes_on, chain_of, ends_of, slots_apart}
use Rattle.seglog.specs.Fit.{sizes_of, shaped_of, fits_of, fitting_of}
use Rattle.segment.specs.Segment.{no_segment, slot_number}
use Rattle.segment.specs.Chain.{NewestFits}
use Rattle.seglog.specs.New.{roomy_of}
use Rattle.seglog.specs.Shape.{SizesObey}
use Rattle.lists.proofs.Bools.{both_ways, and_both, both-and, not_so, same_test}
use Rattle.lists.specs.Each.{Every, all, linked}
use Rattle.lists.proofs.Each.{all-every}
use Rattle.lists.proofs.Distinct.{Below}
use Rattle.seglog.proofs.View.{plain-log, view-log, listed-length, listed_at, listed-head}

-- ---- K, C and M

-- what the test of the sizes says
pub sizes-are : (k c m : ℕ) → sizes_of k c m ≡ true → SizesObey k c m
unfolding sizes_of
sizes-are k c m h =
    let t5 = and_both (leb 1 k && leb k 64 && eqb (c % 4096) 0 && leb 4096 c && leb c 2147483648) (leb m c) h in
    let t4 = and_both (leb 1 k && leb k 64 && eqb (c % 4096) 0 && leb 4096 c) (leb c 2147483648) t5.0 in
    let t3 = and_both (leb 1 k && leb k 64 && eqb (c % 4096) 0) (leb 4096 c) t4.0 in
    let t2 = and_both (leb 1 k && leb k 64) (eqb (c % 4096) 0) t3.0 in
    let t1 = and_both (leb 1 k) (leb k 64) t2.0 in
    record {
      some-slot = leb-true 1 k t1.0;
      few-slots = leb-true k 64 t1.1;
      whole-pages = eqb-true (c % 4096) 0 t2.1;
      a-page = leb-true 4096 c t3.1;
      at_most = leb-true c 2147483648 t4.1;
      soft = leb-true m c t5.1;
    }

-- and the other way
pub are-sizes : (k c m : ℕ) → SizesObey k c m → sizes_of k c m ≡ true
unfolding sizes_of
are-sizes k c m s =
    simp (
      le-leb 1 k s.some-slot,
      le-leb k 64 s.few-slots,
      eq-eqb (c % 4096) 0 s.whole-pages,
      le-leb 4096 c s.a-page,
      le-leb c 2147483648 s.at_most,
      le-leb m c s.soft,
    )

-- K x C is a number of 38 bits
pub sizes-room : (k c m : ℕ) → SizesObey k c m → k * c ≤ 137438953472
sizes-room k c m s = mul-le-mul s.few-slots s.at_most

pub product_fits : (k c m : ℕ) → sizes_of k c m ≡ true → Fits w64 (k * c)
product_fits k c m h = omega (arith, sizes-room k c m (sizes-are k c m h))

-- ---- refusal 1

-- what its absence says: K, C and M obey the rules, and the area's length n is K x C
pub record Roomy (k c m n : ℕ) : Type 0 where
  pub sizes : SizesObey k c m
  pub area : n ≡ k * c

pub roomy-is : (k c m n : ℕ) → roomy_of k c m n ≡ true → Roomy k c m n
unfolding roomy_of
roomy-is k c m n h =
    let t = and_both (sizes_of k c m) (eqb n (k * c)) h in
    record { sizes = sizes-are k c m t.0; area = eqb-true n (k * c) t.1 }

-- and the other way
pub is-roomy : (k c m n : ℕ) → SizesObey k c m → n ≡ k * c → roomy_of k c m n ≡ true
unfolding roomy_of
is-roomy k c m n s e = both-and (sizes_of k c m) (eqb n (k * c)) (are-sizes k c m s) (eq-eqb n (k * c) e)

-- ---- a listed segment

-- what the test of the newest record says
pub newest-is : (at size : ℕ) → newest_of at size ≡ true → NewestFits at size
unfolding newest_of
newest-is at size h =
    let t = and_both (eqb (at % 4096) 0) (leb (at + 12) size) h in
    record { pages = eqb-true (at % 4096) 0 t.0; header = leb-true (at + 12) size t.1 }

-- and the other way
pub is-newest : (at size : ℕ) → NewestFits at size → newest_of at size ≡ true
unfolding newest_of
is-newest at size f = simp (eq-eqb (at % 4096) 0 f.pages, le-leb (at + 12) size f.header)

-- what the test of one segment says
pub record SegmentGood (k c : ℕ) (g : Segment) : Type 0 where
  pub some_id : 1 ≤ g.id
  pub slot : g.slot < k
  pub some_size : 1 ≤ g.size
  pub size : g.size ≤ c
  pub some-min : 1 ≤ g.min
  pub order : g.min ≤ g.max
  pub newest : NewestFits g.newest_at g.size

pub seg-is : (k c : ℕ) (g : Segment) → seg_of k c g ≡ true → SegmentGood k c g
unfolding seg_of
seg-is k c g h =
    let t6 = and_both (leb 1 g.id && ltb g.slot k && leb 1 g.size && leb g.size c && leb 1 g.min && leb g.min g.max)
    (newest_of g.newest_at g.size) h in
    let t5 = and_both (leb 1 g.id && ltb g.slot k && leb 1 g.size && leb g.size c && leb 1 g.min) (leb g.min
    g.max) t6.0 in
    let t4 = and_both (leb 1 g.id && ltb g.slot k && leb 1 g.size && leb g.size c) (leb 1 g.min) t5.0 in
    let t3 = and_both (leb 1 g.id && ltb g.slot k && leb 1 g.size) (leb g.size c) t4.0 in
    let t2 = and_both (leb 1 g.id && ltb g.slot k) (leb 1 g.size) t3.0 in
    let t1 = and_both (leb 1 g.id) (ltb g.slot k) t2.0 in
    record {
      some_id = leb-true 1 g.id t1.0;
      slot = ltb-true g.slot k t1.1;
      some_size = leb-true 1 g.size t2.1;
      size = leb-true g.size c t3.1;
      some-min = leb-true 1 g.min t4.1;
      order = leb-true g.min g.max t5.1;
      newest = newest-is g.newest_at g.size t6.1;
    }

-- and the other way
pub is-seg : (k c : ℕ) (g : Segment) → SegmentGood k c g → seg_of k c g ≡ true
unfolding seg_of
is-seg k c g s =
    simp (
      le-leb 1 g.id s.some_id,
      lt-ltb g.slot k s.slot,
      le-leb 1 g.size s.some_size,
      le-leb g.size c s.size,
      le-leb 1 g.min s.some-min,
      le-leb g.min g.max s.order,
      is-newest g.newest_at g.size s.newest,
    )

-- the slots of a chain are below K
pub chain-below : (k c : ℕ) (gs : List Segment) → chain_of k c gs ≡ true → Below slot_number k gs
unfolding chain_of
chain-below k c gs h =
    all-every (seg_of k c) (λ g. g.slot < k) (λ g q. (seg-is k c g q).slot) gs (and_both (all (seg_of k c) gs) (linked goes_on gs) h).0

-- of 64 slots at most
pub chain-few : (k c m : ℕ) (gs : List Segment) → SizesObey k c m → chain_of k c gs ≡ true → Every (λ (g : Segment). g.slot < 64) gs
unfolding chain_of
chain-few k c m gs s h =
    all-every (seg_of k c) (λ (g : Segment). g.slot < 64) (λ g q. omega (arith, (seg-is k c g q).slot, s.few-slots)) gs
    (and_both (all (seg_of k c) gs) (linked goes_on gs) h).0

-- ---- the whole test

-- a log that fits an area of n bytes, test by test
pub record Fitting (l : Log) (n : ℕ) : Type 0 where
  pub sizes : SizesObey l.k l.c l.m
  pub few : l.count ≤ l.k
  pub area : n ≡ l.k * l.c
  pub zeros : zeros_of (drop l.count l.segs) ≡ true
  pub chain : chain_of l.k l.c (take l.count l.segs) ≡ true
  pub apart : slots_apart (take l.count l.segs) ≡ true
  pub ends : ends_of l.start l.end (take l.count l.segs) ≡ true

-- the unused entries, and then the listed segments
pub fitting-both : (l : Log) (area : List ℕ) → fitting_of l (length area) ≡ plain_of l && fits_of (view_of l) area
unfolding fitting_of fits_of
fitting-both l area = refl

module _ (l : Log) (n : ℕ) (long : length l.segs ≡ 64) where
  abbrev gs : List Segment
  gs = take l.count l.segs

  -- what refusal 2's absence says
  pub fitting-is : fitting_of l n ≡ true → Fitting l n
  unfolding fitting_of plain_of shaped_of
  fitting-is h =
      let a = and_both (plain_of l) (shaped_of (view_of l) && eqb n (l.k * l.c)) h in
      let p = and_both (leb l.count 64) (zeros_of (drop l.count l.segs)) a.0 in
      let b = and_both (shaped_of (view_of l)) (eqb n (l.k * l.c)) a.1 in
      let c = and_both (sizes_of l.k l.c l.m && leb (length gs) l.k && chain_of l.k l.c gs && slots_apart gs)
      (ends_of l.start l.end gs) b.0 in
      let d = and_both (sizes_of l.k l.c l.m && leb (length gs) l.k && chain_of l.k l.c gs) (slots_apart gs) c.0 in
      let e = and_both (sizes_of l.k l.c l.m && leb (length gs) l.k) (chain_of l.k l.c gs) d.0 in
      let f = and_both (sizes_of l.k l.c l.m) (leb (length gs) l.k) e.0 in
      record {
        sizes = sizes-are l.k l.c l.m f.0;
        few = omega (
          arith,
          leb-true (length gs) l.k f.1,
          listed-length l.count l.segs long (leb-true l.count 64 p.0),
        );
        area = eqb-true n (l.k * l.c) b.1;
        zeros = p.1;
        chain = e.1;
        apart = d.1;
        ends = c.1;
      }

  -- and the other way
  pub is-fitting : Fitting l n → fitting_of l n ≡ true
  unfolding fitting_of plain_of shaped_of
  is-fitting f =
      let few : l.count ≤ 64 = omega (arith, f.few, f.sizes.few-slots) in
      let listed = listed-length l.count l.segs long few in
      simp (
        le-leb l.count 64 few,
        f.zeros,
        are-sizes l.k l.c l.m f.sizes,
        listed,
        le-leb l.count l.k f.few,
        f.chain,
        f.apart,
        f.ends,
        eq-eqb n (l.k * l.c) f.area,
      )

  -- a log that cannot fit
  no-fit : (Fitting l n → ⊥) → false ≡ fitting_of l n
  no-fit h = not_so (fitting_of l n) (λ q. h (fitting-is q))

  -- the ways of the code: K, C, M, the count or the area's length breaks the rules
  pub fit-sizes : roomy_of l.k l.c l.m n && leb l.count l.k ≡ false → false ≡ fitting_of l n
  fit-sizes h =
      no-fit (λ f.
      both_ways _
      (both-and (roomy_of l.k l.c l.m n) (leb l.count l.k) (is-roomy l.k l.c l.m n f.sizes f.area)
      (le-leb l.count l.k f.few)) h)

  -- an unused entry is dirty, or the listed segments do not go on from each other, or share a slot
  pub fit-listed : zeros_of (drop l.count l.segs) && chain_of l.k l.c gs && slots_apart gs ≡ false → false ≡ fitting_of l n
  fit-listed h =
      no-fit (λ f. both_ways _ (both-and _ (slots_apart gs) (both-and _ (chain_of l.k l.c gs) f.zeros f.chain) f.apart) h)

-- what the numbers of a log tell
pub record Sized (l : Log) (n : ℕ) : Type 0 where
  pub long : length l.segs ≡ 64
  pub sizes : SizesObey l.k l.c l.m
  pub few : l.count ≤ l.k
  pub area : n ≡ l.k * l.c

pub sized-is : (l : Log) (n : ℕ) → length l.segs ≡ 64
    → roomy_of l.k l.c l.m n && leb l.count l.k ≡ true → Sized l n
sized-is l n long h =
    let a = and_both (roomy_of l.k l.c l.m n) (leb l.count l.k) h in
    let r = roomy-is l.k l.c l.m n a.0 in
    record { long = long; sizes = r.sizes; few = leb-true l.count l.k a.1; area = r.area }

-- as many entries are listed as the array has at most
pub sized-count : (l : Log) (n : ℕ) → Sized l n → l.count ≤ 64
sized-count l n s = omega (arith, s.few, s.sizes.few-slots)

-- the last test decides
pub fit-ends : (l : Log) (n : ℕ) (b : Bool) → Sized l n
    → zeros_of (drop l.count l.segs) && chain_of l.k l.c (take l.count l.segs) && slots_apart (take l.count l.segs) ≡ true → b ≡ ends_of l.start l.end (take l.count l.segs) → b ≡ fitting_of l n
fit-ends l n b s listed e =
    let gs : List Segment = take l.count l.segs in
    let t = and_both (zeros_of (drop l.count l.segs) && chain_of l.k l.c gs) (slots_apart gs) listed in
    let u = and_both (zeros_of (drop l.count l.segs)) (chain_of l.k l.c gs) t.0 in
    same_test b (fitting_of l n)
    (λ q.
    is-fitting l n s.long
    (record {
      sizes = s.sizes;
      few = s.few;
      area = s.area;
      zeros = u.0;
      chain = u.1;
      apart = t.1;
      ends = sym e ∙ q;
    }))
    (λ q. e ∙ (fitting-is l n s.long q).ends)

-- ---- a view's log

module _ (v : View) (sizes : SizesObey v.k v.c v.m) (few : length v.segs ≤ v.k) where
  -- a view that passes the tests is well shaped
  pub view-shaped : chain_of v.k v.c v.segs ≡ true → slots_apart v.segs ≡ true → ends_of v.start v.end v.segs ≡ true
      → shaped_of v ≡ true
  unfolding shaped_of
  view-shaped chain apart ends =
      simp (are-sizes v.k v.c v.m sizes, le-leb (length v.segs) v.k few, chain, apart, ends)

  -- and its log fits an area of K x C bytes
  pub view-fits : (n : ℕ) → shaped_of v ≡ true → n ≡ v.k * v.c → fitting_of (log_of v) n ≡ true
  unfolding fitting_of
  view-fits n h e =
      simp (
        plain-log v (omega (arith, sizes.few-slots)),
        ap shaped_of (view-log v) ∙ h,
        eq-eqb n (v.k * v.c) e,
      )

-- ---- the two ends

-- the ends, by the log's first and last segment
pub ends_by : (l : Log) (n last : ℕ) → Sized l n → last ≡ l.count - 1
    → pick (eqb l.count 0) (eqb l.start 0 && eqb l.end 0)
    (leb (get_or l.segs 0 no_segment).min l.start && leb l.start (get_or l.segs 0 no_segment).max
    && eqb ((get_or l.segs last no_segment).size % 4096) 0 && eqb (get_or l.segs last no_segment).max l.end)
    ≡ ends_of l.start l.end (take l.count l.segs)
unfolding ends_of
ends_by l n last s at_last =
    by-test (eqb l.count 0)
    (λ e. let z = eqb-true l.count 0 e in simp e (rw z refl))
    (λ e.
    let some : 0 < l.count = let z = eqb-false l.count 0 e in omega arith in
    let few = sized-count l n s in
    let gs : List Segment = take l.count l.segs in
    let first : gs ≡ get_or l.segs 0 no_segment ∷ drop 1 gs =
    drop-cons gs 0 no_segment (rw (listed-length l.count l.segs s.long few) some)
    ∙ ap (λ (g : Segment). g ∷ drop 1 gs) (listed_at l.count l.segs s.long few 0 some) in
    let head : head_of (get_or l.segs 0 no_segment ∷ drop 1 gs) ≡ get_or l.segs last no_segment =
    ap (λ (x : List Segment). head_of x) (sym first) ∙ listed-head l.count l.segs s.long few some
    ∙ ap (λ (j : ℕ). get_or l.segs j no_segment) (sym at_last) in
    simp e
    (sym (ap (ends_of l.start l.end) first
    ∙ ap (λ (x : Segment).
    leb (get_or l.segs 0 no_segment).min l.start && leb l.start (get_or l.segs 0 no_segment).max && eqb (x.size % 4096) 0
    && eqb x.max l.end) head)))
