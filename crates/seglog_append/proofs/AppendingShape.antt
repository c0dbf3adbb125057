-- Well shaped in, well shaped out: the log that append answers, whatever the outcome. Assumes nothing.
use Rattle.std.proofs.Common.{◌≡◌, ℕ, suc, ◌+◌, ◌-◌, ◌*◌, ◌%◌, ◌^◌, ◌<◌, ◌≤◌, true, false, eqb, List, [], ◌∷◌, ◌++◌, length, get_or, take, sym, refl, ap, ◌∙◌, arith, length-append, ne_eqb}
use Rattle.lists.specs.Choice.{pick}
use Rattle.lists.proofs.Cases.{by-test}
use Rattle.lists.proofs.Splice.{splice-length}
use Rattle.lists.specs.Distinct.{fresh}
use Rattle.lists.proofs.Distinct.{distinct_more, snoc-distinct, pigeons}
use Rattle.lists.specs.Each.{all}
use Rattle.page.proofs.Page.{multiple-add}
use Rattle.record.specs.Record.{record_room, record_bytes}
use Rattle.record.proofs.Record.{room-ge, room-pages}
use Rattle.segment.specs.declared.Segment.{Segment}
use Rattle.segment.specs.Segment.{no_segment, slot_number}
use Rattle.seglog.specs.declared.Log.{Log}
use Rattle.seglog.specs.View.{View, log_of, view_of, head_of, front_of}
use Rattle.seglog.specs.Chain.{chain_of, slots_apart}
use Rattle.seglog.specs.Fit.{fitting_of}
use Rattle.seglog.proofs.View.{ends-with, head-snoc}
use Rattle.seglog.proofs.Fit.{Fitting, fitting-is, chain-below, view-shaped, view-fits}
use Rattle.seglog.proofs.Chain.{Goes, ChainLast, chain_snoc, snoc-chain, EndsGood, ends-are, are-ends}
use Rattle.seglog_append.specs.Deciding.{lowest_free, opens_of, next_id, fresh_of, target_of}
use Rattle.seglog_append.specs.Appending.{grown_of, start_after, with_record, record_into, append_log, append_answer, append_area}
use Rattle.seglog_append.specs.Promised.{AppendShaped}
use Rattle.seglog_append.proofs.DecidingFree.{free-most, free-good}
use Rattle.seglog_append.proofs.Deciding.{Accepted, opens-no}
use Rattle.seglog_append.proofs.Appending.{append-outcomes}

-- the first of a list with one more at the end
first-snoc : (hs : List Segment) (g : Segment) → 0 < length hs → get_or (hs ++ (g ∷ [])) 0 no_segment ≡ get_or hs 0 no_segment
first-snoc [] g h = absurd (omega arith)
first-snoc (x ∷ hs) g h = refl

-- the segment with the record, behind those before it
record Grown (k c s e : ℕ) (hs : List Segment) (g : Segment) : Type 0 where
  chain : ChainLast k c hs g
  apart : slots_apart hs ≡ true
  fresh : fresh slot_number g.slot hs ≡ true
  from : (get_or (hs ++ (g ∷ [])) 0 no_segment).min ≤ s
  to : s ≤ (get_or (hs ++ (g ∷ [])) 0 no_segment).max
  pages : g.size % 4096 ≡ 0
  newest : g.max ≡ e

module _ (l : Log) (area p : List ℕ) (long : length l.segs ≡ 64) (small-id : (head_of (take l.count l.segs)).id < 2 ^ 32)
    (ok : Accepted l (length area) (length p)) where
  abbrev a : View
  a = view_of l

  abbrev gs : List Segment
  gs = take l.count l.segs

  abbrev n : ℕ
  n = record_room (length p)

  fit : Fitting l (length area)
  fit = fitting-is l (length area) long ok.fits

  some-room : 1 ≤ n
  some-room = omega (arith, room-ge (length p))

  -- in a new segment
  grown-new : opens_of a ≡ true
      → Grown l.k l.c (start_after a) (l.end + 1) gs (grown_of (fresh_of a) n (l.end + 1))
  unfolding next_id
  grown-new o =
      let g : Segment = grown_of (fresh_of a) n (l.end + 1) in
      let room : n ≤ l.c - 0 = rw o at ok.allowed.room in
      let free : lowest_free a ≡ l.k → ⊥ = ok.allowed.slot-free o in
      let slot : lowest_free a < l.k = omega (arith, free-most gs l.k 0) in
      let id-good : next_id gs ≡ 0 → ⊥ = ok.allowed.id-good o in
      let some_id : 1 ≤ next_id gs = omega arith in
      let ends : 0 < length gs → EndsGood l.start l.end gs = λ h. ends-are l.start l.end gs h fit.ends in
      let goes : Goes gs g = λ h.
      let is : next_id gs ≡ ((head_of gs).id + 1) % 2 ^ 32 = simp (ne_eqb (length gs) 0 (λ z. omega arith)) in
      record { id = is ∙ omega (arith, small-id, is, some_id); min = omega (arith, (ends h).newest) } in
      let first : ((get_or (gs ++ (g ∷ [])) 0 no_segment).min ≤ start_after a) × (start_after a ≤ (get_or (gs ++ (g ∷ [])) 0 no_segment).max) =
      starts gs g (l.end + 1) l.start refl refl (λ h. ((ends h).from, (ends h).to)) in
      record {
        chain = record {
          rest = fit.chain;
          good = record {
            some_id = some_id;
            slot = slot;
            some_size = omega (arith, some-room);
            size = omega arith;
            some-min = omega arith;
            order = omega arith;
            newest = record { pages = refl; header = omega (arith, room-ge (length p)) };
          };
          goes = goes;
        };
        apart = fit.apart;
        fresh = free-good gs l.k 0 (omega arith);
        from = first.0;
        to = first.1;
        pages = multiple-add 4096 0 n refl (room-pages (length p));
        newest = refl;
      }
    where
      starts : (gs : List Segment) (g : Segment) (e s : ℕ) → g.min ≡ e → g.max ≡ e
          → (0 < length gs → ((get_or gs 0 no_segment).min ≤ s) × (s ≤ (get_or gs 0 no_segment).max))
          → ((get_or (gs ++ (g ∷ [])) 0 no_segment).min ≤ pick (eqb (length gs) 0) e s) × (pick (eqb (length gs) 0) e s ≤ (get_or (gs ++
          (g ∷ [])) 0 no_segment).max)
      starts [] g e s p q h = (omega arith, omega arith)
      starts (x ∷ gs) g e s p q h =
          simp (ne_eqb (suc (length gs)) 0 (λ z. omega arith)) (h (omega arith))

  -- behind the head
  grown-head : opens_of a ≡ false
      → Grown l.k l.c (start_after a) (l.end + 1) (front_of gs) (grown_of (head_of gs) n (l.end + 1))
  grown-head o =
      let some = opens-no a o in
      let hs : List Segment = front_of gs in
      let g : Segment = head_of gs in
      let is : gs ≡ hs ++ (g ∷ []) = ends-with gs some in
      let last = snoc-chain l.k l.c hs g (ap (chain_of l.k l.c) (sym is) ∙ fit.chain) in
      let slots = snoc-distinct slot_number hs g (ap slots_apart (sym is) ∙ fit.apart) in
      let ends = ends-are l.start l.end gs some fit.ends in
      let room : n ≤ l.c - g.size = rw o at ok.allowed.room in
      let start : start_after a ≡ l.start = simp (ne_eqb (length gs) 0 (λ z. omega arith)) in
      let first = starts hs g (grown_of g n (l.end + 1)) l.start refl (omega (arith, ends.newest))
      (ap (λ (x : List Segment). (get_or x 0 no_segment).min) (sym is)) (ap (λ (x : List Segment). (get_or x 0 no_segment).max) (sym is))
      ends.from ends.to in
      record {
        chain = record {
          rest = last.rest;
          good = record {
            some_id = last.good.some_id;
            slot = last.good.slot;
            some_size = omega (arith, some-room);
            size = omega (arith, last.good.size);
            some-min = last.good.some-min;
            order = omega (arith, last.good.order, ends.newest);
            newest = record { pages = ends.pages; header = omega (arith, room-ge (length p)) };
          };
          goes = λ h. record { id = (last.goes h).id; min = (last.goes h).min };
        };
        apart = slots.0;
        fresh = slots.1;
        from = omega (arith, first.0, start);
        to = omega (arith, first.1, start);
        pages = multiple-add 4096 g.size n ends.pages (room-pages (length p));
        newest = refl;
      }
    where
      starts : (hs : List Segment) (g x : Segment) (s : ℕ) → x.min ≡ g.min → g.max ≤ x.max
          → (get_or (hs ++ (g ∷ [])) 0 no_segment).min ≡ (get_or gs 0 no_segment).min → (get_or (hs ++
          (g ∷ [])) 0 no_segment).max ≡ (get_or gs 0 no_segment).max
          → (get_or gs 0 no_segment).min ≤ s → s ≤ (get_or gs 0 no_segment).max
          → ((get_or (hs ++ (x ∷ [])) 0 no_segment).min ≤ s) × (s ≤ (get_or (hs ++ (x ∷ [])) 0 no_segment).max)
      starts [] g x s p q e f from to = (omega arith, omega arith)
      starts (y ∷ hs) g x s p q e f from to = (omega arith, omega arith)

  -- a grown log is well shaped
  grown-fits : (hs : List Segment) (g : Segment) (s : ℕ) → Grown l.k l.c s (l.end + 1) hs g → (b : View)
      → b ≡ record { k = l.k; c = l.c; m = l.m; start = s; end = l.end + 1; segs = hs ++ (g ∷ []) } → (after : ℕ)
      → after ≡ l.k * l.c → fitting_of (log_of b) after ≡ true
  grown-fits hs g s w b e after all =
      let v : View = record { k = l.k; c = l.c; m = l.m; start = s; end = l.end + 1; segs = hs ++ (g ∷ []) } in
      let chain = chain_snoc l.k l.c hs g w.chain in
      let apart = distinct_more slot_number hs g w.apart w.fresh in
      let few = pigeons slot_number l.k (hs ++ (g ∷ [])) apart (chain-below l.k l.c (hs ++ (g ∷ [])) chain) in
      let head = head-snoc hs g in
      let ends = are-ends s (l.end + 1) (hs ++ (g ∷ [])) (omega (arith, length-append hs (g ∷ [])))
      (record {
        from = w.from;
        to = w.to;
        pages = rw head w.pages;
        newest = rw head w.newest;
      }) in
      rw e (view-fits v fit.sizes few after (view-shaped v fit.sizes few chain apart ends) all)

  accepted-fits : fitting_of (log_of (with_record a (length p))) (length (record_into a p area)) ≡ true
  accepted-fits =
      let all : length (record_into a p area) ≡ l.k * l.c =
      splice-length ((target_of a).slot * l.c + (target_of a).size) (record_bytes (l.end + 1) p) area ∙ fit.area in
      by-test (opens_of a)
      (λ o. grown-fits gs (grown_of (fresh_of a) n (l.end + 1)) (start_after a) (grown-new o) (with_record a (length p)) (simp o) _ all)
      (λ o. grown-fits (front_of gs) (grown_of (head_of gs) n (l.end + 1)) (start_after a) (grown-head o) (with_record a (length p))
      (simp o) _ all)

-- well shaped in, well shaped out, whatever the outcome; the head's id is a u32
pub append-shaped : AppendShaped
append-shaped l area p long small-id fits =
    append-outcomes l area p (λ o. fitting_of (append_answer l o).log (length (append_area area o)) ≡ true) (λ n h. fits)
    (λ ok. accepted-fits l area p long small-id ok)

-- an accepted append's log is well shaped
pub append-accepted : (l : Log) (area p : List ℕ) → length l.segs ≡ 64 → (head_of (take l.count l.segs)).id < 2 ^ 32
    → (append_answer l (append_log l area p)).refusal ≡ 0
    → fitting_of (append_answer l (append_log l area p)).log (length (append_area area (append_log l area p))) ≡ true
append-accepted l area p long small-id =
    append-outcomes l area p
    (λ o. (append_answer l o).refusal ≡ 0 → fitting_of (append_answer l o).log (length (append_area area o)) ≡ true)
    (λ n h z. absurd (omega arith)) (λ ok z. accepted-fits l area p long small-id ok)
