-- What an accepted walk over any images tells: the records of each image go on from those before, whatever bytes the images hold; the
-- images whose records are read come first, and each gives a segment; where s and e are found; where the newest records and e stand.
-- Assumes nothing.
use mathlib.Core.Path.{◌≡◌, refl, sym, ap, subst, ◌∙◌}
use mathlib.Core.Bool.{Bool, true, false, ◌&&◌, ◌||◌}
use mathlib.Core.List.{List, [], ◌∷◌, ◌++◌}
use mathlib.Core.Logic.{◌⊎◌, inl, inr, ⊎_elim}
use Prim.Native.Nat.{ℕ, ◌+◌, ◌*◌, ◌%◌, ◌≤◌, ◌<◌}
use native.Mathlib.Nat.{mul-le-mul_right, suc-mul}
use native.Mathlib.Omega.{arith}
use lib.ListN.{length}
use lib.Dec.{ltb, leb, eqb, lit<}
use borrow.Author.Tests.{eqb-true, eqb-false, eq-eqb, ne_eqb, ltb-true, ltb-false, leb-true, le-leb}
use Rattle.lists.specs.Choice.{pick}
use Rattle.lists.proofs.Bools.{and_both, both_ways}
use Rattle.lists.proofs.Cases.{by-test}
use Rattle.lists.proofs.Splice.{part_length}
use Rattle.page.specs.Page.{padded_end}
use Rattle.page.proofs.Page.{pad-ge, pad-least, pad-multiple}
use Rattle.record.specs.Record.{header_at}
use Rattle.segment.specs.declared.Segment.{Segment}
use Rattle.segment.specs.declared.ImageRow.{ImageRow}
use Rattle.segment.specs.Segment.{image_of}
use Rattle.segment.specs.Chain.{Chain, NewestFits, InSlot}
use Rattle.segment.proofs.Chain.{chain-le}
use Rattle.walk.specs.declared.Scan.{Scan}
use Rattle.std.specs.Prelude.{Result, Ok}
use Rattle.walk.specs.declared.Fault.{Fault}
use Rattle.walk.specs.Judging.{live_of, cut_of, goes_on, more_of, gap_of, record_step, advanced_of, opened_of}
use Rattle.walk.specs.Walk.{walk_of}
use Rattle.walk.proofs.Judging.{Follows, follows_is, went, more-over, more-ended, more-stopped, opened-goes, gap-none}
use Rattle.walk.proofs.Walk.{walk_end, walk-keeps}
use Rattle.recovery_walk.specs.Images.{walked, images, filled_of}
use Rattle.recovery_walk.proofs.Images.{walked_same, first-walked}
use Rattle.image_rows.specs.ImageRows.{rows_inside}
use Rattle.image_rows.proofs.ImageRows.{IdsFrom}
use Rattle.lists.specs.Each.{all}

-- ---- the records of one image

-- a record from `at` to its padded end x, inside a slot of c bytes
pub record HeadGood (c at x : ℕ) : Type 0 where
  pub fits : x ≤ c
  pub whole : x % 4096 ≡ 0
  pub newest : NewestFits at x

-- where the record e stands at the state, in a slot of c bytes
abbrev pub EGood : ℕ → Scan → Type 0
EGood c w = HeadGood c w.start_of_e w.end_of_e

-- what the records from the state w, on a whole page, to the state d tell of an image of `size` bytes; `first` is the id of the first of them
pub record Ran (size c s e : ℕ) (w d : Scan) : Type 0 where
  pub first : ℕ
  pub follows : Follows w.last first
  pub upto : first ≤ d.last
  pub min : d.min ≡ pick (eqb w.min 0) first w.min
  pub max : d.max ≡ d.last
  pub pages : d.pos % 4096 ≡ 0
  pub newest : NewestFits d.newest_at size
  pub start : w.found_s ≡ false → d.found_s ≡ true → (first ≤ s) × (s ≤ d.last)
  pub end : w.found_e ≡ false → d.found_e ≡ true → (first ≤ e) × (e ≤ d.last)
  pub head : (w.found_e ≡ true → EGood c w) → d.found_e ≡ true → EGood c d

-- the record e is live, so its payload ends inside the image, and its padding inside the slot
head-good : (c size s e at end : ℕ) → size ≤ c → c % 4096 ≡ 0 → s ≤ e → at % 4096 ≡ 0 → at + 12 ≤ end → cut_of size s e e end ≡ false
    → HeadGood c at (padded_end 4096 end)
unfolding cut_of live_of
head-good c size s e at end in-slot whole order page some cut =
    let short : ltb size end ≡ false = simp (le-leb s e order, le-leb e e (omega arith)) at cut in
    record {
      fits = pad-least 4096 end (lit< tt) c whole (omega (arith, ltb-false size end short));
      whole = pad-multiple 4096 end (lit< tt);
      newest = record { pages = page; header = omega (arith, pad-ge 4096 end (lit< tt)) };
    }

-- a flag that a record set is that of the record
set_here : (was now : Bool) (id x : ℕ) → now ≡ (was || eqb id x) → was ≡ false → now ≡ true → id ≡ x
set_here true now id x e f t = both_ways true refl f
set_here false now id x e f t = eqb-true id x (sym e ∙ t)

-- a flag that no record set was set before
set_before : (was now b : Bool) → now ≡ (was || b) → b ≡ false → now ≡ true → was ≡ true
set_before true now b e f t = refl
set_before false now b e f t = both_ways b (sym e ∙ t) f

-- an id that some records set a flag at, or those behind them, lies among all of them
found_among : {id low mid next high : ℕ} (here : Bool) → (here ≡ true → (low ≤ id) × (id ≤ mid))
    → (here ≡ false → (next ≤ id) × (id ≤ high)) → low ≤ next → mid ≤ high → (low ≤ id) × (id ≤ high)
found_among here first later up far =
    by-test here (λ b. let h = first b in (h.0, omega (arith, h.1))) (λ b. let h = later b in (omega (arith, h.0), h.1))

module _ (img : List ℕ) (c s e : ℕ) (in-slot : length img ≤ c) (whole : c % 4096 ≡ 0) (order : s ≤ e) where
  -- one record
  ran-one : (w d : Scan) → w.pos % 4096 ≡ 0 → record_step img s e w ≡ Ok d → Ran (length img) c s e w d
  unfolding advanced_of
  ran-one w d page m =
      let g = went (length img) s e w (header_at img w.pos) d m in
      let id = g.id in
      let end : ℕ = w.pos + 12 + g.len in
      let last : d.last ≡ id = ap (λ (x : Scan). x.last) g.to in
      record {
        first = id;
        follows = follows_is w.last id g.follows;
        upto = omega arith;
        min = ap (λ (x : Scan). x.min) g.to;
        max = ap (λ (x : Scan). x.max) g.to ∙ sym last;
        pages = ap (λ (x : Scan). x.pos % 4096) g.to ∙ pad-multiple 4096 end (lit< tt);
        newest = subst (λ (x : ℕ). NewestFits x (length img)) (sym (ap (λ (x : Scan). x.newest_at) g.to))
            (record { pages = page; header = g.inside.room });
        start = λ f t.
            let here = set_here w.found_s d.found_s id s (ap (λ (x : Scan). x.found_s) g.to) f t in
            (omega arith, omega arith);
        end = λ f t.
            let here = set_here w.found_e d.found_e id e (ap (λ (x : Scan). x.found_e) g.to) f t in
            (omega arith, omega arith);
        head = λ was t.
            subst (EGood c) (sym g.to)
            (by-test (eqb id e)
            (λ q.
            let here : id ≡ e = eqb-true id e q in
            let cut : cut_of (length img) s e e end ≡ false = subst (λ (x : ℕ). cut_of (length img) s e x end ≡ false) here g.whole in
            rw q (head-good c (length img) s e w.pos end in-slot whole order page (omega arith) cut))
            (λ q.
            rw q (was (set_before w.found_e d.found_e (eqb id e) (ap (λ (x : Scan). x.found_e) g.to) q t))));
      }

  -- some records, and some more
  ran-join : (w d z : Scan) → Ran (length img) c s e w d → Ran (length img) c s e d z → Ran (length img) c s e w z
  ran-join w d z p q =
      let on : q.first ≡ d.last + 1 = q.follows.next (λ h. omega (arith, p.follows.some, p.upto)) in
      let some = p.follows.some in
      let up = p.upto in
      let up' = q.upto in
      record {
        first = p.first;
        follows = p.follows;
        upto = omega arith;
        min = q.min
            ∙ ap (λ (b : Bool). pick b q.first d.min)
            (ne_eqb d.min 0 (λ h. kept-min (eqb w.min 0) refl (sym p.min ∙ h) p.follows.some)) ∙ p.min;
        max = q.max;
        pages = q.pages;
        newest = q.newest;
        start = λ f t. found_among d.found_s (p.start f) (λ b. q.start b t) (omega arith) (omega arith);
        end = λ f t. found_among d.found_e (p.end f) (λ b. q.end b t) (omega arith) (omega arith);
        head = λ was. q.head (p.head was);
      }
    where
      kept-min : (b : Bool) → eqb w.min 0 ≡ b → pick b p.first w.min ≡ 0 → 0 < p.first → ⊥
      kept-min true g h l = omega arith
      kept-min false g h l = eqb-false w.min 0 g h

  -- no record, at the image's end; or some
  abbrev Walks : Scan → Scan → Type 0
  Walks w d = w.pos % 4096 ≡ 0 → ((more_of w (length img) ≡ false) × (w ≡ d)) ⊎ Ran (length img) c s e w d

  walk-ran : (w d : Scan) → walk_of img s e w ≡ Ok d → Walks w d
  walk-ran =
      walk-keeps (length img) (header_at img) s e Walks
      (λ w d z h m on page.
      let one = ran-one w d page m in
      inr (⊎_elim (λ o. subst (Ran (length img) c s e w) o.1 one) (λ o. ran-join w d z one o) (on one.pages)))
      (λ w h page. inl (h, refl))

-- ---- the images

-- segments that hold no record
abbrev pub Empties : List Segment → Type 0
Empties [] = Unit {0}
Empties (g ∷ gs) = (g.max ≡ 0) × Empties gs

-- what an accepted walk from the state w to the state d tells of its segments
pub record Tells (k c s e i : ℕ) (w d : Scan) (gs : List Segment) : Type 0 where
  pub b : ℕ
  pub j : ℕ
  pub ys : List Segment
  pub zs : List Segment
  pub follows : Follows w.last b
  pub split : gs ≡ ys ++ zs
  pub chain : Chain (InSlot k c) i b ys j (d.last + 1)
  pub empty : Empties zs
  pub start : w.found_s ≡ false → d.found_s ≡ true → (b ≤ s) × (s ≤ d.last)
  pub end : w.found_e ≡ false → d.found_e ≡ true → (b ≤ e) × (e ≤ d.last)
  pub head : (w.found_e ≡ true → EGood c w) → d.found_e ≡ true → EGood c d

-- an id that follows the last one
after_last : (last : ℕ) → Follows last (last + 1)
after_last last = record { some = omega arith; next = λ h. refl }

module _ (area : List ℕ) (k c s e : ℕ) (all : length area ≡ k * c) (whole : c % 4096 ≡ 0) (order : s ≤ e) where
  -- a row's image has the row's size
  image-long : (r : ImageRow) → r.slot < k → r.size ≤ c → length (image_of area c r) ≡ r.size
  image-long r h g =
      part_length (r.slot * c) r.size area (omega (arith, mul-le-mul_right c h, suc-mul r.slot c))

  -- no record is read any more: the image opened last has size 0, or e's record is read
  abbrev Still : Scan → Type 0
  Still w = (w.gap ≡ true) ⊎ (goes_on w ≡ false)

  -- then the states w and d have this in common
  pub record Quiet (w d : Scan) (gs : List Segment) : Type 0 where
    pub empty : Empties gs
    pub last : d.last ≡ w.last
    pub start : d.found_s ≡ w.found_s
    pub end : d.found_e ≡ w.found_e
    pub from : d.start_of_e ≡ w.start_of_e
    pub head : d.end_of_e ≡ w.end_of_e

  -- an image without a record to read
  no_record : (r : ImageRow) (w d : Scan) → more_of (opened_of w r.size) (length (image_of area c r)) ≡ false
      → walk_of (image_of area c r) s e (opened_of w r.size) ≡ Ok d → opened_of w r.size ≡ d
  no_record r w d over q =
      let img : List ℕ = image_of area c r in
      let same : ◌≡◌ {A = Result Scan Fault} (Ok (opened_of w r.size)) (Ok d) = sym (walk_end (length img) (header_at img) s e (opened_of w r.size) over) ∙ q in
      (cc)

  -- one of size 0
  none-of-size : (r : ImageRow) (w : Scan) → r.slot < k → r.size ≤ c → r.size ≡ 0
      → more_of (opened_of w r.size) (length (image_of area c r)) ≡ false
  none-of-size r w h g z = more-ended (opened_of w r.size) (length (image_of area c r)) (omega (arith, image-long r h g))

  -- one behind e's record
  none-behind : (r : ImageRow) (w : Scan) → goes_on w ≡ false → more_of (opened_of w r.size) (length (image_of area c r)) ≡ false
  none-behind r w h = more-stopped (opened_of w r.size) (length (image_of area c r)) (opened-goes w r.size ∙ h)

  -- no record is read in the next image either
  still : (r : ImageRow) (w : Scan) → r.slot < k → r.size ≤ c → Still w → gap_of w r.size ≡ false
      → (more_of (opened_of w r.size) (length (image_of area c r)) ≡ false) × Still (opened_of w r.size)
  still r w h g was calm =
      by-test (goes_on w)
      (λ on.
      let gap : w.gap ≡ true = ⊎_elim (λ y. y) (λ y. both_ways (goes_on w) on y) was in
      let none : r.size ≡ 0 = gap-none w r.size on gap calm in
      (none-of-size r w h g none, inl (eq-eqb r.size 0 none)))
      (λ off. (none-behind r w off, inr (opened-goes w r.size ∙ off)))

  quiet : (rs : List ImageRow) (w d : Scan) (gs : List Segment) → rows_inside k c rs ≡ true → Still w
      → images area c s e rs w ≡ walked d gs → Quiet w d gs
  unfolding images all
  quiet [] w d gs h was q =
      let same = walked_same q in
      record {
        empty = subst Empties same.1 tt;
        last = sym (ap (λ (x : Scan). x.last) same.0);
        start = sym (ap (λ (x : Scan). x.found_s) same.0);
        end = sym (ap (λ (x : Scan). x.found_e) same.0);
        from = sym (ap (λ (x : Scan). x.start_of_e) same.0);
        head = sym (ap (λ (x : Scan). x.end_of_e) same.0);
      }
  quiet (r ∷ rs) w d gs h was q =
      let f = first-walked area c s e r w rs d gs q in
      let t = and_both (ltb r.slot k && leb r.size c) (rows_inside k c rs) h in
      let u = and_both (ltb r.slot k) (leb r.size c) t.0 in
      let on = still r w (ltb-true r.slot k u.0) (leb-true r.size c u.1) was f.calm in
      let same = no_record r w f.state on.0 f.ended in
      let more = quiet rs f.state d f.later t.1 (subst Still same on.1) f.on in
      record {
        empty = subst Empties (sym f.segments) (sym (ap (λ (x : Scan). x.max) same), more.empty);
        last = more.last ∙ sym (ap (λ (x : Scan). x.last) same);
        start = more.start ∙ sym (ap (λ (x : Scan). x.found_s) same);
        end = more.end ∙ sym (ap (λ (x : Scan). x.found_e) same);
        from = more.from ∙ sym (ap (λ (x : Scan). x.start_of_e) same);
        head = more.head ∙ sym (ap (λ (x : Scan). x.end_of_e) same);
      }

  -- a walk that is accepted, from any state: first the images whose records are read, then those of size 0 or behind e
  pub images-tell : (rs : List ImageRow) (i : ℕ) (w d : Scan) (gs : List Segment) → rows_inside k c rs ≡ true → IdsFrom i rs
      → images area c s e rs w ≡ walked d gs → Tells k c s e i w d gs
  unfolding images all
  images-tell [] i w d gs h ids q =
      let same = (walked_same q).0 in
      record {
        b = w.last + 1;
        j = i;
        ys = [];
        zs = [];
        follows = after_last w.last;
        split = sym (walked_same q).1;
        chain = (refl, ap (λ (x : Scan). x.last + 1) same);
        empty = tt;
        start = λ f t. both_ways w.found_s (ap (λ (x : Scan). x.found_s) same ∙ t) f;
        end = λ f t. both_ways w.found_e (ap (λ (x : Scan). x.found_e) same ∙ t) f;
        head = λ was t. subst (EGood c) same (was (ap (λ (x : Scan). x.found_e) same ∙ t));
      }
  images-tell (r ∷ rs) i w d gs h ids q =
      let f = first-walked area c s e r w rs d gs q in
      let t = and_both (ltb r.slot k && leb r.size c) (rows_inside k c rs) h in
      let u = and_both (ltb r.slot k) (leb r.size c) t.0 in
      let slot : r.slot < k = ltb-true r.slot k u.0 in
      let size : r.size ≤ c = leb-true r.size c u.1 in
      let unread : (more_of (opened_of w r.size) (length (image_of area c r)) ≡ false) × Still (opened_of w r.size)
      → Tells k c s e i w d gs =
      λ no.
      let same = no_record r w f.state no.0 f.ended in
      empty-first r w d gs f.state f.later same
      (quiet rs f.state d f.later t.1 (subst Still same no.1) f.on) f.segments in
      by-test (goes_on w)
      (λ on.
      by-test (eqb r.size 0)
      (λ z. unread (none-of-size r w slot size (eqb-true r.size 0 z), inl z))
      (λ z.
      filled-first r w d gs f.state f.later slot size (eqb-false r.size 0 z) on ids.0 f.ended
      (images-tell rs (i + 1) f.state d f.later t.1 ids.1 f.on) f.segments))
      (λ off. unread (none-behind r w off, inr (opened-goes w r.size ∙ off)))
    where
      empty-first : (r : ImageRow) (w d : Scan) (gs : List Segment) (m : Scan) (later : List Segment) → opened_of w r.size ≡ m
          → Quiet m d later → gs ≡ filled_of r m ∷ later → Tells k c s e i w d gs
      empty-first r w d gs m later same o segs =
          record {
            b = w.last + 1;
            j = i;
            ys = [];
            zs = gs;
            follows = after_last w.last;
            split = refl;
            chain = (refl, sym (ap (λ (x : ℕ). x + 1) (o.last ∙ sym (ap (λ (x : Scan). x.last) same))));
            empty = subst Empties (sym segs) (sym (ap (λ (x : Scan). x.max) same), o.empty);
            start = λ f t. both_ways w.found_s (ap (λ (x : Scan). x.found_s) same ∙ sym o.start ∙ t) f;
            end = λ f t. both_ways w.found_e (ap (λ (x : Scan). x.found_e) same ∙ sym o.end ∙ t) f;
            head = λ was t.
                subst (λ (x : ℕ). HeadGood c x d.end_of_e) (ap (λ (x : Scan). x.start_of_e) same ∙ sym o.from)
                (subst (HeadGood c w.start_of_e) (ap (λ (x : Scan). x.end_of_e) same ∙ sym o.head)
                (was (ap (λ (x : Scan). x.found_e) same ∙ sym o.end ∙ t)));
          }

      filled-first : (r : ImageRow) (w d : Scan) (gs : List Segment) (m : Scan) (later : List Segment) → r.slot < k → r.size ≤ c
          → (r.size ≡ 0 → ⊥) → goes_on w ≡ true → r.id ≡ i → walk_of (image_of area c r) s e (opened_of w r.size) ≡ Ok m
          → Tells k c s e (i + 1) m d later → gs ≡ filled_of r m ∷ later → Tells k c s e i w d gs
      filled-first r w d gs m later slot size some on id ended o segs =
          let long = image-long r slot size in
          let from : Scan = opened_of w r.size in
          let ran : Ran (length (image_of area c r)) c s e from m =
          ⊎_elim (λ z. absurd (omega (arith, more-over from (length (image_of area c r)) (opened-goes w r.size ∙ on) z.0))) (λ z. z)
          (walk-ran (image_of area c r) c s e (omega arith) whole order from m ended refl) in
          let up = ran.upto in
          let from-b : o.b ≡ m.last + 1 = o.follows.next (λ z. omega (arith, ran.follows.some)) in
          let next : m.max + 1 ≡ o.b = ap (λ (x : ℕ). x + 1) ran.max ∙ sym from-b in
          let far : m.last + 1 ≤ d.last + 1 =
          omega (arith, from-b, chain-le (InSlot k c) o.ys (i + 1) o.b o.j (d.last + 1) o.chain) in
          record {
            b = ran.first;
            j = o.j;
            ys = filled_of r m ∷ o.ys;
            zs = o.zs;
            follows = ran.follows;
            split = segs ∙ ap (λ (x : List Segment). filled_of r m ∷ x) o.split;
            chain = (
              record {
                id = id;
                min = ran.min;
                order = omega (arith, ran.max);
                good = record {
                  slot = slot;
                  some = omega arith;
                  size = size;
                  newest = subst (NewestFits m.newest_at) long ran.newest;
                };
              },
              subst (λ (x : ℕ). Chain (InSlot k c) (i + 1) x o.ys o.j (d.last + 1)) (sym next) o.chain,
            );
            empty = o.empty;
            start = λ f t. found_among m.found_s (ran.start f) (λ z. o.start z t) (omega arith) (omega arith);
            end = λ f t. found_among m.found_e (ran.end f) (λ z. o.end z t) (omega arith) (omega arith);
            head = λ was. o.head (ran.head was);
          }
