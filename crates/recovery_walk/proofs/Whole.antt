-- What the walk over whole images comes to, against the walk that stops at e: the same words, the same end of e, and segments that differ
-- in what stands behind e alone. Assumes nothing.
use mathlib.Core.Path.{◌≡◌, refl, sym, ap, subst, ◌∙◌}
use mathlib.Core.Bool.{Bool, true, false, ◌&&◌, ◌||◌, and-false}
use mathlib.Core.List.{List, [], ◌∷◌, ◌++◌, append-nil, map}
use mathlib.Core.Logic.{◌⊎◌, inl, inr, ⊎_elim}
use Prim.Native.Nat.{ℕ, ◌+◌, ◌≤◌, ◌<◌}
use native.Mathlib.Omega.{arith}
use lib.ListN.{length}
use lib.Dec.{ltb, eqb}
use borrow.Author.Tests.{eqb-true, eqb-false, ne_eqb}
use Rattle.lists.specs.Choice.{pick}
use Rattle.lists.specs.Each.{Every}
use Rattle.lists.proofs.Cases.{by-test}
use Rattle.record.specs.Record.{header_at}
use Rattle.segment.specs.declared.Segment.{Segment}
use Rattle.segment.specs.declared.ImageRow.{ImageRow}
use Rattle.segment.specs.Segment.{image_of}
use Rattle.walk.specs.declared.Scan.{Scan}
use Rattle.std.specs.Prelude.{Ok}
use Rattle.walk.specs.Judging.{live_of, goes_on, more_of, gap_of, record_step, advanced_of, opened_of}
use Rattle.walk.specs.Walk.{walk_of}
use Rattle.walk.proofs.Judging.{went, follows_is, live-over, more-inside-goes, more-ended, more-stopped, going-unfound, stopped-found, opened-goes}
use Rattle.walk.proofs.Walk.{walk_end, walk_more}
use Rattle.recovery_walk.specs.Images.{walked, filled_of, behind, images}
use Rattle.recovery_walk.specs.Rows.{Pen, pen_with, row_of, moved_of, rows_in, rows_all}
use Rattle.recovery_walk.specs.Whole.{WholeImage, whole-end, whole-more, WholeImages, whole-none, whole-image}
use Rattle.recovery_walk.proofs.Images.{image-calm, images-next}
use Rattle.recovery_walk.proofs.ImagesBehind.{unread, images-behind, rows_behind}
use Rattle.recovery_walk.proofs.Rows.{rows_end, rows_next, row-dead}

module _ (s e : ℕ) (some : 0 < e) (order : s ≤ e) where
  -- ---- behind e

  -- in the image at hand no record up to e was seen
  abbrev pub Blank : Scan → Type 0
  Blank w = ((w.min ≡ 0) × (w.max ≡ 0)) ⊎ (e < w.min)

  -- what records behind e leave as it was
  pub record Past (v z : Pen) : Type 0 where
    pub words : z.words ≡ v.words
    pub start : z.scan.found_s ≡ v.scan.found_s
    pub end : z.scan.found_e ≡ v.scan.found_e
    pub from : z.scan.start_of_e ≡ v.scan.start_of_e
    pub head : z.scan.end_of_e ≡ v.scan.end_of_e
    pub last : e ≤ z.scan.last
    pub first : (v.scan.min ≡ 0 → ⊥) → z.scan.min ≡ v.scan.min
    pub most : e ≤ v.scan.max → e ≤ z.scan.max
    pub blank : Blank v.scan → Blank z.scan

  past-refl : (v : Pen) → e ≤ v.scan.last → Past v v
  past-refl v l =
      record {
        words = refl;
        start = refl;
        end = refl;
        from = refl;
        head = refl;
        last = l;
        first = λ h. refl;
        most = λ h. h;
        blank = λ h. h;
      }

  past-join : (v m z : Pen) → Past v m → Past m z → Past v z
  past-join v m z p q =
      record {
        words = q.words ∙ p.words;
        start = q.start ∙ p.start;
        end = q.end ∙ p.end;
        from = q.from ∙ p.from;
        head = q.head ∙ p.head;
        last = q.last;
        first = λ h. q.first (λ y. h (sym (p.first h) ∙ y)) ∙ p.first h;
        most = λ h. q.most (p.most h);
        blank = λ h. q.blank (p.blank h);
      }

  -- a flag that no record sets stays
  stays : (b t : Bool) → t ≡ false → b || t ≡ b
  stays true t h = refl
  stays false t h = h

  module _ (img : List ℕ) (slot : ℕ) where
    -- one record behind e
    past_one : (v : Pen) (d : Scan) → e ≤ v.scan.last → record_step img s e v.scan ≡ Ok d → Past v (moved_of slot s e v d)
    unfolding moved_of advanced_of
    past_one v d l m =
        let w : Scan = v.scan in
        let g = went (length img) s e w (header_at img w.pos) d m in
        let id : ℕ = g.id in
        let next : id ≡ w.last + 1 = (follows_is w.last id g.follows).next (λ z. omega arith) in
        let above : e < id = omega arith in
        let last : d.last ≡ id = ap (λ (x : Scan). x.last) g.to in
        let least : d.min ≡ pick (eqb w.min 0) id w.min = ap (λ (x : Scan). x.min) g.to in
        let most : d.max ≡ id = ap (λ (x : Scan). x.max) g.to in
        let none : row_of (live_of s e d.last) d.last slot d.body d.len ≡ [] =
        row-dead (live_of s e d.last) d.last slot d.body d.len (ap (live_of s e) last ∙ live-over s e id above) in
        record {
          words = ap (λ (l : List ℕ). v.words ++ l) none ∙ append-nil v.words;
          start = ap (λ (x : Scan). x.found_s) g.to ∙ stays w.found_s (eqb id s) (ne_eqb id s (λ z. omega arith));
          end = ap (λ (x : Scan). x.found_e) g.to ∙ stays w.found_e (eqb id e) (ne_eqb id e (λ z. omega arith));
          from = ap (λ (x : Scan). x.start_of_e) g.to ∙ simp (ne_eqb id e (λ z. omega arith));
          head = ap (λ (x : Scan). x.end_of_e) g.to ∙ simp (ne_eqb id e (λ z. omega arith));
          last = omega arith;
          first = λ h. least ∙ simp (ne_eqb w.min 0 h);
          most = λ h. omega arith;
          blank = λ h.
              inr
              (by-test (eqb w.min 0)
              (λ q. let at : d.min ≡ id = least ∙ ap (λ (b : Bool). pick b id w.min) q in omega arith)
              (λ q.
              let at : d.min ≡ w.min = least ∙ ap (λ (b : Bool). pick b id w.min) q in
              ⊎_elim (λ y. absurd (eqb-false w.min 0 q y.0)) (λ y. omega arith) h));
        }

    -- the records behind e to the image's end
    past-image : (v z : Pen) → e ≤ v.scan.last → WholeImage img slot s e v z → Past v z
    past-image v z l (whole-end h) = past-refl v l
    past-image v z l (whole-more {d = d} h m on) =
        let one = past_one v d l m in
        past-join v (moved_of slot s e v d) z one (past-image (moved_of slot s e v d) z one.last on)

    -- ---- up to e

    -- where the walk stopped at e, at x, and the whole walk went on to z
    pub record Stopped (x z : Pen) : Type 0 where
      pub stop : goes_on x.scan ≡ false
      pub past : Past x z
      pub max : x.scan.max ≡ e
      pub min : x.scan.min ≡ 0 → ⊥

    -- the walk that stops at e beside the whole one, from v to z
    pub record Beside (v z : Pen) : Type 0 where
      pub x : Pen
      pub walk : walk_of img s e v.scan ≡ Ok x.scan
      pub rows : rows_in img slot s e v ≡ x
      pub rest : ((goes_on x.scan ≡ true) × (x ≡ z)) ⊎ Stopped x z

    -- a record after which the walk stops is e's
    stop-here : (v : Pen) (d : Scan) → goes_on v.scan ≡ true → record_step img s e v.scan ≡ Ok d → goes_on d ≡ false
        → (d.last ≡ e) × (d.max ≡ e) × (d.min ≡ 0 → ⊥)
    unfolding advanced_of
    stop-here v d g m off =
        let w : Scan = v.scan in
        let t = went (length img) s e w (header_at img w.pos) d m in
        let id : ℕ = t.id in
        let flag : d.found_e ≡ w.found_e || eqb id e = ap (λ (x : Scan). x.found_e) t.to in
        let set : eqb id e ≡ true =
        ap (λ (b : Bool). b || eqb id e) (sym (going-unfound w g)) ∙ sym flag ∙ stopped-found d off in
        let is : id ≡ e = eqb-true id e set in
        let least : d.min ≡ pick (eqb w.min 0) id w.min = ap (λ (x : Scan). x.min) t.to in (
          ap (λ (x : Scan). x.last) t.to ∙ is,
          ap (λ (x : Scan). x.max) t.to ∙ is,
          λ z.
              by-test (eqb w.min 0)
              (λ q. let at : d.min ≡ id = least ∙ ap (λ (b : Bool). pick b id w.min) q in omega arith)
              (λ q. eqb-false w.min 0 q (sym (least ∙ ap (λ (b : Bool). pick b id w.min) q) ∙ z)),
        )

    pub beside : (v z : Pen) → goes_on v.scan ≡ true → WholeImage img slot s e v z → Beside v z
    unfolding moved_of
    beside v z g (whole-end h) =
        let over : more_of v.scan (length img) ≡ false = more-ended v.scan (length img) h in
        record {
          x = v;
          walk = walk_end (length img) (header_at img) s e v.scan over;
          rows = rows_end img slot s e v over;
          rest = inl (g, refl);
        }
    beside v z g (whole-more {d = d} h m on) =
        let more : more_of v.scan (length img) ≡ true = more-inside-goes v.scan (length img) g h in
        let step = walk_more (length img) (header_at img) s e v.scan d more m in
        let row = rows_next img slot s e v d more m in
        let next : Pen = moved_of slot s e v d in
        by-test (goes_on d)
        (λ going.
        let b = beside next z going on in
        record { x = b.x; walk = step ∙ b.walk; rows = row ∙ b.rows; rest = b.rest })
        (λ off.
        let here = stop-here v d g m off in
        let over : more_of d (length img) ≡ false = more-stopped d (length img) off in
        record {
          x = next;
          walk = step ∙ walk_end (length img) (header_at img) s e d over;
          rows = row ∙ rows_end img slot s e next over;
          rest = inr (record {
            stop = off;
            past = past-image next z (omega (arith, here.0)) on;
            max = here.1;
            min = here.2;
          });
        })

  -- ---- the images

  -- a segment in which no record up to e was seen
  abbrev pub BlankSegment : Segment → Type 0
  BlankSegment g = ((g.min ≡ 0) × (g.max ≡ 0)) ⊎ (e < g.min)

  -- how the segments of the whole walk, gs, and of the one that stops, hs, differ where e is read: in the max of e's, and in those behind it
  pub record Differ (gs hs : List Segment) : Type 0 where
    pub front : List Segment
    pub g : Segment
    pub h : Segment
    pub behind-g : List Segment
    pub behind-h : List Segment
    pub gs-are : gs ≡ front ++ (g ∷ behind-g)
    pub hs-are : hs ≡ front ++ (h ∷ behind-h)
    pub id : h.id ≡ g.id
    pub slot : h.slot ≡ g.slot
    pub size : h.size ≡ g.size
    pub min : h.min ≡ g.min
    pub max-g : e ≤ g.max
    pub max-h : h.max ≡ e
    pub blank-g : Every BlankSegment behind-g
    pub blank-h : Every BlankSegment behind-h

  module _ (area : List ℕ) (c : ℕ) where
    -- images behind e, walked whole
    pub record PastAll (v z : Pen) (gs : List Segment) : Type 0 where
      pub words : z.words ≡ v.words
      pub start : z.scan.found_s ≡ v.scan.found_s
      pub end : z.scan.found_e ≡ v.scan.found_e
      pub from : z.scan.start_of_e ≡ v.scan.start_of_e
      pub head : z.scan.end_of_e ≡ v.scan.end_of_e
      pub blank : Every BlankSegment gs

    past-images : (rs : List ImageRow) (v z : Pen) (gs : List Segment) → e ≤ v.scan.last → WholeImages area c s e rs v z gs
        → PastAll v z gs
    past-images [] v z gs l whole-none = record { words = refl; start = refl; end = refl; from = refl; head = refl; blank = tt }
    past-images (r ∷ rs) v z [] l x3 = elim x3 [ ]
    past-images (r ∷ rs) v z (g ∷ gs) l (whole-image {m = m} calm one on) =
        let from : Pen = pen_with v.words (opened_of v.scan r.size) in
        let p = past-image (image_of area c r) r.slot from m l one in
        let q = past-images rs m z gs p.last on in
        record {
          words = q.words ∙ p.words;
          start = q.start ∙ p.start;
          end = q.end ∙ p.end;
          from = q.from ∙ p.from;
          head = q.head ∙ p.head;
          blank = (p.blank (inl (refl, refl)), q.blank);
        }

    blank-unread : (rs : List ImageRow) → Every BlankSegment (map unread rs)
    blank-unread [] = tt
    blank-unread (r ∷ rs) = (inl (refl, refl), blank-unread rs)

    -- the walk that stops at e beside the whole one
    pub record BesideAll (rs : List ImageRow) (v z : Pen) (gs : List Segment) : Type 0 where
      pub d : Scan
      pub segs : List Segment
      pub walk : images area c s e rs v.scan ≡ walked d segs
      pub rows : rows_all area c s e rs v ≡ z.words
      pub start : d.found_s ≡ z.scan.found_s
      pub end : d.found_e ≡ z.scan.found_e
      pub from : d.start_of_e ≡ z.scan.start_of_e
      pub head : d.end_of_e ≡ z.scan.end_of_e
      pub differ : (gs ≡ segs) ⊎ Differ gs segs

    -- one more image in front
    differ-more : (g : Segment) (gs hs : List Segment) → (gs ≡ hs) ⊎ Differ gs hs → (g ∷ gs ≡ g ∷ hs) ⊎ Differ (g ∷ gs) (g ∷ hs)
    differ-more x gs hs (inl q) = inl (ap (λ (l : List Segment). x ∷ l) q)
    differ-more x gs hs (inr f) =
        inr (record {
          front = x ∷ f.front;
          g = f.g;
          h = f.h;
          behind-g = f.behind-g;
          behind-h = f.behind-h;
          gs-are = ap (λ (l : List Segment). x ∷ l) f.gs-are;
          hs-are = ap (λ (l : List Segment). x ∷ l) f.hs-are;
          id = f.id;
          slot = f.slot;
          size = f.size;
          min = f.min;
          max-g = f.max-g;
          max-h = f.max-h;
          blank-g = f.blank-g;
          blank-h = f.blank-h;
        })

    no_gap : (w : Scan) (n : ℕ) → w.gap && ltb 0 n ≡ false → gap_of w n ≡ false
    unfolding gap_of
    no_gap w n h = ap (λ (b : Bool). goes_on w && b) h ∙ and-false (goes_on w)

    -- WHAT WAS WALKED WHOLE IS WALKED, AND COMES TO THE SAME
    pub beside-all : (rs : List ImageRow) (v z : Pen) (gs : List Segment) → goes_on v.scan ≡ true → WholeImages area c s e rs v z gs
        → BesideAll rs v z gs
    unfolding images rows_all
    beside-all [] v z gs g whole-none =
        record { d = v.scan; segs = []; walk = refl; rows = refl; start = refl; end = refl; from = refl; head = refl; differ = inl refl }
    beside-all (r ∷ rs) v z [] g x3 = elim x3 [ ]
    beside-all (r ∷ rs) v z (seg ∷ gs) g (whole-image {m = m} calm one on) =
        let img : List ℕ = image_of area c r in
        let from : Pen = pen_with v.words (opened_of v.scan r.size) in
        let b = beside img r.slot from m (opened-goes v.scan r.size ∙ g) one in
        let image = image-calm area c s e r v.scan (no_gap v.scan r.size calm) ∙ b.walk in
        let next = images-next area c s e r v.scan rs b.x.scan image in
        ⊎_elim
        (λ y.
        let f = beside-all rs m z gs (subst (λ (p : Pen). goes_on p.scan ≡ true) y.1 y.0) on in
        let at : b.x.scan ≡ m.scan = ap (λ (p : Pen). p.scan) y.1 in
        record {
          d = f.d;
          segs = filled_of r m.scan ∷ f.segs;
          walk = next ∙ ap (λ (x : Scan). behind (filled_of r x ∷ []) (images area c s e rs x)) at
              ∙ ap (behind (filled_of r m.scan ∷ [])) f.walk;
          rows = ap (rows_all area c s e rs) (b.rows ∙ y.1) ∙ f.rows;
          start = f.start;
          end = f.end;
          from = f.from;
          head = f.head;
          differ = differ-more (filled_of r m.scan) gs f.segs f.differ;
        })
        (λ y.
        let x : Pen = b.x in
        let o = images-behind area c s e rs x.scan y.stop in
        let p = past-images rs m z gs y.past.last on in
        record {
          d = o.state;
          segs = filled_of r x.scan ∷ map unread rs;
          walk = next ∙ ap (behind (filled_of r x.scan ∷ [])) o.is;
          rows = ap (rows_all area c s e rs) b.rows ∙ rows_behind area c s e rs x.words x.scan y.stop
              ∙ sym (p.words ∙ y.past.words);
          start = o.start ∙ sym (p.start ∙ y.past.start);
          end = o.end ∙ sym (p.end ∙ y.past.end);
          from = o.from ∙ sym (p.from ∙ y.past.from);
          head = o.head ∙ sym (p.head ∙ y.past.head);
          differ = inr (record {
            front = [];
            g = filled_of r m.scan;
            h = filled_of r x.scan;
            behind-g = gs;
            behind-h = map unread rs;
            gs-are = refl;
            hs-are = refl;
            id = refl;
            slot = refl;
            size = refl;
            min = sym (y.past.first y.min);
            max-g = y.past.most (omega (arith, y.max));
            max-h = y.max;
            blank-g = p.blank;
            blank-h = blank-unread rs;
          });
        })
        b.rest
