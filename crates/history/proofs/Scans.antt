-- The walk and the rows' pass over the images of a log of which the invariant holds: both stop at e, and what is kept is the same as if
-- they had not.
-- Assumes nothing.
use mathlib.Core.Bool.{true, false}
use mathlib.Core.List.{List, append-nil, [], ◌∷◌, ◌++◌, append_assoc, map}
use mathlib.Core.Logic.{◌⊎◌, ⊎_elim}
use mathlib.Core.Path.{◌≡◌, refl, sym, ap, ◌∙◌, subst}
use Prim.Native.Nat.{ℕ, min, ◌+◌, ◌-◌, suc, ◌≤◌, ◌<◌}
use native.Mathlib.Omega.{arith}
use lib.Dec.{leb}
use lib.ListN.{length}
use borrow.Author.Tests.{le-ltb, ne_eqb, le-leb, lt-leb}
use Rattle.lists.specs.Choice.{pick}
use Rattle.lists.proofs.Cases.{by_order}
use Rattle.segment.specs.declared.Segment.{Segment}
use Rattle.segment.specs.Segment.{image_of}
use Rattle.segment.specs.Chain.{Chain}
use Rattle.walk.specs.declared.Scan.{Scan}
use Rattle.std.specs.Prelude.{Result, Ok}
use Rattle.walk.specs.declared.Fault.{Fault}
use Rattle.walk.specs.Walk.{walk_of}
use Rattle.walk.specs.Judging.{max_image, follows_of, start_of, opened_of}
use Rattle.walk.specs.Records.{records_from, over, Plain}
use Rattle.walk.proofs.Judging.{gap-calm, opened-goes}
use Rattle.walk.proofs.Records.{over-stopped}
use Rattle.recovery_walk.specs.Images.{image_walk, images, walked, filled_of, after, behind}
use Rattle.recovery_walk.specs.Rows.{Pen, pen_with, rows_in, rows_all}
use Rattle.recovery_walk.proofs.Images.{image-calm}
use Rattle.history.specs.Demand.{rows_for, row_for}
use Rattle.history.proofs.Over.{Seen, seen-goes, seen-stops, walk-over, rows_over, rows-over}
use Rattle.history.proofs.Cuts.{record_of}
use Rattle.history.proofs.OverStates.{place_of_e, over-seen, over_first, over-max, over-newest, head-out, head_in}
use Rattle.history.proofs.Read.{last_to, read_to}
use Rattle.history.proofs.Shape.{newest-fits}
use Rattle.history.proofs.Slots.{Stored}

-- a listed segment
abbrev pub Has : Segment → List Segment → Type 0
Has x [] = ⊥
Has x (g ∷ gs) = (x ≡ g) ⊎ Has x gs

module _ (area : List ℕ) (f : ℕ → List ℕ) (k c s e : ℕ) (order : s ≤ e) where
  abbrev P : Segment → Type 0
  P = Stored area f k c

  -- what the walk of the images of segments comes to
  pub record Through (gs : List Segment) (b b' : ℕ) (w : Scan) : Type 0 where
    pub d : Scan
    pub is : images area c s e (rows_for gs) w ≡ walked d (map (read_to f e) gs)
    pub seen : Seen s e b' d
    pub stay : e < b → place_of_e d ≡ place_of_e w
    pub head : (x : Segment) → Has x gs → x.min ≤ e → e ≤ x.max → place_of_e d ≡ record_of f x.min e

  -- the index rows of the segments
  unfoldable pub rows_chain : List Segment → List ℕ
  rows_chain [] = []
  rows_chain (g ∷ gs) = rows_over f s e g.slot 0 g.min (g.max + 1 - g.min) ++ rows_chain gs

  module _ (slots : c ≤ max_image) where
    module _ (g : Segment) (p : P g) (low : 1 ≤ g.min) (up : g.min ≤ g.max) (w : Scan) (h : Seen s e g.min w) where
      -- at the image's front, and at its end
      abbrev front : Scan
      front = opened_of w g.size

      abbrev at : Scan
      at = over f s e front g.min (g.max + 1 - g.min)

      abbrev plain : Plain f g.min (g.max + 1 - g.min)
      plain = record { small = λ i l u. p.small i l (omega arith); ids = omega (arith, p.top) }

      one : g.max + 1 - g.min ≡ suc (g.max - g.min)
      one = omega arith

      small : length (records_from f g.min (g.max + 1 - g.min)) ≤ max_image
      small = omega (arith, p.long, p.room, slots)

      -- at the front the same has been seen
      opened : Seen s e g.min front
      opened =
          record {
            follows = λ on. h.follows (sym (opened-goes w g.size) ∙ on);
            start = h.start;
            end = h.end;
            gap = ne_eqb g.size 0 (λ y. omega (arith, (newest-fits area f k c g p up).header));
          }

      image-is : image_walk area c s e (row_for g) w ≡ Ok at
      image-is =
          image-calm area c s e (row_for g) w (gap-calm w g.size h.gap)
          ∙ ap (λ (l : List ℕ). walk_of l s e front) p.image
          ∙ walk-over f s e (g.max + 1 - g.min) g.min front refl plain opened.follows small

      image-rows : (ws : List ℕ) → rows_in (image_of area c (row_for g)) g.slot s e (pen_with ws front)
          ≡ pen_with (ws ++ rows_over f s e g.slot 0 g.min (g.max + 1 - g.min)) at
      image-rows ws =
          ap (λ (l : List ℕ). rows_in l g.slot s e (pen_with ws front)) p.image
          ∙ rows-over f s e g.slot (g.max + 1 - g.min) [] g.min front ws refl refl plain opened (omega (arith, small))

      image-seen : Seen s e (g.max + 1) at
      image-seen =
          let z : g.min + (g.max + 1 - g.min) ≡ g.max + 1 = omega arith in
          subst (λ (x : ℕ). Seen s e x at) z (over-seen f s e order (g.max + 1 - g.min) g.min front opened)

      image-filled : filled_of (row_for g) at ≡ read_to f e g
      image-filled = by_order g.min e read unread
        where
          filled : {x y z : ℕ} → at.min ≡ x → at.max ≡ y → at.newest_at ≡ z → pick (leb g.min e) g.min 0 ≡ x
              → pick (leb g.min e) (min g.max e) 0 ≡ y → pick (leb g.min e) (last_to f e g) 0 ≡ z
              → filled_of (row_for g) at ≡ read_to f e g
          filled lo hi new lo' hi' new' =
              let least = lo ∙ sym lo' in
              let most = hi ∙ sym hi' in
              let newest = new ∙ sym new' in
              λ i. record { id = g.id; slot = g.slot; size = g.size; min = least i; max = most i; newest_at = newest i }

          read : g.min ≤ e → filled_of (row_for g) at ≡ read_to f e g
          read l =
              let yes : leb g.min e ≡ true = le-leb g.min e l in
              let up_to : g.max ≡ g.min + (g.max - g.min) = omega arith in
              let behind-none : last_to f e g ≡ 0 + length (records_from f g.min (min (g.min + (g.max - g.min)) e - g.min)) =
              ap (λ (j : ℕ). length (records_from f g.min (min j e - g.min))) up_to ∙ omega arith in
              filled
              (ap (λ (j : ℕ). (over f s e front g.min j).min) one
              ∙ over_first f s e order (g.max - g.min) g.min front refl low (seen-goes s e g.min front opened l))
              (ap (λ (j : ℕ). (over f s e front g.min j).max) one
              ∙ over-max f s e order (g.max - g.min) g.min front opened l)
              (ap (λ (j : ℕ). (over f s e front g.min j).newest_at) one
              ∙ over-newest f s e order (g.max - g.min) g.min front opened l refl)
              (simp yes) (simp yes (omega arith)) (simp yes behind-none)

          unread : e < g.min → filled_of (row_for g) at ≡ read_to f e g
          unread l =
              let no : leb g.min e ≡ false = lt-leb g.min e l in
              let same = over-stopped f s e (g.max + 1 - g.min) front g.min (seen-stops s e g.min front opened l) in
              filled (ap (λ (d : Scan). d.min) same) (ap (λ (d : Scan). d.max) same) (ap (λ (d : Scan). d.newest_at) same) (simp no)
              (simp no) (simp no)

    -- the walk of a chain's images
    pub through : (gs : List Segment) (i b j b' : ℕ) (w : Scan) → 1 ≤ b → Chain P i b gs j b' → Seen s e b w → Through gs b b' w
    unfolding images
    through [] i b j b' w l h v =
        record { d = w; is = refl; seen = subst (λ (x : ℕ). Seen s e x w) h.1 v; stay = λ q. refl; head = λ x y. absurd y }
    through (g ∷ gs) i b j b' w l h v =
        let t = h.0 in
        let low : 1 ≤ g.min = omega (arith, t.min) in
        let up : g.min ≤ g.max = omega (arith, t.min, t.order) in
        let v' : Seen s e g.min w = subst (λ (x : ℕ). Seen s e x w) (sym t.min) v in
        let d1 : Scan = at g t.good low up w v' in
        let none : (m : ℕ) → 0 + m ≡ m = λ m. omega arith in
        let r = through gs (i + 1) (g.max + 1) j b' d1 (omega arith) h.1 (image-seen g t.good low up w v') in
        record {
          d = r.d;
          is =
              ap (λ (o : Result Scan Fault). after o (λ d. behind (filled_of (row_for g) d ∷ []) (images area c s e (rows_for gs) d)))
              (image-is g t.good low up w v')
              ∙ ap (behind (filled_of (row_for g) d1 ∷ [])) r.is
              ∙ ap (λ (x : Segment). walked r.d (x ∷ map (read_to f e) gs)) (image-filled g t.good low up w v');
          seen = r.seen;
          stay =
              λ q. r.stay (omega (arith, t.order)) ∙ head-out f s e order (g.max + 1 - g.min) g.min (opened_of w g.size)
              (λ y a z u. omega (arith, t.min));
          head = λ x m lo hi.
              ⊎_elim
              (λ (y : x ≡ g).
              let lo' : g.min ≤ e = rw y at lo in
              let hi' : e ≤ g.max = rw y at hi in
              rw y (r.stay (omega arith) ∙ head_in f s e order (g.max + 1 - g.min) g.min (opened_of w g.size) (opened g t.good low up w v') lo'
              (omega arith) refl ∙ (λ i. record { at = none (record_of f g.min e).at i; end = none (record_of f g.min e).end i })))
              (λ y. r.head x y lo hi) m;
        }

    -- the rows' pass over a chain's images
    pub rows-through : (gs : List Segment) (i b j b' : ℕ) (w : Scan) (ws : List ℕ) → 1 ≤ b → Chain P i b gs j b' → Seen s e b w
        → rows_all area c s e (rows_for gs) (pen_with ws w) ≡ ws ++ rows_chain gs
    unfolding rows_all rows_chain
    rows-through [] i b j b' w ws l h v = sym (append-nil ws)
    rows-through (g ∷ gs) i b j b' w ws l h v =
        let t = h.0 in
        let low : 1 ≤ g.min = omega (arith, t.min) in
        let up : g.min ≤ g.max = omega (arith, t.min, t.order) in
        let v' : Seen s e g.min w = subst (λ (x : ℕ). Seen s e x w) (sym t.min) v in
        let d1 : Scan = at g t.good low up w v' in
        let row : List ℕ = rows_over f s e g.slot 0 g.min (g.max + 1 - g.min) in
        ap (λ (v : Pen). rows_all area c s e (rows_for gs) v) (image-rows g t.good low up w v' ws)
        ∙ rows-through gs (i + 1) (g.max + 1) j b' d1 (ws ++ row) (omega arith) h.1 (image-seen g t.good low up w v')
        ∙ append_assoc ws row (rows_chain gs)

-- the walk begins so
pub start_seen : (s e b : ℕ) → s ≤ e → 1 ≤ b → b ≤ s → Seen s e b start_of
unfolding follows_of
start_seen s e b o l h =
    record {
      follows = λ on. simp (ne_eqb b 0 (λ z. omega arith));
      start = sym (le-ltb s b h);
      end = sym (le-ltb e b (omega arith));
      gap = refl;
    }
