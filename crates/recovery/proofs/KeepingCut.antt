-- What is kept of segments whose records go on from each other: those from the one that holds s to the one that holds e.
-- Assumes nothing.
use mathlib.Core.Path.{◌≡◌, refl, sym, ap, subst, ◌∙◌}
use mathlib.Core.Bool.{Bool, ◌&&◌, and-false}
use mathlib.Core.List.{List, [], ◌∷◌, ◌++◌}
use Prim.Native.Nat.{ℕ, ◌+◌, ◌≤◌, ◌<◌}
use native.Mathlib.Omega.{arith}
use lib.ListN.{get_or}
use lib.Dec.{leb}
use borrow.Author.Tests.{le-leb, lt-leb}
use Rattle.lists.specs.Choice.{pick}
use Rattle.lists.proofs.Cases.{by_order}
use Rattle.segment.specs.declared.Segment.{Segment}
use Rattle.segment.specs.Segment.{no_segment}
use Rattle.segment.specs.Chain.{Chain}
use Rattle.recovery.specs.Keeping.{holds_live, kept_of}
use Rattle.recovery.proofs.ImagesWalked.{Empties}

module _ (s e : ℕ) where
  -- a segment that holds a live record
  kept_here : (g : Segment) (gs : List Segment) → g.min ≤ e → s ≤ g.max → kept_of s e (g ∷ gs) ≡ g ∷ kept_of s e gs
  unfolding kept_of holds_live
  kept_here g gs h l = simp (le-leb g.min e h, le-leb s g.max l)

  -- one that ends before s
  pub kept-early : (g : Segment) (gs : List Segment) → g.max < s → kept_of s e (g ∷ gs) ≡ kept_of s e gs
  unfolding kept_of holds_live
  kept-early g gs h =
      ap (λ (b : Bool). pick (leb g.min e && b) (g ∷ kept_of s e gs) (kept_of s e gs)) (lt-leb s g.max h)
      ∙ ap (λ (b : Bool). pick b (g ∷ kept_of s e gs) (kept_of s e gs)) (and-false (leb g.min e))

  -- one that begins after e
  pub kept-late : (g : Segment) (gs : List Segment) → e < g.min → kept_of s e (g ∷ gs) ≡ kept_of s e gs
  unfolding kept_of holds_live
  kept-late g gs h =
      ap (λ (b : Bool). pick (b && leb s g.max) (g ∷ kept_of s e gs) (kept_of s e gs)) (lt-leb g.min e h)

  -- segments without records are not kept
  pub kept-empty : (ys zs : List Segment) → 0 < s → Empties zs → kept_of s e (ys ++ zs) ≡ kept_of s e ys
  unfolding kept_of
  kept-empty [] [] some h = refl
  kept-empty [] (z ∷ zs) some h = kept-early z zs (omega (arith, h.0)) ∙ kept-empty [] zs some h.1
  kept-empty (y ∷ ys) zs some h = ap (λ (l : List Segment). pick (holds_live s e y) (y ∷ l) l) (kept-empty ys zs some h)

  -- of segments that are a chain, of each of which P holds
  module _ (P : Segment → Type 0) where
    -- behind e nothing is kept
    kept-behind : (gs : List Segment) (i b j t : ℕ) → Chain P i b gs j t → e < b → kept_of s e gs ≡ []
    unfolding kept_of
    kept-behind [] i b j t h l = refl
    kept-behind (g ∷ gs) i b j t h l =
        kept-late g gs (omega (arith, h.0.min)) ∙ kept-behind gs (i + 1) (g.max + 1) j t h.1 (omega (arith, h.0.order))

    -- the kept segments: hs and the head g, which holds e
    pub record Cut (i b : ℕ) (gs : List Segment) : Type 0 where
      pub hs : List Segment
      pub g : Segment
      pub is : gs ≡ hs ++ (g ∷ [])
      pub left : Chain P i b hs g.id g.min
      pub good : P g
      pub low : g.min ≤ e
      pub high : e ≤ g.max

    -- a segment that holds e, and ends not before s
    cut-last : (g : Segment) (gs : List Segment) (i b j t : ℕ) → Chain P i b (g ∷ gs) j t → s ≤ g.max → b ≤ e → e ≤ g.max
        → Cut i b (kept_of s e (g ∷ gs))
    cut-last g gs i b j t h l m r =
        record {
          hs = [];
          g = g;
          is = kept_here g gs (omega (arith, h.0.min)) l
              ∙ ap (λ (y : List Segment). g ∷ y) (kept-behind gs (i + 1) (g.max + 1) j t h.1 (omega arith));
          left = (sym h.0.id, sym h.0.min);
          good = h.0.good;
          low = omega (arith, h.0.min);
          high = r;
        }

    -- from a segment that ends not before s
    cut-from : (g : Segment) (gs : List Segment) (i b j t : ℕ) → Chain P i b (g ∷ gs) j (t + 1) → s ≤ g.max → b ≤ e → e ≤ t
        → Cut i b (kept_of s e (g ∷ gs))
    cut-from g [] i b j t h l m r = cut-last g [] i b j (t + 1) h l m (omega (arith, h.1.1))
    cut-from g (x ∷ gs) i b j t h l m r =
        by_order (g.max + 1) e
        (λ q.
        let w = cut-from x gs (i + 1) (g.max + 1) j t h.1 (omega (arith, h.1.0.order)) q r in
        record {
          hs = g ∷ w.hs;
          g = w.g;
          is = kept_here g (x ∷ gs) (omega (arith, h.0.min)) l ∙ ap (λ (y : List Segment). g ∷ y) w.is;
          left = (h.0, w.left);
          good = w.good;
          low = w.low;
          high = w.high;
        })
        (λ q. cut-last g (x ∷ gs) i b j (t + 1) h l m (omega arith))

    -- the kept segments, and the segment and record ids that they begin with
    pub record Whole (i : ℕ) (gs : List Segment) : Type 0 where
      pub j : ℕ
      pub b : ℕ
      pub from : i ≤ j
      pub some : 1 ≤ b
      pub cut : Cut j b gs
      pub start-low : b ≤ s
      pub start-high : s ≤ (get_or gs 0 no_segment).max

    -- from any segment that begins at s or before it
    pub cut-whole : (gs : List Segment) (i b j t : ℕ) → Chain P i b gs j (t + 1) → 1 ≤ b → b ≤ s → s ≤ e → e ≤ t → Whole i (kept_of s e gs)
    cut-whole [] i b j t h o l m r = absurd (omega (arith, h.1))
    cut-whole (g ∷ gs) i b j t h o l m r =
        by_order (g.max + 1) s
        (λ q.
        let w = cut-whole gs (i + 1) (g.max + 1) j t h.1 (omega arith) q m r in
        subst (Whole i) (sym (kept-early g gs (omega arith)))
        (record {
          j = w.j;
          b = w.b;
          from = omega (arith, w.from);
          some = w.some;
          cut = w.cut;
          start-low = w.start-low;
          start-high = w.start-high;
        }))
        (λ q.
        record {
          j = i;
          b = b;
          from = omega arith;
          some = o;
          cut = cut-from g gs i b j t h (omega arith) (omega arith) r;
          start-low = l;
          start-high = subst (λ (y : List Segment). s ≤ (get_or y 0 no_segment).max)
              (sym (kept_here g gs (omega (arith, h.0.min)) (omega arith))) (omega arith);
        })
