-- What recovery keeps of the later segments is what pruning keeps of the earlier ones.
-- Assumes nothing.
use mathlib.Core.Bool.{true, false, Bool, ◌&&◌}
use mathlib.Core.List.{List, ◌++◌, ◌∷◌, []}
use mathlib.Core.Logic.{inl, inr}
use mathlib.Core.Path.{◌≡◌, refl, ap, ◌∙◌, subst, sym}
use Prim.Native.Nat.{ℕ, ◌+◌, ◌≤◌, ◌<◌}
use native.Mathlib.Omega.{arith}
use lib.Dec.{leb, ltb}
use borrow.Author.Tests.{lt-leb, le-leb, le-ltb, ltb-false, ltb-true}
use Rattle.lists.specs.Choice.{pick}
use Rattle.segment.specs.declared.Segment.{Segment}
use Rattle.segment.specs.Chain.{Chain}
use Rattle.seglog_prune.specs.Drop.{drop_new, keep_at, drop_old}
use Rattle.recovery.specs.Keeping.{kept_of, holds_live}
use Rattle.history.proofs.Later.{More, Grows}
use Rattle.history.proofs.Prunes.{new_none, keep-cons}
use Rattle.history.proofs.Scans.{Has}

-- both lists end with one segment, cut at e: g of the earlier, y of the later
pub record Cutting (e : ℕ) (news kepts ys : List Segment) : Type 0 where
  pub hs : List Segment
  pub g : Segment
  pub y : Segment
  pub new : news ≡ hs ++ (g ∷ [])
  pub kept : kepts ≡ hs ++ (y ∷ [])
  pub more : More g y
  pub low : y.min ≤ e
  pub high : e ≤ y.max
  pub has : Has y ys

abbrev Reach : ℕ → List Segment → Type 0
Reach s [] = Unit {0}
Reach s (g ∷ gs) = s ≤ g.max

module _ (P Q : Segment → Type 0) (s e : ℕ) where
  kept-none : (gs : List Segment) (i b j c : ℕ) → e < b → Chain Q i b gs j c → kept_of s e gs ≡ []
  unfolding kept_of holds_live
  kept-none [] i b j c l h = refl
  kept-none (g ∷ gs) i b j c l h =
      simp (lt-leb g.min e (omega (arith, h.0.min))) (kept-none gs (i + 1) (g.max + 1) j c (omega (arith, h.0.order)) h.1)

  holds-yes : (g : Segment) → g.min ≤ e → s ≤ g.max → holds_live s e g ≡ true
  unfolding holds_live
  holds-yes g l u = simp (le-leb g.min e l, le-leb s g.max u)

  holds-no : (g : Segment) → g.max < s → holds_live s e g ≡ false
  unfolding holds_live
  holds-no g l = go (leb g.min e)
    where
      go : (b : Bool) → b && leb s g.max ≡ false
      go true = lt-leb s g.max l
      go false = refl

  reach-next : (gs : List Segment) (i b j c : ℕ) → s ≤ b → Chain Q i b gs j c → Reach s gs
  reach-next [] i b j c l h = tt
  reach-next (g ∷ gs) i b j c l h = omega (arith, h.0.order)

  -- both end with one segment
  single : (g y : Segment) (gs ys : List Segment) (i j c i' j' c' : ℕ) → g.min ≤ e → e ≤ g.max → s ≤ y.max → More g y
      → Chain P i (g.max + 1) gs j c → Chain Q i' (y.max + 1) ys j' c'
      → Cutting e (drop_new e (g ∷ gs)) (kept_of s e (y ∷ ys)) (y ∷ ys)
  unfolding drop_new kept_of
  single g y gs ys i j c i' j' c' l u r m h h' =
      record {
        hs = [];
        g = g;
        y = y;
        new = ap (keep_at e g) (new_none P gs i (g.max + 1) e j c (omega arith) h) ∙ simp (le-ltb e g.min l);
        kept =
            simp (holds-yes y (omega (arith, m.min)) r) (ap (λ (z : List Segment). y ∷ z)
            (kept-none ys i' (y.max + 1) j' c' (omega (arith, m.max)) h'));
        more = m;
        low = omega (arith, m.min);
        high = omega (arith, m.max);
        has = inl refl;
      }

  cut-tail : (gs ys : List Segment) (i b j c i' j' c' : ℕ) → b ≤ e → e < c → Chain P i b gs j c → Chain Q i' b ys j' c' → Grows gs ys
      → Reach s ys → Cutting e (drop_new e gs) (kept_of s e ys) ys
  unfolding drop_new kept_of
  cut-tail [] ys i b j c i' j' c' l u h h' w r = absurd (omega (arith, h.1))
  cut-tail (g ∷ []) [] i b j c i' j' c' l u h h' w r = absurd w
  cut-tail (g ∷ []) (y ∷ ys) i b j c i' j' c' l u h h' w r =
      single g y [] ys (i + 1) j c (i' + 1) j' c' (omega (arith, h.0.min)) (omega (arith, h.1.1)) r w h.1 h'.1
  cut-tail (g ∷ x ∷ gs) [] i b j c i' j' c' l u h h' w r = absurd w
  cut-tail (g ∷ x ∷ gs) (y ∷ ys) i b j c i' j' c' l u h h' w r =
      go (ltb g.max e) refl (λ q. cut-tail (x ∷ gs) ys (i + 1) (g.max + 1) j c (i' + 1) j' c' q u h.1 rest w.1
      (reach-next ys (i' + 1) (g.max + 1) j' c' (omega (arith, r, at)) rest))
    where
      at : g.max ≡ y.max
      at = ap (λ (z : Segment). z.max) w.0

      rest : Chain Q (i' + 1) (g.max + 1) ys j' c'
      rest = subst (λ (z : ℕ). Chain Q (i' + 1) (z + 1) ys j' c') (sym at) h'.1

      go : (t : Bool) → ltb g.max e ≡ t → (g.max + 1 ≤ e → Cutting e (drop_new e (x ∷ gs)) (kept_of s e ys) ys)
          → Cutting e (drop_new e (g ∷ x ∷ gs)) (kept_of s e (y ∷ ys)) (y ∷ ys)
      go false q ih =
          single g y (x ∷ gs) ys (i + 1) j c (i' + 1) j' c' (omega (arith, h.0.min)) (ltb-false g.max e q) r
          (record {
            id = ap (λ (z : Segment). z.id) w.0;
            slot = ap (λ (z : Segment). z.slot)
                w.0;
            min = ap (λ (z : Segment). z.min) w.0;
            max = omega (arith, at);
          }) h.1 h'.1
      go true q ih =
          let v = ih (omega (arith, ltb-true g.max e q)) in
          record {
            hs = g ∷ v.hs;
            g = v.g;
            y = v.y;
            new = ap (keep_at e g) v.new ∙ keep-cons e g v.hs v.g;
            kept =
                simp (holds-yes y (omega (arith, h'.0.min)) r) (ap (λ (z : List Segment). y ∷ z) v.kept
                ∙ ap (λ (z : Segment). z ∷ (v.hs ++ (v.y ∷ []))) (sym w.0));
            more = v.more;
            low = v.low;
            high = v.high;
            has = inr v.has;
          }

  -- what recovery keeps of the later segments, and pruning of the earlier
  pub cut_all : (gs ys : List Segment) (i b j c i' j' c' : ℕ) → b ≤ s → s ≤ e → e < c → Chain P i b gs j c → Chain Q i' b ys j' c'
      → Grows gs ys → Cutting e (drop_new e (drop_old s gs)) (kept_of s e ys) ys
  unfolding drop_old kept_of
  cut_all [] ys i b j c i' j' c' l o u h h' w = absurd (omega (arith, h.1))
  cut_all (g ∷ []) [] i b j c i' j' c' l o u h h' w = absurd w
  cut_all (g ∷ []) (y ∷ ys) i b j c i' j' c' l o u h h' w =
      cut-tail (g ∷ []) (y ∷ ys) i b j c i' j' c' (omega arith) u h h' w (omega (arith, h.1.1, w.max))
  cut_all (g ∷ x ∷ gs) [] i b j c i' j' c' l o u h h' w = absurd w
  cut_all (g ∷ x ∷ gs) (y ∷ ys) i b j c i' j' c' l o u h h' w =
      go (ltb g.max s) refl (λ q. cut_all (x ∷ gs) ys (i + 1) (g.max + 1) j c (i' + 1) j' c' q o u h.1 rest w.1)
    where
      at : g.max ≡ y.max
      at = ap (λ (z : Segment). z.max) w.0

      rest : Chain Q (i' + 1) (g.max + 1) ys j' c'
      rest = subst (λ (z : ℕ). Chain Q (i' + 1) (z + 1) ys j' c') (sym at) h'.1

      go : (t : Bool) → ltb g.max s ≡ t → (g.max + 1 ≤ s → Cutting e (drop_new e (drop_old s (x ∷ gs))) (kept_of s e ys) ys)
          → Cutting e (drop_new e (pick (ltb g.max s) (drop_old s (x ∷ gs)) (g ∷ x ∷ gs))) (kept_of s e (y ∷ ys)) (y ∷ ys)
      go true q ih =
          let v = ih (omega (arith, ltb-true g.max s q)) in
          record {
            hs = v.hs;
            g = v.g;
            y = v.y;
            new = simp q v.new;
            kept = simp (holds-no y (omega (arith, ltb-true g.max s q, at))) v.kept;
            more = v.more;
            low = v.low;
            high = v.high;
            has = inr v.has;
          }
      go false q ih =
          let v = cut-tail (g ∷ x ∷ gs) (y ∷ ys) i b j c i' j' c' (omega arith) u h h' w (omega (arith, ltb-false g.max s q, at)) in
          record {
            hs = v.hs;
            g = v.g;
            y = v.y;
            new = simp q v.new;
            kept = v.kept;
            more = v.more;
            low = v.low;
            high = v.high;
            has = v.has;
          }
