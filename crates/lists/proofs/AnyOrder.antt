-- The laws of `AnyOrder`: it holds of a list and itself, and in a row; and what it leaves the same.
-- Assumes nothing.
use mathlib.Core.Path.{◌≡◌, refl, sym, ap, subst, ◌∙◌}
use mathlib.Core.Bool.{Bool, true, false, ◌&&◌, ◌||◌}
use mathlib.Core.List.{List, [], ◌∷◌, ◌++◌}
use Prim.Native.Nat.{suc}
use lib.ListN.{length}
use Rattle.lists.specs.AnyOrder.{Placed, AnyOrder}
use Rattle.lists.specs.Each.{Every, all, any}

module _ {A : Type 0} where
  -- the order that a list has
  pub any-refl : (l : List A) → AnyOrder l l
  any-refl [] = refl
  any-refl (x ∷ l) = record { before = []; behind = l; whole = refl; others = any-refl l }

  -- the first element goes to any place
  pub any-middle : (x : A) (xs ys : List A) → AnyOrder (x ∷ (xs ++ ys)) (xs ++ (x ∷ ys))
  any-middle x xs ys = record { before = xs; behind = ys; whole = refl; others = any-refl (xs ++ ys) }

  -- an element more at any place of the one, in front of the other
  pub any-more : (x : A) (xs ys t : List A) → AnyOrder (xs ++ ys) t → AnyOrder (xs ++ (x ∷ ys)) (x ∷ t)
  any-more x [] ys t o = record { before = []; behind = t; whole = refl; others = o }
  any-more x (z ∷ xs) ys t o =
      record {
        before = x ∷ o.before;
        behind = o.behind;
        whole = ap (λ (l : List A). x ∷ l) o.whole;
        others = any-more x xs ys (o.before ++ o.behind) o.others;
      }

  -- a list with z in it, which without z has x in it, has x in it too
  record Both (x z : A) (t u : List A) : Type 0 where
    before : List A
    behind : List A
    whole : t ≡ before ++ (x ∷ behind)
    low : List A
    high : List A
    split : before ++ behind ≡ low ++ (z ∷ high)
    rest : low ++ high ≡ u

  both : (x z : A) (ps qs bs cs : List A) → ps ++ qs ≡ bs ++ (x ∷ cs) → Both x z (ps ++ (z ∷ qs)) (bs ++ cs)
  both x z [] qs bs cs e =
      record {
        before = z ∷ bs;
        behind = cs;
        whole = ap (λ (l : List A). z ∷ l) e;
        low = [];
        high = bs ++ cs;
        split = refl;
        rest = refl;
      }
  both x z (p ∷ ps) qs [] cs e =
      record { before = []; behind = ps ++ (z ∷ qs); whole = cc; low = ps; high = qs; split = refl; rest = cc }
  both x z (p ∷ ps) qs (b ∷ bs) cs e =
      let w : Both x z (ps ++ (z ∷ qs)) (bs ++ cs) = both x z ps qs bs cs (cc) in
      let first : p ≡ b = cc in
      record {
        before = p ∷ w.before;
        behind = w.behind;
        whole = ap (λ (l : List A). p ∷ l) w.whole;
        low = p ∷ w.low;
        high = w.high;
        split = ap (λ (l : List A). p ∷ l) w.split;
        rest = rw (w.rest, first) refl;
      }

  -- an element of the one stands somewhere in the other
  any-placed : (x : A) (xs ys t : List A) → AnyOrder (xs ++ (x ∷ ys)) t → Placed (AnyOrder (xs ++ ys)) x t
  any-placed x [] ys t o = o
  any-placed x (z ∷ xs) ys t o =
      let w = any-placed x xs ys (o.before ++ o.behind) o.others in
      let b = both x z o.before o.behind w.before w.behind w.whole in
      record {
        before = b.before;
        behind = b.behind;
        whole = o.whole ∙ b.whole;
        others = record { before = b.low; behind = b.high; whole = b.split; others = rw b.rest w.others };
      }

  -- in a row
  pub any-trans : (l t u : List A) → AnyOrder l t → AnyOrder t u → AnyOrder l u
  any-trans [] t u o p = rw o at p
  any-trans (x ∷ l) t u o p =
      let w = any-placed x o.before o.behind u (subst (λ (k : List A). AnyOrder k u) o.whole p) in
      record {
        before = w.before;
        behind = w.behind;
        whole = w.whole;
        others = any-trans l (o.before ++ o.behind) (w.before ++ w.behind) o.others w.others;
      }

  -- what is worked out element by element, with steps that commute, is the same
  any-fold : {B : Type 0} (f : List A → B) (g : A → B → B) → ((x : A) (l : List A) → f (x ∷ l) ≡ g x (f l))
      → ((x y : A) (b : B) → g x (g y b) ≡ g y (g x b)) → (l t : List A) → AnyOrder l t → f l ≡ f t
  any-fold f g step swap [] t o = ap f (sym o)
  any-fold f g step swap (x ∷ l) t o =
      step x l ∙ ap (g x) (any-fold f g step swap l (o.before ++ o.behind) o.others) ∙ sym (middle o.before)
      ∙ ap f (sym o.whole)
    where
      middle : (xs : List A) → f (xs ++ (x ∷ o.behind)) ≡ g x (f (xs ++ o.behind))
      middle [] = step x o.behind
      middle (z ∷ xs) =
          step z (xs ++ (x ∷ o.behind)) ∙ ap (g z) (middle xs) ∙ swap z x (f (xs ++ o.behind))
          ∙ ap (g x) (sym (step z (xs ++ o.behind)))

  -- there are as many
  pub any-length : (l t : List A) → AnyOrder l t → length l ≡ length t
  any-length l t o = any-fold length (λ x n. suc n) (λ x l. refl) (λ x y n. refl) l t o

  -- a test that each passes
  pub any-all : (p : A → Bool) (l t : List A) → AnyOrder l t → all p l ≡ all p t
  unfolding all
  any-all p l t o = any-fold (all p) (λ x b. p x && b) (λ x l. refl) (λ x y b. and-swap (p x) (p y) b) l t o
    where
      and-swap : (a b c : Bool) → a && (b && c) ≡ b && (a && c)
      and-swap true true c = refl
      and-swap true false c = refl
      and-swap false true c = refl
      and-swap false false c = refl

  -- a test that some passes
  pub any-any : (p : A → Bool) (l t : List A) → AnyOrder l t → any p l ≡ any p t
  unfolding any
  any-any p l t o = any-fold (any p) (λ x b. p x || b) (λ x l. refl) (λ x y b. or_swap (p x) (p y) b) l t o
    where
      or_swap : (a b c : Bool) → a || (b || c) ≡ b || (a || c)
      or_swap true true c = refl
      or_swap true false c = refl
      or_swap false true c = refl
      or_swap false false c = refl

  -- a property of each
  pub any-every : (P : A → Type 0) (l t : List A) → AnyOrder l t → Every P l → Every P t
  any-every P [] t o h = rw o tt
  any-every P (x ∷ l) t o h =
      subst (Every P) (sym o.whole) (middle o.before (any-every P l (o.before ++ o.behind) o.others h.1))
    where
      middle : (xs : List A) → Every P (xs ++ o.behind) → Every P (xs ++ (x ∷ o.behind))
      middle [] q = (h.0, q)
      middle (z ∷ xs) q = (q.0, middle xs q.1)
