-- The laws of `Every`, `all`, `any` and `linked`: place by place, of two lists in a row, of a front, and what a loop learns of the rest.
-- Assumes nothing.
use mathlib.Core.Path.{◌≡◌, refl, ap, ◌∙◌}
use mathlib.Core.Bool.{Bool, true, false, ◌&&◌, ◌||◌, and-false, or-true}
use mathlib.Core.List.{List, [], ◌∷◌, ◌++◌}
use Prim.Native.Nat.{ℕ, zero, suc, ◌+◌, ◌≤◌, ◌<◌}
use native.Mathlib.Numerals.{add-one}
use native.Mathlib.Omega.{arith}
use lib.ListN.{length, get_or, take, drop, length-drop}
use lib.Seq.{drop-cons}
use Rattle.lists.specs.Each.{Every, all, any, linked}
use Rattle.lists.proofs.Bools.{and_both, both-and}

module _ {A : Type 0} where
  -- one of the elements, and the others
  pub every-split : (P : A → Type 0) (xs : List A) (x : A) (ys : List A) → Every P (xs ++ (x ∷ ys)) → P x × Every P (xs ++ ys)
  every-split P [] x ys h = h
  every-split P (z ∷ xs) x ys h = let t = every-split P xs x ys h.1 in (t.0, (h.0, t.1))

  -- what follows of each
  pub every_map : (P Q : A → Type 0) → ((x : A) → P x → Q x) → (xs : List A) → Every P xs → Every Q xs
  every_map P Q f [] h = tt
  every_map P Q f (x ∷ xs) h = (f x h.0, every_map P Q f xs h.1)

  -- place by place
  pub every-at : (P : A → Type 0) (d : A) (xs : List A) (i : ℕ) → Every P xs → i < length xs → P (get_or xs i d)
  every-at P d [] i h l = absurd (omega arith)
  every-at P d (x ∷ xs) zero h l = h.0
  every-at P d (x ∷ xs) (suc i) h l = every-at P d xs i h.1 (omega arith)

  module _ (p : A → Bool) where
    -- some, at its place
    pub any_at : (d : A) (xs : List A) (i : ℕ) → i < length xs → p (get_or xs i d) ≡ true → any p xs ≡ true
    unfolding any
    any_at d [] i l h = absurd (omega arith)
    any_at d (x ∷ xs) zero l h = rw h
    any_at d (x ∷ xs) (suc i) l h = rw (any_at d xs i (omega arith) h) (or-true (p x))

    -- two lists in a row
    pub any_append : (xs ys : List A) → any p (xs ++ ys) ≡ any p xs || any p ys
    unfolding any
    any_append [] ys = refl
    any_append (x ∷ xs) ys = go (p x) (any_append xs ys)
      where
        go : (b : Bool) → any p (xs ++ ys) ≡ any p xs || any p ys → b || any p (xs ++ ys) ≡ (b || any p xs) || any p ys
        go true h = refl
        go false h = h

    -- two lists in a row
    pub all_append : (xs ys : List A) → all p (xs ++ ys) ≡ all p xs && all p ys
    unfolding all
    all_append [] ys = refl
    all_append (x ∷ xs) ys = go (p x) (all_append xs ys)
      where
        go : (b : Bool) → all p (xs ++ ys) ≡ all p xs && all p ys → b && all p (xs ++ ys) ≡ (b && all p xs) && all p ys
        go true h = h
        go false h = refl

    -- what fails from i on fails
    pub all_rest : (i : ℕ) (xs : List A) → all p (drop i xs) ≡ false → all p xs ≡ false
    unfolding all
    all_rest zero xs h = h
    all_rest (suc i) [] h = h
    all_rest (suc i) (x ∷ xs) h = ap (λ (t : Bool). p x && t) (all_rest i xs h) ∙ and-false (p x)

    -- a front of them
    pub all-front : (i : ℕ) (xs : List A) → all p xs ≡ true → all p (take i xs) ≡ true
    unfolding all
    all-front zero xs h = refl
    all-front (suc i) [] h = h
    all-front (suc i) (x ∷ xs) h = let t = and_both (p x) (all p xs) h in both-and (p x) (all p (take i xs)) t.0 (all-front i xs t.1)

    -- each, place by place
    pub all-at : (d : A) (xs : List A) (i : ℕ) → all p xs ≡ true → i < length xs → p (get_or xs i d) ≡ true
    unfolding all
    all-at d [] i h l = absurd (omega arith)
    all-at d (x ∷ xs) zero h l = (and_both (p x) (all p xs) h).0
    all-at d (x ∷ xs) (suc i) h l = all-at d xs i (and_both (p x) (all p xs) h).1 (omega arith)

    -- what it says of each
    pub all-every : (P : A → Type 0) → ((x : A) → p x ≡ true → P x) → (xs : List A) → all p xs ≡ true → Every P xs
    unfolding all
    all-every P f [] h = tt
    all-every P f (x ∷ xs) h = let t = and_both (p x) (all p xs) h in (f x t.0, all-every P f xs t.1)

    -- and the other way
    pub at_all : (d : A) (xs : List A) → ((i : ℕ) → i < length xs → p (get_or xs i d) ≡ true) → all p xs ≡ true
    unfolding all
    at_all d [] h = refl
    at_all d (x ∷ xs) h = both-and (p x) (all p xs) (h 0 (omega arith)) (at_all d xs (λ i l. h (suc i) (omega arith)))

  module _ (r : A → A → Bool) (d : A) where
    -- from i on: the one behind it, and the rest
    pub linked-next : (xs : List A) (i : ℕ) → i + 1 < length xs
        → linked r (drop i xs) ≡ r (get_or xs i d) (get_or xs (i + 1) d) && linked r (drop (i + 1) xs)
    unfolding linked
    linked-next xs i h = rw (add-one, drop-cons xs i d (omega arith), drop-cons xs (suc i) d (omega arith))

    -- from i on: none is behind it
    pub linked-last : (xs : List A) (i : ℕ) → length xs ≤ i + 1 → linked r (drop i xs) ≡ true
    unfolding linked
    linked-last xs i h = one (drop i xs) (simp length-drop (omega arith))
      where
        one : (l : List A) → length l ≤ 1 → linked r l ≡ true
        one [] g = refl
        one (x ∷ []) g = refl
        one (x ∷ y ∷ l) g = absurd (omega arith)

    -- place by place
    pub linked-at : (xs : List A) (i : ℕ) → linked r xs ≡ true → suc i < length xs → r (get_or xs i d) (get_or xs (suc i) d) ≡ true
    unfolding linked
    linked-at [] i h l = absurd (omega arith)
    linked-at (x ∷ []) i h l = absurd (omega arith)
    linked-at (x ∷ y ∷ xs) zero h l = (and_both (r x y) (linked r (y ∷ xs)) h).0
    linked-at (x ∷ y ∷ xs) (suc i) h l = linked-at (y ∷ xs) i (and_both (r x y) (linked r (y ∷ xs)) h).1 (omega arith)

    -- and the other way
    pub at-linked : (xs : List A) → ((i : ℕ) → suc i < length xs → r (get_or xs i d) (get_or xs (suc i) d) ≡ true) → linked r xs ≡ true
    unfolding linked
    at-linked [] h = refl
    at-linked (x ∷ []) h = refl
    at-linked (x ∷ y ∷ xs) h =
        both-and (r x y) (linked r (y ∷ xs)) (h 0 (omega arith)) (at-linked (y ∷ xs) (λ i l. h (suc i) (omega arith)))
