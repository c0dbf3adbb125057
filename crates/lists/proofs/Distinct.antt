-- The laws of `fresh` and `distinct`: taken apart at either end, place by place, of a front, in any order; no more elements than
-- numbers. Assumes nothing.
use mathlib.Core.Path.{◌≡◌, refl, sym, ap, subst, ◌∙◌}
use mathlib.Core.Bool.{Bool, true, false, ◌&&◌, not, and-false}
use mathlib.Core.List.{List, [], ◌∷◌, ◌++◌, append-nil, map}
use Prim.Native.Nat.{ℕ, zero, suc, ◌≤◌, ◌<◌}
use native.Mathlib.Omega.{arith}
use lib.ListN.{length, get_or, take, drop, length-append}
use lib.Dec.{eqb}
use borrow.Author.Tests.{eq-eqb, ne_eqb, eqb-true, eqb-false}
use Rattle.lists.specs.AnyOrder.{AnyOrder}
use Rattle.lists.specs.Each.{Every, all}
use Rattle.lists.specs.Distinct.{fresh, distinct}
use Rattle.lists.proofs.AnyOrder.{any-middle, any-all}
use Rattle.lists.proofs.Bools.{clash, and_both, both-and}
use Rattle.lists.proofs.Cases.{by-test}
use Rattle.lists.proofs.Each.{every-split, all-front, all-at, at_all}

-- a test that fails, and holds of what it is refuted of
pub not_eqb : (a b : ℕ) → not (eqb a b) ≡ true → a ≡ b → ⊥
not_eqb a b h e = clash (sym (ap not (eq-eqb a b e)) ∙ h)

module _ {A : Type 0} (key : A → ℕ) where
  -- ---- a number that none has

  -- neither the first nor any other has it
  pub record Fresh (n : ℕ) (x : A) (xs : List A) : Type 0 where
    pub here : key x ≡ n → ⊥
    pub rest : fresh key n xs ≡ true

  -- taken apart at the first
  pub fresh-cons : (n : ℕ) (x : A) (xs : List A) → fresh key n (x ∷ xs) ≡ true → Fresh n x xs
  unfolding all
  fresh-cons n x xs h =
      let t = and_both (not (eqb n (key x))) (fresh key n xs) h in
      record { here = λ e. not_eqb n (key x) t.0 (sym e); rest = t.1 }

  -- put together at the first
  pub cons-fresh : (n : ℕ) (x : A) (xs : List A) → Fresh n x xs → fresh key n (x ∷ xs) ≡ true
  unfolding all
  cons-fresh n x xs h = both-and _ _ (ap not (ne_eqb n (key x) (λ e. h.here (sym e)))) h.rest

  -- one at any place
  pub fresh-middle : (n : ℕ) (xs : List A) (x : A) (ys : List A) → fresh key n (xs ++ (x ∷ ys)) ≡ fresh key n (x ∷ (xs ++ ys))
  fresh-middle n xs x ys = sym (any-all (λ y. not (eqb n (key y))) (x ∷ (xs ++ ys)) (xs ++ (x ∷ ys)) (any-middle x xs ys))

  -- one at the end
  pub fresh-snoc : (n : ℕ) (xs : List A) (x : A) → fresh key n (xs ++ (x ∷ [])) ≡ fresh key n (x ∷ xs)
  fresh-snoc n xs x = fresh-middle n xs x [] ∙ ap (λ (l : List A). fresh key n (x ∷ l)) (append-nil xs)

  -- place by place
  pub fresh_at : (d : A) (n : ℕ) (xs : List A) (i : ℕ) → fresh key n xs ≡ true → i < length xs → key (get_or xs i d) ≡ n → ⊥
  fresh_at d n xs i h l e = not_eqb n (key (get_or xs i d)) (all-at (λ x. not (eqb n (key x))) d xs i h l) (sym e)

  pub at-fresh : (d : A) (n : ℕ) (xs : List A) → ((i : ℕ) → i < length xs → key (get_or xs i d) ≡ n → ⊥) → fresh key n xs ≡ true
  at-fresh d n xs h = at_all (λ x. not (eqb n (key x))) d xs (λ i l. ap not (ne_eqb n (key (get_or xs i d)) (λ e. h i l (sym e))))

  -- ---- numbers of their own

  -- taken apart at the first
  pub distinct_cons : (x : A) (xs : List A) → distinct key (x ∷ xs) ≡ fresh key (key x) xs && distinct key xs
  unfolding distinct
  distinct_cons x xs = refl

  -- one at any place
  pub distinct-middle : (xs : List A) (x : A) (ys : List A) → distinct key (xs ++ (x ∷ ys)) ≡ distinct key (x ∷ (xs ++ ys))
  unfolding distinct all
  distinct-middle [] x ys = refl
  distinct-middle (z ∷ xs) x ys =
      rw (fresh-middle (key z) xs x ys, distinct-middle xs x ys)
      (four (not (eqb (key z) (key x))) (not (eqb (key x) (key z))) (fresh key (key z) (xs ++ ys)) (fresh key (key x) (xs ++ ys))
      (distinct key (xs ++ ys)) (ap not (turned (key z) (key x))))
    where
      turned : (a b : ℕ) → eqb a b ≡ eqb b a
      turned a b =
          by-test (eqb b a) (λ e. eq-eqb a b (sym (eqb-true b a e)) ∙ sym e) (λ e. ne_eqb a b (λ q. eqb-false b a e (sym q)) ∙ sym e)

      four : (p q a b c : Bool) → p ≡ q → (p && a) && (b && c) ≡ (q && b) && (a && c)
      four p true a b c e = rw e (swap a b c)
        where
          swap : (a b c : Bool) → a && (b && c) ≡ b && (a && c)
          swap true true c = refl
          swap true false c = refl
          swap false true c = refl
          swap false false c = refl
      four p false a b c e = rw e refl

  -- one at the end
  pub distinct_snoc : (xs : List A) (x : A) → distinct key (xs ++ (x ∷ [])) ≡ distinct key (x ∷ xs)
  distinct_snoc xs x = distinct-middle xs x [] ∙ ap (λ (l : List A). distinct key (x ∷ l)) (append-nil xs)

  pub distinct_more : (xs : List A) (x : A) → distinct key xs ≡ true → fresh key (key x) xs ≡ true → distinct key (xs ++ (x ∷ [])) ≡ true
  distinct_more xs x h n = distinct_snoc xs x ∙ distinct_cons x xs ∙ both-and _ _ n h

  -- taken apart at the end
  pub snoc-distinct : (xs : List A) (x : A) → distinct key (xs ++ (x ∷ [])) ≡ true
      → (distinct key xs ≡ true) × (fresh key (key x) xs ≡ true)
  snoc-distinct xs x h =
      let t = and_both (fresh key (key x) xs) (distinct key xs) (sym (distinct_cons x xs) ∙ sym (distinct_snoc xs x) ∙ h) in (t.1, t.0)

  -- the numbers alone count
  fresh-keys : (n : ℕ) (xs : List A) → fresh key n xs ≡ fresh (λ m. m) n (map key xs)
  unfolding all
  fresh-keys n [] = refl
  fresh-keys n (x ∷ xs) = ap (λ (t : Bool). not (eqb n (key x)) && t) (fresh-keys n xs)

  pub distinct-keys : (xs : List A) → distinct key xs ≡ distinct (λ m. m) (map key xs)
  unfolding distinct
  distinct-keys [] = refl
  distinct-keys (x ∷ xs) = rw (fresh-keys (key x) xs, distinct-keys xs) refl

  -- in any order
  pub distinct-any : (l t : List A) → AnyOrder l t → distinct key l ≡ distinct key t
  unfolding distinct
  distinct-any [] t o = ap (distinct key) (sym o)
  distinct-any (x ∷ l) t o =
      rw (any-all (λ y. not (eqb (key x) (key y))) l _ o.others, distinct-any l _ o.others)
      (sym (distinct-middle o.before x o.behind) ∙ ap (distinct key) (sym o.whole))

  -- what fails from i on fails
  pub distinct-rest : (i : ℕ) (xs : List A) → distinct key (drop i xs) ≡ false → distinct key xs ≡ false
  unfolding distinct
  distinct-rest zero xs h = h
  distinct-rest (suc i) [] h = h
  distinct-rest (suc i) (x ∷ xs) h = ap (λ (t : Bool). fresh key (key x) xs && t) (distinct-rest i xs h) ∙ and-false (fresh key (key x) xs)

  -- a front of them
  pub distinct-front : (i : ℕ) (xs : List A) → distinct key xs ≡ true → distinct key (take i xs) ≡ true
  unfolding distinct
  distinct-front zero xs h = refl
  distinct-front (suc i) [] h = h
  distinct-front (suc i) (x ∷ xs) h =
      let t = and_both (fresh key (key x) xs) (distinct key xs) h in
      both-and _ _ (all-front (λ y. not (eqb (key x) (key y))) i xs t.0) (distinct-front i xs t.1)

  -- place by place
  pub distinct-at : (d : A) (xs : List A) (i j : ℕ) → distinct key xs ≡ true
      → i < j → j < length xs → key (get_or xs i d) ≡ key (get_or xs j d) → ⊥
  unfolding distinct
  distinct-at d [] i j h l m e = omega arith
  distinct-at d (x ∷ xs) i zero h l m e = omega arith
  distinct-at d (x ∷ xs) zero (suc j) h l m e =
      fresh_at d (key x) xs j (and_both (fresh key (key x) xs) (distinct key xs) h).0 (omega arith) (sym e)
  distinct-at d (x ∷ xs) (suc i) (suc j) h l m e =
      distinct-at d xs i j (and_both (fresh key (key x) xs) (distinct key xs) h).1 (omega arith) (omega arith) e

  pub at-distinct : (d : A) (xs : List A) → ((i j : ℕ) → i < j → j < length xs → key (get_or xs i d) ≡ key (get_or xs j d) → ⊥)
      → distinct key xs ≡ true
  unfolding distinct
  at-distinct d [] h = refl
  at-distinct d (x ∷ xs) h =
      both-and _ _ (at-fresh d (key x) xs (λ i l e. h 0 (suc i) (omega arith) (omega arith) (sym e)))
      (at-distinct d xs (λ i j l m. h (suc i) (suc j) (omega arith) (omega arith)))

  -- ---- no more elements than numbers

  -- each number is below k
  abbrev pub Below : ℕ → List A → Type 0
  Below k = Every (λ x. key x < k)

  -- an element that has the number, among the others
  record Found (n : ℕ) (xs : List A) : Type 0 where
    before : List A
    it : A
    behind : List A
    whole : xs ≡ before ++ (it ∷ behind)
    has : key it ≡ n

  found : (n : ℕ) (xs : List A) → fresh key n xs ≡ false → Found n xs
  unfolding all
  found n [] h = clash (sym h)
  found n (x ∷ xs) h =
      by-test (eqb n (key x)) (λ e. record { before = []; it = x; behind = xs; whole = refl; has = sym (eqb-true n (key x) e) })
      (λ e.
      let w = found n xs (sym (ap (λ (t : Bool). not t && fresh key n xs) e) ∙ h) in
      record {
        before = x ∷ w.before;
        it = w.it;
        behind = w.behind;
        whole = ap (λ (l : List A). x ∷ l) w.whole;
        has = w.has;
      })

  -- without the number k each is below it already
  below-fresh : (k : ℕ) (xs : List A) → fresh key k xs ≡ true → Below (suc k) xs → Below k xs
  below-fresh k [] h b = tt
  below-fresh k (x ∷ xs) h b =
      let t = fresh-cons k x xs h in (let n : key x ≡ k → ⊥ = t.here in omega (arith, b.0), below-fresh k xs t.rest b.1)

  -- elements with numbers of their own below k are at most k
  pub pigeons : (k : ℕ) (xs : List A) → distinct key xs ≡ true → Below k xs → length xs ≤ k
  pigeons zero [] h b = omega arith
  pigeons zero (x ∷ xs) h b = absurd (omega (arith, b.0))
  pigeons (suc k) xs h b =
      by-test (fresh key k xs) (λ f. omega (arith, pigeons k xs h (below-fresh k xs f b)))
      (λ f.
      let w = found k xs f in
      let others : List A = w.before ++ w.behind in
      let own = and_both _ (distinct key others)
      (sym (distinct_cons w.it others) ∙ sym (distinct-middle w.before w.it w.behind)
      ∙ ap (distinct key) (sym w.whole) ∙ h) in
      let low = every-split _ w.before w.it w.behind (subst (Below (suc k)) w.whole b) in
      let n = pigeons k others own.1 (below-fresh k others (subst (λ (m : ℕ). fresh key m others ≡ true) w.has own.0) low.1) in
      omega (arith, ap length w.whole, length-append w.before (w.it ∷ w.behind), length-append w.before w.behind))
