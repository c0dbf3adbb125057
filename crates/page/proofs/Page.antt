-- The laws of the padded end, once, over any page size p above 0; and the Rust's two ways of rounding, each equal to it.
-- Statements without a sentence of their own: specs/Promised.antt. Assumes nothing.
use mathlib.Core.Path.{◌≡◌, refl, ap, ◌∙◌}
use mathlib.Core.Bool.{Bool, true, false}
use Prim.Native.Nat.{ℕ, zero, suc, ◌+◌, ◌-◌, ◌*◌, ◌/◌, ◌%◌, ◌≤◌, ◌<◌}
use native.Mathlib.Nat.{div-add-mod', mod-lt, mul-mod_left, mul-le-mul_right, suc-mul, add-mod, zero-mod, add-mul, one-mul}
use native.Mathlib.Omega.{arith}
use lib.Dec.{eqb}
use borrow.Author.Tests.{eqb-true, eqb-false}
use Rattle.lists.specs.Choice.{pick}
use Rattle.lists.proofs.Cases.{by_order}
use Rattle.page.specs.Page.{multiple_from, padded_end}
use Rattle.page.specs.Promised.{PadMultiple, PadGe, PadLt, PadLeast, PadWhole, PadMonotone, PadRounded, PadAbove}

-- a multiple is p times its quotient
pub whole : (p x : ℕ) → x % p ≡ 0 → x / p * p ≡ x
whole p x h = omega (arith, div-add-mod' x p)

-- two multiples less than p apart are one
pub multiple-unique : (p x y : ℕ) → x % p ≡ 0 → y % p ≡ 0 → x ≤ y → y < x + p → x ≡ y
multiple-unique p x y hx hy le lt =
    let ex = whole p x hx in
    let ey = whole p y hy in
    by_order (suc (x / p)) (y / p)
    (λ h. absurd (omega (arith, mul-le-mul_right p h, suc-mul (x / p) p)))
    (λ h. omega (arith, mul-le-mul_right p (below h)))
  where
    below : y / p < suc (x / p) → y / p ≤ x / p
    below h = omega arith

-- the search finds any multiple that is x or more and less than p above it
pub search-finds : (p n x y : ℕ) → y % p ≡ 0 → x ≤ y → y < x + p → y ≤ x + n → multiple_from p n x ≡ y
unfolding multiple_from
search-finds p zero x y hy le lt near = omega arith
search-finds p (suc n) x y hy le lt near = go (eqb (x % p) 0) refl (λ a b c. search-finds p n (suc x) y hy a b c)
  where
    go : (t : Bool) → eqb (x % p) 0 ≡ t → (suc x ≤ y → y < suc x + p → y ≤ suc x + n → multiple_from p n (suc x) ≡ y)
        → pick t x (multiple_from p n (suc x)) ≡ y
    go true e on = multiple-unique p x y (eqb-true (x % p) 0 e) hy le lt
    go false e on = by_order (suc x) y (λ h. on h (omega arith) (omega arith)) (λ h. absurd (eqb-false (x % p) 0 e (same h)))
      where
        same : y < suc x → x % p ≡ 0
        same h = let q : x ≡ y = omega arith in ap (λ (k : ℕ). k % p) q ∙ hy

module _ (p x : ℕ) (some : 0 < p) where
  -- the sum that rounds up by a division
  abbrev rounded : ℕ
  rounded = (x + (p - 1)) / p * p

  rounded-low : x ≤ rounded
  rounded-low = omega (arith, div-add-mod' (x + (p - 1)) p, mod-lt (x + (p - 1)) some)

  rounded-high : rounded < x + p
  rounded-high = omega (arith, div-add-mod' (x + (p - 1)) p)

  -- it is the only multiple from x on and less than a page above
  pub pad-is : (y : ℕ) → y % p ≡ 0 → x ≤ y → y < x + p → padded_end p x ≡ y
  unfolding padded_end
  pad-is y hy le lt = search-finds p p x y hy le lt (omega arith)

pub pad-rounded : PadRounded
pad-rounded p x some = pad-is p x some (rounded p x some) (mul-mod_left _ p) (rounded-low p x some) (rounded-high p x some)

pub pad-multiple : PadMultiple
pad-multiple p x some = ap (λ (k : ℕ). k % p) (pad-rounded p x some) ∙ mul-mod_left _ p

pub pad-ge : PadGe
pad-ge p x some = omega (arith, pad-rounded p x some, rounded-low p x some)

pub pad-lt : PadLt
pad-lt p x some = omega (arith, pad-rounded p x some, rounded-high p x some)

pub pad-least : PadLeast
pad-least p x some y hy le =
    by_order (x + p) y (λ h. omega (arith, pad-lt p x some)) (λ h. omega (arith, pad-is p x some y hy le h))

pub pad-whole : PadWhole
pad-whole p x some h = pad-is p x some x h (omega arith) (omega arith)

-- padding twice changes nothing more
pub pad-idempotent : (p x : ℕ) → 0 < p → padded_end p (padded_end p x) ≡ padded_end p x
pad-idempotent p x some = pad-whole p (padded_end p x) some (pad-multiple p x some)

pub pad-monotone : PadMonotone
pad-monotone p x y some h = pad-least p x some (padded_end p y) (pad-multiple p y some) (omega (arith, pad-ge p y some))

-- two multiples make a multiple
pub multiple-add : (p x y : ℕ) → x % p ≡ 0 → y % p ≡ 0 → (x + y) % p ≡ 0
multiple-add p x y hx hy = add-mod x y p ∙ rw (hx, hy) (zero-mod p)

pub pad-above : PadAbove
pad-above p x some odd =
    let up : (x / p + 1) * p ≡ x / p * p + p = add-mul (x / p) 1 p ∙ ap (λ (k : ℕ). x / p * p + k) (one-mul p) in
    pad-is p x some ((x / p + 1) * p) (mul-mod_left _ p) (omega (arith, div-add-mod' x p, mod-lt x some))
    (by_order 1 (x % p) (λ h. omega (arith, div-add-mod' x p)) (λ h. absurd (odd (omega arith))))

-- behind whole pages the padding is that of the rest
pub pad-after : (p a n : ℕ) → 0 < p → a % p ≡ 0 → padded_end p (a + n) ≡ a + padded_end p n
pad-after p a n some h =
    pad-is p (a + n) some (a + padded_end p n) (multiple-add p a (padded_end p n) h (pad-multiple p n some))
    (omega (arith, pad-ge p n some)) (omega (arith, pad-lt p n some))
