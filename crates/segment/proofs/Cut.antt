-- The laws of a slot in an area and of an image that was cut: when nothing changes, and that on a segment of a log it is the missing
-- padding that is written, and nothing else. Assumes nothing.
use mathlib.Core.Path.{◌≡◌, refl, ap, ◌∙◌}
use mathlib.Core.Bool.{false}
use mathlib.Core.List.{List}
use Prim.Native.Nat.{ℕ, suc, ◌+◌, ◌-◌, ◌*◌, ◌/◌, ◌≤◌, ◌<◌}
use native.Mathlib.Nat.{suc-mul, mul-le-mul_right, div-lt_iff_lt-mul}
use native.Mathlib.Omega.{arith}
use lib.ListN.{length, replicate}
use lib.Dec.{ltb}
use borrow.Author.Tests.{le-leb, lt-leb, leb-true, ltb-true, lt-ltb}
use Rattle.lists.specs.Splice.{splice}
use Rattle.lists.proofs.Bools.{same_test}
use Rattle.lists.proofs.Cases.{by-test, by_order, pick-either}
use Rattle.lists.proofs.Splice.{splice-none}
use Rattle.segment.specs.declared.Segment.{Segment}
use Rattle.segment.specs.Segment.{padded_to}
use Rattle.segment.specs.Cut.{inside_of, truncated_area}

-- ---- a slot in an area

-- a slot below k lies in an area of k slots
pub slot-inside : (k c slot n : ℕ) → slot < k → n ≡ k * c → slot * c + c ≤ n
slot-inside k c slot n h e = omega (arith, suc-mul slot c, mul-le-mul_right c h)

-- the test by a quotient is the test by the product
pub inside-quotient : (c slot n : ℕ) → 0 < c → ltb slot (n / c) ≡ inside_of c slot n
inside-quotient c slot n some =
    same_test (ltb slot (n / c)) (inside_of c slot n)
    (λ h. le-leb (slot * c + c) n (fits (ltb-true slot (n / c) h)))
    (λ h. lt-ltb slot (n / c) (below (leb-true (slot * c + c) n h)))
  where
    fits : slot < n / c → slot * c + c ≤ n
    fits h =
        by_order (slot * c + c) n (λ g. g)
        (λ g. absurd (omega (arith, h, (div-lt_iff_lt-mul some).1 (past g))))
      where
        past : n < slot * c + c → n < suc slot * c
        past g = omega (arith, suc-mul slot c)

    below : slot * c + c ≤ n → slot < n / c
    below h =
        by_order (suc slot) (n / c) (λ g. g)
        (λ g. absurd (omega (arith, suc-mul slot c, (div-lt_iff_lt-mul some).0 g)))

-- ---- an image that was cut

module _ (area : List ℕ) (c slot size x : ℕ) where
  -- the missing tail is zeros
  pub truncated-tail : slot * c + c ≤ length area → x ≤ c
      → truncated_area area c slot size x ≡ splice (slot * c + size) (replicate (x - size) 0) area
  unfolding truncated_area
  truncated-tail inside low = simp (le-leb (slot * c + c) (length area) inside, le-leb x c low)

  -- the slot does not lie in the area
  pub truncated-outside : inside_of c slot (length area) ≡ false → truncated_area area c slot size x ≡ area
  unfolding truncated_area
  truncated-outside h = simp h

  -- x does not lie in the slot
  pub truncated-past : c < x → truncated_area area c slot size x ≡ area
  unfolding truncated_area
  truncated-past h = by-test (inside_of c slot (length area)) (λ i. simp (i, lt-leb x c h)) truncated-outside

  -- nothing is missing
  pub truncated-whole : x ≤ size → truncated_area area c slot size x ≡ area
  unfolding truncated_area
  truncated-whole h =
      let none : x - size ≡ 0 = omega arith in
      pick-either (λ (l : List ℕ). l ≡ area) _ _ area
      (λ e. ap (λ (n : ℕ). splice (slot * c + size) (replicate n 0) area) none ∙ splice-none (slot * c + size) area) (λ e. refl)

-- on a segment whose slot lies in the area: its missing padding, and nothing else
pub truncated-padded : (area : List ℕ) (c x : ℕ) (g : Segment) → g.slot * c + c ≤ length area → x ≤ c
    → truncated_area area c g.slot g.size x ≡ padded_to c area g x
truncated-padded area c x g inside low = truncated-tail area c g.slot g.size x inside low
