-- Decimal digits put from the last one on, before those that are put already: one turn, the first digit, and that 20 places are enough.
-- Assumes nothing.
use mathlib.Core.Path.{◌≡◌, refl, sym, ap, ◌∙◌}
use mathlib.Core.List.{List, [], ◌∷◌, ◌++◌, append_assoc, append-nil}
use Prim.Native.Nat.{ℕ, zero, suc, ◌+◌, ◌/◌, ◌%◌, ◌^◌, ◌≤◌, ◌<◌}
use native.Mathlib.Nat.{div-lt_iff_lt-mul, zero-lt-suc, pow-suc}
use native.Mathlib.Numerals.{add-one}
use native.Mathlib.Omega.{arith}
use lib.ListN.{length, drop, set, length-set, drop_of_length-le}
use borrow.Author.Tests.{lt-ltb, le-ltb}
use Rattle.std.proofs.lemmas.List.{drop-set}
use Rattle.text.specs.Decimal.{decimal_in}

-- the digits of `rest`, in the first n places, and behind them what was put
pub record Placed (v rest n : ℕ) (digits : List ℕ) : Type 0 where
  pub room : length digits ≡ 20
  pub small : rest < 10 ^ n
  pub whole : decimal_in n rest ++ drop n digits ≡ decimal_in 20 v

-- a number of 64 bits has at most 20 digits
pub placed-begins : (v : ℕ) (digits : List ℕ) → v < 2 ^ 64 → length digits ≡ 20 → Placed v v 20 digits
placed-begins v digits small long =
    record {
      room = long;
      small = omega arith;
      whole = rw (drop_of_length-le digits {i = 20} (omega arith)) (append-nil (decimal_in 20 v));
    }

-- more than one digit: more than one place is left
pub placed-more : {v rest : ℕ} (n : ℕ) {digits : List ℕ} → 10 ≤ rest → Placed v rest n digits → 1 < n
placed-more zero h p = absurd (omega (arith, p.small))
placed-more (suc zero) h p = absurd (omega (arith, p.small))
placed-more (suc (suc n)) h p = omega arith

-- a digit between what is before it and what is behind it
between : (a : List ℕ) (g : ℕ) (b : List ℕ) → a ++ (g ∷ b) ≡ (a ++ (g ∷ [])) ++ b
between a g b = sym (append_assoc a (g ∷ []) b)

-- the last digit is put, and it isn't the first
pub placed-turn : {v rest : ℕ} (n : ℕ) {digits : List ℕ} → n < 20 → (rest / 10 ≡ 0 → ⊥) → Placed v rest (suc n) digits
    → Placed v (rest / 10) n (set digits n (48 + rest % 10))
unfolding decimal_in
placed-turn {v} {rest} n {digits} low more p =
    let front : List ℕ = decimal_in n (rest / 10) in
    let behind : drop n (set digits n (48 + rest % 10)) ≡ (48 + rest % 10) ∷ drop (suc n) digits =
    drop-set digits n (48 + rest % 10) (omega (arith, p.room)) ∙ ap (λ (k : ℕ). (48 + rest % 10) ∷ drop k digits) (add-one n) in
    let opened : decimal_in (suc n) rest ≡ front ++ ((48 + rest % 10) ∷ []) = rw (le-ltb rest 10 (omega arith)) refl in
    record {
      room = length-set digits n (48 + rest % 10) ∙ p.room;
      small = (div-lt_iff_lt-mul (zero-lt-suc 9)).1 (rw (pow-suc 10 n) at p.small);
      whole =
          ap (λ (l : List ℕ). front ++ l) behind ∙ between front (48 + rest % 10) (drop (suc n) digits)
          ∙ ap (λ (l : List ℕ). l ++ drop (suc n) digits) (sym opened) ∙ p.whole;
    }

-- the first digit is put
pub placed-ends : {v rest : ℕ} (n : ℕ) {digits : List ℕ} → n < 20 → rest / 10 ≡ 0 → Placed v rest (suc n) digits
    → drop n (set digits n (48 + rest % 10)) ≡ decimal_in 20 v
unfolding decimal_in
placed-ends {v} {rest} n {digits} low last p =
    let digit : rest % 10 ≡ rest = omega arith in
    let opened : decimal_in (suc n) rest ≡ (48 + rest) ∷ [] = rw (lt-ltb rest 10 (omega arith)) refl in
    rw digit
    (drop-set digits n (48 + rest) (omega (arith, p.room)) ∙ ap (λ (k : ℕ). (48 + rest) ∷ drop k digits) (add-one n)
    ∙ ap (λ (l : List ℕ). l ++ drop (suc n) digits) (sym opened) ∙ p.whole)
