-- The laws of digits, over the number of places: how many there are, that they are digits, and that they read back, both ways.
-- Assumes nothing.
use mathlib.Core.Path.{◌≡◌, refl, sym, ap, ◌∙◌}
use mathlib.Core.Bool.{true, ◌&&◌}
use mathlib.Core.List.{List, [], ◌∷◌, ◌++◌, append_assoc, append-nil}
use Prim.Native.Nat.{ℕ, zero, suc, ◌+◌, ◌-◌, ◌*◌, ◌/◌, ◌%◌, ◌^◌, ◌≤◌, ◌<◌}
use native.Mathlib.Nat.{add-zero, pow-suc, pow-le-pow_right, lt_of_lt_of_le, div-lt_iff_lt-mul}
use native.Mathlib.Numerals.{add-one}
use native.Mathlib.Omega.{arith}
use lib.ListN.{length, get_or, set, drop, length-set, length-append}
use lib.Seq.{drop-cons, get_or-set_same, drop-set-lt}
use lib.Dec.{leb}
use borrow.Author.Tests.{leb-true, le-leb}
use Rattle.lists.proofs.Bools.{and_both}
use Rattle.segment_filename.specs.Digits.{digits, is_digit, all_digits, value_from}

-- one more digit, in front of those that are written
pub digits-turn : (i v : ℕ) (bytes : List ℕ) → i < length bytes
    → digits (suc i) v ++ drop (suc i) bytes ≡ digits i (v / 10) ++ drop i (set bytes i (48 + v % 10))
unfolding digits
digits-turn i v bytes h =
    let d : ℕ = 48 + v % 10 in
    let there : drop i (set bytes i d) ≡ d ∷ drop (suc i) bytes =
    drop-cons (set bytes i d) i 0 (rw length-set h) ∙ rw (get_or-set_same bytes i d 0 h, drop-set-lt (suc i) bytes i d (omega arith)) refl in
    append_assoc (digits i (v / 10)) (d ∷ []) (drop (suc i) bytes) ∙ ap (λ (l : List ℕ). digits i (v / 10) ++ l) (sym there)

-- there are as many digits as places
pub digits-length : (n v : ℕ) → length (digits n v) ≡ n
unfolding digits
digits-length zero v = refl
digits-length (suc n) v = length-append (digits n (v / 10)) ((48 + v % 10) ∷ []) ∙ rw (digits-length n (v / 10)) (omega arith)

module _ (s : List ℕ) (i : ℕ) (inside : i < length s) where
  next : drop i s ≡ get_or s i 0 ∷ drop (i + 1) s
  next = rw add-one (drop-cons s i 0 inside)

  -- whether all from a place on are digits: the byte there, and all behind it
  pub digits-at : all_digits (drop i s) ≡ is_digit (get_or s i 0) && all_digits (drop (i + 1) s)
  unfolding all_digits
  digits-at = ap all_digits next

  -- the number that is read on from a place: its digit is taken in
  pub value-at : (v : ℕ) → value_from v (drop i s) ≡ value_from (v * 10 + (get_or s i 0 - 48)) (drop (i + 1) s)
  unfolding value_from
  value-at v = ap (value_from v) next

-- a digit is one of the bytes 48 to 57
pub digit-range : (b : ℕ) → is_digit b ≡ true → (48 ≤ b) × (b ≤ 57)
digit-range b h = let both = and_both (leb 48 b) (leb b 57) h in (leb-true 48 b both.0, leb-true b 57 both.1)

-- one digit more, one place more
pub value_room : (v d i : ℕ) → v < 10 ^ i → d ≤ 9 → v * 10 + d < 10 ^ (i + 1)
value_room v d i h g = rw (add-one, pow-suc) (omega arith)

-- numbers of at most ten places are small
pub places-small : (v i : ℕ) → v < 10 ^ i → i ≤ 10 → v < 10000000000
places-small v i h g = lt_of_lt_of_le h (pow-le-pow_right {n = 10} (omega arith) g)

all_append : (k l : List ℕ) → all_digits k ≡ true → all_digits l ≡ true → all_digits (k ++ l) ≡ true
unfolding all_digits
all_append [] l h g = g
all_append (b ∷ k) l h g = let both = and_both (is_digit b) (all_digits k) h in rw both.0 (all_append k l both.1 g)

-- what is written are digits
pub digits-are-digits : (n v : ℕ) → all_digits (digits n v) ≡ true
unfolding digits all_digits
digits-are-digits zero v = refl
digits-are-digits (suc n) v =
    let small : v % 10 ≤ 9 = omega arith in
    all_append (digits n (v / 10)) ((48 + v % 10) ∷ []) (digits-are-digits n (v / 10))
    (simp (le-leb 48 (48 + v % 10) (omega arith), le-leb (48 + v % 10) 57 (omega arith)))

value-append : (v : ℕ) (k l : List ℕ) → value_from v (k ++ l) ≡ value_from (value_from v k) l
unfolding value_from
value-append v [] l = refl
value-append v (b ∷ k) l = value-append (v * 10 + (b - 48)) k l

-- what is written in n places is read back, for any n
pub digits_value : (n v : ℕ) → v < 10 ^ n → value_from 0 (digits n v) ≡ v
unfolding digits value_from
digits_value zero v h = omega arith
digits_value (suc n) v h =
    value-append 0 (digits n (v / 10)) ((48 + v % 10) ∷ [])
    ∙ rw (digits_value n (v / 10) ((div-lt_iff_lt-mul (omega arith)).1 (rw pow-suc at h))) (omega arith)

-- digits that are read on from a number v of n places: they are written behind those of v
written_on : (n v : ℕ) (s : List ℕ) → all_digits s ≡ true → digits (n + length s) (value_from v s) ≡ digits n v ++ s
unfolding digits all_digits value_from
written_on n v [] h = rw add-zero (sym (append-nil (digits n v)))
written_on n v (b ∷ s) h =
    let both = and_both (is_digit b) (all_digits s) h in
    let range = digit-range b both.0 in
    let d : ℕ = b - 48 in
    let front : (v * 10 + d) / 10 ≡ v = omega arith in
    let last : 48 + (v * 10 + d) % 10 ≡ b = omega arith in
    let places : n + suc (length s) ≡ suc n + length s = omega arith in
    rw places
    (written_on (suc n) (v * 10 + d) s both.1
    ∙ rw (front, last) (append_assoc (digits n v) (b ∷ []) s))

-- what is read from digits is written as these digits
pub value-digits : (s : List ℕ) → all_digits s ≡ true → digits (length s) (value_from 0 s) ≡ s
unfolding digits
value-digits s h =
    let places : length s ≡ 0 + length s = omega arith in
    ap (λ (k : ℕ). digits k (value_from 0 s)) places ∙ written_on 0 0 s h

-- two numbers with the same digits in n places are equal
pub digits-injective : (n a b : ℕ) → a < 10 ^ n → b < 10 ^ n → digits n a ≡ digits n b → a ≡ b
digits-injective n a b h g e = sym (digits_value n a h) ∙ ap (value_from 0) e ∙ digits_value n b g
