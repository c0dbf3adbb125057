-- The laws of little-endian numbers, once, over the width: what is written is read back, wherever it stands, and other bytes stay.
-- Statements without a sentence of their own: specs/Promised.antt. Assumes nothing.
use mathlib.Core.Path.{◌≡◌, refl, sym, ap, ◌∙◌}
use mathlib.Core.Bool.{true, false}
use mathlib.Core.List.{List, [], ◌∷◌, ◌++◌}
use Prim.Native.Nat.{ℕ, zero, suc, ◌+◌, ◌-◌, ◌*◌, ◌/◌, ◌%◌, ◌^◌, ◌≤◌, ◌<◌}
use native.Mathlib.Nat.{pow-suc, pow-succ', add-zero, zero-add, add-suc, suc-add, add_assoc, one-mul, mul-add, mul_assoc}
use native.Mathlib.Nat.{zero-lt-suc, div-lt_iff_lt-mul}
use native.Mathlib.Numerals.{towards_suc}
use native.Mathlib.Omega.{arith}
use lib.Dec.{leb}
use borrow.Author.Tests.{le-leb, lt-leb}
use lib.ListN.{length, get_or, take, drop, length-append, length-take}
use lib.Seq.{get_or-append_seam, append_snoc}
use Rattle.std.proofs.Common.{get_or-take, get_or-drop}
use Rattle.std.specs.Int.{w32, w64, from_le_bytes, to_le_bytes}
use Rattle.std.proofs.Math.Nat.{div-div-eq-div-mul}
use Rattle.lists.specs.Outcome.{refused, done}
use Rattle.lists.specs.Splice.{part}
use Rattle.lists.proofs.Outcome.{refused-is-not-done, refused-injective, done-injective}
use Rattle.lists.proofs.Splice.{splice-fits, splice-before, splice-behind}
use Rattle.lists.proofs.Cases.{by-test, by_order}
use Rattle.little_endian.specs.LittleEndian.{le_bytes, le_at, stand_at, bytes_at, number_at}
use Rattle.little_endian.specs.Promised.{WriteRead, LeRead}

-- a number of n bytes has n bytes
pub le-bytes-length : (n v : ℕ) → length (le_bytes n v) ≡ n
unfolding le_bytes
le-bytes-length zero v = refl
le-bytes-length (suc n) v = ap suc (le-bytes-length n (v / 256))

-- without its lowest byte a number is one byte shorter
less : (v n : ℕ) → v < 256 ^ suc n → v / 256 < 256 ^ n
less v n h = (div-lt_iff_lt-mul (zero-lt-suc 255)).1 (rw pow-suc at h)

pub le_read : LeRead
unfolding le_at le_bytes
le_read zero v pre post at e h = omega arith
le_read (suc n) v pre post at e h =
    let rest : List ℕ = le_bytes n (v / 256) ++ post in
    let lowest : get_or (pre ++ (v % 256 ∷ rest)) at 0 ≡ v % 256 = rw e (get_or-append_seam pre (v % 256) rest 0) in
    let others : le_at n (pre ++ (v % 256 ∷ rest)) (suc at) ≡ v / 256 =
    rw (← append_snoc pre (v % 256) rest)
    (le_read n (v / 256) (pre ++ (v % 256 ∷ [])) post (suc at) (rw length-append (omega arith)) (less v n h)) in
    omega arith

pub write_read : WriteRead
write_read n v at s fits small =
    let long = le-bytes-length n v in
    let front : length (take at s) ≡ at = length-take at s ∙ omega arith in
    record {
      back = ap (λ (l : List ℕ). le_at n l at) (splice-fits at (le_bytes n v) s (omega arith))
          ∙ le_read n v (take at s) (drop (at + length (le_bytes n v)) s) at (sym front) small;
      before = λ a k h. splice-before at (le_bytes n v) s a k h;
      behind = λ a h. splice-behind at (le_bytes n v) s a (omega arith);
    }

-- the same bytes, wherever they stand, spell the same number
pub le-shift : (n : ℕ) (s t : List ℕ) (at to : ℕ)
    → ((i j : ℕ) → i + to ≡ j + at → at ≤ i → i < at + n → get_or s i 0 ≡ get_or t j 0) → le_at n s at ≡ le_at n t to
unfolding le_at
le-shift zero s t at to h = refl
le-shift (suc n) s t at to h =
    rw (h at to (omega arith) (omega arith) (omega arith), le-shift n s t (suc at) (suc to) (λ i j e low g. h i j (omega arith) (omega arith) (omega arith))) refl

-- two lists with the same bytes there spell the same number
pub le-agree : (n : ℕ) (s t : List ℕ) (at : ℕ) → ((j : ℕ) → at ≤ j → j < at + n → get_or s j 0 ≡ get_or t j 0) → le_at n s at ≡ le_at n t at
le-agree n s t at h =
    le-shift n s t at at
    (λ i j e low g. h i low g ∙ ap (λ (k : ℕ). get_or t k 0) (omega arith))

-- two neighbouring numbers are one
pub le_join : (m n : ℕ) (s : List ℕ) (at : ℕ) → le_at (m + n) s at ≡ le_at m s at + 256 ^ m * le_at n s (at + m)
unfolding le_at
le_join zero n s at = simp (zero-add, add-zero, one-mul)
le_join (suc m) n s at =
    let step : le_at (suc m + n) s at ≡ get_or s at 0 + 256 * le_at (m + n) s (suc at) = ap (λ (k : ℕ). le_at k s at) (suc-add m n) in
    step ∙ rw (le_join m n s (suc at), add-suc, suc-add, pow-succ', mul-add, mul_assoc) (sym (add_assoc _ _ _))

-- four bytes as a sum
pub le_four : (s : List ℕ) (at a b c d : ℕ) → a ≡ get_or s at 0 → b ≡ get_or s (at + 1) 0 → c ≡ get_or s (at + 2) 0 → d ≡ get_or s (at + 3) 0
    → a + 256 * (b + 256 * (c + 256 * d)) ≡ le_at 4 s at
unfolding le_at
le_four s at a b c d ea eb ec ed = simp (ea, eb, ec, ed, towards_suc, add-zero)

-- that n bytes stand from `at` on, by a difference that does not wrap
pub stand-shift : (at n len : ℕ) → at ≤ len → leb n (len - at) ≡ leb (at + n) len
stand-shift at n len h =
    by_order n (len - at) (λ g. le-leb n (len - at) g ∙ sym (le-leb (at + n) len (omega arith)))
    (λ g. lt-leb n (len - at) g ∙ sym (lt-leb (at + n) len (omega arith)))

-- ---- reading

module _ (n : ℕ) (s : List ℕ) (at : ℕ) where
  -- bytes are missing
  pub number-refuses-40 : stand_at n s at ≡ false → number_at n s at ≡ refused 40
  unfolding number_at
  number-refuses-40 h = simp h

  -- the number that stands there
  pub number-reads : stand_at n s at ≡ true → number_at n s at ≡ done (le_at n s at)
  unfolding number_at
  number-reads h = simp h

  -- a number that was read is what the bytes spell
  pub number_is : (v : ℕ) → number_at n s at ≡ done v → le_at n s at ≡ v
  number_is v e =
      by-test (stand_at n s at) (λ h. done-injective (sym (number-reads h) ∙ e))
      (λ h. refused-is-not-done (sym (number-refuses-40 h) ∙ e))

  -- a number whose bytes stand is read
  pub number-stands : at + n ≤ length s → (m : ℕ) → number_at n s at ≡ refused m → ⊥
  number-stands h m e = refused-is-not-done (sym e ∙ number-reads (le-leb (at + n) (length s) h))

-- the u64 that stands there, by its two halves
pub number-halves : (s : List ℕ) (at : ℕ) → stand_at 8 s at ≡ true
    → number_at 8 s at ≡ done (le_at 4 s at + 4294967296 * le_at 4 s (at + 4))
number-halves s at h = number-reads 8 s at h ∙ ap done (le_join 4 4 s at)

-- the bytes of a part spell what they spell at their place
part-spells : (n : ℕ) (s : List ℕ) (at : ℕ) → le_at n (part at n s) 0 ≡ le_at n s at
part-spells n s at =
    le-shift n (part at n s) s 0 at
    (λ i j e low h. get_or-take n (drop at s) i 0 (omega arith) ∙ get_or-drop at s i 0 ∙ ap (λ (k : ℕ). get_or s k 0) (omega arith))

-- ---- bytes that stand, and the number that they spell

module _ (n : ℕ) (s : List ℕ) (at : ℕ) where
  -- bytes are missing
  pub bytes-refuse-40 : stand_at n s at ≡ false → bytes_at n s at ≡ refused 40
  unfolding bytes_at
  bytes-refuse-40 h = simp h

  -- the bytes that stand there
  pub bytes-read : stand_at n s at ≡ true → bytes_at n s at ≡ done (part at n s)
  unfolding bytes_at
  bytes-read h = simp h

  -- what isn't read as bytes isn't read as a number
  pub number-refused : (m : ℕ) → refused m ≡ bytes_at n s at → number_at n s at ≡ refused m
  number-refused m e =
      by-test (stand_at n s at) (λ h. refused-is-not-done (e ∙ bytes-read h))
      (λ h. let q = e ∙ bytes-refuse-40 h in number-refuses-40 n s at h ∙ ap refused (sym (refused-injective q)))

  -- what is read as bytes is read as the number that they spell
  pub number-of : (b : List ℕ) → done b ≡ bytes_at n s at → number_at n s at ≡ done (le_at n b 0)
  number-of b e =
      by-test (stand_at n s at)
      (λ h. number-reads n s at h ∙ ap done (sym (part-spells n s at) ∙ ap (λ (l : List ℕ). le_at n l 0) (sym (done-injective (e ∙ bytes-read h)))))
      (λ h. refused-is-not-done (sym (e ∙ bytes-refuse-40 h)))

-- the library's numbers of 4 and 8 bytes, and their bytes

pub u32-from : (b : List ℕ) → from_le_bytes w32 b ≡ le_at 4 b 0
unfolding le_at
u32-from b = omega arith

pub u64-from : (b : List ℕ) → from_le_bytes w64 b ≡ le_at 8 b 0
unfolding le_at
u64-from b = omega arith

pub u32-bytes : (v : ℕ) → to_le_bytes w32 v ≡ le_bytes 4 v
unfolding le_bytes
u32-bytes v = simp div-div-eq-div-mul

pub u64-bytes : (v : ℕ) → to_le_bytes w64 v ≡ le_bytes 8 v
unfolding le_bytes
u64-bytes v = simp div-div-eq-div-mul
