-- Two keys are the same exactly when all their 256 bits are: no bit is left out of a comparison.
-- Statements without a sentence of their own: specs/Promised.antt. Assumes nothing.
use Prim.Native.Nat.{ℕ, zero, suc, ◌+◌, ◌*◌, ◌/◌, ◌%◌, ◌^◌, ◌<◌}
use mathlib.Core.List.{List}
use mathlib.Core.Path.{◌≡◌, ap, sym, ◌∙◌}
use lib.ListN.{length, get_or}
use lib.Seq.{ext_get_or}
use native.Mathlib.Nat.{div-div-eq-div-mul, pow-suc, pow-succ'}
use native.Mathlib.Omega.{arith}
use Rattle.keys.specs.Bits.{bit_of}
use Rattle.keys.specs.Promised.{KeysBytesEqual, SameBits, KeysBitsEqual, KeysBitDiffers}
use Rattle.keys.specs.Order.{compare_keys}
use Rattle.std.specs.declared.cmp.Ordering.TheVariants.{Equal}
use Rattle.keys.proofs.Order.{compare_refl, compare_same}

-- a number below 2 ^ n is determined by its n lowest bits
byte-bits : (n x y : ℕ) → x < 2 ^ n → y < 2 ^ n → ((j : ℕ) → j < n → x / 2 ^ j % 2 ≡ y / 2 ^ j % 2) → x ≡ y
byte-bits zero x y hx hy e = omega arith
byte-bits (suc n) x y hx hy e =
    let p : 2 ^ suc n ≡ 2 ^ n * 2 = pow-suc 2 n in
    let low = e 0 (omega arith) in
    let high : x / 2 ≡ y / 2 = byte-bits n (x / 2) (y / 2) (omega arith) (omega arith)
    (λ j h. half x j ∙ e (suc j) (omega arith) ∙ sym (half y j)) in
    omega arith
  where
    half : (z j : ℕ) → z / 2 / 2 ^ j % 2 ≡ z / 2 ^ suc j % 2
    half z j = ap (λ (k : ℕ). k % 2) (div-div-eq-div-mul z 2 (2 ^ j)) ∙ ap (λ (k : ℕ). z / k % 2) (sym (pow-succ' 2 j))

-- bit j of byte i
bit_at : (a : List ℕ) (i j : ℕ) → j < 8 → bit_of a (8 * i + j) ≡ get_or a i 0 / 2 ^ j % 2
bit_at a i j h =
    let q : (8 * i + j) / 8 ≡ i = omega arith in
    let r : (8 * i + j) % 8 ≡ j = omega arith in
    rw (q, r)

pub keys-bytes-equal : KeysBytesEqual
keys-bytes-equal a b = (compare_same a b, λ e. rw e (compare_refl b))

-- keys that compare the same have the same bits
bits-same : (a b : List ℕ) → compare_keys a b ≡ Equal → (i : ℕ) → bit_of a i ≡ bit_of b i
bits-same a b e i = ap (λ (k : List ℕ). bit_of k i) (compare_same a b e)

pub keys-bits-equal : KeysBitsEqual
keys-bits-equal a b ka kb = (
  (λ e i h. bits-same a b e i),
  λ e. (keys-bytes-equal a b).1 (ext_get_or 0 a b (ka.long ∙ sym kb.long) (byte e)),
)
  where
    byte : SameBits a b → (i : ℕ) → i < length a → get_or a i 0 ≡ get_or b i 0
    byte e i h =
        let long = ka.long in
        byte-bits 8 (get_or a i 0) (get_or b i 0) (ka.bytes i) (kb.bytes i)
        (λ j g. sym (bit_at a i j g) ∙ e (8 * i + j) (omega arith) ∙ bit_at b i j g)

pub keys-bit-differs : KeysBitDiffers
keys-bit-differs a b i d e = d (bits-same a b e i)
