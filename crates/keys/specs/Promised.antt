-- The statements that docs/PROMISES.md cites: the order of keys is an order, and no byte and no bit is left out of a comparison.
-- Proofs: proofs/Order.antt, proofs/Bits.antt. Assumes nothing.
use Rattle.std.specs.Prelude.{ℕ, ◌<◌, List, ◌≡◌}
use Rattle.std.specs.Ordering.{ordering_reverse}
use Rattle.std.specs.declared.cmp.Ordering.TheVariants.{Less, Equal}
use Rattle.keys.specs.Bits.{bit_of, Key}
use Rattle.keys.specs.Order.{compare_keys}

-- ---- an order

-- antisymmetry and totality in one
abbrev pub CompareSwap : Type 0
CompareSwap = (a b : List ℕ) → compare_keys b a ≡ ordering_reverse (compare_keys a b)

-- the order is transitive
abbrev pub CompareTrans : Type 0
CompareTrans = (a b c : List ℕ) → compare_keys a b ≡ Less → compare_keys b c ≡ Less → compare_keys a c ≡ Less

-- ---- over all bytes and bits

-- keys compare the same exactly when all their bytes are equal
abbrev pub KeysBytesEqual : Type 0
KeysBytesEqual = (a b : List ℕ) → (compare_keys a b ≡ Equal → a ≡ b) × (a ≡ b → compare_keys a b ≡ Equal)

-- two keys have all 256 bits the same
abbrev pub SameBits : List ℕ → List ℕ → Type 0
SameBits a b = (i : ℕ) → i < 256 → bit_of a i ≡ bit_of b i

-- keys compare the same exactly when all their 256 bits are
abbrev pub KeysBitsEqual : Type 0
KeysBitsEqual = (a b : List ℕ) → Key a → Key b → (compare_keys a b ≡ Equal → SameBits a b) × (SameBits a b → compare_keys a b ≡ Equal)

-- keys that differ in any one bit are not the same key
abbrev pub KeysBitDiffers : Type 0
KeysBitDiffers = (a b : List ℕ) (i : ℕ) → (bit_of a i ≡ bit_of b i → ⊥) → compare_keys a b ≡ Equal → ⊥
