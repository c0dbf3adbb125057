-- The statements that docs/PROMISES.md cites: the padded end is "the next multiple" of any page size p above 0, and the Rust's two ways
-- of rounding are it. Proofs: proofs/Page.antt. Assumes nothing.
use Rattle.std.specs.Prelude.{◌≡◌, ℕ, ◌+◌, ◌-◌, ◌*◌, ◌/◌, ◌%◌, ◌≤◌, ◌<◌}
use Rattle.page.specs.Page.{padded_end}

-- ---- the next multiple

-- it is a multiple
abbrev pub PadMultiple : Type 0
PadMultiple = (p x : ℕ) → 0 < p → padded_end p x % p ≡ 0

-- it is x or more
abbrev pub PadGe : Type 0
PadGe = (p x : ℕ) → 0 < p → x ≤ padded_end p x

-- it is less than a page above x
abbrev pub PadLt : Type 0
PadLt = (p x : ℕ) → 0 < p → padded_end p x < x + p

-- no multiple from x on is less
abbrev pub PadLeast : Type 0
PadLeast = (p x : ℕ) → 0 < p → (y : ℕ) → y % p ≡ 0 → x ≤ y → padded_end p x ≤ y

-- a multiple is its own padded end
abbrev pub PadWhole : Type 0
PadWhole = (p x : ℕ) → 0 < p → x % p ≡ 0 → padded_end p x ≡ x

-- a later end has no earlier padded end
abbrev pub PadMonotone : Type 0
PadMonotone = (p x y : ℕ) → 0 < p → x ≤ y → padded_end p x ≤ padded_end p y

-- ---- the two ways of rounding

-- the body's, and the Rust's reader's: a division that rounds up
abbrev pub PadRounded : Type 0
PadRounded = (p x : ℕ) → 0 < p → padded_end p x ≡ (x + (p - 1)) / p * p

-- the Rust's writer's, where p does not divide x (`PadWhole` where it does): one page more than the whole ones below it
abbrev pub PadAbove : Type 0
PadAbove = (p x : ℕ) → 0 < p → (x % p ≡ 0 → ⊥) → padded_end p x ≡ (x / p + 1) * p
