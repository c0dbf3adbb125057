-- The appends of a sample, one after the other.
-- Assumes nothing.
use mathlib.Core.Path.{◌≡◌, refl, sym, ap, ◌∙◌}
use Prim.Native.Nat.{ℕ, zero, suc, ◌-◌, ◌<◌, ◌≤◌}
use native.Mathlib.Numerals.{sub-one}
use native.Mathlib.Omega.{arith}
use Rattle.samples.specs.Sample.{Sample, abc_to, abcs}

-- a sample is its log and its area
pub sample-same : (s t : Sample) → s.log ≡ t.log → s.area ≡ t.area → s ≡ t
sample-same s t p q = ap (λ l. record { log = l; area = s.area }) p ∙ ap (λ a. record { log = t.log; area = a }) q

-- one append, and one fewer to come
pub abcs-turn : (left : ℕ) (s : Sample) → 0 < left → abcs left s ≡ abcs (left - 1) (abc_to s)
unfolding abcs
abcs-turn zero s h = absurd (omega arith)
abcs-turn (suc n) s h = ap (λ (k : ℕ). abcs k (abc_to s)) (sym (sub-one (suc n)))

-- none to come
pub abcs-none : (left : ℕ) (s : Sample) → left ≤ 0 → abcs left s ≡ s
unfolding abcs
abcs-none zero s h = refl
abcs-none (suc n) s h = absurd (omega arith)
