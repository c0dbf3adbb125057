-- Document 01's list of what a well-shaped log is, with the two rules of document 02's ask 8: a named field for each rule. proofs/Shaped.antt shows that the tests of
-- Fit.antt decide it. Assumes nothing.
use Rattle.std.specs.Prelude.{◌≡◌, ℕ, ◌+◌, ◌-◌, ◌%◌, ◌≤◌, ◌<◌, get_or}
use Rattle.segment.specs.declared.Segment.{Segment}
use Rattle.seglog.specs.declared.Log.{Log}
use Rattle.segment.specs.Segment.{no_segment}

-- the i-th entry of a log
abbrev pub entry : Log → ℕ → Segment
entry l i = get_or l.segs i no_segment

-- "K, C and M obey the rules": K slots of C bytes, soft size M
pub record SizesObey (k c m : ℕ) : Type 0 where
  pub some-slot : 1 ≤ k
  pub few-slots : k ≤ 64
  pub whole-pages : c % 4096 ≡ 0
  pub a-page : 4096 ≤ c
  pub at_most : c ≤ 2147483648
  pub soft : m ≤ c

-- a log is well shaped
pub record WellShaped (l : Log) : Type 0 where
  pub sizes-obey : SizesObey l.k l.c l.m
  pub at-most-k : l.count ≤ l.k
  pub ids-non-zero : (i : ℕ) → i < l.count → 1 ≤ (entry l i).id
  pub ids-rise : (i : ℕ) → i + 1 < l.count → (entry l (i + 1)).id ≡ (entry l i).id + 1
  pub slots-below : (i : ℕ) → i < l.count → (entry l i).slot < l.k
  pub slots-distinct : (i j : ℕ) → i < j → j < l.count → (entry l i).slot ≡ (entry l j).slot → ⊥
  pub sizes-some : (i : ℕ) → i < l.count → 1 ≤ (entry l i).size
  pub sizes-fit : (i : ℕ) → i < l.count → (entry l i).size ≤ l.c
  pub last-size : 0 < l.count → (entry l (l.count - 1)).size % 4096 ≡ 0
  pub mins : (i : ℕ) → i < l.count → 1 ≤ (entry l i).min
  pub min-max : (i : ℕ) → i < l.count → (entry l i).min ≤ (entry l i).max
  pub next-min : (i : ℕ) → i + 1 < l.count → (entry l (i + 1)).min ≡ (entry l i).max + 1
  pub last-max : 0 < l.count → (entry l (l.count - 1)).max ≡ l.end
  pub start-from : 0 < l.count → (entry l 0).min ≤ l.start
  pub start-to : 0 < l.count → l.start ≤ (entry l 0).max
  pub none-start : l.count ≡ 0 → l.start ≡ 0
  pub none_end : l.count ≡ 0 → l.end ≡ 0
  pub newest-pages : (i : ℕ) → i < l.count → (entry l i).newest_at % 4096 ≡ 0
  pub newest-fits : (i : ℕ) → i < l.count → (entry l i).newest_at + 12 ≤ (entry l i).size
  pub unused-zero : (i : ℕ) → l.count ≤ i → i < 64 → entry l i ≡ no_segment
