-- What holds of every log that came from calls, by its listed segments and over its area; f has what was last appended under each id.
-- Assumes nothing.
use mathlib.Core.Bool.{true}
use mathlib.Core.List.{List, [], ◌∷◌}
use mathlib.Core.Path.{◌≡◌, refl}
use Prim.Native.Nat.{ℕ, ◌≤◌, ◌*◌, ◌+◌, ◌^◌, ◌<◌}
use native.Mathlib.Omega.{arith}
use lib.ListN.{length}
use Rattle.seglog.specs.View.{View, empty_of}
use Rattle.seglog.specs.Chain.{slots_apart}
use Rattle.seglog.specs.Fit.{sizes_of}
use Rattle.segment.specs.declared.Segment.{Segment}
use Rattle.segment.specs.Chain.{Chain}
use Rattle.history.proofs.Slots.{Stored}
use Rattle.lists.specs.Distinct.{distinct}

-- the range is (0, 0) and the next segment's id 1 where there is none; else it starts in the first one
abbrev pub Live : ℕ → ℕ → ℕ → List Segment → Type 0
Live s e j [] = (s ≡ 0) × (e ≡ 0) × (j ≡ 1)
Live s e j (g ∷ gs) = (g.min ≤ s) × (s ≤ g.max)

-- the segments go on from one another, their slots are distinct, and each slot begins with its segment's records
pub record Holds (a : View) (area : List ℕ) (f : ℕ → List ℕ) : Type 0 where
  pub sizes : sizes_of a.k a.c a.m ≡ true
  pub all : length area ≡ a.k * a.c
  pub top : a.end + 1 ≤ 2 ^ 64
  -- the first segment's id and its first record's id; the next segment's id
  pub i : ℕ
  pub b : ℕ
  pub j : ℕ
  pub first : 1 ≤ i
  pub low : 1 ≤ b
  pub chain : Chain (Stored area f a.k a.c) i b a.segs j (a.end + 1)
  pub apart : slots_apart a.segs ≡ true
  pub live : Live a.start a.end j a.segs

-- the empty log, whatever the area holds
pub empty_holds : (k c m : ℕ) (area : List ℕ) (f : ℕ → List ℕ) → sizes_of k c m ≡ true → length area ≡ k * c → Holds (empty_of k c m) area f
unfolding distinct
empty_holds k c m area f s l =
    record {
      sizes = s;
      all = l;
      top = omega arith;
      i = 1;
      b = 1;
      j = 1;
      first = omega arith;
      low = omega arith;
      chain = (refl, refl);
      apart = refl;
      live = (refl, refl, refl);
    }

-- where the live end is not 0 there is a segment
pub some-live : (gs : List Segment) (s e j : ℕ) → 0 < e → Live s e j gs → 0 < length gs
some-live [] s e j l h = absurd (omega (arith, h.1))
some-live (g ∷ gs) s e j l h = omega arith
