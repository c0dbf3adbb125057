-- Segments as a walk sees them that stops at e: up to e, and nothing of those behind it. What is kept of them is what is kept of the
-- segments.
-- Assumes nothing.
use mathlib.Core.Bool.{true, Bool, false, ◌&&◌, and-false}
use mathlib.Core.List.{List, [], ◌∷◌, ◌++◌, map}
use mathlib.Core.Path.{◌≡◌, refl, sym, ap, ◌∙◌}
use Prim.Native.Nat.{ℕ, min, ◌+◌, ◌-◌, ◌≤◌, ◌<◌}
use native.Mathlib.Omega.{arith}
use lib.Dec.{leb}
use lib.ListN.{length}
use borrow.Author.Tests.{le-leb, lt-leb}
use Rattle.lists.specs.Choice.{pick}
use Rattle.lists.proofs.Cases.{by_order}
use Rattle.segment.specs.declared.Segment.{Segment}
use Rattle.segment.specs.Chain.{Chain}
use Rattle.segment.proofs.Chain.{chain-le}
use Rattle.walk.specs.Records.{records_from}
use Rattle.recovery.specs.Keeping.{holds_live, kept_of}

-- where the last record up to e of a segment starts
abbrev pub last_to : (ℕ → List ℕ) → ℕ → Segment → ℕ
last_to f e g = length (records_from f g.min (min g.max e - g.min))

-- a segment as a walk sees it that stops at e: up to e, and nothing of one behind it
abbrev pub read_to : (ℕ → List ℕ) → ℕ → Segment → Segment
read_to f e g = record {
  id = g.id;
  slot = g.slot;
  size = g.size;
  min = pick (leb g.min e) g.min 0;
  max = pick (leb g.min e) (min g.max e) 0;
  newest_at = pick (leb g.min e) (last_to f e g) 0;
}

-- one that ends not behind e is seen as it is
pub read_whole : (f : ℕ → List ℕ) (e : ℕ) (g : Segment) → g.min ≤ g.max → g.max ≤ e
    → g.newest_at ≡ length (records_from f g.min (g.max - g.min)) → read_to f e g ≡ g
read_whole f e g l h newest =
    let yes : leb g.min e ≡ true = le-leb g.min e (omega arith) in
    let lo : pick (leb g.min e) g.min 0 ≡ g.min = simp yes in
    let hi : pick (leb g.min e) (min g.max e) 0 ≡ g.max = simp yes (omega arith) in
    let all : min g.max e ≡ g.max = omega arith in
    let at : pick (leb g.min e) (last_to f e g) 0 ≡ g.newest_at =
    simp yes (ap (λ (j : ℕ). length (records_from f g.min (j - g.min))) all ∙ sym newest) in
    λ i. record { id = g.id; slot = g.slot; size = g.size; min = lo i; max = hi i; newest_at = at i }

-- so are the first of segments that end not behind e, each of whose newest records starts where f says
pub read-front : (P : Segment → Type 0) (f : ℕ → List ℕ) (e : ℕ) (hs gs : List Segment) (i b j t : ℕ) → Chain P i b (hs ++ gs) j t
    → t ≤ e + 1
    → ((g : Segment) → g.min ≤ g.max → g.max ≤ e → P g → g.newest_at ≡ length (records_from f g.min (g.max - g.min)))
    → map (read_to f e) hs ≡ hs
read-front P f e [] gs i b j t h l newest = refl
read-front P f e (g ∷ hs) gs i b j t h l newest =
    let up = chain-le P (hs ++ gs) (i + 1) (g.max + 1) j t h.1 in
    let order : g.min ≤ g.max = omega (arith, h.0.min, h.0.order) in
    let one : read_to f e g ≡ g = read_whole f e g order (omega arith) (newest g order (omega arith) h.0.good) in
    let more : map (read_to f e) hs ≡ hs = read-front P f e hs gs (i + 1) (g.max + 1) j t h.1 l newest in
    λ k. one k ∷ more k

-- it is seen to hold a live record where it does
read-holds : (f : ℕ → List ℕ) (s e : ℕ) (g : Segment) → 0 < s → s ≤ e → holds_live s e (read_to f e g) ≡ holds_live s e g
unfolding holds_live
read-holds f s e g some order =
    let by : Bool → Bool = λ b. leb (pick b g.min 0) e && leb s (pick b (min g.max e) 0) in
    by_order g.min e
    (λ l. ap by (le-leb g.min e l) ∙ ap (λ (b : Bool). leb g.min e && b) (under g.max))
    (λ l.
    let no : leb g.min e ≡ false = lt-leb g.min e l in
    ap by no ∙ ap (λ (b : Bool). leb 0 e && b) (lt-leb s 0 some) ∙ and-false (leb 0 e)
    ∙ sym (ap (λ (b : Bool). b && leb s g.max) no))
  where
    under : (n : ℕ) → leb s (min n e) ≡ leb s n
    under n =
        by_order s n (λ l. le-leb s (min n e) (omega arith) ∙ sym (le-leb s n l))
        (λ l. lt-leb s (min n e) (omega arith) ∙ sym (lt-leb s n l))

-- so the same are kept
pub kept_read : (f : ℕ → List ℕ) (s e : ℕ) (gs : List Segment) → 0 < s → s ≤ e → kept_of s e (map (read_to f e) gs) ≡ map (read_to f e) (kept_of s e gs)
unfolding kept_of
kept_read f s e [] some order = refl
kept_read f s e (g ∷ gs) some order =
    ap (λ (b : Bool). pick b (read_to f e g ∷ kept_of s e (map (read_to f e) gs)) (kept_of s e (map (read_to f e) gs))) (read-holds f s e g some order)
    ∙ go (holds_live s e g) (kept_read f s e gs some order)
  where
    go : (b : Bool) → kept_of s e (map (read_to f e) gs) ≡ map (read_to f e) (kept_of s e gs)
        → pick b (read_to f e g ∷ kept_of s e (map (read_to f e) gs)) (kept_of s e (map (read_to f e) gs))
        ≡ map (read_to f e) (pick b (g ∷ kept_of s e gs) (kept_of s e gs))
    go true ih = ap (λ (l : List Segment). read_to f e g ∷ l) ih
    go false ih = ih
