-- The turns of the loop that moves the kept segments to the front, and closing the last of them, on plain values. Assumes nothing.
use mathlib.Core.Path.{◌≡◌, refl, sym, ap, ◌∙◌}
use mathlib.Core.Bool.{Bool, true, false}
use mathlib.Core.List.{List, [], ◌∷◌, ◌++◌}
use Prim.Native.Nat.{ℕ, suc, ◌+◌, ◌-◌, ◌≤◌, ◌<◌}
use native.Mathlib.Numerals.{add-one}
use native.Mathlib.Omega.{arith}
use lib.ListN.{length, get_or, take, set, replicate, length-append, length-take, get_or-append}
use lib.Seq.{take-suc, take_all}
use Rattle.lists.specs.Choice.{pick}
use Rattle.segment.specs.declared.Segment.{Segment}
use Rattle.seglog.specs.View.{head_of, front_of}
use Rattle.segment.specs.Segment.{no_segment, ended_at}
use Rattle.seglog.proofs.View.{entries_of, set_new, set-head, ends-with}
use Rattle.recovery.specs.declared.kept.Kept.{Kept}
use Rattle.segment.specs.Cut.{truncated_area}
use Rattle.segment.proofs.Cut.{truncated-padded}
use Rattle.recovery_walk.specs.Scan.{live_count}
use Rattle.recovery.specs.Keeping.{holds_live, kept_of, kept_in, ClosePre, CloseDid}

module _ (s e : ℕ) where
  -- one more segment at the end
  pub kept-snoc : (gs : List Segment) (g : Segment)
      → kept_of s e (gs ++ (g ∷ [])) ≡ pick (holds_live s e g) (kept_of s e gs ++ (g ∷ [])) (kept_of s e gs)
  unfolding kept_of
  kept-snoc [] g = refl
  kept-snoc (x ∷ gs) g =
      ap (λ (l : List Segment). pick (holds_live s e x) (x ∷ l) l) (kept-snoc gs g)
      ∙ both (holds_live s e x) (holds_live s e g)
    where
      both : (a b : Bool)
          → pick a (x ∷ pick b (kept_of s e gs ++ (g ∷ [])) (kept_of s e gs)) (pick b (kept_of s e gs ++ (g ∷ [])) (kept_of s e gs))
          ≡ pick b (pick a (x ∷ kept_of s e gs) (kept_of s e gs) ++ (g ∷ [])) (pick a (x ∷ kept_of s e gs) (kept_of s e gs))
      both true true = refl
      both true false = refl
      both false true = refl
      both false false = refl

  -- no more are kept than there are
  pub kept-few : (gs : List Segment) → length (kept_of s e gs) ≤ length gs
  unfolding kept_of
  kept-few [] = omega arith
  kept-few (x ∷ gs) = either (holds_live s e x) (kept-few gs)
    where
      either : (b : Bool) → length (kept_of s e gs) ≤ length gs → length (pick b (x ∷ kept_of s e gs) (kept_of s e gs)) ≤ suc (length gs)
      either true h = omega arith
      either false h = omega arith

-- what the loop keeps of the first i segments
pub record AtKeep (s e : ℕ) (found segs : List Segment) (n i : ℕ) : Type 0 where
  pub upto : i ≤ length found
  pub count : n ≡ length (kept_of s e (take i found))
  pub low : n ≤ i
  pub entries : segs ≡ entries_of (kept_of s e (take i found))

pub keep-start : (s e : ℕ) (found : List Segment) → AtKeep s e found (replicate 64 no_segment) 0 0
unfolding kept_of
keep-start s e found = record { upto = omega arith; count = refl; low = omega arith; entries = refl }

module _ (s e : ℕ) (found segs : List Segment) (n i : ℕ) (few : length found ≤ 64) (at : AtKeep s e found segs n i)
    (more : i < length found) where
  abbrev g : Segment
  g = get_or found i no_segment

  abbrev before : List Segment
  before = kept_of s e (take i found)

  next : kept_of s e (take (i + 1) found) ≡ pick (holds_live s e g) (before ++ (g ∷ [])) before
  next =
      ap (λ (k : ℕ). kept_of s e (take k found)) (add-one i) ∙ ap (kept_of s e) (take-suc found i no_segment more)
      ∙ kept-snoc s e (take i found) g

  -- a segment without a live record
  pub keep-dead : holds_live s e g ≡ false → AtKeep s e found segs n (i + 1)
  keep-dead h =
      let same : kept_of s e (take (i + 1) found) ≡ before = next ∙ ap (λ (b : Bool). pick b (before ++ (g ∷ [])) before) h in
      record {
        upto = omega (arith, more);
        count = at.count ∙ ap length (sym same);
        low = omega (arith, at.low);
        entries = at.entries ∙ ap entries_of (sym same);
      }

  -- one with a live record
  pub keep-live : holds_live s e g ≡ true → AtKeep s e found (set segs n g) (n + 1) (i + 1)
  keep-live h =
      let grown : kept_of s e (take (i + 1) found) ≡ before ++ (g ∷ []) =
      next ∙ ap (λ (b : Bool). pick b (before ++ (g ∷ [])) before) h in
      let room : length before < 64 = omega (arith, at.count, at.low, more, few) in
      record {
        upto = omega (arith, more);
        count = omega (arith, at.count, ap length grown, length-append before (g ∷ []));
        low = omega (arith, at.low);
        entries = ap (λ (l : List Segment). set l n g) at.entries ∙ ap (λ (k : ℕ). set (entries_of before) k g) at.count
            ∙ set_new before g room ∙ ap entries_of (sym grown);
      }

-- the end
pub keep-end : (s e : ℕ) (found segs : List Segment) (n i : ℕ) → length found ≤ i → AtKeep s e found segs n i
    → record { count = n; segs = segs } ≡ kept_in s e found
keep-end s e found segs n i h at =
    let same = ap (kept_of s e) (take_all i found h) in
    let many : n ≡ length (kept_of s e found) = at.count ∙ ap length same in
    let all : segs ≡ entries_of (kept_of s e found) = at.entries ∙ ap entries_of same in
    λ j. record { count = many j; segs = all j }

-- ---- the last kept segment

-- an entry of the array is the segment
pub head-entry : (gs : List Segment) → 0 < length gs → get_or (entries_of gs) (length gs - 1) no_segment ≡ head_of gs
head-entry gs h = get_or-append gs (replicate (64 - length gs) no_segment) no_segment (length gs - 1) (omega arith)

-- a store at it
pub set_last : (gs : List Segment) (x : Segment) → 0 < length gs → set (entries_of gs) (length gs - 1) x ≡ entries_of (front_of gs ++ (x ∷ []))
set_last gs x h =
    let n : length gs - 1 ≡ length (front_of gs) = sym (length-take (length gs - 1) gs ∙ omega arith) in
    ap (λ (k : ℕ). set (entries_of gs) k x) n ∙ ap (λ (l : List Segment). set (entries_of l) (length (front_of gs)) x) (ends-with gs h)
    ∙ set-head (front_of gs) (head_of gs) x

pub count-last : (gs : List Segment) (x : Segment) → 0 < length gs → length gs - 1 + 1 ≡ length (front_of gs ++ (x ∷ []))
count-last gs x h = simp (length-append, length-take) (omega arith)

-- ---- closing, on plain values: the kept segments gs stand in their entries, and the last one is closed at e, from `at` to x

module _ (k c m s e n at x : ℕ) (area : List ℕ) (gs : List Segment) (kept : Kept)
    (is : kept ≡ record { count = length gs; segs = entries_of gs }) (pre : ClosePre c s e n x area gs) where
  abbrev last_entry : Segment
  last_entry = get_or kept.segs (kept.count - 1) no_segment

  last-is : last_entry ≡ head_of gs
  last-is = ap (λ (q : Kept). get_or q.segs (q.count - 1) no_segment) is ∙ head-entry gs pre.some

  -- the log and the area
  pub close-did : (area' : List ℕ) (y : Segment) → y ≡ ended_at last_entry e at x
      → area' ≡ truncated_area area c last_entry.slot last_entry.size x
      → CloseDid k c m s e at x gs area area' (record {
        rows = e - s + 1;
        log = record { k = k; c = c; m = m; start = s; end = e; count = kept.count - 1 + 1; segs = set kept.segs (kept.count - 1) y };
      })
  close-did area' y is_y wrote =
      let z : Segment = ended_at (head_of gs) e at x in
      let same : y ≡ z = is_y ∙ ap (λ (g : Segment). ended_at g e at x) last-is in
      let many : kept.count - 1 + 1 ≡ length (front_of gs ++ (z ∷ [])) =
      ap (λ (q : Kept). q.count - 1 + 1) is ∙ count-last gs z pre.some in
      let put : set kept.segs (kept.count - 1) y ≡ entries_of (front_of gs ++ (z ∷ [])) =
      ap (λ (q : Kept). set q.segs (q.count - 1) y) is ∙ set_last gs y pre.some
      ∙ ap (λ (g : Segment). entries_of (front_of gs ++ (g ∷ []))) same in
      let live : e - s + 1 ≡ live_count s e = omega (arith, pre.range.order) in
      record {
        answer = λ j. record {
          rows = live j;
          log = record { k = k; c = c; m = m; start = s; end = e; count = many j; segs = put j };
        };
        bytes = wrote ∙ ap (λ (g : Segment). truncated_area area c g.slot g.size x) last-is
            ∙ truncated-padded area c x (head_of gs) pre.slot pre.end;
      }
