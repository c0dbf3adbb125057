-- The two forms of a log, the array of 64 entries and the list of its segments: how each gives the other, what a store into the array
-- does to the list, and the first and the last segment. Assumes nothing.
use mathlib.Core.Path.{◌≡◌, refl, sym, ap, ◌∙◌}
use mathlib.Core.List.{List, [], ◌∷◌, ◌++◌, append_assoc}
use mathlib.Core.Bool.{true, ◌&&◌}
use Prim.Native.Nat.{ℕ, zero, suc, ◌-◌, ◌≤◌, ◌<◌}
use native.Mathlib.Omega.{arith}
use lib.ListN.{length, get_or, take, drop, set, replicate, length-append, length-take, length-drop, take-append-drop}
use lib.Seq.{take_at, drop_at, get_or_at, get_or-take, take-suc, take_all, set-append_seam}
use lib.Dec.{leb, eqb}
use borrow.Author.Tests.{le-leb, leb-true, eqb-true}
use Rattle.segment.specs.declared.Segment.{Segment}
use Rattle.seglog.specs.declared.Log.{Log}
use Rattle.seglog.specs.View.{View, log_of, view_of, head_of, front_of, zero_of, zeros_of, plain_of}
use Rattle.segment.specs.Segment.{no_segment}
use Rattle.lists.proofs.Bools.{and_both}

-- ---- from one form to the other

zeros-are : (n : ℕ) → zeros_of (replicate n no_segment) ≡ true
unfolding zeros_of
zeros-are zero = refl
zeros-are (suc n) = zeros-are n

-- the log of a view has zeros in its unused entries
pub plain-log : (a : View) → length a.segs ≤ 64 → plain_of (log_of a) ≡ true
unfolding plain_of
plain-log a h =
    simp (
      le-leb (length a.segs) 64 h,
      drop_at a.segs (replicate (64 - length a.segs) no_segment) (length a.segs) refl,
      zeros-are (64 - length a.segs),
    )

-- the view of a view's log is the view
pub view-log : (a : View) → view_of (log_of a) ≡ a
view-log a =
    ap (λ (gs : List Segment). record { k = a.k; c = a.c; m = a.m; start = a.start; end = a.end; segs = gs })
    (take_at a.segs (replicate (64 - length a.segs) no_segment) (length a.segs) refl)

-- an entry with zeros is the entry of no segment
pub zero-entry : (g : Segment) → zero_of g ≡ true → g ≡ no_segment
zero-entry g h =
    let z = and_both (eqb g.id 0 && eqb g.slot 0 && eqb g.size 0 && eqb g.min 0 && eqb g.max 0) (eqb g.newest_at 0) h in
    let a = and_both (eqb g.id 0 && eqb g.slot 0 && eqb g.size 0 && eqb g.min 0) (eqb g.max 0) z.0 in
    let b = and_both (eqb g.id 0 && eqb g.slot 0 && eqb g.size 0) (eqb g.min 0) a.0 in
    let c = and_both (eqb g.id 0 && eqb g.slot 0) (eqb g.size 0) b.0 in
    let d = and_both (eqb g.id 0) (eqb g.slot 0) c.0 in
    λ i. record {
      id = eqb-true g.id 0 d.0 i;
      slot = eqb-true g.slot 0 d.1 i;
      size = eqb-true g.size 0 c.1 i;
      min = eqb-true g.min 0 b.1 i;
      max = eqb-true g.max 0 a.1 i;
      newest_at = eqb-true g.newest_at 0 z.1 i;
    }

zeros-list : (gs : List Segment) → zeros_of gs ≡ true → gs ≡ replicate (length gs) no_segment
unfolding zeros_of
zeros-list [] h = refl
zeros-list (g ∷ gs) h =
    let t = and_both (zero_of g) (zeros_of gs) h in
    ap (λ (x : Segment). x ∷ gs) (zero-entry g t.0) ∙ ap (λ (l : List Segment). no_segment ∷ l) (zeros-list gs t.1)

-- a log with zeros in its unused entries is the log of its view
pub log-view : (l : Log) → length l.segs ≡ 64 → plain_of l ≡ true → log_of (view_of l) ≡ l
unfolding plain_of
log-view l n h =
    let t = and_both (leb l.count 64) (zeros_of (drop l.count l.segs)) h in
    let few : l.count ≤ 64 = leb-true l.count 64 t.0 in
    let count : length (take l.count l.segs) ≡ l.count = length-take l.count l.segs ∙ omega arith in
    let left : length (drop l.count l.segs) ≡ 64 - l.count = length-drop l.count l.segs ∙ omega arith in
    let rest : replicate (64 - length (take l.count l.segs)) no_segment ≡ drop l.count l.segs =
    ap (λ (k : ℕ). replicate (64 - k) no_segment) count
    ∙ sym (zeros-list (drop l.count l.segs) t.1 ∙ ap (λ (k : ℕ). replicate k no_segment) left) in
    let segs : take l.count l.segs ++ replicate (64 - length (take l.count l.segs)) no_segment ≡ l.segs =
    ap (λ (x : List Segment). take l.count l.segs ++ x) rest ∙ take-append-drop l.count l.segs in
    λ i. record { k = l.k; c = l.c; m = l.m; start = l.start; end = l.end; count = count i; segs = segs i }

-- ---- stores

-- a list of segments as the entries of a log
abbrev pub entries_of : List Segment → List Segment
entries_of gs = gs ++ replicate (64 - length gs) no_segment

-- a store at the last segment
pub set-head : (hs : List Segment) (g x : Segment) → set (entries_of (hs ++ (g ∷ []))) (length hs) x ≡ entries_of (hs ++ (x ∷ []))
set-head hs g x =
    let n : length (hs ++ (g ∷ [])) ≡ length (hs ++ (x ∷ [])) = length-append hs (g ∷ []) ∙ sym (length-append hs (x ∷ [])) in
    let rest : List Segment = replicate (64 - length (hs ++ (g ∷ []))) no_segment in
    ap (λ (l : List Segment). set l (length hs) x) (append_assoc hs (g ∷ []) rest) ∙ set-append_seam hs g rest x
    ∙ ap (λ (k : ℕ). hs ++ (x ∷ replicate (64 - k) no_segment)) n
    ∙ sym (append_assoc hs (x ∷ []) (replicate (64 - length (hs ++ (x ∷ []))) no_segment))

-- a store right behind the last segment
pub set_new : (gs : List Segment) (x : Segment) → length gs < 64 → set (entries_of gs) (length gs) x ≡ entries_of (gs ++ (x ∷ []))
set_new gs x h =
    let n : 64 - length gs ≡ suc (64 - length (gs ++ (x ∷ []))) = omega (arith, length-append gs (x ∷ [])) in
    let rest : List Segment = replicate (64 - length (gs ++ (x ∷ []))) no_segment in
    ap (λ (k : ℕ). set (gs ++ replicate k no_segment) (length gs) x) n ∙ set-append_seam gs no_segment rest x
    ∙ sym (append_assoc gs (x ∷ []) rest)

-- ---- the last segment

-- segments are the front and the head
pub ends-with : (gs : List Segment) → 0 < length gs → gs ≡ front_of gs ++ (head_of gs ∷ [])
ends-with gs h =
    let back : suc (length gs - 1) ≡ length gs = omega arith in
    sym (take_all (length gs) gs (omega arith)) ∙ ap (λ (n : ℕ). take n gs) (sym back)
    ∙ take-suc gs (length gs - 1) no_segment (omega arith)

-- what stands before the last of a list
pub front-snoc : (gs : List Segment) (g : Segment) → front_of (gs ++ (g ∷ [])) ≡ gs
front-snoc gs g =
    let n : length (gs ++ (g ∷ [])) - 1 ≡ length gs = rw length-append (omega arith) in
    ap (λ (k : ℕ). take k (gs ++ (g ∷ []))) n ∙ take_at gs (g ∷ []) (length gs) refl

-- the last of a list
pub head-snoc : (gs : List Segment) (g : Segment) → head_of (gs ++ (g ∷ [])) ≡ g
head-snoc gs g =
    let n : length (gs ++ (g ∷ [])) - 1 ≡ length gs = rw length-append (omega arith) in
    ap (λ (k : ℕ). get_or (gs ++ (g ∷ [])) k no_segment) n ∙ get_or_at gs g [] no_segment (length gs) refl

-- ---- the listed segments, read in the array

module _ (n : ℕ) (gs : List Segment) (long : length gs ≡ 64) (few : n ≤ 64) where
  -- there are as many as the count
  pub listed-length : length (take n gs) ≡ n
  listed-length = length-take n gs ∙ omega arith

  -- each is the array's entry
  pub listed_at : (i : ℕ) → i < n → get_or (take n gs) i no_segment ≡ get_or gs i no_segment
  listed_at i h = get_or-take n gs i no_segment h

  -- the last one
  pub listed-head : 0 < n → head_of (take n gs) ≡ get_or gs (n - 1) no_segment
  listed-head h =
      ap (λ (k : ℕ). get_or (take n gs) (k - 1) no_segment) listed-length ∙ listed_at (n - 1) (omega arith)
