-- Which segments go: those at the front whose max is below, and those at the back whose min is above, counted as the code counts them, and one
-- by one; and entries that are moved and cleared one by one.
-- Assumes nothing.
use mathlib.Core.Path.{◌≡◌, refl, sym, ap, ◌∙◌}
use mathlib.Core.Bool.{Bool, true, false}
use mathlib.Core.List.{List, [], ◌∷◌, ◌++◌, append-nil, reverse}
use Prim.Native.Nat.{ℕ, suc, ◌+◌, ◌-◌, ◌≤◌, ◌<◌, min}
use native.Mathlib.Nat.{zero-add, add-zero}
use native.Mathlib.Numerals.{add-one}
use native.Mathlib.Omega.{arith}
use lib.ListN.{length, get_or, set, take, drop, replicate, length-append, length-drop, length-replicate, get_or-replicate}
use lib.ListN.{drop_of_length-le, take-append-drop}
use lib.Seq.{take_all, take_at, take-nil, drop-nil, take-append-le, drop-cons, take-suc, get_or-drop, paste}
use lib.Dec.{ltb}
use borrow.Author.Tests.{lt-ltb, le-ltb}
use Rattle.std.specs.List.{prefix_len}
use Rattle.std.proofs.lemmas.List.{reverse-append, reverse-reverse, length-reverse}
use Rattle.lists.specs.Choice.{pick}
use Rattle.lists.proofs.SpliceWrites.{paste-turn}
use Rattle.segment.specs.declared.Segment.{Segment}
use Rattle.segment.specs.Segment.{no_segment}
use Rattle.seglog_prune.specs.Drop.{drop_old, keep_at, drop_new}

-- ---- prune oldest: from the first segment on

-- how many segments at the front have a max below n
abbrev pub below : ℕ → List Segment → ℕ
below n gs = prefix_len (λ (g : Segment). ltb g.max n) gs

-- these go, but for the last of all
pub old-leading : (n : ℕ) (gs : List Segment) (k : ℕ) → k ≡ min (below n gs) (length gs - 1) → drop_old n gs ≡ drop k gs
unfolding drop_old
old-leading n [] k e = sym (drop-nil k)
old-leading n (g ∷ []) k e = let none : k ≡ 0 = omega arith in ap (λ (j : ℕ). drop j (g ∷ [])) (sym none)
old-leading n (g ∷ h ∷ gs) k e = go (ltb g.max n) refl (old-leading n (h ∷ gs) (min (below n (h ∷ gs)) (length (h ∷ gs) - 1)) refl)
  where
    j : ℕ
    j = min (below n (h ∷ gs)) (length (h ∷ gs) - 1)

    go : (t : Bool) → ltb g.max n ≡ t → drop_old n (h ∷ gs) ≡ drop j (h ∷ gs)
        → pick t (drop_old n (h ∷ gs)) (g ∷ h ∷ gs) ≡ drop k (g ∷ h ∷ gs)
    go true q later =
        let first = rw q at e in
        let one : k ≡ suc j = omega arith in
        later ∙ ap (λ (i : ℕ). drop i (g ∷ h ∷ gs)) (sym one)
    go false q later =
        let first = rw q at e in
        let none : k ≡ 0 = omega arith in
        ap (λ (j : ℕ). drop j (g ∷ h ∷ gs)) (sym none)

-- a single segment stays, and so does none
old-short : (n : ℕ) (gs : List Segment) → length gs ≤ 1 → drop_old n gs ≡ gs
unfolding drop_old
old-short n [] h = refl
old-short n (g ∷ []) h = refl
old-short n (g ∷ x ∷ gs) h = absurd (omega arith)

module _ (n : ℕ) (gs : List Segment) (i : ℕ) where
  -- the segments from i on are i and those from i + 1 on
  from_next : i < length gs → drop i gs ≡ get_or gs i no_segment ∷ drop (i + 1) gs
  from_next h = drop-cons gs i no_segment h ∙ ap (λ (k : ℕ). get_or gs i no_segment ∷ drop k gs) (sym (add-one i))

  two : i + 1 < length gs → drop i gs ≡ get_or gs i no_segment ∷ get_or gs (i + 1) no_segment ∷ drop (suc (i + 1)) gs
  two h = from_next (omega arith) ∙ ap (λ (l : List Segment). get_or gs i no_segment ∷ l) (drop-cons gs (i + 1) no_segment h)

  -- a segment whose max is below n goes, where another follows
  pub old-on : i + 1 < length gs → (get_or gs i no_segment).max < n → drop_old n (drop i gs) ≡ drop_old n (drop (i + 1) gs)
  unfolding drop_old
  old-on h low =
      ap (drop_old n) (two h) ∙ simp (lt-ltb (get_or gs i no_segment).max n low)
      (ap (drop_old n) (sym (drop-cons gs (i + 1) no_segment h)))

  -- one whose max is n or above stays, and so do all behind it
  pub old-stay : i + 1 < length gs → n ≤ (get_or gs i no_segment).max → drop_old n (drop i gs) ≡ drop i gs
  unfolding drop_old
  old-stay h high = ap (drop_old n) (two h) ∙ simp (le-ltb (get_or gs i no_segment).max n high) (sym (two h))

  -- the last one stays
  pub old-last : length gs ≤ i + 1 → drop_old n (drop i gs) ≡ drop i gs
  old-last h = old-short n (drop i gs) (rw length-drop (omega arith))

-- ---- prune recent: from the last segment down

keep_some : (n : ℕ) (h g : Segment) (hs : List Segment) → keep_at n h (hs ++ (g ∷ [])) ≡ h ∷ (hs ++ (g ∷ []))
keep_some n h g [] = refl
keep_some n h g (x ∷ hs) = refl

-- the last segment decides, where it stays
new-snoc : (n : ℕ) (gs : List Segment) (g : Segment) → drop_new n (gs ++ (g ∷ [])) ≡ pick (ltb n g.min) (drop_new n gs) (gs ++ (g ∷ []))
unfolding drop_new
new-snoc n [] g = refl
new-snoc n (h ∷ hs) g = ap (keep_at n h) (new-snoc n hs g) ∙ go (ltb n g.min)
  where
    go : (t : Bool) → keep_at n h (pick t (drop_new n hs) (hs ++ (g ∷ []))) ≡ pick t (keep_at n h (drop_new n hs)) (h ∷ (hs ++ (g ∷ [])))
    go true = refl
    go false = keep_some n h g hs

-- how many segments from the first on have a min above n
abbrev pub above : ℕ → List Segment → ℕ
above n gs = prefix_len (λ (g : Segment). ltb n g.min) gs

-- of segments told from the last one down, these go
new-back : (n : ℕ) (rs : List Segment) → drop_new n (reverse rs) ≡ take (length rs - above n rs) (reverse rs)
unfolding drop_new
new-back n [] = sym (take-nil (length {A = Segment} [] - above n []))
new-back n (g ∷ rs) =
    ap (drop_new n) turned ∙ new-snoc n (reverse rs) g ∙ go (ltb n g.min) refl (new-back n rs)
    ∙ ap (take (length (g ∷ rs) - above n (g ∷ rs))) (sym turned)
  where
    turned : reverse (g ∷ rs) ≡ reverse rs ++ (g ∷ [])
    turned = reverse-append (g ∷ []) rs

    go : (t : Bool) → ltb n g.min ≡ t → drop_new n (reverse rs) ≡ take (length rs - above n rs) (reverse rs)
        → pick t (drop_new n (reverse rs)) (reverse rs ++ (g ∷ [])) ≡ take (length (g ∷ rs) - above n (g ∷ rs)) (reverse rs ++ (g ∷ []))
    go true q later =
        let left : ℕ = length rs - above n rs in
        let same : length (g ∷ rs) - above n (g ∷ rs) ≡ left = rw q (omega arith) in
        later ∙ sym (take-append-le left (reverse rs) (g ∷ []) (omega (arith, length-reverse rs)))
        ∙ ap (λ (k : ℕ). take k (reverse rs ++ (g ∷ []))) (sym same)
    go false q later =
        let all : length (g ∷ rs) - above n (g ∷ rs) ≡ suc (length rs) = rw q (omega arith) in
        sym (take_all _ (reverse rs ++ (g ∷ [])) (omega (arith, all, length-append (reverse rs) (g ∷ []), length-reverse rs)))

-- those at the back whose min is above n go
pub new-trailing : (n : ℕ) (gs : List Segment) → drop_new n gs ≡ take (length gs - above n (reverse gs)) gs
new-trailing n gs =
    ap (drop_new n) (sym (reverse-reverse gs)) ∙ new-back n (reverse gs)
    ∙ ap (take (length (reverse gs) - above n (reverse gs))) (reverse-reverse gs)
    ∙ ap (λ (k : ℕ). take (k - above n (reverse gs)) gs) (length-reverse gs)

module _ (n : ℕ) (gs : List Segment) (left : ℕ) (some : 0 < left) (within : left ≤ length gs) where
  abbrev last : Segment
  last = get_or gs (left - 1) no_segment

  ends : take left gs ≡ take (left - 1) gs ++ (last ∷ [])
  ends =
      let back : left ≡ suc (left - 1) = omega arith in
      ap (λ (k : ℕ). take k gs) back ∙ take-suc gs (left - 1) no_segment (omega arith)

  -- a segment whose min is above n goes
  pub new-on : n < last.min → drop_new n (take left gs) ≡ drop_new n (take (left - 1) gs)
  new-on high = ap (drop_new n) ends ∙ new-snoc n (take (left - 1) gs) last ∙ simp (lt-ltb n last.min high)

  -- one whose min is not stays, and so do all before it
  pub new-stay : last.min ≤ n → drop_new n (take left gs) ≡ take left gs
  new-stay low = ap (drop_new n) ends ∙ new-snoc n (take (left - 1) gs) last ∙ simp (le-ltb n last.min low) (sym ends)

-- none is left
pub new_none : (n : ℕ) (gs : List Segment) (left : ℕ) → left ≡ 0 → drop_new n (take left gs) ≡ []
unfolding drop_new
new_none n gs left e = ap (λ (k : ℕ). drop_new n (take k gs)) e

-- ---- the entries, moved and cleared one by one

module _ (w : ℕ) (segs : List Segment) (long : length segs ≡ w) (first : ℕ) (within : first ≤ w) where
  -- one entry more is moved to the front
  pub shift-turn : (out : List Segment) (i : ℕ) → i < w - first → out ≡ paste segs 0 (drop first segs) i
      → set out i (get_or segs (first + i) no_segment) ≡ paste segs 0 (drop first segs) (i + 1)
  shift-turn out i h e =
      let there : get_or (drop first segs) i no_segment ≡ get_or segs (first + i) no_segment = get_or-drop first segs i no_segment in
      ap (λ (x : Segment). set out i x) (sym there) ∙ ap (λ (j : ℕ). set out j (get_or (drop first segs) i no_segment)) (sym (zero-add i))
      ∙ paste-turn out segs (drop first segs) 0 i no_segment (omega arith) (rw length-drop (omega arith)) e

  -- all are moved: the entries from `first` on stand at the front
  pub shift-end : (i : ℕ) → w - first ≤ i → i ≤ w - first → take (w - first) (paste segs 0 (drop first segs) i) ≡ drop first segs
  shift-end i low high =
      let all : length (drop first segs) ≡ w - first = length-drop first segs ∙ omega arith in
      let whole : take i (drop first segs) ≡ drop first segs = take_all i (drop first segs) (omega arith) in
      ap (λ (l : List Segment). take (w - first) (l ++ drop (0 + i) segs)) whole
      ∙ take_at (drop first segs) (drop (0 + i) segs) (w - first) all

  -- one entry more is cleared
  pub clear-turn : (out : List Segment) (i : ℕ) → i < w - first → out ≡ paste segs first (replicate (w - first) no_segment) i
      → set out (first + i) no_segment ≡ paste segs first (replicate (w - first) no_segment) (i + 1)
  clear-turn out i h e =
      ap (λ (x : Segment). set out (first + i) x) (sym (get_or-replicate (w - first) i no_segment no_segment h))
      ∙ paste-turn out segs (replicate (w - first) no_segment) first i no_segment (omega arith) (rw length-replicate h) e

  -- all are cleared
  pub clear-end : (i : ℕ) → w - first ≤ i → i ≤ w - first
      → paste segs first (replicate (w - first) no_segment) i ≡ take first segs ++ replicate (w - first) no_segment
  clear-end i low high =
      let zeros : List Segment = replicate (w - first) no_segment in
      let all : length zeros ≡ w - first = length-replicate (w - first) no_segment in
      rw (take_all i zeros (omega arith), drop_of_length-le segs {i = first + i} (omega arith)) (append-nil (take first segs ++ zeros))

-- none is moved, none is cleared
pub paste_none : (segs xs : List Segment) (at : ℕ) → segs ≡ paste segs at xs 0
paste_none segs xs at = sym (ap (λ (l : List Segment). l ++ drop (at + 0) segs) (append-nil (take at segs))
    ∙ ap (λ (k : ℕ). take at segs ++ drop k segs) (add-zero at) ∙ take-append-drop at segs)
