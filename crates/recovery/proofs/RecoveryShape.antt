-- Every accepted recovery is well shaped, whatever bytes the images hold. Assumes nothing.
use mathlib.Core.Path.{◌≡◌, refl, sym, ap, subst, ◌∙◌}
use mathlib.Core.Bool.{true}
use mathlib.Core.List.{List, [], ◌∷◌, ◌++◌, map}
use Prim.Native.Nat.{ℕ, ◌+◌, ◌%◌, ◌≤◌}
use native.Mathlib.Omega.{arith}
use lib.ListN.{length, length-map, get_or}
use borrow.Author.Tests.{eq-eqb, le-leb}
use Rattle.segment.specs.declared.Segment.{Segment}
use Rattle.seglog.specs.View.{head_of, front_of}
use Rattle.seglog.specs.Chain.{ends_of, slots_apart}
use Rattle.seglog.specs.Fit.{sizes_of, shaped_of}
use Rattle.lists.proofs.Bools.{and_both, both-and}
use Rattle.lists.proofs.Cases.{pick-either}
use Rattle.seglog.proofs.Fit.{chain-below}
use Rattle.seglog.proofs.Chain.{chain-passes}
use Rattle.seglog.proofs.View.{front-snoc, head-snoc}
use Rattle.segment.specs.declared.ImageRow.{ImageRow}
use Rattle.walk.specs.declared.Scan.{Scan}
use Rattle.recovery_walk.specs.Images.{walked, images}
use Rattle.recovery_walk.proofs.Images.{walked_same, first-walked}
use Rattle.lists.specs.Distinct.{fresh, distinct}
use Rattle.lists.proofs.Distinct.{fresh-cons, cons-fresh, distinct_more, snoc-distinct, pigeons, distinct-keys}
use Rattle.image_rows.specs.ImageRows.{rows_apart}
use Rattle.recovery.specs.Keeping.{holds_live, kept_of, closed_view}
use Rattle.segment.specs.Segment.{no_segment, ended_at, slot_number}
use Rattle.segment.specs.Chain.{Chain, InSlot}
use Rattle.segment.proofs.Chain.{chain_more}
use Rattle.recovery.proofs.ImagesWalked.{HeadGood}
use Rattle.recovery.proofs.KeepingCut.{Whole}

-- ---- slots: those of the rows

-- each segment has its row's slot
abbrev pub SlotsOf : List ImageRow → List Segment → Type 0
SlotsOf rs gs = map slot_number gs ≡ map (λ r. r.slot) rs

-- an accepted walk gives a segment for each row
pub images-slots : (area : List ℕ) (c s e : ℕ) (rs : List ImageRow) (w d : Scan) (gs : List Segment)
    → images area c s e rs w ≡ walked d gs → SlotsOf rs gs
unfolding images
images-slots area c s e [] w d gs q = subst (SlotsOf []) (walked_same q).1 refl
images-slots area c s e (r ∷ rs) w d gs q =
    let f = first-walked area c s e r w rs d gs q in
    subst (SlotsOf (r ∷ rs)) (sym f.segments)
    (ap (λ (l : List ℕ). r.slot ∷ l) (images-slots area c s e rs f.state d f.later f.on))

pub slots_length : (rs : List ImageRow) (gs : List Segment) → SlotsOf rs gs → length gs ≡ length rs
slots_length rs gs h = sym (length-map gs slot_number) ∙ ap length h ∙ length-map rs (λ r. r.slot)

pub slots_apart_lem : (rs : List ImageRow) (gs : List Segment) → SlotsOf rs gs → slots_apart gs ≡ rows_apart rs
slots_apart_lem rs gs h = distinct-keys slot_number gs ∙ ap (distinct (λ m. m)) h ∙ sym (distinct-keys (λ r. r.slot) rs)

-- what is kept has slots of its own
kept_fresh : (s e x : ℕ) (gs : List Segment) → fresh slot_number x gs ≡ true → fresh slot_number x (kept_of s e gs) ≡ true
unfolding kept_of
kept_fresh s e x [] h = h
kept_fresh s e x (g ∷ gs) h =
    let t = fresh-cons slot_number x g gs h in
    let rest = kept_fresh s e x gs t.rest in
    pick-either (λ (l : List Segment). fresh slot_number x l ≡ true) (holds_live s e g) (g ∷ kept_of s e gs) (kept_of s e gs)
    (λ q. cons-fresh slot_number x g (kept_of s e gs) (record { here = t.here; rest = rest })) (λ q. rest)

pub kept-apart : (s e : ℕ) (gs : List Segment) → slots_apart gs ≡ true → slots_apart (kept_of s e gs) ≡ true
unfolding kept_of distinct
kept-apart s e [] h = h
kept-apart s e (g ∷ gs) h =
    let t = and_both (fresh slot_number g.slot gs) (slots_apart gs) h in
    let rest = kept-apart s e gs t.1 in
    pick-either (λ (l : List Segment). slots_apart l ≡ true) (holds_live s e g) (g ∷ kept_of s e gs) (kept_of s e gs)
    (λ q. both-and _ _ (kept_fresh s e g.slot gs t.0) rest) (λ q. rest)

-- another last segment in the same slot
last_apart : (hs : List Segment) (g x : Segment) → x.slot ≡ g.slot → slots_apart (hs ++ (g ∷ [])) ≡ true
    → slots_apart (hs ++ (x ∷ [])) ≡ true
last_apart hs g x q h =
    let t = snoc-distinct slot_number hs g h in distinct_more slot_number hs x t.0 (ap (λ (y : ℕ). fresh slot_number y hs) q ∙ t.1)

-- ---- the log

-- the first segment holds s, the last one ends with e and a page
closed-ends : (P : Segment → Type 0) (i b s e at x : ℕ) (hs : List Segment) (g : Segment) → Chain P i b hs g.id g.min → b ≤ s
    → s ≤ (get_or (hs ++ (g ∷ [])) 0 no_segment).max → s ≤ e → x % 4096 ≡ 0 → ends_of s e (hs ++ (ended_at g e at x ∷ [])) ≡ true
unfolding ends_of
closed-ends P i b s e at x [] g h low high order whole =
    simp (le-leb g.min s (omega (arith, h.1)), le-leb s e order, eq-eqb (x % 4096) 0 whole, eq-eqb e e refl)
closed-ends P i b s e at x (y ∷ hs) g h low high order whole =
    let last : head_of (y ∷ hs ++ (ended_at g e at x ∷ [])) ≡ ended_at g e at x = head-snoc (y ∷ hs) (ended_at g e at x) in
    simp (
      le-leb y.min s (omega (arith, h.0.min)),
      le-leb s y.max high,
      eq-eqb ((head_of (y ∷ hs ++ (ended_at g e at x ∷ []))).size % 4096) 0 (ap (λ (z : Segment). z.size % 4096) last ∙ whole),
      eq-eqb (head_of (y ∷ hs ++ (ended_at g e at x ∷ []))).max e (ap (λ (z : Segment). z.max) last),
    )

-- the front of kept segments and the head closed at e
closed_same : (e at x : ℕ) (gs hs : List Segment) (g : Segment) → gs ≡ hs ++ (g ∷ [])
    → front_of gs ++ (ended_at (head_of gs) e at x ∷ []) ≡ hs ++ (ended_at g e at x ∷ [])
closed_same e at x gs hs g q =
    ap (λ (l : List Segment). front_of l ++ (ended_at (head_of l) e at x ∷ [])) q
    ∙ ap (λ (l : List Segment). l ++ (ended_at (head_of (hs ++ (g ∷ []))) e at x ∷ [])) (front-snoc hs g)
    ∙ ap (λ (z : Segment). hs ++ (ended_at z e at x ∷ [])) (head-snoc hs g)

-- the kept segments of an accepted walk, the last one closed at e: a well-shaped log
pub closed-shaped : (k c m s e i at x : ℕ) (gs : List Segment) → sizes_of k c m ≡ true → 1 ≤ i → s ≤ e → Whole s e (InSlot k c) i gs
    → HeadGood c at x → slots_apart gs ≡ true → shaped_of (closed_view k c m s e at x gs) ≡ true
unfolding shaped_of
closed-shaped k c m s e i at x gs sizes some_id order w x-good apart =
    let hs = w.cut.hs in
    let g = w.cut.g in
    let ys : List Segment = hs ++ (ended_at g e at x ∷ []) in
    let closed : Chain (InSlot k c) w.j w.b ys (g.id + 1) (e + 1) =
    chain_more (InSlot k c) hs (ended_at g e at x) w.j w.b w.cut.left w.cut.low
    (record {
      slot = w.cut.good.slot;
      some = omega (arith, x-good.newest.header);
      size = x-good.fits;
      newest = x-good.newest;
    }) in
    let chain = chain-passes k c ys w.j w.b (g.id + 1) (e + 1) (omega (arith, w.from)) w.some closed in
    let own : slots_apart ys ≡ true = last_apart hs g (ended_at g e at x) refl (ap slots_apart (sym w.cut.is) ∙ apart) in
    let few : length ys ≤ k = pigeons slot_number k ys own (chain-below k c ys chain) in
    let high = subst (λ (l : List Segment). s ≤ (get_or l 0 no_segment).max) w.cut.is w.start-high in
    let ends = closed-ends (InSlot k c) w.j w.b s e at x hs g w.cut.left w.start-low high order x-good.whole in
    subst (λ (l : List Segment). shaped_of (record { k = k; c = c; m = m; start = s; end = e; segs = l }) ≡ true)
    (sym (closed_same e at x gs hs g w.cut.is)) (simp (sizes, le-leb (length ys) k few, chain, own, ends))
