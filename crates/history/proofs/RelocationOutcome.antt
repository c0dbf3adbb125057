-- Two recoveries over the same images, wherever they lie, refuse alike, or leave logs and index rows that differ in places alone.
-- Assumes nothing.
use mathlib.Core.Bool.{Bool, true, false, not}
use mathlib.Core.List.{List, [], ◌∷◌, ◌++◌, map, map-append}
use mathlib.Core.Path.{◌≡◌, refl, ap, sym, subst, ◌∙◌}
use Prim.Native.Nat.{ℕ, zero, suc, ◌+◌, ◌-◌, ◌*◌, ◌≤◌, ◌<◌}
use native.Mathlib.Omega.{arith}
use lib.Dec.{eqb, ltb}
use lib.ListN.{length, get_or, take, drop, length-append, length-map, length-take, get_or-map}
use Rattle.lists.specs.Choice.{pick}
use Rattle.lists.specs.Outcome.{Outcome, refused, done}
use Rattle.lists.proofs.Bools.{zero-is-not-one}
use Rattle.segment.specs.declared.Segment.{Segment}
use Rattle.segment.specs.declared.ImageRow.{ImageRow}
use Rattle.segment.specs.Segment.{no_segment, ended_at, padded_to}
use Rattle.seglog.specs.View.{View, empty_of, head_of, front_of}
use Rattle.seglog.specs.New.{roomy_of}
use Rattle.seglog.proofs.View.{head-snoc}
use Rattle.image_rows.specs.ImageRows.{sort_rows, rows_fit, lowest_zero, one_apart}
use Rattle.walk.specs.declared.Scan.{Scan}
use Rattle.walk.specs.Judging.{start_of}
use Rattle.recovery_walk.specs.Images.{Found, walked, images, row_at}
use Rattle.recovery_walk.specs.Rows.{rows_all, pen_of}
use Rattle.recovery_walk.specs.Scan.{scan_of, judged, live_count}
use Rattle.recovery_walk.proofs.Images.{first-walked, walked_same}
use Rattle.recovery.specs.Recovery.{Recovery, recovered, recovery_of, one_zero, scanned, outcome_of}
use Rattle.recovery.specs.Keeping.{kept_of, holds_live}
use Rattle.history.specs.Demand.{row_for, rows_for}
use Rattle.history.specs.Relocation.{images_of, placeless, SameImages}
use Rattle.history.proofs.RelocationWalk.{Moved, no-row, walk_same, placeless_walk, rows-moved, lowest-same, apart-same}

-- ---- segments without slots

map-take : {A B : Type 0} (f : A → B) (n : ℕ) (l : List A) → map f (take n l) ≡ take n (map f l)
map-take f zero l = refl
map-take f (suc n) [] = refl
map-take {B = B} f (suc n) (x ∷ l) = ap (λ (r : List B). f x ∷ r) (map-take f n l)

-- the kept segments are those that hold a live record, whatever the slots
kept-placeless : (s e : ℕ) (gs : List Segment) → map placeless (kept_of s e gs) ≡ kept_of s e (map placeless gs)
unfolding kept_of holds_live
kept-placeless s e [] = refl
kept-placeless s e (g ∷ gs) = go (holds_live s e g) (kept-placeless s e gs)
  where
    go : (t : Bool) → map placeless (kept_of s e gs) ≡ kept_of s e (map placeless gs)
        → map placeless (pick t (g ∷ kept_of s e gs) (kept_of s e gs))
        ≡ pick t (placeless g ∷ kept_of s e (map placeless gs)) (kept_of s e (map placeless gs))
    go true q = ap (λ (l : List Segment). placeless g ∷ l) q
    go false q = q

-- segments, the last of them ended with the record e, from `at` to x
abbrev closed : (e at x : ℕ) → List Segment → List Segment
closed e at x gs = front_of gs ++ (ended_at (head_of gs) e at x ∷ [])

head-placeless : (gs : List Segment) → placeless (head_of gs) ≡ head_of (map placeless gs)
head-placeless gs =
    sym (get_or-map placeless gs (length gs - 1) no_segment)
    ∙ ap (λ (n : ℕ). get_or (map placeless gs) (n - 1) no_segment) (sym (length-map gs placeless))

closed-placeless : (e at x : ℕ) (gs : List Segment) → map placeless (closed e at x gs) ≡ closed e at x (map placeless gs)
closed-placeless e at x gs =
    let front : map placeless (front_of gs) ≡ front_of (map placeless gs) =
    map-take placeless (length gs - 1) gs ∙ ap (λ (n : ℕ). take (n - 1) (map placeless gs)) (sym (length-map gs placeless)) in
    map-append placeless (front_of gs) (ended_at (head_of gs) e at x ∷ []) ∙ (λ i. front i ++ (ended_at (head-placeless gs i) e at x ∷ []))

-- ---- one run

-- g stands where row i says
pub record FromRow (rs : List ImageRow) (g : Segment) : Type 0 where
  pub i : ℕ
  pub below : i < length rs
  pub slot : g.slot ≡ (row_at rs i).slot
  pub size : g.size ≡ (row_at rs i).size

-- what an accepted scan leaves: the last kept segment g, ended with the record e, from `at` to x, and its missing padding
pub record Closing (k c : ℕ) (area : List ℕ) (rs : List ImageRow) (e : ℕ) (a : View) (after : List ℕ) : Type 0 where
  pub g : Segment
  pub at : ℕ
  pub x : ℕ
  pub slots : a.k ≡ k
  pub bytes-a-slot : a.c ≡ c
  pub some : 0 < length a.segs
  pub last : head_of a.segs ≡ ended_at g e at x
  pub bytes : after ≡ padded_to c area g x
  pub row : (g.id ≡ 0 → ⊥) → FromRow rs g

-- the segments of a walk are those of the rows
walk_rows : (area : List ℕ) (c s e : ℕ) (rs : List ImageRow) (w d : Scan) (gs : List Segment)
    → images area c s e rs w ≡ walked d gs → rs ≡ rows_for gs
unfolding images
walk_rows area c s e [] w d [] q = refl
walk_rows area c s e [] w d (g ∷ gs) q = zero-is-not-one (cc (walked_same q).1)
walk_rows area c s e (r ∷ rs) w d gs q =
    let f = first-walked area c s e r w rs d gs q in
    ap (λ (l : List ImageRow). r ∷ l) (walk_rows area c s e rs f.state d f.later f.on)
    ∙ ap (λ (l : List Segment). rows_for l) (sym f.segments)

-- what holds of each segment holds of the kept ones, and of the last of these
abbrev Each : (Segment → Type 0) → List Segment → Type 0
Each P [] = Unit {0}
Each P (g ∷ gs) = P g × Each P gs

each-kept : (P : Segment → Type 0) (s e : ℕ) (gs : List Segment) → Each P gs → Each P (kept_of s e gs)
unfolding kept_of
each-kept P s e [] h = tt
each-kept P s e (g ∷ gs) h = go (holds_live s e g) (each-kept P s e gs h.1)
  where
    go : (t : Bool) → Each P (kept_of s e gs) → Each P (pick t (g ∷ kept_of s e gs) (kept_of s e gs))
    go true r = (h.0, r)
    go false r = r

each_at : (P : Segment → Type 0) (gs : List Segment) (i : ℕ) → i < length gs → Each P gs → P (get_or gs i no_segment)
each_at P [] i l h = absurd (omega arith)
each_at P (g ∷ gs) zero l h = h.0
each_at P (g ∷ gs) (suc i) l h = each_at P gs i (omega arith) h.1

-- the last of segments that are rows' stands where one of the rows says, where there is one
each_row : (rs : List ImageRow) (gs : List Segment) → rs ≡ rows_for gs → Each (FromRow rs) gs
each_row rs gs q = subst (λ (l : List ImageRow). Each (FromRow l) gs) (sym q) (go gs)
  where
    on : (g : Segment) (gs hs : List Segment) → Each (FromRow (rows_for gs)) hs → Each (FromRow (row_for g ∷ rows_for gs)) hs
    on g gs [] h = tt
    on g gs (x ∷ hs) h =
        let t = h.0 in
        (record { i = suc t.i; below = omega (arith, t.below); slot = t.slot; size = t.size }, on g gs hs h.1)

    go : (gs : List Segment) → Each (FromRow (rows_for gs)) gs
    go [] = tt
    go (g ∷ gs) = (record { i = 0; below = omega arith; slot = refl; size = refl }, on g gs gs (go gs))

head-row : (rs : List ImageRow) (s e : ℕ) (gs : List Segment) → rs ≡ rows_for gs → ((head_of (kept_of s e gs)).id ≡ 0 → ⊥)
    → FromRow rs (head_of (kept_of s e gs))
head-row rs s e gs q some = go (kept_of s e gs) (each-kept (FromRow rs) s e gs (each_row rs gs q)) some
  where
    go : (hs : List Segment) → Each (FromRow rs) hs → ((head_of hs).id ≡ 0 → ⊥) → FromRow rs (head_of hs)
    go [] h n = absurd (n refl)
    go (g ∷ hs) h n = each_at (FromRow rs) (g ∷ hs) (length (g ∷ hs) - 1) (omega arith) h

-- ---- two runs

-- row i, in two lists of rows, has the payload of an index row inside its size
pub record FromRows (rs rs' : List ImageRow) (slot slot' off len : ℕ) : Type 0 where
  pub i : ℕ
  pub below : i < length rs
  pub slot_is : slot ≡ (row_at rs i).slot
  pub slot-is' : slot' ≡ (row_at rs' i).slot
  pub inside : off + len ≤ (row_at rs i).size

module _ (k c m : ℕ) (area : List ℕ) (rows : List ImageRow) (k' c' m' : ℕ) (area' : List ℕ) (rows' : List ImageRow) (s e : ℕ) where
  abbrev rs : List ImageRow
  rs = sort_rows rows

  abbrev rs' : List ImageRow
  rs' = sort_rows rows'

  -- two outcomes that differ in places alone
  pub data Alike : Recovery → Recovery → Type 0 where
    both-refuse : {n : ℕ} → Alike (refused n) (refused n)
    both-empty : Alike (recovered (empty_of k c m) area []) (recovered (empty_of k' c' m') area' [])
    both-close : {a a' : View} {after after' ws ws' : List ℕ} → a.start ≡ a'.start → a.end ≡ a'.end
        → map placeless a.segs ≡ map placeless a'.segs → Moved (FromRows rs rs') ws ws'
        → (left : Closing k c area rs e a after) (left' : Closing k' c' area' rs' e a' after') → left.x ≡ left'.x
        → left.g.size ≡ left'.g.size → Alike (recovered a after ws) (recovered a' after' ws')

  alike-refuse : (n n' : ℕ) → n ≡ n' → Alike (refused n) (refused n')
  alike-refuse n n' q = subst (λ (x : ℕ). Alike (refused n) (refused x)) q both-refuse

  -- choices by one test
  alike-pick : (t t' : Bool) (x x' y y' : Recovery) → t ≡ t' → Alike x x' → Alike y y' → Alike (pick t x y) (pick t' x' y')
  alike-pick t t' x x' y y' q p r = subst (λ (b : Bool). Alike (pick t x y) (pick b x' y')) q (go t)
    where
      go : (t : Bool) → Alike (pick t x y) (pick t x' y')
      go true = p
      go false = r

  module _ (same : images_of area c rs ≡ images_of area' c' rs') where
    words-moved : Moved (FromRows rs rs') (rows_all area c s e rs pen_of) (rows_all area' c' s e rs' pen_of)
    words-moved =
        rows-moved area c area' c' s e (FromRows rs rs') rs rs' same
        (λ i h off len l. record {
          i = i;
          below = h;
          slot_is = refl;
          slot-is' = refl;
          inside = omega (arith, length-take (row_at rs i).size (drop ((row_at rs i).slot * c) area));
        }) start_of [] [] no-row

    -- an accepted walk, closed
    abbrev closing : (k c m : ℕ) (area : List ℕ) (rs : List ImageRow) (d : Scan) (gs : List Segment) → rs ≡ rows_for gs
        → Closing k c area rs e
        (record { k = k; c = c; m = m; start = s; end = e; segs = closed e d.start_of_e d.end_of_e (kept_of s e gs) })
        (padded_to c area (head_of (kept_of s e gs)) d.end_of_e)
    closing k c m area rs d gs q =
        let kept : List Segment = kept_of s e gs in
        record {
          g = head_of kept;
          at = d.start_of_e;
          x = d.end_of_e;
          slots = refl;
          bytes-a-slot = refl;
          some = omega (arith, length-append (front_of kept) (ended_at (head_of kept) e d.start_of_e d.end_of_e ∷ []));
          last = head-snoc (front_of kept) (ended_at (head_of kept) e d.start_of_e d.end_of_e);
          bytes = refl;
          row = head-row rs s e gs q;
        }

    walked-alike : (room : ℕ) (d : Scan) (gs gs' : List Segment) → images area c s e rs start_of ≡ walked d gs
        → images area' c' s e rs' start_of ≡ walked d gs' → map placeless gs ≡ map placeless gs'
        → Alike (outcome_of k c m area s e rs (judged s e room (walked d gs)))
        (outcome_of k' c' m' area' s e rs' (judged s e room (walked d gs')))
    unfolding judged
    walked-alike room d gs gs' q q' segs = go (not d.found_s) (not d.found_e) (ltb room (4 * live_count s e))
      where
        kept_same : map placeless (kept_of s e gs) ≡ map placeless (kept_of s e gs')
        kept_same = kept-placeless s e gs ∙ ap (kept_of s e) segs ∙ sym (kept-placeless s e gs')

        head-same : placeless (head_of (kept_of s e gs)) ≡ placeless (head_of (kept_of s e gs'))
        head-same = head-placeless (kept_of s e gs) ∙ ap (λ (l : List Segment). head_of l) kept_same ∙ sym (head-placeless (kept_of s e gs'))

        ended : List Segment → List Segment
        ended = closed e d.start_of_e d.end_of_e

        closed_same : map placeless (ended (kept_of s e gs)) ≡ map placeless (ended (kept_of s e gs'))
        closed_same =
            closed-placeless e d.start_of_e d.end_of_e (kept_of s e gs) ∙ ap ended kept_same
            ∙ sym (closed-placeless e d.start_of_e d.end_of_e (kept_of s e gs'))

        go : (x y z : Bool)
            → Alike (outcome_of k c m area s e rs
            (pick x (refused 21) (pick y (refused 22) (pick z (refused 23) (walked d gs)))))
            (outcome_of k' c' m' area' s e rs'
            (pick x (refused 21) (pick y (refused 22) (pick z (refused 23) (walked d gs')))))
        go true y z = both-refuse
        go false true z = both-refuse
        go false false true = both-refuse
        go false false false =
            both-close refl refl closed_same words-moved
            (closing k c m area rs d gs (walk_rows area c s e rs start_of d gs q))
            (closing k' c' m' area' rs' d gs' (walk_rows area' c' s e rs' start_of d gs' q')) refl
            (ap (λ (g : Segment). g.size) head-same)

    scanned-alike : (room : ℕ) → Alike (scanned k c m area rs s e room) (scanned k' c' m' area' rs' s e room)
    unfolding scan_of judged
    scanned-alike room =
        go (images area c s e rs start_of) (images area' c' s e rs' start_of) refl refl (walk_same area c area' c' s e rs rs' same start_of)
      where
        go : (o o' : Outcome Found) → images area c s e rs start_of ≡ o → images area' c' s e rs' start_of ≡ o'
            → placeless_walk o ≡ placeless_walk o'
            → Alike (outcome_of k c m area s e rs (judged s e room o)) (outcome_of k' c' m' area' s e rs' (judged s e room o'))
        go (refused n) (refused n') p p' q = alike-refuse n n' (cc)
        go (refused n) (done a) p p' q = zero-is-not-one (cc)
        go (done a) (refused n) p p' q = zero-is-not-one (cc)
        go (done (d, gs)) (done (d', gs')) p p' q =
            let both = walked_same q in
            subst (λ (x : Scan). images area' c' s e rs' start_of ≡ walked x gs'
            → Alike (outcome_of k c m area s e rs (judged s e room (walked d gs)))
            (outcome_of k' c' m' area' s e rs' (judged s e room (walked x gs'))))
            both.0 (λ r. walked-alike room d gs gs' p r both.1) p'

  -- two runs over the same images
  pub recovery-alike : SameImages k c m area rows k' c' m' area' rows' → (room : ℕ)
      → Alike (recovery_of k c m area rows s e room) (recovery_of k' c' m' area' rows' s e room)
  unfolding recovery_of
  recovery-alike h room =
      alike-pick (not (roomy_of k c m (length area))) (not (roomy_of k' c' m' (length area'))) _ _ _ _
      (ap not (h.roomy ∙ sym h.roomy')) both-refuse
      (alike-pick (one_zero s e) (one_zero s e) _ _ _ _ refl both-refuse
      (alike-pick (ltb e s) (ltb e s) _ _ _ _ refl both-refuse
      (alike-pick (not (rows_fit k c rows)) (not (rows_fit k' c' rows')) _ _ _ _ (ap not (h.fit ∙ sym h.fit')) both-refuse
      (alike-pick (lowest_zero rs) (lowest_zero rs') _ _ _ _ (lowest-same area c area' c' rs rs' h.images) both-refuse
      (alike-pick (not (one_apart rs)) (not (one_apart rs')) _ _ _ _ (ap not (apart-same area c area' c' rs rs' h.images)) both-refuse
      (alike-pick (eqb s 0) (eqb s 0) _ _ _ _ refl both-empty (scanned-alike h.images room)))))))
