-- Recovery depends on the images and not on where they lie: the proof of specs/Relocation.antt's first statement.
-- Assumes nothing.
use mathlib.Core.Bool.{Bool, true, false, ◌&&◌}
use mathlib.Core.List.{List, ◌∷◌, ◌++◌, map, map-append}
use mathlib.Core.Path.{◌≡◌, refl, ap, sym, subst, ◌∙◌}
use Prim.Native.Nat.{ℕ, zero, suc, ◌+◌, ◌-◌, ◌*◌, ◌/◌, ◌≤◌, ◌<◌}
use native.Mathlib.Omega.{arith}
use lib.Dec.{eqb, ltb, leb}
use lib.ListN.{length, drop, replicate, length-map, length-replicate}
use borrow.Author.Tests.{lt-leb, le-ltb, ltb-true, ltb-false, eqb-true, eqb-false}
use Rattle.lists.specs.Splice.{part}
use Rattle.lists.proofs.Bools.{and_both}
use Rattle.lists.proofs.Cases.{by-test}
use Rattle.lists.proofs.Distinct.{distinct-at}
use Rattle.lists.proofs.Splice.{part-part, splice-before, splice-slot}
use Rattle.segment.specs.declared.Segment.{Segment}
use Rattle.segment.specs.declared.ImageRow.{ImageRow}
use Rattle.segment.specs.Segment.{no_segment, no_row, image_of}
use Rattle.seglog.specs.View.{View, log_of, head_of}
use Rattle.seglog.specs.Chain.{chain_of, ends_of, slots_apart}
use Rattle.seglog.specs.Fit.{fits_of, shaped_of, sizes_of}
use Rattle.seglog.proofs.Fit.{SegmentGood}
use Rattle.seglog.proofs.Chain.{chain-at}
use Rattle.image_rows.specs.ImageRows.{sort_rows, rows_fit, rows_apart}
use Rattle.image_rows.proofs.ImageRows.{fit_is, sort-inside, sort-apart, inside-at}
use Rattle.recovery_walk.specs.Images.{row_at}
use Rattle.recovery.specs.Recovery.{Recovery, recovered, recovery_of}
use Rattle.recovery.proofs.Recovery.{recovered-fits, recovered-log-fits}
use Rattle.payload.specs.Row.{row_question, payload_of, outside_of}
use Rattle.payload.proofs.Row.{payload-good}
use Rattle.history.specs.Demand.{row_word, question_at, payload_at}
use Rattle.history.specs.Relocation.{placeless, placeless_log, SameImages, SameRow, SameElsewhere, Relocation}
use Rattle.history.proofs.IndexRows.{shift}
use Rattle.history.proofs.RelocationWalk.{Moved, no-row, one-row, rows-many, row-bytes}
use Rattle.history.proofs.RelocationOutcome.{Closing, FromRows, Alike, both-refuse, both-empty, both-close, recovery-alike}

-- ---- rows in slots of their own

-- rows with one slot are one row
pub one-slot : (rs : List ImageRow) (i j : ℕ) → rows_apart rs ≡ true → i < length rs → j < length rs
    → (row_at rs i).slot ≡ (row_at rs j).slot → i ≡ j
one-slot rs i j h l m q = go (ltb i j) (ltb j i) refl refl
  where
    go : (b c : Bool) → ltb i j ≡ b → ltb j i ≡ c → i ≡ j
    go true c e f = absurd (distinct-at (λ r. r.slot) no_row rs i j h (ltb-true i j e) m q)
    go false true e f = absurd (distinct-at (λ r. r.slot) no_row rs j i h (ltb-true j i f) l (sym q))
    go false false e f = omega (arith, ltb-false i j e, ltb-false j i f)

-- ---- one run: a payload that lies inside its image is read there

module _ (k c m : ℕ) (area : List ℕ) (rows : List ImageRow) (s e room : ℕ) (fit : rows_fit k c rows ≡ true) (a : View)
    (after ws : List ℕ) (is : recovery_of k c m area rows s e room ≡ recovered a after ws) (end : Closing k c area (sort_rows rows) e a after)
  where
    abbrev rs : List ImageRow
    rs = sort_rows rows

    apart : rows_apart rs ≡ true
    apart = sort-apart rows (fit_is k c rows fit).apart

    -- the last segment is a good one
    pub head-good : SegmentGood a.k a.c (head_of a.segs)
    unfolding fits_of shaped_of
    head-good =
        let some = end.some in
        let shaped = (and_both (shaped_of a) (eqb (length after) (a.k * a.c)) (recovered-fits k c m area rows s e room a after ws is)).0 in
        let t = and_both _ (ends_of a.start a.end a.segs) shaped in
        let u = and_both _ (slots_apart a.segs) t.0 in
        let v = and_both (sizes_of a.k a.c a.m && leb (length a.segs) a.k) (chain_of a.k a.c a.segs) u.0 in
        chain-at a.k a.c a.segs (length a.segs - 1) v.1 (omega arith)

    module _ (i off len : ℕ) (below : i < length rs) (inside : off + len ≤ (row_at rs i).size) where
      abbrev r : ImageRow
      r = row_at rs i

      placed : (r.slot < k) × (r.size ≤ c)
      placed = inside-at k c rs i (sort-inside k c rows (fit_is k c rows fit).inside) below

      -- padding is written behind the image
      stays : part (r.slot * c + off) len after ≡ part (r.slot * c + off) len area
      stays =
          let g : Segment = end.g in
          let x : ℕ = end.x in
          let last = end.last in
          let some_id : g.id ≡ 0 → ⊥ = λ z. omega (arith, head-good.some_id, ap (λ (h : Segment). h.id) last) in
          let row = end.row some_id in
          let at : ℕ = g.slot * c + g.size in
          let zeros : List ℕ = replicate (x - g.size) 0 in
          let long : length zeros ≡ x - g.size = length-replicate {A = ℕ} (x - g.size) 0 in
          let fits : x ≤ c = omega (arith, head-good.size, ap (λ (h : Segment). h.size) last, end.bytes-a-slot) in
          let own = inside-at k c rs row.i (sort-inside k c rows (fit_is k c rows fit).inside) row.below in
          let size : g.size ≤ c = omega (arith, own.1, row.size) in
          ap (part (r.slot * c + off) len) end.bytes
          ∙ by-test (eqb g.slot r.slot)
          (λ q.
          let slot : g.slot ≡ r.slot = eqb-true g.slot r.slot q in
          let same : row.i ≡ i = one-slot rs row.i i apart row.below below (sym row.slot ∙ slot) in
          let sizes : g.size ≡ r.size = row.size ∙ ap (λ (j : ℕ). (row_at rs j).size) same in
          let place : g.slot * c ≡ r.slot * c = ap (λ (j : ℕ). j * c) slot in
          splice-before at zeros area (r.slot * c + off) len (omega arith))
          (λ q.
          let within : off + len ≤ c = omega (arith, placed.1) in
          sym (part-part (r.slot * c) c off len _ within)
          ∙ ap (part off len)
          (splice-slot c g.slot r.slot at zeros area (omega arith) (omega arith) (eqb-false g.slot r.slot q))
          ∙ part-part (r.slot * c) c off len area within)

      -- the row is good
      pub row-good : row_question (log_of a) after r.slot off len ≡ 0
      unfolding row_question outside_of
      row-good =
          simp (
            recovered-log-fits k c m area rows s e room a after ws is,
            lt-leb a.k r.slot (omega (arith, placed.0, end.slots)),
            le-ltb a.c (off + len) (omega (arith, placed.1, end.bytes-a-slot)),
          )

      -- its payload is a part of the image
      pub row-payload : payload_of (log_of a) after r.slot off len ≡ part off len (image_of area c r)
      row-payload =
          payload-good (log_of a) after r.slot off len row-good
          ∙ ap (λ (n : ℕ). part (r.slot * n + off) len after) end.bytes-a-slot ∙ stays
          ∙ sym (part-part (r.slot * c) r.size off len area inside)

-- ---- two runs

-- row i of two indexes, whatever stands behind their words
pub record RowMoved (Q : (slot slot' off len : ℕ) → Type 0) (index index' : List ℕ) (i : ℕ) : Type 0 where
  pub same : SameRow index index' i
  pub more : Q (row_word index i 1) (row_word index' i 1) (row_word index i 2) (row_word index i 3)

-- they have as many words
pub moved-long : {Q : (slot slot' off len : ℕ) → Type 0} {ws ws' : List ℕ} → Moved Q ws ws' → length ws ≡ length ws'
moved-long no-row = refl
moved-long (one-row q m) = ap (λ (n : ℕ). suc (suc (suc (suc n)))) (moved-long m)

moved_at : (Q : (slot slot' off len : ℕ) → Type 0) (rest rest' : List ℕ) (ws ws' : List ℕ) → Moved Q ws ws' → (i : ℕ) → 4 * i < length ws
    → RowMoved Q (ws ++ rest) (ws' ++ rest') i
moved_at Q rest rest' ws ws' no-row i l = absurd (omega arith)
moved_at Q rest rest' ws ws' (one-row {id} {slot} {slot'} {off} {len} {ws = us} {ws' = us'} q m) i l =
    go i l (moved_at Q rest rest' us us' m)
  where
    go : (i : ℕ) → 4 * i < suc (suc (suc (suc (length us)))) → ((i : ℕ) → 4 * i < length us → RowMoved Q (us ++ rest) (us' ++ rest') i)
        → RowMoved Q (id ∷ slot ∷ off ∷ len ∷ (us ++ rest)) (id ∷ slot' ∷ off ∷ len ∷ (us' ++ rest')) i
    go zero l ih = record { same = record { id = refl; offset = refl; length = refl }; more = q }
    go (suc i) l ih =
        let t = ih i (omega arith) in
        let at : (j : ℕ) → row_word (id ∷ slot ∷ off ∷ len ∷ (us ++ rest)) (suc i) j ≡ row_word (us ++ rest) i j =
        λ j. shift id slot off len (us ++ rest) i j in
        let at' : (j : ℕ) → row_word (id ∷ slot' ∷ off ∷ len ∷ (us' ++ rest')) (suc i) j ≡ row_word (us' ++ rest') i j =
        λ j. shift id slot' off len (us' ++ rest') i j in
        record {
          same = record {
            id = at 0 ∙ t.same.id ∙ sym (at' 0);
            offset = at 2 ∙ t.same.offset ∙ sym (at' 2);
            length = at 3 ∙ t.same.length ∙ sym (at' 3);
          };
          more = rw (at 1, at' 1, at 2, at 3) t.more;
        }

-- logs of segments that differ in slots alone
placeless-log : (a a' : View) → a.start ≡ a'.start → a.end ≡ a'.end → map placeless a.segs ≡ map placeless a'.segs
    → placeless_log (log_of a) ≡ placeless_log (log_of a')
placeless-log a a' start end segs =
    let many : length a.segs ≡ length a'.segs = sym (length-map a.segs placeless) ∙ ap length segs
    ∙ length-map a'.segs placeless in
    let entries : map placeless (log_of a).segs ≡ map placeless (log_of a').segs =
    all a.segs ∙ (λ i. segs i ++ replicate (64 - many i) no_segment) ∙ sym (all a'.segs) in
    λ i. record { k = 0; c = 0; m = 0; start = start i; end = end i; count = many i; segs = entries i }
  where
    none : (n : ℕ) → map placeless (replicate n no_segment) ≡ replicate n no_segment
    none zero = refl
    none (suc n) = ap (λ (l : List Segment). no_segment ∷ l) (none n)

    all : (gs : List Segment) → map placeless (gs ++ replicate (64 - length gs) no_segment)
        ≡ map placeless gs ++ replicate (64 - length gs) no_segment
    all gs =
        map-append placeless gs (replicate (64 - length gs) no_segment)
        ∙ ap (λ (l : List Segment). map placeless gs ++ l) (none (64 - length gs))

module _ (k c m : ℕ) (area : List ℕ) (rows : List ImageRow) (k' c' m' : ℕ) (area' : List ℕ) (rows' : List ImageRow)
    (h : SameImages k c m area rows k' c' m' area' rows') (s e room : ℕ) (index index' : List ℕ) where
  same_outcome : (o o' : Recovery) → recovery_of k c m area rows s e room ≡ o → recovery_of k' c' m' area' rows' s e room ≡ o'
      → Alike k c m area rows k' c' m' area' rows' s e o o' → SameElsewhere area index o area' index' o'
  same_outcome o o' is is' both-refuse =
      record {
        refusal-same = refl;
        count_same = refl;
        log-same = refl;
        row_same = λ i l. absurd (omega arith);
        question-same = λ i l. absurd (omega arith);
        payload_same = λ i l. absurd (omega arith);
      }
  same_outcome o o' is is' both-empty =
      record {
        refusal-same = refl;
        count_same = refl;
        log-same = refl;
        row_same = λ i l. absurd (omega arith);
        question-same = λ i l. absurd (omega arith);
        payload_same = λ i l. absurd (omega arith);
      }
  same_outcome o o' is is' (both-close {a} {a'} {after} {after'} {ws} {ws'} start end segs moved left left' x size) =
      record {
        refusal-same = refl;
        count_same = ap (λ (n : ℕ). n / 4) (moved-long moved);
        log-same = placeless-log a a' start end segs;
        row_same = λ i l. (at i l).same;
        question-same = λ i l. good i l ∙ sym (good' i l);
        payload_same = λ i l. read i l;
      }
    where
      rs : List ImageRow
      rs = sort_rows rows

      rs' : List ImageRow
      rs' = sort_rows rows'

      words : List ℕ
      words = ws ++ drop (length ws) index

      words' : List ℕ
      words' = ws' ++ drop (length ws') index'

      at : (i : ℕ) → i < length ws / 4 → RowMoved (FromRows rs rs') words words' i
      at i l = moved_at (FromRows rs rs') (drop (length ws) index) (drop (length ws') index') ws ws' moved i (omega arith)

      below' : (i : ℕ) (l : i < length ws / 4) → (at i l).more.i < length rs'
      below' i l = omega (arith, (at i l).more.below, rows-many area c area' c' rs rs' h.images)

      inside' : (i : ℕ) (l : i < length ws / 4) → row_word words i 2 + row_word words i 3 ≤ (row_at rs' (at i l).more.i).size
      inside' i l =
          omega (arith, (at i l).more.inside, (row-bytes area c area' c' rs rs' h.images (at i l).more.i (at i l).more.below).0)

      good : (i : ℕ) → i < length ws / 4 → question_at (log_of a) after words i ≡ 0
      good i l =
          let f = (at i l).more in
          rw f.slot_is
          (row-good k c m area rows s e room h.fit a after ws is left f.i (row_word words i 2) (row_word words i 3) f.below
          f.inside)

      good' : (i : ℕ) → i < length ws / 4 → question_at (log_of a') after' words' i ≡ 0
      good' i l =
          let f = (at i l).more in
          let t = (at i l).same in
          rw (f.slot-is', ← t.offset, ← t.length)
          (row-good k' c' m' area' rows' s e room h.fit' a' after' ws' is' left' f.i (row_word words i 2) (row_word words i 3)
          (below' i l)
          (inside' i l))

      read : (i : ℕ) → i < length ws / 4 → payload_at (log_of a) after words i ≡ payload_at (log_of a') after' words' i
      read i l =
          let f = (at i l).more in
          let t = (at i l).same in
          rw (f.slot_is, f.slot-is', ← t.offset, ← t.length)
          (row-payload k c m area rows s e room h.fit a after ws is left f.i (row_word words i 2) (row_word words i 3) f.below
          f.inside
          ∙ ap (part (row_word words i 2) (row_word words i 3))
          (row-bytes area c area' c' rs rs' h.images f.i f.below).1
          ∙ sym (row-payload k' c' m' area' rows' s e room h.fit' a' after' ws' is' left' f.i (row_word words i 2)
          (row_word words i 3) (below' i l)
          (inside' i l)))

-- recovery depends on the images and not on where they lie
pub relocation : Relocation
relocation k c m area rows k' c' m' area' rows' h s e index index' long =
    subst (λ (n : ℕ). SameElsewhere area index (recovery_of k c m area rows s e (length index)) area' index'
    (recovery_of k' c' m' area' rows' s e n)) long
    (same_outcome k c m area rows k' c' m' area' rows' h s e (length index) index index' _ _ refl refl
    (recovery-alike k c m area rows k' c' m' area' rows' s e h (length index)))
