-- The walk and the index rows of an image that is records one behind the other, with any payloads: up to their end, or to e's record.
-- Assumes nothing.
use mathlib.Core.Bool.{Bool, true, false, ◌||◌}
use mathlib.Core.List.{List, ◌++◌, append_assoc, append-nil, []}
use mathlib.Core.Path.{◌≡◌, refl, ap, ◌∙◌, sym}
use Prim.Native.Nat.{ℕ, zero, suc, ◌≤◌, ◌<◌, ◌+◌, ◌%◌}
use native.Mathlib.Omega.{arith}
use lib.Dec.{ltb, eqb}
use lib.ListN.{length, length-append}
use borrow.Author.Tests.{lt-ltb, le-ltb, ltb-true, ltb-false, eqb-true, eqb-false}
use Rattle.lists.proofs.Bools.{both_ways}
use Rattle.lists.proofs.Cases.{by-test}
use Rattle.page.proofs.Page.{multiple-add}
use Rattle.record.proofs.Record.{record-length, room-pages}
use Rattle.record.specs.Record.{record_room, record_bytes, header_at}
use Rattle.walk.specs.declared.Scan.{Scan}
use Rattle.std.specs.Prelude.{Ok}
use Rattle.walk.specs.Judging.{max_image, advanced_of, follows_of, live_of, goes_on, more_of}
use Rattle.walk.specs.Walk.{walk_of}
use Rattle.walk.specs.Records.{records_from, over, Plain}
use Rattle.walk.proofs.Judging.{follows-suc, live-over, more-ended, more-stopped, goes_on_lem, stopped, stopped-found}
use Rattle.walk.proofs.Walk.{walk_end}
use Rattle.walk.proofs.Records.{next_place, more-record, step-record, over-more, over-stopped, over-place, walk-records}
use Rattle.recovery_walk.specs.Rows.{Pen, pen_with, row_of, rows_in, moved_of}
use Rattle.recovery_walk.proofs.Rows.{rows_end, rows_next, row-dead}

-- ---- what has been seen

-- what the walk knows when every id below b has been seen, or where e is below b, every one up to e
pub record Seen (s e b : ℕ) (w : Scan) : Type 0 where
  pub follows : goes_on w ≡ true → follows_of w.last b ≡ true
  pub start : w.found_s ≡ ltb s b
  pub end : w.found_e ≡ ltb e b
  pub gap : w.gap ≡ false

seen_more : (s b : ℕ) → ltb s b || eqb b s ≡ ltb s (suc b)
seen_more s b = go (ltb s b) (eqb b s) refl refl
  where
    go : (x y : Bool) → ltb s b ≡ x → eqb b s ≡ y → x || y ≡ ltb s (suc b)
    go true true p q = sym (lt-ltb s (suc b) (omega (arith, ltb-true s b p)))
    go true false p q = sym (lt-ltb s (suc b) (omega (arith, ltb-true s b p)))
    go false true p q = sym (lt-ltb s (suc b) (omega (arith, eqb-true b s q)))
    go false false p q = sym (le-ltb s (suc b) (omega (arith, ltb-false s b p, eqb-false b s q)))

module _ (s e b : ℕ) (w : Scan) (h : Seen s e b w) where
  -- the walk goes on where b is not above e, and only there
  pub seen-goes : b ≤ e → goes_on w ≡ true
  seen-goes l = goes_on_lem w (h.end ∙ le-ltb e b l)

  pub seen-stops : e < b → goes_on w ≡ false
  seen-stops l = stopped w (h.end ∙ lt-ltb e b l)

  pub stopped-behind : goes_on w ≡ false → e < b
  stopped-behind g = ltb-true e b (sym h.end ∙ stopped-found w g)

  -- one record more
  pub step-seen : (len : ℕ) → Seen s e (suc b) (advanced_of w s e len b)
  unfolding advanced_of
  step-seen len =
      record {
        follows = λ g. follows-suc b;
        start = ap (λ (x : Bool). x || eqb b s) h.start ∙ seen_more s b;
        end = ap (λ (x : Bool). x || eqb b e) h.end ∙ seen_more e b;
        gap = h.gap;
      }

  -- behind e all that follows is as good as seen
  pub seen-later : s ≤ e → goes_on w ≡ false → (n : ℕ) → Seen s e (b + n) w
  seen-later order g n =
      let l = stopped-behind g in
      record {
        follows = λ on. both_ways (goes_on w) on g;
        start = h.start ∙ lt-ltb s b (omega arith) ∙ sym (lt-ltb s (b + n) (omega arith));
        end = h.end ∙ lt-ltb e b l ∙ sym (lt-ltb e (b + n) (omega arith));
        gap = h.gap;
      }

-- ---- the records of an image

module _ (f : ℕ → List ℕ) (s e : ℕ) where
  -- the walk of an image of records comes to the state after them
  pub walk-over : (n a : ℕ) (w : Scan) → w.pos ≡ 0 → Plain f a n → (goes_on w ≡ true → follows_of w.last a ≡ true)
      → length (records_from f a n) ≤ max_image → walk_of (records_from f a n) s e w ≡ Ok (over f s e w a n)
  walk-over n a w at plain g room =
      let img : List ℕ = records_from f a n in
      let all : img ++ [] ≡ img = append-nil img in
      let whole : w.pos % 4096 ≡ 0 = ap (λ (x : ℕ). x % 4096) at in
      let last : Scan = over f s e w a n in
      let over-now : more_of last (length img) ≡ false =
      by-test (goes_on last) (λ h. more-ended last (length img) (omega (arith, over-place f s e n w a whole h)))
      (λ h. more-stopped last (length img) h) in
      ap (λ (l : List ℕ). walk_of l s e w) (sym all)
      ∙ walk-records f s e n [] [] a w whole at plain g (omega arith)
      ∙ ap (λ (l : List ℕ). walk_of l s e last) all
      ∙ walk_end (length img) (header_at img) s e last over-now

  abbrev on : Scan → ℕ → Scan
  on w a = advanced_of w s e (length (f a)) a

  -- the index rows of the records, from the place pos on
  unfoldable pub rows_over : (slot pos a n : ℕ) → List ℕ
  rows_over slot pos a zero = []
  rows_over slot pos a (suc n) =
      row_of (live_of s e a) a slot (pos + 12) (length (f a)) ++ rows_over slot (pos + record_room (length (f a))) (suc a) n

  -- behind e there is none
  pub rows_none : (slot n pos a : ℕ) → e < a → rows_over slot pos a n ≡ []
  unfolding rows_over
  rows_none slot zero pos a h = refl
  rows_none slot (suc n) pos a h =
      rw (row-dead (live_of s e a) a slot (pos + 12) (length (f a)) (live-over s e a h))
      (rows_none slot n (pos + record_room (length (f a))) (suc a) (omega arith))

  -- the rows' pass over the records
  pub rows-over : (slot n : ℕ) (pre : List ℕ) (a : ℕ) (w : Scan) (ws : List ℕ) → length pre % 4096 ≡ 0 → w.pos ≡ length pre → Plain f a n
      → Seen s e a w → length pre + length (records_from f a n) ≤ max_image
      → rows_in (pre ++ records_from f a n) slot s e (pen_with ws w) ≡ pen_with (ws ++ rows_over slot (length pre) a n) (over f s e w a n)
  unfolding over rows_over moved_of advanced_of records_from
  rows-over slot zero pre a w ws whole at plain g room =
      rows_end (pre ++ []) slot s e (pen_with ws w) (more-ended w (length (pre ++ [])) (omega (arith, ap length (append-nil pre))))
      ∙ ap (λ (l : List ℕ). pen_with l w) (sym (append-nil ws))
  rows-over slot (suc n) pre a w ws whole at plain g room =
      by-test (goes_on w)
      (λ h.
      rows_next img slot s e (pen_with ws w) (on w a) (more-record pre a (f a) post w at h)
      (step-record pre a (f a) post w at s e (plain.small a (omega arith) (omega arith)) (omega (arith, plain.ids)) (g.follows h)
      (omega (arith, long)))
      ∙ ap (λ (v : Pen). rows_in img slot s e v) moved
      ∙ ap (λ (l : List ℕ). rows_in l slot s e (pen_with (ws ++ row) (on w a))) (sym (append_assoc pre here post))
      ∙ rows-over slot n (pre ++ here) (suc a) (on w a) (ws ++ row)
      (rw (length-append, record-length) (multiple-add 4096 (length pre) (record_room (length (f a))) whole (room-pages (length (f a)))))
      (next ∙ sym place) (record { small = λ i l u. plain.small i (omega arith) (omega arith); ids = omega (arith, plain.ids) })
      (step-seen s e a w g (length (f a))) (omega (arith, place, long))
      ∙ ap (λ (l : List ℕ). pen_with l (over f s e (on w a) (suc a) n))
      (append_assoc ws row _ ∙ ap (λ (k : ℕ). ws ++ (row ++ rows_over slot k (suc a) n)) place)
      ∙ ap (pen_with (ws ++ rows_over slot (length pre) a (suc n))) (sym (over-more f s e n w a h)))
      (λ h.
      rows_end img slot s e (pen_with ws w) (more-stopped w (length img) h)
      ∙ ap (λ (l : List ℕ). pen_with l w)
      (sym (ap (λ (l : List ℕ). ws ++ l) (rows_none slot (suc n) (length pre) a (stopped-behind s e a w g h)) ∙ append-nil ws))
      ∙ ap (pen_with (ws ++ rows_over slot (length pre) a (suc n))) (sym (over-stopped f s e (suc n) w a h)))
    where
      here : List ℕ
      here = record_bytes a (f a)

      post : List ℕ
      post = records_from f (suc a) n

      img : List ℕ
      img = pre ++ (here ++ post)

      long : length (here ++ post) ≡ record_room (length (f a)) + length post
      long = length-append here post ∙ ap (λ (k : ℕ). k + length post) (record-length a (f a))

      place : length (pre ++ here) ≡ length pre + record_room (length (f a))
      place = length-append pre here ∙ ap (λ (k : ℕ). length pre + k) (record-length a (f a))

      next : (on w a).pos ≡ length pre + record_room (length (f a))
      next = rw at (next_place (length pre) (length (f a)) whole)

      row : List ℕ
      row = row_of (live_of s e a) a slot (length pre + 12) (length (f a))

      moved : moved_of slot s e (pen_with ws w) (on w a) ≡ pen_with (ws ++ row) (on w a)
      moved = ap (λ (k : ℕ). pen_with (ws ++ row_of (live_of s e a) a slot (k + 12) (length (f a))) (on w a)) at
