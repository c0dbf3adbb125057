-- The state of the walk after records one behind another, field by field: the ids and the newest record of the image at hand, and where
-- the record e stands. The walk stops at e.
-- Assumes nothing.
use mathlib.Core.Bool.{true, Bool, false}
use mathlib.Core.List.{List, append-nil}
use mathlib.Core.Path.{◌≡◌, refl, sym, ap, ◌∙◌, subst}
use Prim.Native.Nat.{ℕ, min, ◌+◌, ◌-◌, suc, ◌≤◌, zero, ◌<◌, ◌%◌}
use native.Mathlib.Nat.{add-zero}
use native.Mathlib.Omega.{arith}
use lib.Dec.{eqb, lit<}
use lib.ListN.{length, length-append}
use borrow.Author.Tests.{eqb-true, eqb-false, ne_eqb, eq-eqb}
use Rattle.lists.specs.Choice.{pick}
use Rattle.lists.proofs.Cases.{by-test, by_order}
use Rattle.page.proofs.Page.{pad-multiple}
use Rattle.page.specs.Page.{padded_end}
use Rattle.record.proofs.Record.{record-length}
use Rattle.record.specs.Record.{record_room, record_bytes}
use Rattle.walk.specs.declared.Scan.{Scan}
use Rattle.walk.specs.Judging.{advanced_of, goes_on}
use Rattle.walk.specs.Records.{records_from, over}
use Rattle.walk.proofs.Records.{next_place, over-more, over-stopped}
use Rattle.history.proofs.Over.{Seen, seen-goes, seen-stops, step-seen, seen-later}
use Rattle.seglog_prune.specs.declared.Newest.{Newest}
use Rattle.history.proofs.Cuts.{newest_from}

-- where the record e stands at a state
abbrev pub place_of_e : Scan → Newest
place_of_e w = record { at = w.start_of_e; end = w.end_of_e }

module _ (f : ℕ → List ℕ) (s e : ℕ) (order : s ≤ e) where
  abbrev on : Scan → ℕ → Scan
  on w b = advanced_of w s e (length (f b)) b

  -- n records more have been seen
  pub over-seen : (n b : ℕ) (w : Scan) → Seen s e b w → Seen s e (b + n) (over f s e w b n)
  unfolding over
  over-seen zero b w h = rw add-zero h
  over-seen (suc n) b w h =
      let z : suc b + n ≡ b + suc n = omega arith in
      by-test (goes_on w)
      (λ g.
      subst (Seen s e (b + suc n)) (sym (over-more f s e n w b g))
      (subst (λ (x : ℕ). Seen s e x (over f s e (on w b) (suc b) n)) z
      (over-seen n (suc b) (on w b) (step-seen s e b w h (length (f b))))))
      (λ g. subst (Seen s e (b + suc n)) (sym (over-stopped f s e (suc n) w b g)) (seen-later s e b w h order g (suc n)))

  over-min : (n b : ℕ) (w : Scan) → (w.min ≡ 0 → ⊥) → (over f s e w b n).min ≡ w.min
  unfolding over advanced_of
  over-min zero b w h = refl
  over-min (suc n) b w h =
      let same : pick (eqb w.min 0) b w.min ≡ w.min = simp (ne_eqb w.min 0 h) in
      by-test (goes_on w)
      (λ g.
      ap (λ (d : Scan). d.min) (over-more f s e n w b g)
      ∙ over-min n (suc b) (on w b) (λ z. h (sym same ∙ z)) ∙ same)
      (λ g. ap (λ (d : Scan). d.min) (over-stopped f s e (suc n) w b g))

  -- the first id of an image
  pub over_first : (n b : ℕ) (w : Scan) → w.min ≡ 0 → 1 ≤ b → goes_on w ≡ true → (over f s e w b (suc n)).min ≡ b
  unfolding advanced_of
  over_first n b w z l g =
      let same : pick (eqb w.min 0) b w.min ≡ b = simp (eq-eqb w.min 0 z) in
      ap (λ (d : Scan). d.min) (over-more f s e n w b g)
      ∙ over-min n (suc b) (on w b) (λ y. omega (arith, same, y)) ∙ same

  -- the last id of an image that is read in it: e, or the last of all
  pub over-max : (n b : ℕ) (w : Scan) → Seen s e b w → b ≤ e → (over f s e w b (suc n)).max ≡ min (b + n) e
  unfolding over advanced_of
  over-max zero b w h l = ap (λ (d : Scan). d.max) (over-more f s e 0 w b (seen-goes s e b w h l)) ∙ omega arith
  over-max (suc n) b w h l =
      let next = step-seen s e b w h (length (f b)) in
      ap (λ (d : Scan). d.max) (over-more f s e (suc n) w b (seen-goes s e b w h l))
      ∙ by_order (suc b) e
      (λ m. over-max n (suc b) (on w b) next m ∙ omega arith)
      (λ m. ap (λ (d : Scan). d.max) (over-stopped f s e (suc n) (on w b) (suc b) (seen-stops s e (suc b) (on w b) next m)) ∙ omega arith)

  -- the last record of an image that is read in it starts behind the others
  pub over-newest : (n b : ℕ) (w : Scan) → Seen s e b w → b ≤ e → w.pos % 4096 ≡ 0
      → (over f s e w b (suc n)).newest_at ≡ w.pos + length (records_from f b (min (b + n) e - b))
  unfolding over advanced_of records_from
  over-newest zero b w h l p =
      let none : min (b + 0) e - b ≡ 0 = omega arith in
      ap (λ (d : Scan). d.newest_at) (over-more f s e 0 w b (seen-goes s e b w h l))
      ∙ sym (ap (λ (j : ℕ). w.pos + length (records_from f b j)) none ∙ omega arith)
  over-newest (suc n) b w h l p =
      let next = step-seen s e b w h (length (f b)) in
      let place : padded_end 4096 (w.pos + 12 + length (f b)) ≡ w.pos + record_room (length (f b)) = next_place w.pos (length (f b)) p in
      ap (λ (d : Scan). d.newest_at) (over-more f s e (suc n) w b (seen-goes s e b w h l))
      ∙ by_order (suc b) e
      (λ m.
      let one : min (b + suc n) e - b ≡ suc (min (suc b + n) e - suc b) = omega arith in
      let size : length (records_from f b (min (b + suc n) e - b))
      ≡ record_room (length (f b)) + length (records_from f (suc b) (min (suc b + n) e - suc b)) =
      ap (λ (j : ℕ). length (records_from f b j)) one
      ∙ length-append (record_bytes b (f b)) (records_from f (suc b) (min (suc b + n) e - suc b))
      ∙ ap (λ (j : ℕ). j + length (records_from f (suc b) (min (suc b + n) e - suc b))) (record-length b (f b)) in
      over-newest n (suc b) (on w b) next m (pad-multiple 4096 (w.pos + 12 + length (f b)) (lit< tt)) ∙ omega (arith, place, size))
      (λ m.
      let none : min (b + suc n) e - b ≡ 0 = omega arith in
      ap (λ (d : Scan). d.newest_at) (over-stopped f s e (suc n) (on w b) (suc b) (seen-stops s e (suc b) (on w b) next m))
      ∙ sym (ap (λ (j : ℕ). w.pos + length (records_from f b j)) none ∙ omega arith))

  -- the head's place stays where e is not among the records
  pub head-out : (n b : ℕ) (w : Scan) → ((i : ℕ) → b ≤ i → i < b + n → i ≡ e → ⊥) → place_of_e (over f s e w b n) ≡ place_of_e w
  unfolding over advanced_of
  head-out zero b w h = refl
  head-out (suc n) b w h =
      by-test (goes_on w)
      (λ g.
      ap place_of_e (over-more f s e n w b g)
      ∙ head-out n (suc b) (on w b) (λ i l u. h i (omega arith) (omega arith))
      ∙ simp (ne_eqb b e (h b (omega arith) (omega arith))))
      (λ g. ap place_of_e (over-stopped f s e (suc n) w b g))

  -- the head's place is that of e's record
  pub head_in : (n b : ℕ) (w : Scan) → Seen s e b w → b ≤ e → e < b + n → w.pos % 4096 ≡ 0
      → place_of_e (over f s e w b n) ≡ newest_from f w.pos b e
  unfolding advanced_of records_from
  head_in zero b w h l u p = absurd (omega arith)
  head_in (suc n) b w h l u p =
      ap place_of_e (over-more f s e n w b (seen-goes s e b w h l))
      ∙ go (eqb b e) refl (head_in n (suc b) (on w b) (step-seen s e b w h (length (f b))))
    where
      next : padded_end 4096 (w.pos + 12 + length (f b)) ≡ w.pos + record_room (length (f b))
      next = next_place w.pos (length (f b)) p

      go : (t : Bool) → eqb b e ≡ t
          → (suc b ≤ e → e < suc b + n → padded_end 4096 (w.pos + 12 + length (f b)) % 4096 ≡ 0
          → place_of_e (over f s e (on w b) (suc b) n) ≡ newest_from f (padded_end 4096 (w.pos + 12 + length (f b))) (suc b) e)
          → place_of_e (over f s e (on w b) (suc b) n) ≡ newest_from f w.pos b e
      go true q ih =
          let same : b ≡ e = eqb-true b e q in
          let none : e - b ≡ 0 = omega arith in
          let one : e + 1 - b ≡ suc 0 = omega arith in
          let size : length (records_from f b (e + 1 - b)) ≡ record_room (length (f b)) =
          ap (λ (k : ℕ). length (records_from f b k)) one ∙ ap length (append-nil (record_bytes b (f b))) ∙ record-length b (f b) in
          let start : w.pos ≡ w.pos + length (records_from f b (e - b)) =
          sym (ap (λ (k : ℕ). w.pos + length (records_from f b k)) none ∙ omega arith) in
          let end : padded_end 4096 (w.pos + 12 + length (f b)) ≡ w.pos + length (records_from f b (e + 1 - b)) =
          next ∙ sym (ap (λ (k : ℕ). w.pos + k) size) in
          head-out n (suc b) (on w b) (λ i l u z. omega arith)
          ∙ simp q (λ i. record { at = start i; end = end i })
      go false q ih =
          let later : (j k : ℕ) → j ≡ suc k
          → padded_end 4096 (w.pos + 12 + length (f b)) + length (records_from f (suc b) k) ≡ w.pos + length (records_from f b j) =
          λ j k one.
          let size : length (records_from f b j) ≡ record_room (length (f b)) + length (records_from f (suc b) k) =
          ap (λ (i : ℕ). length (records_from f b i)) one ∙ length-append (record_bytes b (f b)) (records_from f (suc b) k)
          ∙ ap (λ (i : ℕ). i + length (records_from f (suc b) k)) (record-length b (f b)) in
          omega (arith, next, size) in
          let more : suc b ≤ e = omega (arith, eqb-false b e q) in
          ih more (omega arith) (pad-multiple 4096 (w.pos + 12 + length (f b)) (lit< tt))
          ∙ (λ i. record { at = later (e - b) (e - suc b) (omega arith) i; end = later (e + 1 - b) (e + 1 - suc b) (omega arith) i })
