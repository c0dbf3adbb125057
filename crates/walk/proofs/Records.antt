-- The walk over records one behind another, whatever follows them: it comes to the state after them. Assumes nothing.
use mathlib.Core.Path.{◌≡◌, refl, sym, ap, ◌∙◌}
use mathlib.Core.List.{List, ◌++◌, append_assoc}
use mathlib.Core.Bool.{true, false}
use Prim.Native.Nat.{ℕ, zero, suc, ◌+◌, ◌%◌, ◌^◌, ◌≤◌, ◌<◌}
use native.Mathlib.Nat.{add_assoc, add-zero}
use native.Mathlib.Omega.{arith}
use lib.ListN.{length, length-append}
use lib.Dec.{lit<}
use Rattle.std.specs.Prelude.{Ok}
use Rattle.lists.proofs.Bools.{both_ways}
use Rattle.lists.proofs.Cases.{by-test}
use Rattle.page.specs.Page.{padded_end}
use Rattle.page.proofs.Page.{pad-after, pad-multiple}
use Rattle.record.specs.Record.{max_payload, record_room, record_bytes, header_at}
use Rattle.record.proofs.Record.{record-length, room-ge, record-header}
use Rattle.walk.specs.declared.Scan.{Scan}
use Rattle.walk.specs.Judging.{max_image, follows_of, advanced_of, judge_of, record_step, goes_on, more_of}
use Rattle.walk.specs.Walk.{walk_of}
use Rattle.walk.specs.Records.{records_from, over, Plain}
use Rattle.walk.proofs.Judging.{more-inside-goes, judge-next, not-cut, follows-suc}
use Rattle.walk.proofs.Walk.{walk_more}

-- the place behind a record that stands behind whole pages
pub next_place : (a n : ℕ) → a % 4096 ≡ 0 → padded_end 4096 (a + 12 + n) ≡ a + record_room n
unfolding record_room
next_place a n h = ap (padded_end 4096) (add_assoc a 12 n) ∙ pad-after 4096 a (12 + n) (lit< tt) h

-- ---- one record

module _ (pre : List ℕ) (id : ℕ) (p post : List ℕ) (w : Scan) (at : w.pos ≡ length pre) where
  abbrev img : List ℕ
  img = pre ++ (record_bytes id p ++ post)

  pub image-length : length img ≡ length pre + (record_room (length p) + length post)
  image-length =
      length-append pre (record_bytes id p ++ post)
      ∙ ap (λ (k : ℕ). length pre + k) (length-append (record_bytes id p) post ∙ ap (λ (k : ℕ). k + length post) (record-length id p))

  -- there is one more record, where the walk goes on
  pub more-record : goes_on w ≡ true → more_of w (length img) ≡ true
  more-record h = more-inside-goes w (length img) h (omega (arith, image-length, room-ge (length p)))

  -- its step goes on, where its id follows and its bytes lie in the first 2^31
  pub step-record : (s e : ℕ) → length p ≤ max_payload → id < 2 ^ 64 → follows_of w.last id ≡ true
      → length pre + record_room (length p) ≤ max_image → record_step img s e w ≡ Ok (advanced_of w s e (length p) id)
  step-record s e small fits f room =
      ap (judge_of (length img) s e w) (record-header id p pre post w.pos at small fits)
      ∙ judge-next (length img) s e w (length p) id
      (record { small = omega (arith, room-ge (length p)); room = omega (arith, image-length, room-ge (length p)) }) small f
      (not-cut (length img) s e id (w.pos + 12 + length p) (omega (arith, image-length, room-ge (length p))))

-- ---- some records

module _ (f : ℕ → List ℕ) where
  from-length : (a n : ℕ) → length (records_from f a (suc n)) ≡ record_room (length (f a)) + length (records_from f (suc a) n)
  unfolding records_from
  from-length a n =
      length-append (record_bytes a (f a)) (records_from f (suc a) n)
      ∙ ap (λ (k : ℕ). k + length (records_from f (suc a) n)) (record-length a (f a))

  module _ (s e : ℕ) where
    abbrev on : Scan → ℕ → Scan
    on w a = advanced_of w s e (length (f a)) a

    on-place : (w : Scan) (a : ℕ) → w.pos % 4096 ≡ 0 → (on w a).pos ≡ w.pos + record_room (length (f a))
    unfolding advanced_of
    on-place w a h = next_place w.pos (length (f a)) h

    on-whole : (w : Scan) (a : ℕ) → (on w a).pos % 4096 ≡ 0
    unfolding advanced_of
    on-whole w a = pad-multiple 4096 (w.pos + 12 + length (f a)) (lit< tt)

    on-follows : (w : Scan) (a : ℕ) → follows_of (on w a).last (suc a) ≡ true
    unfolding advanced_of
    on-follows w a = follows-suc a

    -- one record more, where the walk goes on; else it has stopped
    pub over-more : (n : ℕ) (w : Scan) (a : ℕ) → goes_on w ≡ true → over f s e w a (suc n) ≡ over f s e (on w a) (suc a) n
    unfolding over
    over-more n w a h = simp h

    pub over-stopped : (n : ℕ) (w : Scan) (a : ℕ) → goes_on w ≡ false → over f s e w a n ≡ w
    unfolding over
    over-stopped zero w a h = refl
    over-stopped (suc n) w a h = simp h

    -- the place behind them, where the walk goes on there
    pub over-place : (n : ℕ) (w : Scan) (a : ℕ) → w.pos % 4096 ≡ 0 → goes_on (over f s e w a n) ≡ true
        → (over f s e w a n).pos ≡ w.pos + length (records_from f a n)
    unfolding over records_from
    over-place zero w a h g = sym (add-zero w.pos)
    over-place (suc n) w a h g =
        by-test (goes_on w)
        (λ k.
        let more = over-more n w a k in
        ap (λ (d : Scan). d.pos) more
        ∙ over-place n (on w a) (suc a) (on-whole w a) (ap goes_on (sym more) ∙ g)
        ∙ omega (arith, on-place w a h, from-length a n))
        (λ k. both_ways (goes_on w) (ap goes_on (sym (over-stopped (suc n) w a k)) ∙ g) k)

    -- OVER RECORDS FOLLOWED BY ANYTHING: the walk is that from the state after them
    pub walk-records : (n : ℕ) (pre post : List ℕ) (a : ℕ) (w : Scan) → w.pos % 4096 ≡ 0 → w.pos ≡ length pre → Plain f a n
        → (goes_on w ≡ true → follows_of w.last a ≡ true) → length pre + length (records_from f a n) ≤ max_image
        → walk_of (pre ++ (records_from f a n ++ post)) s e w ≡ walk_of (pre ++ (records_from f a n ++ post)) s e (over f s e w a n)
    unfolding over records_from
    walk-records zero pre post a w whole at plain g room = refl
    walk-records (suc n) pre post a w whole at plain g room =
        by-test (goes_on w)
        (λ h.
        let here : List ℕ = record_bytes a (f a) in
        let rest : List ℕ = records_from f (suc a) n ++ post in
        let one : pre ++ (records_from f a (suc n) ++ post) ≡ pre ++ (here ++ rest) =
        ap (λ (l : List ℕ). pre ++ l) (append_assoc here (records_from f (suc a) n) post) in
        let two : pre ++ (here ++ rest) ≡ (pre ++ here) ++ rest = sym (append_assoc pre here rest) in
        let long : length (pre ++ here) ≡ length pre + record_room (length (f a)) =
        length-append pre here ∙ ap (λ (k : ℕ). length pre + k) (record-length a (f a)) in
        let small : length (f a) ≤ max_payload = plain.small a (omega arith) (omega arith) in
        let all = from-length a n in
        ap (λ (l : List ℕ). walk_of l s e w) one
        ∙ walk_more (length (pre ++ (here ++ rest))) (header_at (pre ++ (here ++ rest))) s e w (on w a) (more-record pre a (f a) rest w at h)
        (step-record pre a (f a) rest w at s e small (omega (arith, plain.ids)) (g h) (omega arith))
        ∙ ap (λ (l : List ℕ). walk_of l s e (on w a)) two
        ∙ walk-records n (pre ++ here) post (suc a) (on w a) (on-whole w a) (omega (arith, on-place w a whole))
        (record { small = λ i l u. plain.small i (omega arith) (omega arith); ids = omega (arith, plain.ids) }) (λ _. on-follows w a)
        (omega arith)
        ∙ ap (λ (l : List ℕ). walk_of l s e (over f s e (on w a) (suc a) n)) (sym (one ∙ two))
        ∙ ap (walk_of (pre ++ (records_from f a (suc n) ++ post)) s e) (sym (over-more n w a h)))
        (λ h. ap (walk_of (pre ++ (records_from f a (suc n) ++ post)) s e) (sym (over-stopped (suc n) w a h)))
