-- "Each live record gives one index row": the rows of an accepted scan are those of the ids s, s + 1, .., e, each once and in order.
-- Assumes nothing.
use mathlib.Core.Path.{◌≡◌, refl, sym, ap, ◌∙◌}
use mathlib.Core.List.{List, [], ◌∷◌, ◌++◌, append-nil}
use mathlib.Core.Bool.{Bool, true, false, ◌||◌, not}
use Prim.Native.Nat.{ℕ, ◌+◌, ◌-◌, ◌*◌, ◌≤◌, ◌<◌, min}
use native.Mathlib.Omega.{arith}
use lib.ListN.{length, get_or, length-append, get_or-append}
use lib.Seq.{get_or-append_seam}
use lib.Dec.{ltb, leb, eqb}
use borrow.Author.Tests.{leb-true, leb-false, eqb-true, ltb-false, le-leb}
use Rattle.lists.specs.Choice.{pick}
use Rattle.lists.specs.Outcome.{Outcome, refused, done}
use Rattle.lists.proofs.Bools.{clash, zero-is-not-one}
use Rattle.lists.proofs.Cases.{by-test, by_order}
use Rattle.record.specs.declared.RecordHeader.{RecordHeader}
use Rattle.record.specs.Record.{header_at}
use Rattle.segment.specs.declared.Segment.{Segment}
use Rattle.segment.specs.declared.ImageRow.{ImageRow}
use Rattle.segment.specs.Segment.{image_of}
use Rattle.walk.specs.declared.Scan.{Scan}
use Rattle.std.specs.Prelude.{Result, Ok}
use Rattle.refusal.specs.declared.Refusal.{Refusal}
use Rattle.walk.specs.Judging.{live_of, judge_of, advanced_of, more_of, record_step, opened_of, start_of}
use Rattle.walk.specs.Walk.{walk_of}
use Rattle.walk.proofs.Judging.{went, follows_is, follows-later}
use Rattle.walk.proofs.Walk.{walk-keeps}
use Rattle.recovery_walk.specs.Images.{Found, walked, images}
use Rattle.recovery_walk.specs.Rows.{row_of, Pen, pen_with, moved_of, rows_in, rows_all, RowIds}
use Rattle.recovery_walk.specs.Scan.{live_count, judged}
use Rattle.recovery_walk.specs.Promised.{ScanRows}
use Rattle.recovery_walk.proofs.Images.{walked_same, first-walked}
use Rattle.recovery_walk.proofs.Rows.{rows_end, rows_next, rows-scan, row-live, row-dead}

-- ---- an accepted scan

-- what an accepted scan tells: the walk went through, s and e were found, and the index has room
pub record Accepted (s e words : ℕ) (o : Outcome Found) (w : Scan) (gs : List Segment) : Type 0 where
  pub walk : o ≡ walked w gs
  pub start : w.found_s ≡ true
  pub end : w.found_e ≡ true
  pub room : 4 * live_count s e ≤ words

-- an accepted scan tells it
pub scan-accepted : (s e words : ℕ) (o : Outcome Found) (w : Scan) (gs : List Segment) → judged s e words o ≡ walked w gs
    → Accepted s e words o w gs
unfolding judged
scan-accepted s e words (refused m) w gs q = zero-is-not-one (cc)
scan-accepted s e words (done (d, hs)) w gs q =
    go d.found_s d.found_e (ltb words (4 * live_count s e)) refl refl refl q
  where
    go : (a b t : Bool) → d.found_s ≡ a → d.found_e ≡ b → ltb words (4 * live_count s e) ≡ t
        → pick (not a) (refused 21) (pick (not b) (refused 22) (pick t (refused 23) (walked d hs))) ≡ walked w gs
        → Accepted s e words (walked d hs) w gs
    go false b t ea eb et z = zero-is-not-one (cc)
    go true false t ea eb et z = zero-is-not-one (cc)
    go true true true ea eb et z = zero-is-not-one (cc)
    go true true false ea eb et z =
        let same : d ≡ w = (walked_same z).0 in
        record { walk = z; start = rw (← same) ea; end = rw (← same) eb; room = ltb-false words (4 * live_count s e) et }

-- ---- rows, one behind another

-- no rows
ids-none : (s : ℕ) → RowIds s 0 []
ids-none s = record { count = refl; id-at = λ i h. absurd (omega arith) }

-- one row more
ids_more : (s m : ℕ) (ws : List ℕ) (id slot off len : ℕ) → id ≡ s + m → RowIds s m ws
    → RowIds s (m + 1) (ws ++ (id ∷ slot ∷ off ∷ len ∷ []))
ids_more s m ws id slot off len is h =
    record {
      count = rw length-append (omega (arith, h.count));
      id-at = λ i l. by_order (i + 1) m (λ g. before i g) (λ g. last i (omega arith));
    }
  where
    row : List ℕ
    row = id ∷ slot ∷ off ∷ len ∷ []

    before : (i : ℕ) → i + 1 ≤ m → get_or (ws ++ row) (4 * i) 0 ≡ s + i
    before i g = get_or-append ws row 0 (4 * i) (omega (arith, h.count)) ∙ h.id-at i (omega arith)

    last : (i : ℕ) → i ≡ m → get_or (ws ++ row) (4 * i) 0 ≡ s + i
    last i g =
        let at : 4 * i ≡ length ws = omega (arith, h.count) in
        ap (λ (j : ℕ). get_or (ws ++ row) j 0) at ∙ get_or-append_seam ws id (slot ∷ off ∷ len ∷ []) 0 ∙ omega arith

-- ---- the walk

-- a live id lies in the range
live-range : (s e id : ℕ) → live_of s e id ≡ true → (s ≤ id) × (id ≤ e)
unfolding live_of
live-range s e id h = go (leb s id) refl h
  where
    go : (b : Bool) → leb s id ≡ b → pick b (leb id e) false ≡ true → (s ≤ id) × (id ≤ e)
    go true eb t = (leb-true s id eb, leb-true id e t)
    go false eb t = zero-is-not-one (cc)

-- an id from s on that is not live lies behind e
dead-behind : (s e id : ℕ) → live_of s e id ≡ false → s ≤ id → e < id
unfolding live_of
dead-behind s e id h l = leb-false id e (rw (le-leb s id l) at h)

-- what the words are at a state of the walk: once s is found, the rows of s up to the last id or e; before that none
record Sound (s e : ℕ) (w : Scan) (ws : List ℕ) : Type 0 where
  pub found : w.found_s ≡ true → s ≤ w.last
  pub rows : w.found_s ≡ true → RowIds s (min w.last e + 1 - s) ws
  pub none : w.found_s ≡ false → w.last < s → ws ≡ []
  pub ended : w.found_e ≡ true → e ≤ w.last

-- what a step that goes on does to the ids
record Stepped (s e : ℕ) (w d : Scan) : Type 0 where
  pub later : w.last < d.last
  pub next : (w.last ≡ 0 → ⊥) → d.last ≡ w.last + 1
  pub start : d.found_s ≡ w.found_s || eqb d.last s
  pub end : d.found_e ≡ w.found_e || eqb d.last e

stepped : (size s e : ℕ) (w : Scan) (h : Result RecordHeader Refusal) (d : Scan) → judge_of size s e w h ≡ Ok d → Stepped s e w d
unfolding advanced_of
stepped size s e w h d m =
    let g = went size s e w h d m in
    let f = follows_is w.last g.id g.follows in
    rw g.to (record { later = follows-later w.last g.id f; next = f.next; start = refl; end = refl })

module _ (s e : ℕ) (some : 0 < s) (w d : Scan) (m : Stepped s e w d) (ws : List ℕ) (slot off len : ℕ) (h : Sound s e w ws) where
  abbrev row : List ℕ
  row = row_of (live_of s e d.last) d.last slot off len

  -- a row of the next id, where it is live
  longer : s ≤ d.last → RowIds s (d.last - s) ws → live_of s e d.last ≡ true → RowIds s (min d.last e + 1 - s) (ws ++ row)
  longer l r t =
      let range = live-range s e d.last t in
      let count : min d.last e + 1 - s ≡ d.last - s + 1 = omega (arith, range.1) in
      rw (count, row-live (live_of s e d.last) d.last slot off len t)
      (ids_more s (d.last - s) ws d.last slot off len (omega arith) r)

  -- no row behind e
  as_long : (k : ℕ) → k ≡ min d.last e + 1 - s → RowIds s k ws → live_of s e d.last ≡ false
      → RowIds s (min d.last e + 1 - s) (ws ++ row)
  as_long k q r t = rw (row-dead (live_of s e d.last) d.last slot off len t, append-nil, ← q) r

  -- s was found before
  after-start : w.found_s ≡ true → RowIds s (min d.last e + 1 - s) (ws ++ row)
  after-start a =
      let l = h.found a in
      let next : d.last ≡ w.last + 1 = m.next (λ z. omega arith) in
      by-test (live_of s e d.last)
      (λ t.
      let range = live-range s e d.last t in
      let count : min w.last e + 1 - s ≡ d.last - s = omega (arith, range.1) in
      longer (omega arith) (rw count at (h.rows a)) t)
      (λ t. let past = dead-behind s e d.last t (omega arith) in as_long (min w.last e + 1 - s) (omega arith) (h.rows a) t)

  -- s is found here
  at-start : w.found_s ≡ false → d.last ≡ s → RowIds s (min d.last e + 1 - s) (ws ++ row)
  at-start a is =
      let empty : ws ≡ [] = h.none a (omega (arith, m.later)) in
      let none : RowIds s 0 ws = rw empty (ids-none s) in
      let zero-before : 0 ≡ d.last - s = omega arith in
      by-test (live_of s e d.last) (λ t. longer (omega arith) (rw zero-before at none) t)
      (λ t. let past = dead-behind s e d.last t (omega arith) in as_long 0 (omega arith) none t)

  -- a step keeps it, with the record's row
  sound-step : Sound s e d (ws ++ row)
  sound-step =
      record {
        found = λ t. by-start t (λ a. omega (arith, h.found a, m.later)) (λ a q. omega arith);
        rows = λ t. by-start t after-start at-start;
        none = λ t l. before-start t l;
        ended = λ t. by_end w.found_e (eqb d.last e) refl refl (sym m.end ∙ t);
      }
    where
      by-start : {P : Type 0} → d.found_s ≡ true → (w.found_s ≡ true → P) → (w.found_s ≡ false → d.last ≡ s → P) → P
      by-start {P} t old new = go w.found_s (eqb d.last s) refl refl (sym m.start ∙ t)
        where
          go : (a b : Bool) → w.found_s ≡ a → eqb d.last s ≡ b → a || b ≡ true → P
          go true b ea eb z = old ea
          go false true ea eb z = new ea (eqb-true d.last s eb)
          go false false ea eb z = zero-is-not-one (cc)

      by_end : (a b : Bool) → w.found_e ≡ a → eqb d.last e ≡ b → a || b ≡ true → e ≤ d.last
      by_end true b ea eb z = omega (arith, h.ended ea, m.later)
      by_end false true ea eb z = omega (arith, eqb-true d.last e eb)
      by_end false false ea eb z = zero-is-not-one (cc)

      before-start : d.found_s ≡ false → d.last < s → ws ++ row ≡ []
      before-start t l = go w.found_s refl (sym m.start ∙ t)
        where
          dead : live_of s e d.last ≡ false
          dead = by-test (live_of s e d.last) (λ q. absurd (omega (arith, (live-range s e d.last q).0))) (λ q. q)

          go : (a : Bool) → w.found_s ≡ a → a || eqb d.last s ≡ false → ws ++ row ≡ []
          go true ea z = zero-is-not-one (cc)
          go false ea z =
              rw (row-dead (live_of s e d.last) d.last slot off len dead, append-nil) (h.none ea (omega (arith, m.later)))

-- an image that is walked to its end keeps it, with the image's rows
sound-image : (img : List ℕ) (slot s e : ℕ) → 0 < s → (w d : Scan) → walk_of img s e w ≡ Ok d → (ws : List ℕ) → Sound s e w ws
    → Sound s e d (rows_in img slot s e (pen_with ws w)).words
unfolding moved_of
sound-image img slot s e some = walk-keeps (length img) (header_at img) s e Keeps next end
  where
    Keeps : Scan → Scan → Type 0
    Keeps w d = (ws : List ℕ) → Sound s e w ws → Sound s e d (rows_in img slot s e (pen_with ws w)).words

    next : (w d z : Scan) → more_of w (length img) ≡ true → record_step img s e w ≡ Ok d → Keeps d z → Keeps w z
    next w d z h m on ws k =
        rw (rows_next img slot s e (pen_with ws w) d h m)
        (on _ (sound-step s e some w d (stepped (length img) s e w (header_at img w.pos) d m) ws slot d.body d.len k))

    end : (w : Scan) → more_of w (length img) ≡ false → Keeps w w
    end w h ws k = rw (rows_end img slot s e (pen_with ws w) h) k

-- all images keep it, with all rows
sound-walk : (area : List ℕ) (c s e : ℕ) → 0 < s → (rs : List ImageRow) (w d : Scan) (hs : List Segment) (ws : List ℕ)
    → images area c s e rs w ≡ walked d hs → Sound s e w ws → Sound s e d (rows_all area c s e rs (pen_with ws w))
unfolding images rows_all
sound-walk area c s e some [] w d hs ws q k = rw (← (walked_same q).0) k
sound-walk area c s e some (r ∷ rs) w d hs ws q k =
    let f = first-walked area c s e r w rs d hs q in
    let from : Scan = opened_of w r.size in
    let here : Pen = rows_in (image_of area c r) r.slot s e (pen_with ws from) in
    let to : here ≡ pen_with here.words f.state = rows-scan (image_of area c r) r.slot s e from f.state f.ended ws in
    let opened : Sound s e from ws = record { found = k.found; rows = k.rows; none = k.none; ended = k.ended } in
    rw to
    (sound-walk area c s e some rs f.state d f.later here.words f.on
    (sound-image (image_of area c r) r.slot s e some from f.state f.ended ws opened))

-- nothing is found before the first image
sound-first : (s e : ℕ) → Sound s e start_of []
sound-first s e = record { found = λ t. clash t; rows = λ t. clash t; none = λ t l. refl; ended = λ t. clash t }

pub scan-rows : ScanRows
scan-rows area c s e rs w gs some q start end =
    let k = sound-walk area c s e some rs start_of w gs [] q (sound-first s e) in
    let past = k.ended end in
    let count : min w.last e + 1 - s ≡ live_count s e = omega arith in
    rw count at (k.rows start)
