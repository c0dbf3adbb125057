-- The laws of one record of the walk: what each test says, the ways of a judged header, and what a step that goes on tells.
-- Assumes nothing.
use mathlib.Core.Path.{◌≡◌, refl, sym, ap, ◌∙◌}
use mathlib.Core.Bool.{Bool, true, false, ◌&&◌, not, and-false}
use Prim.Native.Nat.{ℕ, zero, suc, ◌+◌, ◌-◌, ◌≤◌, ◌<◌}
use native.Mathlib.Numerals.{add-one, sub-one}
use native.Mathlib.Omega.{arith}
use lib.Dec.{ltb, leb, eqb, eqb-suc-suc, lit<, lit≤}
use borrow.Author.Tests.{eq-eqb, ne_eqb, ltb-true, ltb-false, lt-ltb, le-ltb, leb-true, le-leb, lt-leb, eqb-true, eqb-false}
use Rattle.std.specs.Prelude.{List, length, Result, Ok, Err}
use Rattle.lists.specs.Choice.{pick}
use Rattle.lists.specs.Outcome.{refused, done}
use Rattle.lists.proofs.Bools.{clash, zero-is-not-one, and_both, both_ways}
use Rattle.lists.proofs.Cases.{by-test}
use Rattle.page.proofs.Page.{pad-ge}
use Rattle.little_endian.specs.LittleEndian.{le_at}
use Rattle.record.specs.declared.RecordHeader.{RecordHeader}
use Rattle.record.specs.Record.{max_payload, header_of, header_at}
use Rattle.record.proofs.Record.{header, header_at-outcome}
use Rattle.refusal.specs.declared.Refusal.{Refusal}
use Rattle.refusal.specs.declared.Refusal.TheVariants.{ImageGap, ShortHeader, HeaderTooLong, OutOfSequence, ShortPayload}
use Rattle.refusal.specs.Refusals.{number, outcome}
use Rattle.walk.specs.declared.Scan.{Scan}
use Rattle.walk.specs.declared.Placed.{Placed}
use Rattle.walk.specs.Judging.{max_image, header_fits, placed_of, read_at, record_at, follows_of, live_of, cut_of, passed_of}
use Rattle.walk.specs.Judging.{judge_record, judge_of, advanced_of, goes_on, more_of, gap_of, opened_of, next_image}

-- ---- the tests

-- where there is one more record the walk goes on
pub more-going : (w : Scan) (n : ℕ) → more_of w n ≡ true → goes_on w ≡ true
unfolding more_of
more-going w n h = (and_both (goes_on w) (ltb w.pos n) h).0

-- one more record stands inside the image
pub more-inside : (w : Scan) (n : ℕ) → more_of w n ≡ true → w.pos < n
unfolding more_of
more-inside w n h = ltb-true w.pos n (and_both (goes_on w) (ltb w.pos n) h).1

-- one that stands inside is one more, where the walk goes on
pub more-inside-goes : (w : Scan) (n : ℕ) → goes_on w ≡ true → w.pos < n → more_of w n ≡ true
unfolding more_of
more-inside-goes w n g h = simp (g, lt-ltb w.pos n h)

-- no more record where the walk goes on: the place is at the image's end or past it
pub more-over : (w : Scan) (n : ℕ) → goes_on w ≡ true → more_of w n ≡ false → n ≤ w.pos
unfolding more_of
more-over w n g h = ltb-false w.pos n (ap (λ (b : Bool). b && ltb w.pos n) (sym g) ∙ h)

-- no more record at the image's end
pub more-ended : (w : Scan) (n : ℕ) → n ≤ w.pos → more_of w n ≡ false
unfolding more_of
more-ended w n h = ap (λ (b : Bool). goes_on w && b) (le-ltb w.pos n h) ∙ and-false (goes_on w)

-- behind e's record there is no more record
pub more-stopped : (w : Scan) (n : ℕ) → goes_on w ≡ false → more_of w n ≡ false
unfolding more_of
more-stopped w n g = ap (λ (b : Bool). b && ltb w.pos n) g

-- and no gap
pub gap-stopped : (w : Scan) (n : ℕ) → goes_on w ≡ false → gap_of w n ≡ false
unfolding gap_of
gap-stopped w n g = ap (λ (b : Bool). b && (w.gap && ltb 0 n)) g

-- no gap where the image opened last has a size above 0
pub gap-calm : (w : Scan) (n : ℕ) → w.gap ≡ false → gap_of w n ≡ false
unfolding gap_of
gap-calm w n z = ap (λ (b : Bool). goes_on w && (b && ltb 0 n)) z ∙ and-false (goes_on w)

-- where the walk goes on behind an image of size 0, the next one is of size 0 too
pub gap-none : (w : Scan) (n : ℕ) → goes_on w ≡ true → w.gap ≡ true → gap_of w n ≡ false → n ≡ 0
unfolding gap_of
gap-none w n g z h =
    let calm : ltb 0 n ≡ false = ap (λ (b : Bool). b && ltb 0 n) (sym z) ∙ ap (λ (b : Bool). b && (w.gap && ltb 0 n)) (sym g) ∙ h in
    omega (arith, ltb-false 0 n calm)

-- the walk goes on where e is not found
pub goes_on_lem : (w : Scan) → w.found_e ≡ false → goes_on w ≡ true
unfolding goes_on
goes_on_lem w h = ap not h

-- and stops where it is
pub stopped : (w : Scan) → w.found_e ≡ true → goes_on w ≡ false
unfolding goes_on
stopped w h = ap not h

-- so it says whether e is found
pub going-unfound : (w : Scan) → goes_on w ≡ true → w.found_e ≡ false
unfolding goes_on
going-unfound w h = by-test w.found_e (λ t. both_ways (goes_on w) h (ap not t)) (λ f. f)

pub stopped-found : (w : Scan) → goes_on w ≡ false → w.found_e ≡ true
unfolding goes_on
stopped-found w h = by-test w.found_e (λ t. t) (λ f. both_ways (goes_on w) (ap not f) h)

-- an opened image changes nothing in this
pub opened-goes : (w : Scan) (n : ℕ) → goes_on (opened_of w n) ≡ goes_on w
unfolding goes_on
opened-goes w n = refl

-- a header that fits ends inside the image, and no image is larger than 2^31 bytes
pub record Inside (size pos : ℕ) : Type 0 where
  pub small : pos + 12 ≤ max_image
  pub room : pos + 12 ≤ size

pub fits_inside : (size pos : ℕ) → header_fits size pos ≡ true → Inside size pos
unfolding header_fits
fits_inside size pos h =
    let t = and_both (leb (pos + 12) max_image) (leb (pos + 12) size) h in
    record { small = leb-true (pos + 12) max_image t.0; room = leb-true (pos + 12) size t.1 }

pub inside-fits : (size pos : ℕ) → Inside size pos → header_fits size pos ≡ true
unfolding header_fits
inside-fits size pos h = simp (le-leb (pos + 12) max_image h.small, le-leb (pos + 12) size h.room)

eqb-before : (id last : ℕ) → (id ≡ 0 → ⊥) → eqb (id - 1) last ≡ eqb id (last + 1)
eqb-before zero last h = absurd (h refl)
eqb-before (suc n) last h = rw (sub-one, add-one) (sym (eqb-suc-suc n last))

-- 0 follows nothing
pub follows-zero : (last id : ℕ) → id ≡ 0 → false ≡ follows_of last id
unfolding follows_of
follows-zero last id h = simp (eq-eqb _ _ h)

-- the scan's first record may have any id but 0
pub follows-first : (last id : ℕ) → (id ≡ 0 → ⊥) → last ≡ 0 → true ≡ follows_of last id
unfolding follows_of
follows-first last id h l = simp (ne_eqb _ _ h, eq-eqb _ _ l)

-- a later id is compared without forming the one after the last
pub follows_next : (last id : ℕ) → (id ≡ 0 → ⊥) → (last ≡ 0 → ⊥) → eqb (id - 1) last ≡ follows_of last id
unfolding follows_of
follows_next last id h l = simp (ne_eqb _ _ h, ne_eqb _ _ l) (eqb-before id last h)

-- each id follows the one before it
pub follows-suc : (a : ℕ) → follows_of a (suc a) ≡ true
unfolding follows_of
follows-suc a = go (eqb a 0)
  where
    go : (b : Bool) → pick (eqb (suc a) 0) false (pick b true (eqb (suc a) (a + 1))) ≡ true
    go true = simp (ne_eqb (suc a) 0 (λ z. omega arith))
    go false = simp (ne_eqb (suc a) 0 (λ z. omega arith), eq-eqb (suc a) (a + 1) (omega arith))

-- an id that follows is 1 or more, and one more than the last where there is a last
pub record Follows (last id : ℕ) : Type 0 where
  pub some : 0 < id
  pub next : (last ≡ 0 → ⊥) → id ≡ last + 1

-- a test that holds tells it
pub follows_is : (last id : ℕ) → follows_of last id ≡ true → Follows last id
unfolding follows_of
follows_is last id f = go (eqb id 0) (eqb last 0) refl refl f
  where
    go : (a b : Bool) → eqb id 0 ≡ a → eqb last 0 ≡ b → pick a false (pick b true (eqb id (last + 1))) ≡ true → Follows last id
    go true b ea eb t = clash t
    go false true ea eb t = record { some = omega (arith, eqb-false id 0 ea); next = λ h. absurd (h (eqb-true last 0 eb)) }
    go false false ea eb t =
        record { some = omega (arith, eqb-true id (last + 1) t); next = λ h. eqb-true id (last + 1) t }

-- an id that follows is above the last
pub follows-later : (last id : ℕ) → Follows last id → last < id
follows-later last id w = go (eqb last 0) refl
  where
    go : (b : Bool) → eqb last 0 ≡ b → last < id
    go true e = omega (arith, eqb-true last 0 e, w.some)
    go false e = omega (arith, w.next (eqb-false last 0 e))

-- an id above e is not live
pub live-over : (s e id : ℕ) → e < id → live_of s e id ≡ false
unfolding live_of
live-over s e id h = go (leb s id)
  where
    go : (b : Bool) → pick b (leb id e) false ≡ false
    go true = lt-leb id e h
    go false = refl

-- a payload that ends inside the image is not cut short
pub not-cut : (size s e id end : ℕ) → end ≤ size → cut_of size s e id end ≡ false
unfolding cut_of
not-cut size s e id end h = go (live_of s e id)
  where
    go : (b : Bool) → pick b (ltb size end) false ≡ false
    go true = le-ltb size end h
    go false = refl

-- ---- the ways of a judged header

-- 17: twelve bytes do not fit
pub record-short : (size pos : ℕ) (h : Result RecordHeader Refusal) → header_fits size pos ≡ false → Err ShortHeader ≡ record_at size pos h
unfolding record_at
record-short size pos h f = simp f

-- a header that fits and can't be read: its refusal
pub record-refused : (size pos : ℕ) → header_fits size pos ≡ true → (h : Result RecordHeader Refusal) (r : Refusal) → h ≡ Err r
    → Err r ≡ record_at size pos h
unfolding record_at
record-refused size pos fits h r is = rw is (simp fits)

-- 18: its length is too large
pub record-long : (size pos : ℕ) → header_fits size pos ≡ true → (k : RecordHeader) (h : Result RecordHeader Refusal) → h ≡ Ok k
    → max_payload < k.length → Err HeaderTooLong ≡ record_at size pos h
unfolding record_at
record-long size pos fits k h is l = rw is (simp (fits, lt-ltb max_payload k.length l))

-- a header that fits and is not too long: the record
pub record-good : (size pos : ℕ) → header_fits size pos ≡ true → (k : RecordHeader) (h : Result RecordHeader Refusal) → h ≡ Ok k
    → k.length ≤ max_payload → Ok (placed_of pos k.length k.id) ≡ record_at size pos h
unfolding record_at
record-good size pos fits k h is l = rw is (simp (fits, le-ltb max_payload k.length l))

module _ (size s e : ℕ) (w : Scan) (p : Placed) where
  -- 19: the id does not follow
  pub judge-order : follows_of w.last p.id ≡ false → Err OutOfSequence ≡ judge_record size s e w (Ok p)
  unfolding judge_record
  judge-order f = simp f

  -- 20: a live record that is cut short
  pub judge-cut : follows_of w.last p.id ≡ true → cut_of size s e p.id p.end ≡ true → Err ShortPayload ≡ judge_record size s e w (Ok p)
  unfolding judge_record
  judge-cut f g = simp (f, g)

  -- a good record
  pub judge-good : follows_of w.last p.id ≡ true → cut_of size s e p.id p.end ≡ false
      → Ok (passed_of w s e p) ≡ judge_record size s e w (Ok p)
  unfolding judge_record
  judge-good f g = simp (f, g)

-- a good record at the state's place: the state after it
pub judge-next : (size s e : ℕ) (w : Scan) (len id : ℕ) → Inside size w.pos → len ≤ max_payload → follows_of w.last id ≡ true
    → cut_of size s e id (w.pos + 12 + len) ≡ false → judge_of size s e w (Ok (header len id)) ≡ Ok (advanced_of w s e len id)
unfolding judge_of advanced_of
judge-next size s e w len id h small f g =
    ap (judge_record size s e w) (sym (record-good size w.pos (inside-fits size w.pos h) (header len id) _ refl small))
    ∙ sym (judge-good size s e w (placed_of w.pos len id) f g)

-- a header that does not fit: 17, whatever its answer
pub judge-short : (size s e : ℕ) (w : Scan) (h : Result RecordHeader Refusal) → header_fits size w.pos ≡ false → judge_of size s e w h ≡ Err ShortHeader
unfolding judge_of judge_record
judge-short size s e w h f = ap (judge_record size s e w) (sym (record-short size w.pos h f))

-- ---- what a step that goes on tells

-- the header that was read, that it fits, that its id follows, that a live payload is whole, and the state after it
pub record Went (size s e : ℕ) (w : Scan) (h : Result RecordHeader Refusal) (d : Scan) : Type 0 where
  pub len : ℕ
  pub id : ℕ
  pub read : h ≡ Ok (header len id)
  pub inside : Inside size w.pos
  pub small : len ≤ max_payload
  pub follows : follows_of w.last id ≡ true
  pub whole : cut_of size s e id (w.pos + 12 + len) ≡ false
  pub to : d ≡ advanced_of w s e len id

-- a step that goes on has read a header, and passed every test
pub went : (size s e : ℕ) (w : Scan) (h : Result RecordHeader Refusal) (d : Scan) → judge_of size s e w h ≡ Ok d → Went size s e w h d
unfolding judge_of record_at judge_record advanced_of
went size s e w h d t = by (header_fits size w.pos) h refl t
  where
    by : (a : Bool) (h : Result RecordHeader Refusal) → header_fits size w.pos ≡ a
        → judge_record size s e w (pick a (read_at w.pos h) (Err ShortHeader)) ≡ Ok d → Went size s e w h d
    by false h ea t = zero-is-not-one (cc)
    by true (Err r) ea t = zero-is-not-one (cc)
    by true (Ok k) ea t =
        go (ltb max_payload k.length) (follows_of w.last k.id) (cut_of size s e k.id (w.pos + 12 + k.length)) refl refl refl t
      where
        to : Scan
        to = passed_of w s e (placed_of w.pos k.length k.id)

        go : (b f g : Bool) → ltb max_payload k.length ≡ b → follows_of w.last k.id ≡ f
            → cut_of size s e k.id (w.pos + 12 + k.length) ≡ g
            → judge_record size s e w (pick b (Err HeaderTooLong) (Ok (placed_of w.pos k.length k.id))) ≡ Ok d
            → Went size s e w (Ok k) d
        go true f g eb ef eg t = zero-is-not-one (cc)
        go false false g eb ef eg t = zero-is-not-one (cc (sym (judge-order size s e w (placed_of w.pos k.length k.id) ef)))
        go false true true eb ef eg t = zero-is-not-one (cc (sym (judge-cut size s e w (placed_of w.pos k.length k.id) ef eg)))
        go false true false eb ef eg t =
            let is : Ok to ≡ Ok d = judge-good size s e w (placed_of w.pos k.length k.id) ef eg ∙ t in
            record {
              len = k.length;
              id = k.id;
              read = refl;
              inside = fits_inside size w.pos ea;
              small = ltb-false max_payload k.length eb;
              follows = ef;
              whole = eg;
              to = cc;
            }

-- a step that goes on moves forward
pub step-moves : (size s e : ℕ) (w : Scan) (h : Result RecordHeader Refusal) (d : Scan) → judge_of size s e w h ≡ Ok d → w.pos < d.pos
unfolding advanced_of
step-moves size s e w h d m =
    let g = went size s e w h d m in
    omega (arith, ap (λ (x : Scan). x.pos) g.to, pad-ge 4096 (w.pos + 12 + g.len) (lit< tt))

-- the numbers of a step's faults
pub record StepFault (m : ℕ) : Type 0 where
  pub low : 17 ≤ m
  pub high : m ≤ 20

-- headers that can't be read are refused with such a number
abbrev pub ReadFaults : (ℕ → Result RecordHeader Refusal) → Type 0
ReadFaults read = (p : ℕ) (r : Refusal) → read p ≡ Err r → StepFault (number r)

-- an image's headers are
pub header-faults : (img : List ℕ) → ReadFaults (header_at img)
unfolding header_of
header-faults img p r t =
    go (ltb (length img - p) 12) (ltb max_payload (le_at 4 img p)) (sym (ap outcome t) ∙ header_at-outcome img p)
  where
    go : (a b : Bool)
        → refused (number r)
        ≡ pick a (refused 17) (pick b (refused 18) (done (header (le_at 4 img p) (le_at 8 img (p + 4)))))
        → StepFault (number r)
    go true b q = let is : number r ≡ 17 = cc in record { low = omega arith; high = omega arith }
    go false true q = let is : number r ≡ 18 = cc in record { low = omega arith; high = omega arith }
    go false false q = zero-is-not-one (cc)

-- a fault of a step is 17, 18, 19 or 20
pub step-number : (size s e : ℕ) (w : Scan) (h : Result RecordHeader Refusal)
    → ((r : Refusal) → h ≡ Err r → StepFault (number r)) → (m : Refusal) → judge_of size s e w h ≡ Err m → StepFault (number m)
unfolding judge_of record_at judge_record
step-number size s e w h reads m t = by (header_fits size w.pos) h reads t
  where
    is : (r : Refusal) → r ≡ m → StepFault (number r) → StepFault (number m)
    is r q f = rw q at f

    by : (a : Bool) (h : Result RecordHeader Refusal) → ((r : Refusal) → h ≡ Err r → StepFault (number r))
        → judge_record size s e w (pick a (read_at w.pos h) (Err ShortHeader)) ≡ Err m → StepFault (number m)
    by false h f t = is ShortHeader (cc) (record { low = lit≤ tt; high = lit≤ tt })
    by true (Err r) f t = is r (cc) (f r refl)
    by true (Ok k) f t =
        go (ltb max_payload k.length) (follows_of w.last k.id) (cut_of size s e k.id (w.pos + 12 + k.length)) refl refl t
      where
        p : Placed
        p = placed_of w.pos k.length k.id

        go : (b f g : Bool) → follows_of w.last k.id ≡ f → cut_of size s e k.id (w.pos + 12 + k.length) ≡ g
            → judge_record size s e w (pick b (Err HeaderTooLong) (Ok (placed_of w.pos k.length k.id))) ≡ Err m → StepFault (number m)
        go true f g ef eg t = is HeaderTooLong (cc) (record { low = lit≤ tt; high = lit≤ tt })
        go false false g ef eg t = is OutOfSequence (cc (judge-order size s e w p ef)) (record { low = lit≤ tt; high = lit≤ tt })
        go false true true ef eg t = is ShortPayload (cc (judge-cut size s e w p ef eg)) (record { low = lit≤ tt; high = lit≤ tt })
        go false true false ef eg t = zero-is-not-one (cc (judge-good size s e w p ef eg))

-- the only fault before an image's first header is 16
pub next-image-fault : (w : Scan) (n : ℕ) (m : Refusal) → next_image w n ≡ Err m → m ≡ ImageGap
unfolding next_image
next-image-fault w n m t = go (gap_of w n) t
  where
    go : (b : Bool) → pick b (Err ImageGap) (Ok (opened_of w n)) ≡ Err m → m ≡ ImageGap
    go true t = cc
    go false t = zero-is-not-one (cc)

-- and it is told only where the walk goes on
pub next-image-going : (w : Scan) (n : ℕ) (m : Refusal) → next_image w n ≡ Err m → goes_on w ≡ true
unfolding next_image gap_of
next-image-going w n m t = go (goes_on w) (w.gap && ltb 0 n) t
  where
    go : (a b : Bool) → pick (a && b) (Err ImageGap) (Ok (opened_of w n)) ≡ Err m → a ≡ true
    go true b t = refl
    go false b t = zero-is-not-one (cc)
