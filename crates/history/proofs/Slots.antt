-- What a segment's slot holds: the records of its ids; and what a record that is written does to the segments.
-- Assumes nothing.
use mathlib.Core.Bool.{Bool, true, false}
use mathlib.Core.List.{List, ◌++◌}
use mathlib.Core.Path.{◌≡◌, sym, refl, ◌∙◌, ap}
use Prim.Native.Nat.{ℕ, ◌<◌, ◌≤◌, ◌^◌, ◌-◌, ◌+◌, ◌*◌, suc}
use native.Mathlib.Nat.{suc-mul, mul-le-mul_right}
use native.Mathlib.Omega.{arith}
use lib.Dec.{ltb}
use lib.ListN.{length, length-append}
use borrow.Author.Tests.{ne_eqb, eq-eqb, ltb-true, ltb-false}
use Rattle.lists.proofs.Splice.{splice-before, splice-after, splice-grow}
use Rattle.lists.specs.Splice.{part, splice}
use Rattle.record.proofs.Record.{record-length}
use Rattle.record.specs.Record.{max_payload, record_room, record_bytes}
use Rattle.segment.specs.declared.Segment.{Segment}
use Rattle.seglog_append.specs.Appending.{grown_of}
use Rattle.segment.specs.Segment.{image_in}
use Rattle.history.specs.History.{noted}
use Rattle.walk.specs.Records.{records_from}
use Rattle.history.proofs.Records.{from-agree, from_more}

-- g's slot begins with the records of its ids below b, g's size is their length, and the last of them starts at newest_at
pub record Upto (area : List ℕ) (f : ℕ → List ℕ) (k c b : ℕ) (g : Segment) : Type 0 where
  pub slot : g.slot < k
  pub room : g.size ≤ c
  pub id : g.id < 2 ^ 32
  pub top : b ≤ 2 ^ 64
  pub small : (i : ℕ) → g.min ≤ i → i < b → length (f i) ≤ max_payload
  pub long : g.size ≡ length (records_from f g.min (b - g.min))
  pub image : image_in area c g ≡ records_from f g.min (b - g.min)
  pub newest : g.min < b → g.newest_at ≡ length (records_from f g.min (b - 1 - g.min))

-- g's slot begins with all its records
abbrev pub Stored : List ℕ → (ℕ → List ℕ) → ℕ → ℕ → Segment → Type 0
Stored area f k c g = Upto area f k c (g.max + 1) g

-- and g's newest record starts behind the others
pub newest-at : (area : List ℕ) (f : ℕ → List ℕ) (k c : ℕ) (g : Segment) → Stored area f k c g → g.min ≤ g.max
    → g.newest_at ≡ length (records_from f g.min (g.max - g.min))
newest-at area f k c g h order =
    let back : g.max + 1 - 1 ≡ g.max = omega arith in
    h.newest (omega arith) ∙ ap (λ (j : ℕ). length (records_from f g.min (j - g.min))) back

-- a slot ends inside the area
pub slot-under : (c t k : ℕ) → t < k → t * c + c ≤ k * c
slot-under c t k h = rw suc-mul at (mul-le-mul_right c h)

-- another id keeps its payload
pub noted_other : (f : ℕ → List ℕ) (b : ℕ) (p : List ℕ) (i : ℕ) → i < b → f i ≡ noted f b p i
noted_other f b p i h = sym (simp (ne_eqb i b (λ z. omega arith)))

-- the id noted has the payload
pub noted-same : (f : ℕ → List ℕ) (b : ℕ) (p : List ℕ) → noted f b p b ≡ p
noted-same f b p = simp (eq-eqb b b refl)

module _ (area : List ℕ) (k c : ℕ) (all : length area ≡ k * c) (t x : ℕ) (xs : List ℕ) (in_area_lem : t < k) (in-slot : x + length xs ≤ c) where
  inside : t * c + x + length xs ≤ length area
  inside = omega (arith, slot-under c t k in_area_lem)

  -- another slot stays
  pub write-other : (u z : ℕ) → (u ≡ t → ⊥) → z ≤ c → part (u * c) z (splice (t * c + x) xs area) ≡ part (u * c) z area
  write-other u z n h = go (ltb u t) refl
    where
      go : (b : Bool) → ltb u t ≡ b → part (u * c) z (splice (t * c + x) xs area) ≡ part (u * c) z area
      go true e = splice-before (t * c + x) xs area (u * c) z (omega (arith, slot-under c u t (ltb-true u t e)))
      go false e =
          let l : t < u = omega (arith, ltb-false u t e) in
          splice-after (t * c + x) xs area (u * c) z (omega (arith, slot-under c t u l))

  -- the slot grows by what is written
  pub write-grow : part (t * c) (x + length xs) (splice (t * c + x) xs area) ≡ part (t * c) x area ++ xs
  write-grow = splice-grow (t * c + x) xs area inside (t * c) x refl

-- a segment in another slot, whose ids are all below b
pub keep-other : (area : List ℕ) (f : ℕ → List ℕ) (k c : ℕ) → length area ≡ k * c → (t x : ℕ) (xs : List ℕ) → t < k → x + length xs ≤ c
    → (b : ℕ) (p : List ℕ) (g : Segment)
    → (g.slot ≡ t → ⊥) → g.max < b → Stored area f k c g → Stored (splice (t * c + x) xs area) (noted f b p) k c g
keep-other area f k c all t x xs ia is b p g n m h =
    let same : records_from f g.min (g.max + 1 - g.min) ≡ records_from (noted f b p) g.min (g.max + 1 - g.min) =
    from-agree f (noted f b p) g.min (g.max + 1 - g.min) (λ i l u. noted_other f b p i (omega arith)) in
    record {
      slot = h.slot;
      room = h.room;
      id = h.id;
      top = h.top;
      small = λ i l u. rw (← noted_other f b p i (omega arith)) (h.small i l u);
      long = h.long ∙ ap length same;
      image = write-other area k c all t x xs ia is g.slot g.size n h.room ∙ h.image ∙ same;
      newest = λ l.
          h.newest l
          ∙ ap length (from-agree f (noted f b p) g.min (g.max + 1 - 1 - g.min) (λ i l u. noted_other f b p i (omega arith)));
    }

-- the segment that a record is written to
pub keep-grown : (area : List ℕ) (f : ℕ → List ℕ) (k c : ℕ) → length area ≡ k * c → (b : ℕ) (p : List ℕ) (g : Segment) → g.min ≤ b
    → Upto area f k c b g
    → record_room (length p) ≤ c - g.size → length p ≤ max_payload → b < 2 ^ 64
    → Stored (splice (g.slot * c + g.size) (record_bytes b p) area) (noted f b p) k c (grown_of g (record_room (length p)) b)
keep-grown area f k c all b p g low h fits little few =
    record {
      slot = h.slot;
      room = omega (arith, h.room);
      id = h.id;
      top = omega arith;
      small = λ i l u. go i (ltb i b) refl l u;
      long = sym (ap length spans ∙ length-append (records_from f g.min (b - g.min)) (record_bytes b p) ∙ omega (arith, n, h.long));
      image = ap (λ (j : ℕ). part (g.slot * c) (g.size + j) (splice (g.slot * c + g.size) (record_bytes b p) area)) (sym n)
          ∙ write-grow area k c all g.slot g.size (record_bytes b p) h.slot (omega (arith, n, h.room))
          ∙ ap (λ (l : List ℕ). l ++ record_bytes b p) h.image ∙ sym spans;
      newest = λ l.
          let back : b ≡ b + 1 - 1 = omega arith in
          h.long ∙ ap length before ∙ ap (λ (j : ℕ). length (records_from (noted f b p) g.min (j - g.min))) back;
    }
  where
    before : records_from f g.min (b - g.min) ≡ records_from (noted f b p) g.min (b - g.min)
    before = from-agree f (noted f b p) g.min (b - g.min) (λ i l u. noted_other f b p i (omega arith))

    n : length (record_bytes b p) ≡ record_room (length p)
    n = record-length b p

    spans : records_from (noted f b p) g.min (b + 1 - g.min) ≡ records_from f g.min (b - g.min) ++ record_bytes b p
    spans =
        let one : b + 1 - g.min ≡ suc (b - g.min) = omega arith in
        let two : g.min + (b - g.min) ≡ b = omega arith in
        ap (λ (j : ℕ). records_from (noted f b p) g.min j) one ∙ from_more (noted f b p) g.min (b - g.min)
        ∙ ap (λ (j : ℕ). records_from (noted f b p) g.min (b - g.min) ++ record_bytes j (noted f b p j)) two
        ∙ ap (λ (q : List ℕ). records_from (noted f b p) g.min (b - g.min) ++ record_bytes b q) (noted-same f b p)
        ∙ ap (λ (l : List ℕ). l ++ record_bytes b p) (sym before)

    go : (i : ℕ) (t : Bool) → ltb i b ≡ t → g.min ≤ i → i < b + 1 → length (noted f b p i) ≤ max_payload
    go i true e l u = rw (← noted_other f b p i (ltb-true i b e)) (h.small i l (ltb-true i b e))
    go i false e l u = let same : i ≡ b = omega (arith, ltb-false i b e) in rw (same, noted-same f b p) little
