-- What a walk depends on: the image's size, and the headers at the places that it comes to. So no payload byte and no padding byte is
-- looked at. Assumes nothing.
use mathlib.Core.Path.{◌≡◌, refl, sym, ap, ◌∙◌}
use mathlib.Core.List.{List}
use mathlib.Core.Bool.{true, false}
use Prim.Native.Nat.{ℕ, ◌+◌, ◌-◌, ◌≤◌, ◌<◌}
use native.Mathlib.Omega.{arith}
use lib.ListN.{length, get_or, drop}
use lib.Seq.{get_or-take, get_or-drop}
use borrow.Author.Tests.{le-ltb}
use Rattle.std.specs.Prelude.{Result, Ok, Err}
use Rattle.lists.specs.Splice.{part}
use Rattle.lists.proofs.Bools.{zero-is-not-one}
use Rattle.lists.proofs.Cases.{by-test}
use Rattle.little_endian.specs.LittleEndian.{le_at}
use Rattle.little_endian.proofs.LittleEndian.{le-agree}
use Rattle.record.specs.declared.RecordHeader.{RecordHeader}
use Rattle.record.specs.Record.{header_of, header_at}
use Rattle.refusal.specs.declared.Refusal.{Refusal}
use Rattle.refusal.specs.declared.Refusal.TheVariants.{ShortHeader}
use Rattle.walk.specs.declared.Scan.{Scan}
use Rattle.walk.specs.declared.Fault.{Fault}
use Rattle.walk.specs.Judging.{judge_of, more_of}
use Rattle.walk.specs.Walk.{walk_by}
use Rattle.walk.specs.Headers.{EachHeader, image-over, header-short, header-here, WalkDepends}
use Rattle.walk.proofs.Judging.{judge-short}
use Rattle.walk.proofs.Walk.{step_at, walk_end, walk_more, walk-fault, walk-ind}

-- ---- headers

-- the n bytes inside a header that two images share spell the same number
field-agrees : (img img' : List ℕ) (pos at n : ℕ) → pos ≤ at → at + n ≤ pos + 12 → part pos 12 img ≡ part pos 12 img'
    → le_at n img at ≡ le_at n img' at
field-agrees img img' pos at n low high same = le-agree n img img' at byte
  where
    inside : (l : List ℕ) (j : ℕ) → at ≤ j → j < at + n → get_or (part pos 12 l) (j - pos) 0 ≡ get_or l j 0
    inside l j a b =
        let back : pos + (j - pos) ≡ j = omega arith in
        get_or-take 12 (drop pos l) (j - pos) 0 (omega arith) ∙ get_or-drop pos l (j - pos) 0 ∙ ap (λ (i : ℕ). get_or l i 0) back

    byte : (j : ℕ) → at ≤ j → j < at + n → get_or img j 0 ≡ get_or img' j 0
    byte j a b = sym (inside img j a b) ∙ ap (λ (l : List ℕ). get_or l (j - pos) 0) same ∙ inside img' j a b

module _ (img img' : List ℕ) (pos : ℕ) (same : part pos 12 img ≡ part pos 12 img') where
  four : le_at 4 img pos ≡ le_at 4 img' pos
  four = field-agrees img img' pos pos 4 (omega arith) (omega arith) same

  eight : le_at 8 img (pos + 4) ≡ le_at 8 img' (pos + 4)
  eight = field-agrees img img' pos (pos + 4) 8 (omega arith) (omega arith) same

  -- a header is read from the image's length and its twelve bytes
  pub header-depends : length img ≡ length img' → header_at img pos ≡ header_at img' pos
  unfolding header_at header_of
  header-depends long = rw (long, four, eight) refl

  -- where twelve bytes are there, from them alone
  pub header-agrees : 12 ≤ length img - pos → 12 ≤ length img' - pos → header_at img pos ≡ header_at img' pos
  unfolding header_at header_of
  header-agrees h h' = simp (le-ltb (length img - pos) 12 h, le-ltb (length img' - pos) 12 h', four, eight)

-- ---- what holds of each header walked

-- what follows from it holds so
pub each_map : (P Q : ℕ → Type 0) (to : (p : ℕ) → P p → Q p) (size : ℕ) (read : ℕ → Result RecordHeader Refusal) (s e : ℕ) (w : Scan)
    → EachHeader P size read s e w → EachHeader Q size read s e w
each_map P Q to size read s e w (image-over h) = image-over h
each_map P Q to size read s e w (header-short h) = header-short h
each_map P Q to size read s e w (header-here p k) = header-here (to _ p) (λ d m. each_map P Q to size read s e d (k d m))

-- what holds of every place holds of each header walked: each walk comes to its end
pub each-everywhere : (P : ℕ → Type 0) → ((p : ℕ) → P p) → (size : ℕ) (read : ℕ → Result RecordHeader Refusal) (s e : ℕ) (w : Scan)
    → EachHeader P size read s e w
each-everywhere P all size read s e w = walk-ind size read s e (λ d a. EachHeader P size read s e d) next fault (λ d h. image-over h) w
  where
    next : (w d : Scan) (a : Result Scan Fault) → more_of w size ≡ true → step_at size read s e w ≡ Ok d → EachHeader P size read s e d
        → EachHeader P size read s e w
    next w d a h m p = header-here (all _) on
      where
        on : (g : Scan) → step_at size read s e w ≡ Ok g → EachHeader P size read s e g
        on g q = let same : d ≡ g = cc in rw (← same) p

    fault : (w : Scan) (k : Refusal) → more_of w size ≡ true → step_at size read s e w ≡ Err k → EachHeader P size read s e w
    fault w k h m = header-here (all _) on
      where
        on : (g : Scan) → step_at size read s e w ≡ Ok g → EachHeader P size read s e g
        on g q = zero-is-not-one (cc)

-- ---- two walks at once

module _ (size : ℕ) (read read' : ℕ → Result RecordHeader Refusal) (s e : ℕ) where
  abbrev At : Scan → Result Scan Refusal
  At = step_at size read s e

  abbrev At' : Scan → Result Scan Refusal
  At' = step_at size read' s e

  -- induction along two walks whose headers agree: each step is the same in both
  module _ (Q : Scan → Type 0) (end : (w : Scan) → more_of w size ≡ false → Q w)
      (fault : (w : Scan) (m : Refusal) → more_of w size ≡ true → At w ≡ Err m → At' w ≡ Err m → Q w)
      (next : (w d : Scan) → more_of w size ≡ true → At w ≡ Ok d → At' w ≡ Ok d → Q d → Q w) where
    turn : (w : Scan) → At w ≡ At' w → ((d : Scan) → At w ≡ Ok d → Q d) → Q w
    turn w same on = by-test (more_of w size) (λ h. go h (At w) refl) (λ h. end w h)
      where
        go : more_of w size ≡ true → (o : Result Scan Refusal) → At w ≡ o → Q w
        go h (Ok d) m = next w d h m (sym same ∙ m) (on d m)
        go h (Err k) m = fault w k h m (sym same ∙ m)

    pub along : (w : Scan) → EachHeader (λ p. read p ≡ read' p) size read s e w → Q w
    along w (image-over h) = end w h
    along w (header-short h) =
        let short : At w ≡ Err ShortHeader = judge-short size s e w (read w.pos) h in
        turn w (short ∙ sym (judge-short size s e w (read' w.pos) h)) (λ d m. zero-is-not-one (cc))
    along w (header-here q k) = turn w (ap (judge_of size s e w) q) (λ d m. along d (k d m))

-- WHAT A WALK DEPENDS ON: its image's size and the headers walked
pub walk-depends : WalkDepends
walk-depends size read read' s e =
    along size read read' s e (λ w. walk_by size read s e w ≡ walk_by size read' s e w)
    (λ w h. walk_end size read s e w h ∙ sym (walk_end size read' s e w h))
    (λ w m h a b. walk-fault size read s e w m h a ∙ sym (walk-fault size read' s e w m h b))
    (λ w d h a b q. walk_more size read s e w d h a ∙ q ∙ sym (walk_more size read' s e w d h b))
