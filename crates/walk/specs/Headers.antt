-- "The headers walked": by the places in an image of the headers that its walk comes to, none behind e's record; and the statement, cited
-- by docs/PROMISES.md, that a walk depends on these and on the image's size alone. Proof: proofs/Headers.antt. Assumes nothing.
use Rattle.std.specs.Prelude.{◌≡◌, false, ℕ, Result, Ok}
use Rattle.record.specs.declared.RecordHeader.{RecordHeader}
use Rattle.refusal.specs.declared.Refusal.{Refusal}
use Rattle.walk.specs.declared.Scan.{Scan}
use Rattle.walk.specs.Judging.{header_fits, judge_of, more_of}
use Rattle.walk.specs.Walk.{walk_by}

-- P holds of the place of each header that the walk reads, from a state on
pub data EachHeader (P : ℕ → Type 0) (size : ℕ) (read : ℕ → Result RecordHeader Refusal) (s e : ℕ) : Scan → Type 0 where
  -- the image has ended, or e's record is read
  image-over : {w : Scan} → more_of w size ≡ false → EachHeader P size read s e w
  -- twelve bytes do not fit, and none is read
  header-short : {w : Scan} → header_fits size w.pos ≡ false → EachHeader P size read s e w
  -- a header, and those after it where the walk goes on
  header-here : {w : Scan} → P w.pos
      → ((d : Scan) → judge_of size s e w (read w.pos) ≡ Ok d → EachHeader P size read s e d)
      → EachHeader P size read s e w

-- two ways of reading an image's headers that agree on the headers walked give the same walk: no payload byte and no padding byte is
-- looked at
abbrev pub WalkDepends : Type 0
WalkDepends =
    (size : ℕ) (read read' : ℕ → Result RecordHeader Refusal) (s e : ℕ) (w : Scan) → EachHeader (λ p. read p ≡ read' p) size read s e w
    → walk_by size read s e w ≡ walk_by size read' s e w
