-- The statements that docs/PROMISES.md cites; proofs: proofs/Shaped.antt. `length l.segs ≡ 64` is the array's type. Assumes nothing.
use Rattle.std.specs.Prelude.{◌≡◌, true, ℕ, ◌*◌, length}
use Rattle.seglog.specs.declared.Log.{Log}
use Rattle.seglog.specs.Fit.{fitting_of}
use Rattle.seglog.specs.Shape.{WellShaped}

-- a log that refusal 2's test passes is well shaped, and the area has K x C bytes
abbrev pub ShapedSound : Type 0
ShapedSound = (l : Log) (n : ℕ) → length l.segs ≡ 64 → fitting_of l n ≡ true → WellShaped l × (n ≡ l.k * l.c)

-- a well-shaped log passes it, with an area of K x C bytes
abbrev pub ShapedComplete : Type 0
ShapedComplete = (l : Log) (n : ℕ) → length l.segs ≡ 64 → WellShaped l → n ≡ l.k * l.c → fitting_of l n ≡ true
