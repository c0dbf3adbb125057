-- Specimen 13's three lines, byte for byte, of the log and the index rows that it names: the statement that docs/PROMISES.md cites.
-- Proof: proofs/Specimen.antt. Assumes nothing.
use Rattle.std.specs.Prelude.{◌≡◌, [], ◌∷◌, ◌++◌}
use Rattle.listing.specs.Lines.{kept_line, row_lines}

-- one segment, live 1 to 2; record 1 of nothing at 12 and record 2 of three bytes at 4108, both in slot 0
abbrev pub Specimen13 : Type 0
Specimen13 =
    kept_line 1 1 2 ++ row_lines 2 (1 ∷ 0 ∷ 12 ∷ 0 ∷ 2 ∷ 0 ∷ 4108 ∷ 3 ∷ [])
    ≡ (107 ∷ 101 ∷ 112 ∷ 116 ∷ 32 ∷ 49 ∷ 32 ∷ 108 ∷ 105 ∷ 118 ∷ 101 ∷ 32 ∷ 49 ∷ 32 ∷ 50 ∷ 10 ∷ [])
    ++ (49 ∷ 32 ∷ 48 ∷ 32 ∷ 49 ∷ 50 ∷ 32 ∷ 48 ∷ 10 ∷ []) ++ (50 ∷ 32 ∷ 48 ∷ 32 ∷ 52 ∷ 49 ∷ 48 ∷ 56 ∷ 32 ∷ 51 ∷ 10 ∷ [])
