-- The lines that the programs print of a log, as specimen 13 has them, in bytes. Assumes nothing.
use Rattle.std.specs.Prelude.{List, [], ◌∷◌, ◌++◌, ℕ, zero, suc, length, get_or, drop, ltb}
use Rattle.lists.specs.Choice.{pick}
use Rattle.text.specs.Decimal.{decimal_of}

-- a space, and a number in decimal
abbrev pub spaced : ℕ → List ℕ
spaced v = (32 ∷ []) ++ decimal_of v

-- `kept COUNT live START END`, and a line end
abbrev pub kept_line : ℕ → ℕ → ℕ → List ℕ
kept_line count start end =
    ((107 ∷ 101 ∷ 112 ∷ 116 ∷ 32 ∷ []) ++ decimal_of count) ++ ((32 ∷ 108 ∷ 105 ∷ 118 ∷ 101 ∷ 32 ∷ []) ++ decimal_of start) ++ spaced end
    ++ (10 ∷ [])

-- `ID SLOT OFFSET LENGTH`: the four words of an index row
abbrev pub row_words : ℕ → ℕ → ℕ → ℕ → List ℕ
row_words id slot offset size = decimal_of id ++ spaced slot ++ spaced offset ++ spaced size

-- the line of the row that an index begins with
abbrev pub row_line : List ℕ → List ℕ
row_line index = row_words (get_or index 0 0) (get_or index 1 0) (get_or index 2 0) (get_or index 3 0) ++ (10 ∷ [])

-- a line for each of the first n rows of an index, as far as it has four words for each
unfoldable pub row_lines : ℕ → List ℕ → List ℕ
row_lines zero index = []
row_lines (suc n) index = pick (ltb (length index) 4) [] (row_line index ++ row_lines n (drop 4 index))
