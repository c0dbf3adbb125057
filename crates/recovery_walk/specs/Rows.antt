-- The index rows: "each live record gives one index row of four u64: id, slot, payload offset in the slot, length". They are those of
-- the same steps as the walk's. Laws: proofs/. Assumes nothing.
use Rattle.std.specs.Prelude.{List, [], ◌∷◌, ◌++◌, Bool, ◌≡◌, ℕ, ◌+◌, ◌-◌, ◌*◌, ◌<◌, length, get_or, Result, Ok, Err}
use Rattle.lists.specs.Choice.{pick}
use Rattle.lists.specs.Splice.{splice}
use Rattle.lists.specs.Until.{Turn, again, stop, until}
use Rattle.refusal.specs.declared.Refusal.{Refusal}
use Rattle.segment.specs.declared.ImageRow.{ImageRow}
use Rattle.segment.specs.Segment.{image_of}
use Rattle.walk.specs.declared.Scan.{Scan}
use Rattle.walk.specs.Judging.{live_of, more_of, record_step, start_of, opened_of}

-- a live record's four words; no word of another
unfoldable pub row_of : Bool → (id slot off len : ℕ) → List ℕ
row_of t id slot off len = pick t (id ∷ slot ∷ off ∷ len ∷ []) []

-- the words so far, and the walk's state
pub record Pen : Type 0 where
  pub words : List ℕ
  pub scan : Scan

-- words and a state
abbrev pub pen_with : List ℕ → Scan → Pen
pen_with ws w = record { words = ws; scan = w }

-- before the first image
abbrev pub pen_of : Pen
pen_of = pen_with [] start_of

-- after a record: its row where it is live
unfoldable pub moved_of : (slot s e : ℕ) → Pen → Scan → Pen
moved_of slot s e v d = pen_with (v.words ++ row_of (live_of s e d.last) d.last slot d.body d.len) d

-- a step as a turn of the rows' pass
abbrev pub pen_by : (slot s e : ℕ) → Pen → Result Scan Refusal → Turn Pen Pen
pen_by slot s e v (Ok d) = again (moved_of slot s e v d)
pen_by slot s e v (Err r) = stop v

-- one turn
unfoldable pub pen_turn : List ℕ → (slot s e : ℕ) → Pen → Turn Pen Pen
pen_turn img slot s e v = pick (more_of v.scan (length img)) (pen_by slot s e v (record_step img s e v.scan)) (stop v)

-- the words with the rows of one image from a place on
unfoldable pub rows_in : List ℕ → (slot s e : ℕ) → Pen → Pen
rows_in img slot s e v = until (pen_turn img slot s e) (λ x. x) (λ x. length img - x.scan.pos) v

-- the words with the rows of all images, slots of c bytes
unfoldable pub rows_all : List ℕ → (c s e : ℕ) → List ImageRow → Pen → List ℕ
rows_all area c s e [] v = v.words
rows_all area c s e (r ∷ rs) v =
    rows_all area c s e rs (rows_in (image_of area c r) r.slot s e (pen_with v.words (opened_of v.scan r.size)))

-- n rows of four words, whose ids are s, s + 1 and so on
pub record RowIds (s n : ℕ) (ws : List ℕ) : Type 0 where
  pub count : length ws ≡ 4 * n
  pub id-at : (i : ℕ) → i < n → get_or ws (4 * i) 0 ≡ s + i

-- ---- as the code writes them

-- what writing a row's words at a place ensures: the words stand there, and r is the place behind them
pub record RowPut (index : List ℕ) (at : ℕ) (row index' : List ℕ) (r : ℕ) : Type 0 where
  pub next : r ≡ at + length row
  pub words : index' ≡ splice at row index
