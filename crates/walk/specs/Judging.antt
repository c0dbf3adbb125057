-- One record of the walk, in document 01's words: "12 header bytes must fit; length is checked, then sequence; a record with
-- s <= id <= e must have its payload inside the size, another is skipped; the next position is the padded end"; and where the walk stops,
-- in those of document 02's Ask 1 (`goes_on`). Assumes nothing.
use Rattle.std.specs.Prelude.{List, [], ◌∷◌, Bool, true, false, ◌&&◌, ◌||◌, not, ℕ, ◌+◌, length, ltb, leb, eqb, Result, Ok, Err}
use Rattle.lists.specs.Choice.{pick, ◌⇒◌, first}
use Rattle.page.specs.Page.{padded_end}
use Rattle.record.specs.declared.RecordHeader.{RecordHeader}
use Rattle.record.specs.Record.{max_payload, header_at}
use Rattle.refusal.specs.declared.Refusal.{Refusal}
use Rattle.refusal.specs.declared.Refusal.TheVariants.{ImageGap, ShortHeader, HeaderTooLong, OutOfSequence, ShortPayload}
use Rattle.walk.specs.declared.Scan.{Scan}
use Rattle.walk.specs.declared.Placed.{Placed}

-- ---- the record at a place

-- no image has more bytes: a slot has 2^31 at most
abbrev pub max_image : ℕ
max_image = 2147483648

-- "12 header bytes must fit" the image's size; behind 2^31 bytes there is no image, whatever size is given
unfoldable pub header_fits : (size pos : ℕ) → Bool
header_fits size pos = leb (pos + 12) max_image && leb (pos + 12) size

-- a record of len payload bytes whose header stands at pos
abbrev pub placed_of : (pos len id : ℕ) → Placed
placed_of pos len id = record { id = id; body = pos + 12; len = len; end = pos + 12 + len; next = padded_end 4096 (pos + 12 + len) }

-- what a header's answer comes to where it fits: "length is checked"
abbrev pub read_at : ℕ → Result RecordHeader Refusal → Result Placed Refusal
read_at pos (Ok h) = pick (ltb max_payload h.length) (Err HeaderTooLong) (Ok (placed_of pos h.length h.id))
read_at pos (Err r) = Err r

-- 17 where it does not fit, whatever the answer; else what the answer says: 17 or 18 where `read_header` gives it, or the record
unfoldable pub record_at : (size pos : ℕ) → Result RecordHeader Refusal → Result Placed Refusal
record_at size pos h = pick (header_fits size pos) (read_at pos h) (Err ShortHeader)

-- ---- the step

-- "each id must be one more than the one before it"; 0 is no id, and as the last id stands for no record yet
unfoldable pub follows_of : ℕ → ℕ → Bool
follows_of last id = pick (eqb id 0) false (pick (eqb last 0) true (eqb id (last + 1)))

-- "a record with s <= id <= e" is live
unfoldable pub live_of : ℕ → ℕ → ℕ → Bool
live_of s e id = pick (leb s id) (leb id e) false

-- a live record whose payload ends past the size
unfoldable pub cut_of : (size s e id end : ℕ) → Bool
cut_of size s e id end = pick (live_of s e id) (ltb size end) false

-- the state after a good record, which stands at the state's place
abbrev pub passed_of : Scan → (s e : ℕ) → Placed → Scan
passed_of w s e p = record {
  pos = p.next;
  last = p.id;
  min = pick (eqb w.min 0) p.id w.min;
  max = p.id;
  newest_at = w.pos;
  body = p.body;
  len = p.len;
  found_s = w.found_s || eqb p.id s;
  found_e = w.found_e || eqb p.id e;
  start_of_e = pick (eqb p.id e) w.pos w.start_of_e;
  end_of_e = pick (eqb p.id e) p.next w.end_of_e;
  gap = w.gap;
}

-- 17 and 18; then 19, 20, else the state after the record
unfoldable pub judge_record : (size s e : ℕ) → Scan → Result Placed Refusal → Result Scan Refusal
judge_record size s e w (Err r) = Err r
judge_record size s e w (Ok p) =
    first ((not (follows_of w.last p.id) ⇒ Err OutOfSequence) ∷ (cut_of size s e p.id p.end ⇒ Err ShortPayload) ∷ [])
    (Ok (passed_of w s e p))

-- a header's answer at the state's place, judged; the image has `size` bytes
unfoldable pub judge_of : (size s e : ℕ) → Scan → Result RecordHeader Refusal → Result Scan Refusal
judge_of size s e w h = judge_record size s e w (record_at size w.pos h)

-- the record at the state's place in an image
abbrev pub record_step : List ℕ → (s e : ℕ) → Scan → Result Scan Refusal
record_step img s e w = judge_of (length img) s e w (header_at img w.pos)

-- the state after a good record of len payload bytes at the state's place
unfoldable pub advanced_of : Scan → (s e len id : ℕ) → Scan
advanced_of w s e len id = passed_of w s e (placed_of w.pos len id)

-- ---- one more record, one more image

-- "the walk stops once e's record is read: the rest of that image and all later images are not looked at"
unfoldable pub goes_on : Scan → Bool
goes_on w = not w.found_e

-- "while the position is below the size": one more record in this image, of n bytes, where the walk goes on
unfoldable pub more_of : Scan → ℕ → Bool
more_of w n = goes_on w && ltb w.pos n

-- "image of size above 0 directly after one of size 0", where the walk goes on
unfoldable pub gap_of : Scan → ℕ → Bool
gap_of w n = goes_on w && (w.gap && ltb 0 n)

-- before the first image
abbrev pub start_of : Scan
start_of = record {
  pos = 0;
  last = 0;
  min = 0;
  max = 0;
  newest_at = 0;
  body = 0;
  len = 0;
  found_s = false;
  found_e = false;
  start_of_e = 0;
  end_of_e = 0;
  gap = false;
}

-- "each image is walked from 0"; the sequence goes on over image borders
abbrev pub opened_of : Scan → ℕ → Scan
opened_of w n = record {
  pos = 0;
  last = w.last;
  min = 0;
  max = 0;
  newest_at = 0;
  body = w.body;
  len = w.len;
  found_s = w.found_s;
  found_e = w.found_e;
  start_of_e = w.start_of_e;
  end_of_e = w.end_of_e;
  gap = eqb n 0;
}

-- one more image, of n bytes: "16 before an image's first header", else the state at its front
unfoldable pub next_image : Scan → ℕ → Result Scan Refusal
next_image w n = pick (gap_of w n) (Err ImageGap) (Ok (opened_of w n))
