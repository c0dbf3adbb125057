-- The loop that puts a line for each row: its invariant, one turn, and the end.
-- Assumes nothing.
use mathlib.Core.Path.{◌≡◌, refl, sym, ap, ◌∙◌}
use mathlib.Core.List.{List, ◌++◌}
use Prim.Native.Nat.{ℕ, zero, suc, ◌+◌, ◌≤◌, ◌<◌}
use native.Mathlib.Numerals.{add-one}
use native.Mathlib.Omega.{arith}
use lib.ListN.{length, drop, length-append, get_or-append}
use lib.Seq.{drop-append_seam}
use borrow.Author.Tests.{lt-ltb, le-ltb}
use Rattle.lists.proofs.Splice.{splice-length}
use Rattle.text.specs.Texts.{Put}
use Rattle.text.proofs.Texts.{put-join, put-none}
use Rattle.listing.specs.Lines.{row_line, row_lines}

-- what is still to be put: the lines of `left` rows of the index that is left make, behind what stands there up to `end`, the whole text
pub record Rest (at : ℕ) (text first : List ℕ) (end left : ℕ) (index now : List ℕ) : Type 0 where
  pub room : length now ≡ length first
  pub fits : end ≤ length now
  pub makes : (e : ℕ) (k : List ℕ) → Put end (row_lines left index) now e k → Put at text first e k

-- the text that is put ends inside the buffer, which keeps its length
pub put-inside : {at end : ℕ} {text l k : List ℕ} → Put at text l end k → (length k ≡ length l) × (end ≤ length k)
put-inside {at} {end} {text} {l} {k} p =
    let long : length k ≡ length l = ap length p.written ∙ splice-length at text l in (long, omega (arith, p.ends))

-- before the first row all is still to be put
pub rest-begins : {end count : ℕ} {now index : List ℕ} → end ≤ length now → Rest end (row_lines count index) now end count index now
rest-begins h = record { room = refl; fits = h; makes = λ e k q. q }

-- a row is the first words of an index
row-first : (words more : List ℕ) → length words ≡ 4 → row_line (words ++ more) ≡ row_line words
row-first words more four =
    rw (
      get_or-append words more 0 0 (omega arith),
      get_or-append words more 0 1 (omega arith),
      get_or-append words more 0 2 (omega arith),
      get_or-append words more 0 3 (omega arith),
    ) refl

-- the lines of an index that begins with a row
lines-more : (n : ℕ) (words more : List ℕ) → length words ≡ 4 → row_lines (suc n) (words ++ more) ≡ row_line words ++ row_lines n more
unfolding row_lines
lines-more n words more four =
    let long : 4 ≤ length (words ++ more) = omega (arith, length-append words more) in
    let behind : drop 4 (words ++ more) ≡ more = ap (λ (k : ℕ). drop k (words ++ more)) (sym four) ∙ drop-append_seam words more in
    rw (le-ltb (length (words ++ more)) 4 long, row-first words more four, behind) refl

-- one line more
pub rest-turn : (words : List ℕ) {at end left then fewer : ℕ} {text first now next index more : List ℕ} → fewer + 1 ≡ left
    → index ≡ words ++ more
    → length words ≡ 4 → Rest at text first end left index now → Put end (row_line words) now then next
    → Rest at text first then fewer more next
rest-turn words {at} {end} {left} {then} {fewer} {text} {first} {now} {next} {index} {more} one cut four r p =
    let all : row_lines left index ≡ row_line words ++ row_lines fewer more =
    rw (← one, cut, add-one) (lines-more fewer words more four) in
    record {
      room = (put-inside p).0 ∙ r.room;
      fits = (put-inside p).1;
      makes = λ e k q. r.makes e k (rw all (put-join p q));
    }

-- no row is left, or the index has no more
pub rest-ends : (left : ℕ) {at end : ℕ} {text first now index : List ℕ} → (0 < left → length index < 4) → Rest at text first end left index now
    → Put at text first end now
unfolding row_lines
rest-ends zero h r = r.makes _ _ (put-none r.fits)
rest-ends (suc n) {at} {end} {text} {first} {now} {index} h r =
    r.makes end now (rw (lt-ltb (length index) 4 (h (omega arith))) (put-none r.fits))
