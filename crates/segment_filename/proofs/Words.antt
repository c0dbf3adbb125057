-- The laws of words: when two lists have the same bytes, and what a list that begins or ends with a word is made of.
-- Assumes nothing.
use mathlib.Core.Path.{◌≡◌, refl, sym, ap, ◌∙◌}
use mathlib.Core.Bool.{true, false}
use mathlib.Core.List.{List, ◌++◌}
use Prim.Native.Nat.{ℕ, ◌+◌, ◌-◌, ◌≤◌, ◌<◌}
use native.Mathlib.Omega.{arith}
use lib.ListN.{length, get_or, take, drop, length-take, length-drop, length-append, take-append-drop}
use lib.Seq.{ext_get_or, get_or-take, get_or-drop, take_all, take-append_seam, drop-append_seam}
use Rattle.lists.specs.Splice.{part}
use Rattle.lists.proofs.Cases.{by-test}
use Rattle.lists.proofs.Splice.{part_length}
use Rattle.std.proofs.lemmas.Slice.Eq.{bytes_eq-Decides}
use Rattle.segment_filename.specs.Words.{same, starts_with, ends_with, behind, before}

-- a list has the same bytes as itself
pub same_refl : (l : List ℕ) → same l l ≡ true
unfolding same
same_refl l = (bytes_eq-Decides l l).1 refl

-- lists with the same bytes are equal
pub same_true : (k l : List ℕ) → same k l ≡ true → k ≡ l
unfolding same
same_true k l = (bytes_eq-Decides k l).0

-- lists that differ don't have the same bytes
pub same_false : (k l : List ℕ) → (k ≡ l → ⊥) → same k l ≡ false
same_false k l h = by-test (same k l) (λ t. absurd (h (same_true k l t))) (λ t. t)

module _ (s : List ℕ) (at : ℕ) (word : List ℕ) where
  -- a list that is too short for a word doesn't have it
  pub match-short : at ≤ length s → length s - at < length word → same (part at (length word) s) word ≡ false
  match-short low short =
      same_false (part at (length word) s) word
      (λ e. omega (arith, simp (length-take, length-drop) at (ap length e)))

  -- a byte that differs tells a word apart
  pub match-differs : (i : ℕ) → i < length word → (get_or s (at + i) 0 ≡ get_or word i 0 → ⊥)
      → same (part at (length word) s) word ≡ false
  match-differs i h d =
      same_false (part at (length word) s) word
      (λ e. d (sym (get_or-take (length word) (drop at s) i 0 h ∙ get_or-drop at s i 0) ∙ ap (λ (l : List ℕ). get_or l i 0) e))

  -- a word stands where each of its bytes does
  pub match-all : at + length word ≤ length s → ((i : ℕ) → i < length word → get_or s (at + i) 0 ≡ get_or word i 0)
      → same (part at (length word) s) word ≡ true
  match-all fits h =
      let long = part_length at (length word) s fits in
      let equal : part at (length word) s ≡ word =
      ext_get_or 0 (part at (length word) s) word long
      (λ i l. get_or-take (length word) (drop at s) i 0 (omega arith) ∙ get_or-drop at s i 0 ∙ h i (omega arith)) in
      rw equal (same_refl word)

module _ (s word : List ℕ) where
  -- a list that is shorter than a word doesn't end with it
  pub ends-short : length s < length word → ends_with word s ≡ false
  unfolding ends_with
  ends-short short =
      same_false (drop (length s - length word) s) word (λ e. omega (arith, simp length-drop at (ap length e)))

  -- a word at the end is the part of its length there
  pub ends-part : length word ≤ length s → same (part (length s - length word) (length word) s) word ≡ ends_with word s
  unfolding ends_with
  ends-part long =
      ap (λ (l : List ℕ). same l word)
      (take_all (length word) (drop (length s - length word) s) (simp length-drop (omega arith)))

  -- a list that begins with a word is at least as long
  pub starts-long : starts_with word s ≡ true → length word ≤ length s
  unfolding starts_with
  starts-long h = omega (arith, simp length-take at (ap length (same_true (take (length word) s) word h)))

  -- a list that ends with a word is at least as long
  pub ends-long : ends_with word s ≡ true → length word ≤ length s
  unfolding ends_with
  ends-long h = omega (arith, simp length-drop at (ap length (same_true (drop (length s - length word) s) word h)))

  -- a list that begins with a word is the word and what is left behind it
  pub starts-split : starts_with word s ≡ true → s ≡ word ++ behind word s
  unfolding starts_with
  starts-split h =
      sym (take-append-drop (length word) s)
      ∙ ap (λ (l : List ℕ). l ++ behind word s) (same_true (take (length word) s) word h)

  -- a list that ends with a word is what is left before it and the word
  pub ends-split : ends_with word s ≡ true → s ≡ before word s ++ word
  unfolding ends_with
  ends-split h =
      sym (take-append-drop (length s - length word) s)
      ∙ ap (λ (l : List ℕ). before word s ++ l) (same_true (drop (length s - length word) s) word h)

module _ (w l : List ℕ) where
  -- a word with anything behind it begins with it
  pub starts-append : starts_with w (w ++ l) ≡ true
  unfolding starts_with
  starts-append = rw (take-append_seam w l) (same_refl w)

  -- and without it is what stands behind it
  pub behind-append : behind w (w ++ l) ≡ l
  behind-append = drop-append_seam w l

  front_length : length (l ++ w) - length w ≡ length l
  front_length = rw (length-append l w) (omega arith)

  -- a word with anything before it ends with it
  pub ends-append : ends_with w (l ++ w) ≡ true
  unfolding ends_with
  ends-append = rw (front_length, drop-append_seam l w) (same_refl w)

  -- and without it is what stands before it
  pub before-append : before w (l ++ w) ≡ l
  before-append = rw (front_length) (take-append_seam l w)

-- a part up to the end is all that is left
pub part-rest : (k : ℕ) (l : List ℕ) → part k (length l - k) l ≡ drop k l
part-rest k l = take_all (length l - k) (drop k l) (simp length-drop (omega arith))
