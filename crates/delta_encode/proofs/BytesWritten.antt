-- A loop that writes what each row gives, one behind the other; and what it takes to know that all of it fits.
-- Assumes nothing.
use Prim.Native.Nat.{ℕ, ◌+◌, ◌-◌, ◌<◌, ◌≤◌}
use mathlib.Core.Bool.{Bool, true, false}
use borrow.Author.Tests.{ltb-false}
use Rattle.lists.specs.Each.{any}
use Rattle.lists.proofs.Each.{any_at}
use Rattle.lists.proofs.Bools.{zero-is-not-one}
use mathlib.Core.List.{List, [], ◌∷◌, ◌++◌}
use mathlib.Core.Path.{◌≡◌, refl, ap, sym, ◌∙◌}
use lib.ListN.{length, get_or, take, drop, length-append, length-drop, drop_of_length-le}
use lib.Seq.{length-take-le, drop-cons}
use native.Mathlib.Numerals.{add-one}
use native.Mathlib.Omega.{arith}
use Rattle.lists.proofs.Arrays.{front}
use Rattle.delta.specs.declared.Row.{Row}
use Rattle.delta_encode.specs.Bytes.{erase_bytes, reinstate_bytes, value_of, outside, concat, sum, erases, reinstates, size_of, Keyed, Sized}
use Rattle.delta_encode.specs.declared.Sizes.{Sizes}
use Rattle.lists.specs.Splice.{splice}
use Rattle.lists.proofs.Splice.{splice-length, splice-none, splice-join}
use Rattle.little_endian.specs.LittleEndian.{le_bytes}
use Rattle.little_endian.proofs.LittleEndian.{le-bytes-length}

-- of `whole`, to be written at `at` of o, `rest` is left, to be written at p of out
pub record Writing (o : List ℕ) (at : ℕ) (whole out : List ℕ) (p : ℕ) (rest : List ℕ) : Type 0 where
  pub long : length out ≡ length o
  pub left : p + length rest ≡ at + length whole
  pub same : splice at whole o ≡ splice p rest out

-- before the first piece
pub writing_start : (o : List ℕ) (at : ℕ) (whole rest : List ℕ) → whole ≡ rest → Writing o at whole o at rest
writing_start o at whole rest e =
    record { long = refl; left = ap (λ (b : List ℕ). at + length b) (sym e); same = ap (λ (b : List ℕ). splice at b o) e }

module _ (o : List ℕ) (at : ℕ) (whole out : List ℕ) (p : ℕ) (rest : List ℕ) (w : Writing o at whole out p rest) where
  -- a piece more
  pub writing_step : (b more out' : List ℕ) (p' : ℕ) → rest ≡ b ++ more → out' ≡ splice p b out → p' ≡ p + length b
      → Writing o at whole out' p' more
  writing_step b more out' p' e q r =
      let n : length rest ≡ length b + length more = ap length e ∙ length-append b more in
      let left = w.left in
      record {
        long = ap length q ∙ splice-length p b out ∙ w.long;
        left = omega arith;
        same = rw (q, r) (w.same ∙ ap (λ (x : List ℕ). splice p x out) e ∙ sym (splice-join p b more out));
      }

  -- the piece fits
  pub writing-room : (b more : List ℕ) → at + length whole ≤ length o → rest ≡ b ++ more → p + length b ≤ length out
  writing-room b more h e =
      let n : length rest ≡ length b + length more = ap length e ∙ length-append b more in
      let long = w.long in
      let left = w.left in
      omega arith

  -- behind the last piece
  pub writing-end : rest ≡ [] → (p ≡ at + length whole) × (out ≡ splice at whole o)
  writing-end e =
      let n : length rest ≡ 0 = ap length e in
      let left = w.left in
      (omega arith, sym (w.same ∙ ap (λ (x : List ℕ). splice p x out) e ∙ splice-none p out))

-- what measuring the rows before the row i finds, beside what the rows from i on count
pub record Measuring (rows : List Row) (i : ℕ) (m : Sizes) : Type 0 where
  pub erased : m.erases + sum erases (drop i rows) ≡ sum erases rows
  pub kept : m.reinstates + sum reinstates (drop i rows) ≡ sum reinstates rows
  pub size : m.size + sum size_of (drop i rows) ≡ sum size_of rows + 8
  pub keyed : Keyed (drop i rows) → Keyed rows

module _ (rows : List Row) (i : ℕ) where
  -- no row is left: no bytes
  pub concat-end : (f : Row → List ℕ) → length rows ≤ i → concat f (drop i rows) ≡ []
  unfolding concat
  concat-end f h = rw (drop_of_length-le rows {i = i} h)

  -- no row is left: all is counted
  pub measuring-end : (m : Sizes) → length rows ≤ i → Measuring rows i m → Sized rows m
  unfolding sum
  measuring-end m h w =
      let e : drop i rows ≡ [] = drop_of_length-le rows {i = i} h in
      let a = rw e at w.erased in
      let b = rw e at w.kept in
      let c = rw e at w.size in
      record { erased = omega arith; kept = omega arith; size = omega arith; keyed = rw e at w.keyed tt }

  module _ (d : Row) (h : i < length rows) where
    row-front : drop i rows ≡ get_or rows i d ∷ drop (i + 1) rows
    row-front = rw add-one (drop-cons rows i d h)

    -- the bytes from i on begin with those of the row at i
    pub concat-front : (f : Row → List ℕ) → concat f (drop i rows) ≡ f (get_or rows i d) ++ concat f (drop (i + 1) rows)
    unfolding concat
    concat-front f = rw row-front

    -- one row more is counted, with what it adds
    pub measuring-step : (m m' : Sizes) → length (get_or rows i d).key ≡ 32 → m'.erases ≡ m.erases + erases (get_or rows i d)
        → m'.reinstates ≡ m.reinstates + reinstates (get_or rows i d) → m'.size ≡ m.size + size_of (get_or rows i d)
        → Measuring rows i m → Measuring rows (i + 1) m'
    unfolding sum
    measuring-step m m' k a b c w =
        let a' = rw row-front at w.erased in
        let b' = rw row-front at w.kept in
        let c' = rw row-front at w.size in
        record { erased = omega arith; kept = omega arith; size = omega arith; keyed = λ r. rw row-front at w.keyed (k, r) }

    -- an absent row gives its key to the erase group
    pub erase-absent : (get_or rows i d).present ≡ false → concat erase_bytes (drop i rows)
        ≡ (get_or rows i d).key ++ concat erase_bytes (drop (i + 1) rows)
    erase-absent e = concat-front erase_bytes ∙ rw e

    -- a present row gives it nothing
    pub erase-present : (get_or rows i d).present ≡ true → concat erase_bytes (drop i rows) ≡ concat erase_bytes (drop (i + 1) rows)
    erase-present e = concat-front erase_bytes ∙ rw e

    -- a present row gives its key, length and value to the reinstate group
    pub reinstate-present : (v : List ℕ) → (get_or rows i d).present ≡ true
        → concat (reinstate_bytes v) (drop i rows) ≡ ((get_or rows i d).key
        ++ (le_bytes 4 (get_or rows i d).length ++ value_of v (get_or rows i d))) ++ concat (reinstate_bytes v) (drop (i + 1) rows)
    reinstate-present v e = concat-front (reinstate_bytes v) ∙ rw e

    -- an absent row gives it nothing
    pub reinstate-absent : (v : List ℕ) → (get_or rows i d).present ≡ false
        → concat (reinstate_bytes v) (drop i rows) ≡ concat (reinstate_bytes v) (drop (i + 1) rows)
    reinstate-absent v e = concat-front (reinstate_bytes v) ∙ rw e

    -- a row of which none is outside is inside
    pub inside : (v : List ℕ) → any (outside (length v)) rows ≡ false → (get_or rows i d).present ≡ true
        → (get_or rows i d).offset + (get_or rows i d).length ≤ length v
    inside v e y = go (outside (length v) (get_or rows i d)) refl
      where
        go : (b : Bool) → outside (length v) (get_or rows i d) ≡ b → (get_or rows i d).offset + (get_or rows i d).length ≤ length v
        go true q = let t = any_at (outside (length v)) d rows i h q in zero-is-not-one (cc)
        go false q = ltb-false (length v) ((get_or rows i d).offset + (get_or rows i d).length) (rw y at q)

-- how many bytes a present row takes
pub present-length : (v : List ℕ) (r : Row) → length r.key ≡ 32 → r.offset + r.length ≤ length v
    → length (r.key ++ (le_bytes 4 r.length ++ value_of v r)) ≡ 36 + r.length
present-length v r k h =
    let d = length-drop r.offset v in
    let n : length (value_of v r) ≡ r.length = length-take-le r.length (drop r.offset v) (omega arith) in
    let m = length-append r.key (le_bytes 4 r.length ++ value_of v r) in
    let c = length-append (le_bytes 4 r.length) (value_of v r) in
    let f = le-bytes-length 4 r.length in
    omega arith

-- three pieces in a row: a key, a number of four bytes and a value
pub splice-three : (o : List ℕ) (at : ℕ) (k w v o1 o2 o3 : List ℕ) → length k ≡ 32 → length w ≡ 4
    → o1 ≡ splice at k o → o2 ≡ splice (at + 32) w o1 → o3 ≡ splice (at + 36) v o2 → o3 ≡ splice at (k ++ (w ++ v)) o
splice-three o at k w v o1 o2 o3 lk lw e1 e2 e3 =
    let n2 : at + 32 ≡ at + length k = omega arith in
    let n3 : at + 36 ≡ at + length k + length w = omega arith in
    e3 ∙ ap (λ (x : List ℕ). splice (at + 36) v x) (e2 ∙ ap (λ (x : List ℕ). splice (at + 32) w x) e1
    ∙ ap (λ (j : ℕ). splice j w (splice at k o)) n2)
    ∙ ap (λ (j : ℕ). splice j v (splice (at + length k) w (splice at k o))) n3
    ∙ splice-join (at + length k) w v (splice at k o) ∙ splice-join at k (w ++ v) o

-- ---- what rows count, from the last one on

module _ (rows : List Row) (n i : ℕ) (l : n ≤ length rows) where
  -- no row is left: nothing is counted
  pub sized-end : n ≤ i → Sized (drop i (take n rows)) (record { erases = 0; reinstates = 0; size = 8 })
  unfolding sum
  sized-end h =
      rw (drop_of_length-le (take n rows) {i = i} (simp (length-take-le n rows l) h))
      (record { erased = refl; kept = refl; size = refl; keyed = tt })

  -- the row before i
  module _ (p : 0 < i) (q : i ≤ n) (d : Row) where
    before : drop (i - 1) (take n rows) ≡ get_or rows (i - 1) d ∷ drop i (take n rows)
    before =
        let e : i - 1 + 1 ≡ i = omega arith in
        front rows n (i - 1) d (omega arith) l ∙ ap (λ (k : ℕ). get_or rows (i - 1) d ∷ drop k (take n rows)) e

    -- one row more is counted, with what it adds
    pub sized-before : (e k size e' k' size' : ℕ) → length (get_or rows (i - 1) d).key ≡ 32
        → e' ≡ erases (get_or rows (i - 1) d) + e → k' ≡ reinstates (get_or rows (i - 1) d) + k → size' ≡ size_of (get_or rows (i - 1) d) + size
        → Sized (drop i (take n rows)) (record { erases = e; reinstates = k; size = size })
        → Sized (drop (i - 1) (take n rows)) (record { erases = e'; reinstates = k'; size = size' })
    unfolding sum
    sized-before e k size e' k' size' long he hk hs s =
        let a = s.erased in
        let b = s.kept in
        let c = s.size in
        rw before (record { erased = omega arith; kept = omega arith; size = omega arith; keyed = (long, s.keyed) })
