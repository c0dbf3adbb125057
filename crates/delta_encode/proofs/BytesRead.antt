-- Reading the bytes of a delta: each group gives its rows back, with the values where the bytes have them, whatever follows.
-- Assumes nothing.
use Prim.Native.Nat.{ℕ, ◌+◌, ◌<◌, ◌≤◌}
use mathlib.Core.Bool.{Bool, true, false}
use mathlib.Core.List.{List, [], ◌∷◌, ◌++◌, append_assoc}
use mathlib.Core.Path.{◌≡◌, refl, ap, ap₂, sym, ◌∙◌}
use lib.ListN.{length, take, drop, length-append, length-drop, take-append-drop}
use lib.Seq.{length-take-le, take_at, drop_at, drop-drop}
use native.Mathlib.Nat.{zero-add, add-zero}
use native.Mathlib.Numerals.{one-add}
use native.Mathlib.Omega.{arith}
use borrow.Author.Tests.{le-leb, ltb-false}
use Rattle.lists.specs.Choice.{pick}
use Rattle.lists.proofs.Bools.{or-false}
use Rattle.lists.specs.Splice.{part}
use Rattle.little_endian.specs.LittleEndian.{le_at, le_bytes, number_at}
use Rattle.lists.specs.Outcome.{done}
use Rattle.little_endian.proofs.LittleEndian.{le_read, le-bytes-length, number-reads}
use Rattle.lists.specs.Each.{any}
use Rattle.delta.specs.Table.{erased, reinstated}
use Rattle.delta.specs.Reading.{Got.got, Reading, Reading.row, erase_at, reinstate_at, group, prepend}
use Rattle.delta.specs.declared.Row.{Row}
use Rattle.delta_encode.specs.Bytes.{value_of, erase_bytes, reinstate_bytes, concat, sum, erases, reinstates, outside, Keyed}
use Rattle.delta_encode.specs.Entries.{entries, Small}
use Rattle.delta_encode.proofs.BytesWritten.{present-length}

-- the rows that the erase group of ys gives
abbrev pub erased_rows : List Row → List Row
erased_rows [] = []
erased_rows (r ∷ rs) = pick r.present (erased_rows rs) (erased r.key ∷ erased_rows rs)

-- the rows that the reinstate group of ys gives, where it begins at p
abbrev pub reinstated_rows : ℕ → List Row → List Row
reinstated_rows p [] = []
reinstated_rows p (r ∷ rs) =
    pick r.present (reinstated r.key (p + 36) r.length ∷ reinstated_rows (p + (36 + r.length)) rs) (reinstated_rows p rs)

-- the rows of ys in their own order, with the values where the reinstate group has them
abbrev pub moved_rows : ℕ → List Row → List Row
moved_rows p [] = []
moved_rows p (r ∷ rs) =
    pick r.present (reinstated r.key (p + 36) r.length ∷ moved_rows (p + (36 + r.length)) rs) (erased r.key ∷ moved_rows p rs)

-- a part at the front of what is left
pub cut : (s a b : List ℕ) (p n : ℕ) → drop p s ≡ a ++ b → length a ≡ n → p ≤ length s
    → (p + n ≤ length s) × (part p n s ≡ a) × (drop (p + n) s ≡ b)
cut s a b p n e l h =
    let d = length-drop p s in
    let m = ap length e ∙ length-append a b in
    (omega arith, rw e (take_at a b n l), sym (drop-drop n p s) ∙ ap (drop n) e ∙ drop_at a b n l)

-- a number at the front of what is left
number : (s t : List ℕ) (p x : ℕ) → drop p s ≡ le_bytes 4 x ++ t → p ≤ length s → x < 4294967296 → le_at 4 s p ≡ x
number s t p x e h small =
    let whole : s ≡ take p s ++ (le_bytes 4 x ++ t) = sym (take-append-drop p s) ∙ ap (λ (l : List ℕ). take p s ++ l) e in
    ap (λ (l : List ℕ). le_at 4 l p) whole ∙ le_read 4 x (take p s) t p (sym (length-take-le p s h)) small

-- a count at the front of what is left
pub count_at : (s t : List ℕ) (p x : ℕ) → drop p s ≡ le_bytes 4 x ++ t → p ≤ length s → x < 4294967296 → number_at 4 s p ≡ done x
count_at s t p x e h small =
    let c = cut s (le_bytes 4 x) t p 4 e (le-bytes-length 4 x) h in
    number-reads 4 s p (le-leb (p + 4) (length s) c.0) ∙ ap done (number s t p x e h small)

-- a key at the front of what is left
erased-at : (s u : List ℕ) (r : Row) (p : ℕ) → length r.key ≡ 32 → drop p s ≡ r.key ++ u → p ≤ length s
    → erase_at s p ≡ got (erased r.key) (p + 32)
unfolding erase_at
erased-at s u r p k e h =
    let c = cut s r.key u p 32 e k h in
    rw (le-leb (p + 32) (length s) c.0, c.1)

-- the erase group
pub parse-erases : (s tail : List ℕ) (ys : List Row) (p : ℕ) (next : ℕ → Reading) → Keyed ys → drop p s ≡ concat erase_bytes ys ++ tail
    → p ≤ length s
    → group (erase_at s) (sum erases ys) p next ≡ prepend (erased_rows ys) (next (p + length (concat erase_bytes ys)))
unfolding group concat sum prepend
parse-erases s tail [] p next k e h = ap next (sym (add-zero p))
parse-erases s tail (r ∷ rs) p next k e h = go r.present e (λ p' e' h'. parse-erases s tail rs p' next k.1 e' h')
  where
    go : (b : Bool) → drop p s ≡ (pick b [] r.key ++ concat erase_bytes rs) ++ tail
        → ((p' : ℕ) → drop p' s ≡ concat erase_bytes rs ++ tail → p' ≤ length s
        → group (erase_at s) (sum erases rs) p' next ≡ prepend (erased_rows rs) (next (p' + length (concat erase_bytes rs))))
        → group (erase_at s) (pick b 0 1 + sum erases rs) p next
        ≡ prepend (pick b (erased_rows rs) (erased r.key ∷ erased_rows rs))
        (next (p + length (pick b [] r.key ++ concat erase_bytes rs)))
    go true e ih = rw zero-add (ih p e h)
    go false e ih =
        let e' : drop p s ≡ r.key ++ (concat erase_bytes rs ++ tail) = e ∙ append_assoc r.key (concat erase_bytes rs) tail in
        let c = cut s r.key (concat erase_bytes rs ++ tail) p 32 e' k.0 h in
        let l = k.0 in
        let m = length-append r.key (concat erase_bytes rs) in
        let n : p + 32 + length (concat erase_bytes rs) ≡ p + length (r.key ++ concat erase_bytes rs) = omega arith in
        rw (one-add, erased-at s (concat erase_bytes rs ++ tail) r p k.0 e' h)
        (ap (row (erased r.key)) (ih (p + 32) c.2 c.0 ∙ ap (λ (j : ℕ). prepend (erased_rows rs) (next j)) n))

-- a row of the reinstate group at the front of what is left
module _ (s v u : List ℕ) (r : Row) (p : ℕ) (k : length r.key ≡ 32) (z : r.length < 4294967296) (i : r.offset + r.length ≤ length v)
    (e : drop p s ≡ (r.key ++ (le_bytes 4 r.length ++ value_of v r)) ++ u) (h : p ≤ length s) where
  value-long : length (value_of v r) ≡ r.length
  value-long =
      let d = length-drop r.offset v in
      length-take-le r.length (drop r.offset v) (omega arith)

  behind-key : drop p s ≡ r.key ++ (le_bytes 4 r.length ++ (value_of v r ++ u))
  behind-key =
      e ∙ append_assoc r.key (le_bytes 4 r.length ++ value_of v r) u
      ∙ ap (λ (l : List ℕ). r.key ++ l) (append_assoc (le_bytes 4 r.length) (value_of v r) u)

  key-cut : (p + 32 ≤ length s) × (part p 32 s ≡ r.key) × (drop (p + 32) s ≡ le_bytes 4 r.length ++ (value_of v r ++ u))
  key-cut = cut s r.key (le_bytes 4 r.length ++ (value_of v r ++ u)) p 32 behind-key k h

  size-cut : (p + 32 + 4 ≤ length s) × (part (p + 32) 4 s ≡ le_bytes 4 r.length) × (drop (p + 32 + 4) s ≡ value_of v r ++ u)
  size-cut = cut s (le_bytes 4 r.length) (value_of v r ++ u) (p + 32) 4 key-cut.2 (le-bytes-length 4 r.length) key-cut.0

  six : p + 32 + 4 ≡ p + 36
  six = omega arith

  value-cut : (p + 36 + r.length ≤ length s) × (part (p + 36) r.length s ≡ value_of v r) × (drop (p + 36 + r.length) s ≡ u)
  value-cut = cut s (value_of v r) u (p + 36) r.length (rw six at size-cut.2) value-long (rw six at size-cut.0)

  size_is : le_at 4 s (p + 32) ≡ r.length
  size_is = number s (value_of v r ++ u) (p + 32) r.length key-cut.2 key-cut.0 z

  reinstated-at : reinstate_at s p ≡ got (reinstated r.key (p + 36) r.length) (p + (36 + r.length))
  unfolding reinstate_at
  reinstated-at =
      let q = value-cut.0 in
      rw (size_is, le-leb (p + (36 + r.length)) (length s) (omega arith), key-cut.1)

  reinstated-rest : (p + (36 + r.length) ≤ length s) × (drop (p + (36 + r.length)) s ≡ u)
  reinstated-rest =
      let a : p + 36 + r.length ≡ p + (36 + r.length) = omega arith in
      (rw a at value-cut.0, rw a at value-cut.2)

  reinstated-value : value_of s (reinstated r.key (p + 36) r.length) ≡ value_of v r
  reinstated-value = value-cut.1

-- a row of which none is outside is inside
within : (v : List ℕ) (r : Row) (rs : List Row) → any (outside (length v)) (r ∷ rs) ≡ false
    → (r.present ≡ true → r.offset + r.length ≤ length v) × (any (outside (length v)) rs ≡ false)
unfolding any
within v r rs e =
    let o = or-false (outside (length v) r) (any (outside (length v)) rs) e in
    ((λ y. ltb-false (length v) (r.offset + r.length) (rw y at o.0)), o.1)

-- the bytes of a present row, and those of the rows behind it
abbrev present-bytes : List ℕ → Row → List ℕ
present-bytes v r = r.key ++ (le_bytes 4 r.length ++ value_of v r)

-- the reinstate group
pub parse-reinstates : (s v tail : List ℕ) (ys : List Row) (p : ℕ) (next : ℕ → Reading) → Keyed ys → Small ys
    → any (outside (length v)) ys ≡ false
    → drop p s ≡ concat (reinstate_bytes v) ys ++ tail → p ≤ length s
    → group (reinstate_at s) (sum reinstates ys) p next ≡ prepend (reinstated_rows p ys) (next (p + length (concat (reinstate_bytes v) ys)))
unfolding group concat sum prepend
parse-reinstates s v tail [] p next k z a e h = ap next (sym (add-zero p))
parse-reinstates s v tail (r ∷ rs) p next k z a e h =
    go r.present refl e (λ p' e' h'. parse-reinstates s v tail rs p' next k.1 z.1 (within v r rs a).1 e' h')
  where
    go : (b : Bool) → r.present ≡ b → drop p s ≡ (pick b (present-bytes v r) [] ++ concat (reinstate_bytes v) rs) ++ tail
        → ((p' : ℕ) → drop p' s ≡ concat (reinstate_bytes v) rs ++ tail → p' ≤ length s
        → group (reinstate_at s) (sum reinstates rs) p' next ≡ prepend (reinstated_rows p' rs)
        (next (p' + length (concat (reinstate_bytes v) rs))))
        → group (reinstate_at s) (pick b 1 0 + sum reinstates rs) p next
        ≡ prepend (pick b (reinstated r.key (p + 36) r.length ∷ reinstated_rows (p + (36 + r.length)) rs) (reinstated_rows p rs))
        (next (p + length (pick b (present-bytes v r) [] ++ concat (reinstate_bytes v) rs)))
    go false y e ih = rw zero-add (ih p e h)
    go true y e ih =
        let i = (within v r rs a).0 y in
        let u : List ℕ = concat (reinstate_bytes v) rs ++ tail in
        let e' : drop p s ≡ present-bytes v r ++ u = e ∙ append_assoc (present-bytes v r) (concat (reinstate_bytes v) rs) tail in
        let c = reinstated-rest s v u r p k.0 z.0 i e' h in
        let l = present-length v r k.0 i in
        let m = length-append (present-bytes v r) (concat (reinstate_bytes v) rs) in
        let n : p + (36 + r.length) + length (concat (reinstate_bytes v) rs)
        ≡ p + length (present-bytes v r ++ concat (reinstate_bytes v) rs) = omega arith in
        rw (one-add, reinstated-at s v u r p k.0 z.0 i e' h)
        (ap (row (reinstated r.key (p + 36) r.length))
        (ih (p + (36 + r.length)) c.1 c.0 ∙ ap (λ (j : ℕ). prepend (reinstated_rows (p + (36 + r.length)) rs) (next j)) n))

-- the moved rows say what the rows said
pub moved-entries : (s v tail : List ℕ) (ys : List Row) (p : ℕ) → Keyed ys → Small ys → any (outside (length v)) ys ≡ false
    → drop p s ≡ concat (reinstate_bytes v) ys ++ tail → p ≤ length s → entries s (moved_rows p ys) ≡ entries v ys
unfolding concat
moved-entries s v tail [] p k z a e h = refl
moved-entries s v tail (r ∷ rs) p k z a e h = go r.present refl e
    (λ p' e' h'. moved-entries s v tail rs p' k.1 z.1 (within v r rs a).1 e' h')
  where
    go : (b : Bool) → r.present ≡ b → drop p s ≡ (pick b (present-bytes v r) [] ++ concat (reinstate_bytes v) rs) ++ tail
        → ((p' : ℕ) → drop p' s ≡ concat (reinstate_bytes v) rs ++ tail → p' ≤ length s → entries s (moved_rows p' rs) ≡ entries v rs)
        → entries s (pick b (reinstated r.key (p + 36) r.length ∷ moved_rows (p + (36 + r.length)) rs)
        (erased r.key ∷ moved_rows p rs))
        ≡ record { key = r.key; present = b; value = pick b (value_of v r) [] } ∷ entries v rs
    go false y e ih = ap (λ l. record { key = r.key; present = false; value = [] } ∷ l) (ih p e h)
    go true y e ih =
        let i = (within v r rs a).0 y in
        let u : List ℕ = concat (reinstate_bytes v) rs ++ tail in
        let e' : drop p s ≡ present-bytes v r ++ u = e ∙ append_assoc (present-bytes v r) (concat (reinstate_bytes v) rs) tail in
        let c = reinstated-rest s v u r p k.0 z.0 i e' h in
        let w = reinstated-value s v u r p k.0 z.0 i e' h in
        ap₂ ◌∷◌ (λ j. record { key = r.key; present = true; value = w j }) (ih (p + (36 + r.length)) c.1 c.0)
