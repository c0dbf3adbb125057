-- What `encode` puts together: its answers by the tests, the length of the bytes, and the four parts written one behind the other.
-- Assumes nothing.
use Prim.Native.Nat.{ℕ, ◌+◌, ◌<◌, ◌≤◌}
use mathlib.Core.Bool.{Bool, true, false, ◌||◌}
use mathlib.Core.List.{List, [], ◌∷◌, ◌++◌}
use mathlib.Core.Path.{◌≡◌, refl, ap, sym, ◌∙◌}
use lib.ListN.{length, length-append, length-take}
use native.Mathlib.Omega.{arith}
use borrow.Author.Tests.{lt-ltb, le-ltb, ltb-false}
use Rattle.lists.proofs.Bools.{zero-is-not-one}
use Rattle.lists.specs.Choice.{pick}
use Rattle.std.specs.Prelude.{Result, Ok, Err}
use Rattle.refusal.specs.declared.Refusal.{Refusal}
use Rattle.refusal.specs.declared.Refusal.TheVariants.{TableOutside, DuplicateKey, OutputShort}
use Rattle.refusal.specs.Refusals.{number, outcome}
use Rattle.refusal.proofs.Refusals.{numbers-differ}
use Rattle.lists.specs.Outcome.{Outcome, refused, done}
use Rattle.lists.proofs.Outcome.{refused-is-not-done, refused-injective, done-injective}
use Rattle.lists.specs.Splice.{splice}
use Rattle.lists.proofs.Splice.{splice-join}
use Rattle.little_endian.specs.LittleEndian.{le_bytes}
use Rattle.little_endian.proofs.LittleEndian.{le-bytes-length}
use Rattle.lists.specs.Each.{any}
use Rattle.keys.specs.Sorting.{sort_by, clash}
use Rattle.lists.proofs.AnyOrder.{any-any}
use Rattle.lists.proofs.Sort.{sort-length}
use Rattle.keys.specs.Order.{below}
use Rattle.keys.proofs.Sorting.{sort-any}
use Rattle.delta.specs.Table.{row_key, rows_of, table_of, arranged_of}
use Rattle.delta.proofs.TablePlain.{rows-table}
use Rattle.delta.specs.declared.Row.{Row}
use Rattle.delta.specs.declared.Table.{Table}
use Rattle.delta_encode.specs.Bytes.{value_of, erase_bytes, reinstate_bytes, concat, sum, erases, reinstates, size_of, delta_bytes}
use Rattle.delta_encode.specs.Bytes.{outside, bytes_of, encoded_of, written, after_of, Keyed, Sized}
use Rattle.delta_encode.specs.declared.Sizes.{Sizes}
use Rattle.delta_encode.proofs.BytesWritten.{present-length}

-- the two groups' bytes together
pub groups-length : (v : List ℕ) (ys : List Row) → Keyed ys → any (outside (length v)) ys ≡ false
    → length (concat erase_bytes ys) + length (concat (reinstate_bytes v) ys) ≡ sum size_of ys
unfolding concat sum any
groups-length v [] k a = refl
groups-length v (r ∷ rs) k a = go r.present refl (outside (length v) r) refl a (groups-length v rs k.1)
  where
    go : (b : Bool) → r.present ≡ b → (c : Bool) → outside (length v) r ≡ c → c || any (outside (length v)) rs ≡ false
        → (any (outside (length v)) rs ≡ false → length (concat erase_bytes rs) + length (concat (reinstate_bytes v) rs) ≡ sum size_of rs)
        → length (erase_bytes r ++ concat erase_bytes rs) + length (reinstate_bytes v r ++ concat (reinstate_bytes v) rs)
        ≡ size_of r + sum size_of rs
    go b p true q t ih = zero-is-not-one (cc)
    go true p false q t ih =
        let h = present-length v r k.0 (ltb-false (length v) (r.offset + r.length) (rw p at q)) in
        let n = ih t in
        let m = length-append (r.key ++ (le_bytes 4 r.length ++ value_of v r)) (concat (reinstate_bytes v) rs) in
        rw p (omega arith)
    go false p false q t ih =
        let h = k.0 in
        let n = ih t in
        let m = length-append r.key (concat erase_bytes rs) in
        rw p (omega arith)

-- the two counts and the groups
pub bytes-length : (v : List ℕ) (ys : List Row) → length (delta_bytes v ys)
    ≡ length (concat erase_bytes ys) + length (concat (reinstate_bytes v) ys) + 8
unfolding delta_bytes
bytes-length v ys =
    let a = le-bytes-length 4 (sum erases ys) in
    let b = le-bytes-length 4 (sum reinstates ys) in
    simp length-append (omega arith)

-- the answer and the output, with at most `most` rows
abbrev pub Ends : ℕ → Table → List ℕ → List ℕ → Result ℕ Refusal → List ℕ → Type 0
Ends most t v o r o' = (outcome r ≡ encoded_of most t v o) × (o' ≡ after_of most t v o)

module _ (most : ℕ) (t : Table) (v o : List ℕ) where
  -- a refusal leaves the output
  refusal : (e : Refusal) → encoded_of most t v o ≡ outcome (Err e) → written (outcome (Err e)) (bytes_of t v) o ≡ o → Ends most t v o (Err e) o
  refusal e q w = (sym q, sym (ap (λ (x : Outcome ℕ). written x (bytes_of t v) o) q ∙ w))

  -- too many rows
  pub ends-many : most < t.count → Ends most t v o (Err TableOutside) o
  ends-many h = refusal TableOutside (unfold encoded_of in rw (lt-ltb most t.count h)) refl

  module _ (h : t.count ≤ most) where
    -- a value outside
    pub ends-outside : any (outside (length v)) (rows_of t) ≡ true → Ends most t v o (Err TableOutside) o
    ends-outside e = refusal TableOutside (unfold encoded_of in rw (le-ltb most t.count h, e)) refl

    module _ (e : any (outside (length v)) (rows_of t) ≡ false) where
      -- a key twice
      pub ends-twins : clash row_key (rows_of t) ≡ true → Ends most t v o (Err DuplicateKey) o
      ends-twins d = refusal DuplicateKey (unfold encoded_of in rw (le-ltb most t.count h, e, d)) refl

      module _ (d : clash row_key (rows_of t) ≡ false) where
        -- no room
        pub ends-short : length o < length (bytes_of t v) → Ends most t v o (Err OutputShort) o
        ends-short l = refusal OutputShort (unfold encoded_of in rw (le-ltb most t.count h, e, d, lt-ltb (length o) (length (bytes_of t v)) l))
            refl

        accepted : length (bytes_of t v) ≤ length o → encoded_of most t v o ≡ done (length (bytes_of t v))
        unfolding encoded_of
        accepted l = rw (le-ltb most t.count h, e, d, le-ltb (length o) (length (bytes_of t v)) l)

        -- the bytes
        pub ends-written : length (bytes_of t v) ≤ length o → (n : ℕ) (o' : List ℕ) → n ≡ length (bytes_of t v)
            → o' ≡ splice 0 (bytes_of t v) o
            → Ends most t v o (Ok n) o'
        ends-written l n o' p q =
            (ap done p ∙ sym (accepted l), q ∙ sym (ap (λ (x : Outcome ℕ). written x (bytes_of t v) o) (accepted l)))

-- four pieces in a row
splice-four : (o : List ℕ) (a b c d o1 o2 o3 o4 : List ℕ) → length a ≡ 4 → length c ≡ 4 → o1 ≡ splice 0 a o → o2 ≡ splice 4 b o1
    → o3 ≡ splice (4 + length b) c o2 → o4 ≡ splice (4 + length b + 4) d o3 → o4 ≡ splice 0 (a ++ b ++ c ++ d) o
splice-four o a b c d o1 o2 o3 o4 la lc e1 e2 e3 e4 =
    let l1 = length-append a b in
    let l2 = length-append (a ++ b) c in
    let n2 : 4 ≡ 0 + length a = omega arith in
    let n3 : 4 + length b ≡ 0 + length (a ++ b) = omega arith in
    let n4 : 4 + length b + 4 ≡ 0 + length (a ++ b ++ c) = omega arith in
    let f2 : o2 ≡ splice 0 (a ++ b) o =
    e2 ∙ ap (λ (x : List ℕ). splice 4 b x) e1 ∙ ap (λ (j : ℕ). splice j b (splice 0 a o)) n2 ∙ splice-join 0 a b o in
    let f3 : o3 ≡ splice 0 (a ++ b ++ c) o =
    e3 ∙ ap (λ (x : List ℕ). splice (4 + length b) c x) f2 ∙ ap (λ (j : ℕ). splice j c (splice 0 (a ++ b) o)) n3
    ∙ splice-join 0 (a ++ b) c o in
    e4 ∙ ap (λ (x : List ℕ). splice (4 + length b + 4) d x) f3 ∙ ap (λ (j : ℕ). splice j d (splice 0 (a ++ b ++ c) o)) n4
    ∙ splice-join 0 (a ++ b ++ c) d o

-- what is known once the rows are in order and measured
pub record Known (v : List ℕ) (t u : Table) (m : Sizes) : Type 0 where
  pub once : clash row_key (rows_of t) ≡ false
  pub none : any (outside (length v)) (rows_of u) ≡ false
  pub bytes : bytes_of t v ≡ delta_bytes v (rows_of u)
  pub size : m.size ≡ length (bytes_of t v)
  pub parts : length (bytes_of t v) ≡ length (concat erase_bytes (rows_of u)) + length (concat (reinstate_bytes v) (rows_of u)) + 8

-- what `arrange` answers tells whether two rows have one key
module _ (xs : List Row) where
  -- it refuses: they have, and the refusal is 42
  pub arranged-refused : (r : Refusal) → refused (number r) ≡ arranged_of xs → (r ≡ DuplicateKey) × (clash row_key xs ≡ true)
  arranged-refused r e = go (clash row_key xs) refl e
    where
      go : (b : Bool) → clash row_key xs ≡ b → refused (number r) ≡ pick b (refused 42) (done (table_of (sort_by row_key xs)))
          → (r ≡ DuplicateKey) × (clash row_key xs ≡ true)
      go true p q = (numbers-differ r DuplicateKey (refused-injective q), p)
      go false p q = refused-is-not-done q

  -- it gives a table: they have not, and its rows are those in order
  pub arranged-done : (u : Table) → done u ≡ arranged_of xs → (u ≡ table_of (sort_by row_key xs)) × (clash row_key xs ≡ false)
  arranged-done u e = go (clash row_key xs) refl e
    where
      go : (b : Bool) → clash row_key xs ≡ b → done u ≡ pick b (refused 42) (done (table_of (sort_by row_key xs)))
          → (u ≡ table_of (sort_by row_key xs)) × (clash row_key xs ≡ false)
      go true p q = refused-is-not-done (sym q)
      go false p q = (done-injective q, p)

module _ (t u : Table) (h : t.count ≤ 256) (e : done u ≡ arranged_of (rows_of t)) where
  -- there are no more rows in order than there were
  pub arranged-few : u.count ≤ 256
  arranged-few =
      let c : u.count ≡ length (sort_by row_key (rows_of t)) = ap (λ (x : Table). x.count) (arranged-done (rows_of t) u e).0 in
      let l = sort-length below row_key (rows_of t) in
      let n = length-take t.count t.rows in
      omega arith

  -- what the order and the measures tell together
  pub known : (v : List ℕ) (m : Sizes) → any (outside (length v)) (rows_of t) ≡ false → Sized (rows_of u) m → Known v t u m
  known v m w z =
      let d = arranged-done (rows_of t) u e in
      let q : rows_of u ≡ sort_by row_key (rows_of t) = ap rows_of d.0 ∙ rows-table (sort_by row_key (rows_of t)) in
      let n : any (outside (length v)) (rows_of u) ≡ false = ap (any (outside (length v))) q
      ∙ sym (any-any (outside (length v)) (rows_of t) (sort_by row_key (rows_of t)) (sort-any row_key (rows_of t))) ∙ w in
      let s : bytes_of t v ≡ delta_bytes v (rows_of u) = ap (delta_bytes v) (sym q) in
      let g = groups-length v (rows_of u) z.keyed n in
      let b = bytes-length v (rows_of u) in
      let k = z.size in
      let l = ap length s in
      record { once = d.1; none = n; bytes = s; size = omega arith; parts = omega arith }

-- the four parts as they are written
pub four-parts : (v o : List ℕ) (ys : List Row) (e k p q : ℕ) (o1 o2 o3 o4 : List ℕ) → e ≡ sum erases ys → k ≡ sum reinstates ys
    → p ≡ 4 + length (concat erase_bytes ys)
    → o1 ≡ splice 0 (le_bytes 4 e) o → o2 ≡ splice 4 (concat erase_bytes ys) o1 → o3 ≡ splice p (le_bytes 4 k) o2
    → o4 ≡ splice (p + 4) (concat (reinstate_bytes v) ys) o3 → o4 ≡ splice 0 (delta_bytes v ys) o
unfolding delta_bytes
four-parts v o ys e k p q o1 o2 o3 o4 he hk hp e1 e2 e3 e4 =
    splice-four o (le_bytes 4 (sum erases ys)) (concat erase_bytes ys) (le_bytes 4 (sum reinstates ys))
    (concat (reinstate_bytes v) ys) o1 o2 o3 o4
    (le-bytes-length 4 (sum erases ys)) (le-bytes-length 4 (sum reinstates ys)) (e1 ∙ ap (λ (n : ℕ). splice 0 (le_bytes 4 n) o) he) e2
    (e3 ∙ ap (λ (n : ℕ). splice n (le_bytes 4 k) o2) hp ∙ ap (λ (n : ℕ). splice (4 + length (concat erase_bytes ys)) (le_bytes 4 n) o2) hk)
    (e4 ∙ ap (λ (n : ℕ). splice (n + 4) (concat (reinstate_bytes v) ys) o3) hp)
