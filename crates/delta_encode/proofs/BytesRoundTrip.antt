-- Decoding an accepted encoding, with anything behind it, gives the same keys, marks and value bytes in ascending order, and consumes
-- just the encoding. Its statement: specs/Promised.antt. Assumes nothing.
use Prim.Native.Nat.{ℕ, suc, ◌+◌, ◌<◌, ◌≤◌}
use mathlib.Core.Bool.{Bool, true, false}
use mathlib.Core.List.{List, [], ◌∷◌, ◌++◌, append_assoc}
use mathlib.Core.Path.{◌≡◌, refl, ap, sym, subst, ◌∙◌}
use lib.ListN.{length, take, drop, length-take}
use native.Mathlib.Nat.{zero-add}
use native.Mathlib.Omega.{arith}
use borrow.Author.Tests.{le-ltb, ltb-false}
use lib.Dec.{ltb}
use Rattle.lists.specs.Choice.{pick}
use Rattle.lists.specs.Outcome.{Outcome, refused, done}
use Rattle.lists.proofs.Outcome.{refused-is-not-done, done-injective}
use Rattle.lists.proofs.Splice.{splice-fits}
use Rattle.little_endian.specs.LittleEndian.{le_bytes}
use Rattle.little_endian.proofs.LittleEndian.{le-bytes-length}
use Rattle.keys.specs.Order.{below}
use Rattle.lists.specs.Each.{any, Every}
use Rattle.keys.specs.Sorting.{sort_by, clash, Ascending}
use Rattle.lists.specs.AnyOrder.{AnyOrder}
use Rattle.lists.proofs.AnyOrder.{any-more, any-any, any-every}
use Rattle.lists.proofs.Sort.{sort-length}
use Rattle.keys.proofs.Sorting.{clash-any, sort-any, sort-unique, ascending-sort, ascending-clash}
use Rattle.delta.specs.Table.{row_key, erased, reinstated, rows_of, table_of}
use Rattle.delta.specs.Reading.{Reading.ends, erase_at, reinstate_at, group, reading, DecodeOutcome, decoded_of, prepend}
use Rattle.delta.specs.Reading as Delta
use Rattle.delta.proofs.ReadingGroups.{prepend-append}
use Rattle.delta.proofs.TablePlain.{rows-table}
use Rattle.delta.proofs.ReadingWhole.{decoded-read}
use Rattle.delta.specs.declared.Row.{Row}
use Rattle.delta.specs.declared.Table.{Table}
use Rattle.delta_encode.specs.Bytes.{erase_bytes, reinstate_bytes, concat, sum, erases, reinstates, outside, delta_bytes, bytes_of}
use Rattle.delta_encode.specs.Bytes.{encoded_of, written, after_of, Keyed}
use Rattle.delta_encode.specs.Entries.{entries, Small, Shaped}
use Rattle.delta_encode.specs.Promised.{GivesBack, EncodeDecode}
use Rattle.delta_encode.proofs.BytesWhole.{bytes-length}
use Rattle.delta_encode.proofs.BytesRead.{cut, count_at, erased_rows, reinstated_rows, moved_rows, parse-erases, parse-reinstates}
use Rattle.delta_encode.proofs.BytesRead.{moved-entries}

-- what both groups give is, up to the order, the rows with their values moved
moved-any : (p : ℕ) (ys : List Row) → AnyOrder (erased_rows ys ++ reinstated_rows p ys) (moved_rows p ys)
moved-any p [] = refl
moved-any p (r ∷ rs) = go r.present (moved-any (p + (36 + r.length)) rs) (moved-any p rs)
  where
    go : (b : Bool) → AnyOrder (erased_rows rs ++ reinstated_rows (p + (36 + r.length)) rs) (moved_rows (p + (36 + r.length)) rs)
        → AnyOrder (erased_rows rs ++ reinstated_rows p rs) (moved_rows p rs)
        → AnyOrder
        (pick b (erased_rows rs) (erased r.key ∷ erased_rows rs)
        ++ pick b (reinstated r.key (p + 36) r.length ∷ reinstated_rows (p + (36 + r.length)) rs) (reinstated_rows p rs))
        (pick b (reinstated r.key (p + 36) r.length ∷ moved_rows (p + (36 + r.length)) rs) (erased r.key ∷ moved_rows p rs))
    go true a b =
        any-more (reinstated r.key (p + 36) r.length) (erased_rows rs) (reinstated_rows (p + (36 + r.length)) rs) _ a
    go false a b = any-more (erased r.key) [] (erased_rows rs ++ reinstated_rows p rs) _ b

-- moving the values leaves the keys
moved-every : (P : List ℕ → Type 0) (p : ℕ) (ys : List Row) → Every (λ r. P r.key) ys → Every (λ r. P r.key) (moved_rows p ys)
moved-every P p [] l = tt
moved-every P p (r ∷ rs) l = go r.present (moved-every P (p + (36 + r.length)) rs l.1) (moved-every P p rs l.1)
  where
    go : (b : Bool) → Every (λ r. P r.key) (moved_rows (p + (36 + r.length)) rs) → Every (λ r. P r.key) (moved_rows p rs)
        → Every (λ r. P r.key) (pick b (reinstated r.key (p + 36) r.length ∷ moved_rows (p + (36 + r.length)) rs)
        (erased r.key ∷ moved_rows p rs))
    go true u w = (l.0, u)
    go false u w = (l.0, w)

moved-ascending : (p : ℕ) (ys : List Row) → Ascending row_key ys → Ascending row_key (moved_rows p ys)
moved-ascending p [] a = tt
moved-ascending p (r ∷ rs) a = go r.present (moved-ascending (p + (36 + r.length)) rs a.1) (moved-ascending p rs a.1)
  where
    least : (q : ℕ) → Every (λ y. below r.key y.key ≡ true) (moved_rows q rs)
    least q = moved-every (λ k. below r.key k ≡ true) q rs a.0

    go : (b : Bool) → Ascending row_key (moved_rows (p + (36 + r.length)) rs) → Ascending row_key (moved_rows p rs)
        → Ascending row_key (pick b (reinstated r.key (p + 36) r.length ∷ moved_rows (p + (36 + r.length)) rs)
        (erased r.key ∷ moved_rows p rs))
    go true u w = (least (p + (36 + r.length)), u)
    go false u w = (least p, w)

-- each row is in one of the groups
counts : (ys : List Row) → sum erases ys + sum reinstates ys ≡ length ys
unfolding sum
counts [] = refl
counts (r ∷ rs) = go r.present (counts rs)
  where
    go : (b : Bool) → sum erases rs + sum reinstates rs ≡ length rs
        → (pick b 0 1 + sum erases rs) + (pick b 1 0 + sum reinstates rs) ≡ suc (length rs)
    go true h = omega arith
    go false h = omega arith

-- where the reinstate group's rows begin
abbrev start : List Row → ℕ
start ys = 4 + length (concat erase_bytes ys) + 4

module _ (v rest : List ℕ) (ys : List Row) (a : Ascending row_key ys) (k : Keyed ys) (z : Small ys) (i : any (outside (length v)) ys ≡ false)
    (f : length ys ≤ 256) where
  abbrev s : List ℕ
  s = delta_bytes v ys ++ rest

  abbrev E : List ℕ
  E = concat erase_bytes ys

  abbrev K : List ℕ
  K = concat (reinstate_bytes v) ys

  all : drop 0 s ≡ le_bytes 4 (sum erases ys) ++ (E ++ (le_bytes 4 (sum reinstates ys) ++ (K ++ rest)))
  unfolding delta_bytes
  all = simp append_assoc

  few : (sum erases ys < 4294967296) × (sum reinstates ys < 4294967296) × (sum erases ys ≤ 256) × (sum erases ys + sum reinstates ys ≤ 256)
  few =
      let c = counts ys in
      (omega arith, omega arith, omega arith, omega arith)

  c0 : (4 ≤ length s) × (take 4 (drop 0 s) ≡ le_bytes 4 (sum erases ys)) × (drop 4 s ≡ E ++ (le_bytes 4 (sum reinstates ys) ++ (K ++ rest)))
  c0 = cut s (le_bytes 4 (sum erases ys)) (E ++ (le_bytes 4 (sum reinstates ys) ++ (K ++ rest))) 0 4 all (le-bytes-length 4 (sum erases ys))
      (omega arith)

  ce : (4 + length E ≤ length s) × (take (length E) (drop 4 s) ≡ E) × (drop (4 + length E) s ≡ le_bytes 4 (sum reinstates ys) ++ (K ++ rest))
  ce = cut s E (le_bytes 4 (sum reinstates ys) ++ (K ++ rest)) 4 (length E) c0.2 refl c0.0

  cm : (4 + length E + 4 ≤ length s) × (take 4 (drop (4 + length E) s) ≡ le_bytes 4 (sum reinstates ys))
      × (drop (4 + length E + 4) s ≡ K ++ rest)
  cm = cut s (le_bytes 4 (sum reinstates ys)) (K ++ rest) (4 + length E) 4 ce.2 (le-bytes-length 4 (sum reinstates ys)) ce.0

  second-start : Delta.reinstates 256 s (sum erases ys) (4 + length E)
      ≡ group (reinstate_at s) (sum reinstates ys) (start ys) (λ q. ends (done q))
  unfolding Delta.reinstates
  second-start =
      rw (
        count_at s (K ++ rest) (4 + length E) (sum reinstates ys) ce.2 ce.0 few.1,
        le-ltb 256
            (sum erases ys + sum reinstates ys) few.3,
      )

  second_group : Delta.reinstates 256 s (sum erases ys) (4 + length E)
      ≡ prepend (reinstated_rows (start ys) ys) (ends (done (start ys + length K)))
  second_group = second-start ∙ parse-reinstates s v rest ys (start ys) (λ q. ends (done q)) k z i cm.2 cm.0

  first-start : reading 256 s ≡ group (erase_at s) (sum erases ys) 4 (λ p. Delta.reinstates 256 s (sum erases ys) p)
  unfolding reading
  first-start =
      rw (
        count_at s (E ++ (le_bytes 4 (sum reinstates ys) ++ (K ++ rest))) 0 (sum erases ys) all (omega arith) few.0,
        le-ltb 256
            (sum erases ys) few.2,
      )

  read : reading 256 s ≡ prepend (erased_rows ys ++ reinstated_rows (start ys) ys) (ends (done (start ys + length K)))
  read =
      first-start
      ∙ parse-erases s (le_bytes 4 (sum reinstates ys) ++ (K ++ rest)) ys 4 (λ p. Delta.reinstates 256 s (sum erases ys) p) k c0.2 c0.0
      ∙ ap (prepend (erased_rows ys)) second_group ∙ sym (prepend-append (erased_rows ys) (reinstated_rows (start ys) ys)
      (ends (done (start ys + length K))))

  long : start ys + length K ≡ length (delta_bytes v ys)
  long =
      let b = bytes-length v ys in
      omega arith

  -- decoding the bytes, whatever follows them, takes them all and gives the rows in the same order, with the values where they now are
  pub decode-bytes : decoded_of 256 s ≡ record { answer = done (length (delta_bytes v ys)); table = table_of (moved_rows (start ys) ys) }
  decode-bytes =
      let m = moved-any (start ys) ys in
      let up = moved-ascending (start ys) ys a in
      let once : clash row_key (erased_rows ys ++ reinstated_rows (start ys) ys) ≡ false =
      clash-any row_key (erased_rows ys ++ reinstated_rows (start ys) ys) (moved_rows (start ys) ys) m
      ∙ ascending-clash row_key (moved_rows (start ys) ys) up in
      decoded-read 256 s (erased_rows ys ++ reinstated_rows (start ys) ys) (done (start ys + length K)) read
      ∙ rw once (λ j. record {
        answer = done (long j);
        table = table_of
            (sort-unique row_key (erased_rows ys ++ reinstated_rows (start ys) ys) (moved_rows (start ys) ys) up m j);
      })

  -- and the keys, marks and value bytes are the same
  pub same_entries : entries s (moved_rows (start ys) ys) ≡ entries v ys
  same_entries = moved-entries s v rest ys (start ys) k z i cm.2 cm.0

  -- in ascending order
  pub moved-rise : Ascending row_key (moved_rows (start ys) ys)
  moved-rise = moved-ascending (start ys) ys a

-- decoding the bytes of ascending rows gives them back
pub bytes-decode : (v rest : List ℕ) (ys : List Row) → Ascending row_key ys → Keyed ys → Small ys → any (outside (length v)) ys ≡ false
    → length ys ≤ 256
    → GivesBack (entries v ys) (length (delta_bytes v ys)) (delta_bytes v ys ++ rest) (decoded_of 256 (delta_bytes v ys ++ rest))
bytes-decode v rest ys a k z i f =
    subst (λ (d : DecodeOutcome). GivesBack (entries v ys) (length (delta_bytes v ys)) (delta_bytes v ys ++ rest) d)
    (sym (decode-bytes v rest ys a k z i f))
    (record {
      consumed = refl;
      says = ap (entries (delta_bytes v ys ++ rest)) (rows-table (moved_rows (start ys) ys)) ∙ same_entries v rest ys a k z i f;
      rises = subst (λ (xs : List Row). Ascending row_key xs) (sym (rows-table (moved_rows (start ys) ys))) (moved-rise v rest ys a k z i f);
    })

-- what an accepted table has: few rows, values inside, no key twice, and room
pub record Accepted (t : Table) (v out : List ℕ) (n : ℕ) : Type 0 where
  pub few : t.count ≤ 256
  pub inside : any (outside (length v)) (rows_of t) ≡ false
  pub once : clash row_key (rows_of t) ≡ false
  pub room : length (bytes_of t v) ≤ length out
  pub size : n ≡ length (bytes_of t v)

-- every accepted table has it
pub accepted-by : (t : Table) (v out : List ℕ) (n : ℕ) → encoded_of 256 t v out ≡ done n → Accepted t v out n
unfolding encoded_of
accepted-by t v out n e = go (ltb 256 t.count) refl (any (outside (length v)) (rows_of t)) refl (clash row_key (rows_of t)) refl
    (ltb (length out) (length (bytes_of t v))) refl e
  where
    go : (w : Bool) → ltb 256 t.count ≡ w → (x : Bool) → any (outside (length v)) (rows_of t) ≡ x → (y : Bool)
        → clash row_key (rows_of t) ≡ y
        → (z : Bool) → ltb (length out) (length (bytes_of t v)) ≡ z
        → pick w (refused 43) (pick x (refused 43) (pick y (refused 42) (pick z (refused 44) (done (length (bytes_of t v)))))) ≡ done n
        → Accepted t v out n
    go true p x q y r z s e = refused-is-not-done e
    go false p true q y r z s e = refused-is-not-done e
    go false p false q true r z s e = refused-is-not-done e
    go false p false q false r true s e = refused-is-not-done e
    go false p false q false r false s e =
        record {
          few = ltb-false 256 t.count p;
          inside = q;
          once = r;
          room = ltb-false (length out)
              (length (bytes_of t v)) s;
          size = sym (done-injective e);
        }

-- THE ROUND TRIP
pub encode-decode : EncodeDecode
encode-decode t v out rest n h e =
    let w = accepted-by t v out n e in
    let order = sort-any row_key (rows_of t) in
    let long = sort-length below row_key (rows_of t) in
    let most = length-take t.count t.rows in
    let few = w.few in
    subst (λ (k : ℕ). GivesBack (entries v (sort_by row_key (rows_of t))) k (bytes_of t v ++ rest) (decoded_of 256 (bytes_of t v ++ rest)))
    (sym w.size)
    (bytes-decode v rest (sort_by row_key (rows_of t)) (ascending-sort row_key (rows_of t) w.once)
    (any-every (λ r. length r.key ≡ 32) (rows_of t) _ order h.keyed)
    (any-every (λ r. r.length < 4294967296) (rows_of t) _ order h.small)
    (sym (any-any (outside (length v)) (rows_of t) _ order) ∙ w.inside) (omega arith))

-- the same of the output itself: what encoding left there decodes to what was encoded
pub encode-decode-output : (t : Table) (v out : List ℕ) (n : ℕ) → Shaped t → encoded_of 256 t v out ≡ done n
    → GivesBack (entries v (sort_by row_key (rows_of t))) n (after_of 256 t v out) (decoded_of 256 (after_of 256 t v out))
encode-decode-output t v out n h e =
    let w = accepted-by t v out n e in
    let room = w.room in
    let after : after_of 256 t v out ≡ bytes_of t v ++ drop (length (bytes_of t v)) out =
    ap (λ (x : Outcome ℕ). written x (bytes_of t v) out) e ∙ splice-fits 0 (bytes_of t v) out (omega arith)
    ∙ ap (λ (k : ℕ). bytes_of t v ++ drop k out) (zero-add (length (bytes_of t v))) in
    subst (λ (o : List ℕ). GivesBack (entries v (sort_by row_key (rows_of t))) n o (decoded_of 256 o)) (sym after)
    (encode-decode t v out (drop (length (bytes_of t v)) out) n h e)
