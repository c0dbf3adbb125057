-- Tables with the same rows in another order are encoded to the same bytes; a decoded table, encoded over its input, decodes to the same.
-- The statement of the first: specs/Promised.antt. Assumes nothing.
use Prim.Native.Nat.{ℕ, ◌+◌, ◌<◌, ◌≤◌}
use mathlib.Core.Bool.{Bool, true, false}
use mathlib.Core.List.{List, [], ◌∷◌, ◌++◌}
use mathlib.Core.Path.{◌≡◌, refl, ap, sym, subst, ◌∙◌}
use lib.ListN.{length}
use lib.Dec.{ltb}
use native.Mathlib.Omega.{arith}
use borrow.Author.Tests.{le-ltb}
use Rattle.lists.specs.Choice.{pick}
use Rattle.lists.specs.Outcome.{refused, done}
use Rattle.lists.specs.Each.{any, Every}
use Rattle.keys.specs.Sorting.{sort_by, clash, Ascending}
use Rattle.lists.proofs.AnyOrder.{any-refl, any-any, any-every}
use Rattle.lists.proofs.Each.{every_map}
use Rattle.lists.proofs.Sort.{sort-length}
use Rattle.keys.specs.Order.{below}
use Rattle.keys.proofs.Sorting.{clash-any, sort-any, sort-order, sort-unique, ascending-sort, ascending-clash}
use Rattle.delta.specs.Table.{row_key, rows_of, table_of}
use Rattle.delta.specs.Reading.{reading, DecodeOutcome, decoded_of}
use Rattle.delta.specs.declared.Row.{Row}
use Rattle.delta.specs.declared.Table.{Table}
use Rattle.delta.proofs.TablePlain.{rows-table}
use Rattle.delta.proofs.ReadingParts.{rows_in, Good, accepted-good, Bytes, Sound, sound-read, count-read}
use Rattle.delta_encode.specs.Bytes.{outside, delta_bytes, bytes_of, encoded_of, written, after_of}
use Rattle.delta_encode.specs.Entries.{entries, Shaped}
use Rattle.delta_encode.specs.Promised.{GivesBack, EncodeOrder}
use Rattle.delta_encode.proofs.BytesRoundTrip.{encode-decode}

pub encode-order : EncodeOrder
unfolding encoded_of
encode-order most t u v out w = go (clash row_key (rows_of t)) refl
  where
    few : ltb most t.count ≡ ltb most u.count
    few = ap (ltb most) w.count

    inside : any (outside (length v)) (rows_of t) ≡ any (outside (length v)) (rows_of u)
    inside = any-any (outside (length v)) (rows_of t) (rows_of u) w.rows

    once : clash row_key (rows_of t) ≡ clash row_key (rows_of u)
    once = clash-any row_key (rows_of t) (rows_of u) w.rows

    -- a key twice: a refusal before the bytes count, whichever they are
    stays : (x y : Bool) (bt bu : List ℕ)
        → written (pick x (refused 43) (pick y (refused 43) (refused 42))) bt out
        ≡ written (pick x (refused 43) (pick y (refused 43) (refused 42))) bu out
    stays true y bt bu = refl
    stays false true bt bu = refl
    stays false false bt bu = refl

    go : (b : Bool) → clash row_key (rows_of t) ≡ b → (encoded_of most t v out ≡ encoded_of most u v out)
        × (after_of most t v out ≡ after_of most u v out)
    go true c =
        let d : clash row_key (rows_of u) ≡ true = sym once ∙ c in (
          rw (few, inside, c, d),
          rw (few, inside, c, d) (stays (ltb most u.count) (any (outside (length v)) (rows_of u)) (bytes_of t v)
              (bytes_of u v)),
        )
    go false c =
        let b : bytes_of t v ≡ bytes_of u v = ap (delta_bytes v) (sort-order row_key (rows_of t) (rows_of u) c w.rows) in
        (rw (few, inside, once, b), rw (few, inside, once, b))

-- rows whose values lie inside
none-outside : (s : List ℕ) (xs : List Row) → Every (Sound s) xs → any (outside (length s)) xs ≡ false
unfolding any
none-outside s [] h = refl
none-outside s (x ∷ xs) h = rw (one x.present refl) (none-outside s xs h.1)
  where
    one : (b : Bool) → x.present ≡ b → outside (length s) x ≡ false
    one true p = rw (p, le-ltb (length s) (x.offset + x.length) (h.0.inside p))
    one false p = rw p

module _ (s : List ℕ) (b : Bytes s) (n : ℕ) (t : Table) (e : decoded_of 256 s ≡ record { answer = done n; table = t }) where
  good : Good 256 s n
  good = accepted-good 256 s n (ap (λ (d : DecodeOutcome). d.answer) e)

  read : List Row
  read = rows_in (reading 256 s)

  table_is : t ≡ table_of (sort_by row_key read)
  unfolding read
  table_is = sym (ap (λ (d : DecodeOutcome). d.table) e) ∙ ap (λ (d : DecodeOutcome). d.table) good.is

  rows_are : rows_of t ≡ sort_by row_key read
  rows_are = ap rows_of table_is ∙ rows-table (sort_by row_key read)

  sound : Every (Sound s) (rows_of t)
  unfolding read
  sound =
      subst (λ (xs : List Row). Every (Sound s) xs) (sym rows_are)
      (any-every (Sound s) (rows_in (reading 256 s)) _ (sort-any row_key (rows_in (reading 256 s))) (sound-read 256 s b))

  rises : Ascending row_key (rows_of t)
  unfolding read
  rises = subst (λ (xs : List Row). Ascending row_key xs) (sym rows_are) (ascending-sort row_key (rows_in (reading 256 s)) good.once)

  shaped : Shaped t
  shaped =
      record {
        keyed = every_map (Sound s) (λ r. length r.key ≡ 32) (λ r h. h.keyed) (rows_of t) sound;
        small = every_map (Sound s) (λ r. r.length < 4294967296) (λ r h. h.small) (rows_of t) sound;
      }

  few : t.count ≤ 256
  unfolding read
  few =
      let c : t.count ≡ length (sort_by row_key (rows_in (reading 256 s))) = ap (λ (u : Table). u.count) table_is in
      let l = sort-length below row_key (rows_in (reading 256 s)) in
      let m = count-read 256 s in
      omega arith

  -- a decoded table is accepted over its input, where there is room
  pub decode-encode : (out : List ℕ) → length (bytes_of t s) ≤ length out → encoded_of 256 t s out ≡ done (length (bytes_of t s))
  unfolding encoded_of
  decode-encode out h =
      rw (
        le-ltb 256 t.count few,
        none-outside s (rows_of t) sound,
        ascending-clash row_key (rows_of t) rises,
        le-ltb (length out)
            (length (bytes_of t s)) h,
      )

  -- and decodes to the same keys, marks and value bytes, with anything behind it
  pub decode-encode-decode : (out rest : List ℕ) → length (bytes_of t s) ≤ length out
      → GivesBack (entries s (rows_of t)) (length (bytes_of t s)) (bytes_of t s ++ rest) (decoded_of 256 (bytes_of t s ++ rest))
  decode-encode-decode out rest h =
      subst (λ (xs : List Row). GivesBack (entries s xs) (length (bytes_of t s)) (bytes_of t s ++ rest) (decoded_of 256 (bytes_of t s ++ rest)))
      (sort-unique row_key (rows_of t) (rows_of t) rises (any-refl (rows_of t)))
      (encode-decode t s out rest (length (bytes_of t s)) shaped (decode-encode out h))
