-- A loop that reads the rows of a group, one behind the other, into a table.
-- Assumes nothing.
use Prim.Native.Nat.{ℕ, suc, ◌+◌, ◌-◌, ◌<◌, ◌≤◌}
use mathlib.Core.List.{List, [], ◌∷◌, ◌++◌}
use mathlib.Core.Path.{◌≡◌, refl, ap, sym, subst, ◌∙◌}
use lib.ListN.{length, length-append}
use native.Mathlib.Omega.{arith}
use Rattle.std.specs.Prelude.{Result, Ok, Err}
use Rattle.lists.specs.Outcome.{refused}
use Rattle.lists.proofs.Bools.{zero-is-not-one}
use Rattle.refusal.specs.declared.Refusal.{Refusal}
use Rattle.refusal.specs.declared.Refusal.TheVariants.{EndsEarly}
use Rattle.delta.specs.Table.{rows_of, table_of, Plain}
use Rattle.delta.specs.Reading.{Got, Got.short, Got.got, Reading, Reading.ends, Reading.row, entry, group, prepend, Reads}
use Rattle.delta.specs.declared.Row.{Row}
use Rattle.delta.specs.declared.Table.{Table}
use Rattle.delta.proofs.TablePlain.{rows-table, table-plain}

-- rows before rows before a reading
pub prepend-append : (xs ys : List Row) (w : Reading) → prepend (xs ++ ys) w ≡ prepend xs (prepend ys w)
unfolding prepend
prepend-append [] ys w = refl
prepend-append (x ∷ xs) ys w = ap (row x) (prepend-append xs ys w)

-- after i of n rows the table has the earlier rows and these, and the reading goes on from p
pub record Grouping (at : ℕ → Got) (before : List Row) (n start i p : ℕ) (u : Table) : Type 0 where
  pub plain : Plain u
  pub same : (next : ℕ → Reading) → prepend before (group at n start next) ≡ prepend (rows_of u) (group at (n - i) p next)

module _ (at : ℕ → Got) (before : List Row) (n start : ℕ) where
  -- before the first row
  pub grouping-start : (u : Table) → Plain u → before ≡ rows_of u → Grouping at before n start 0 start u
  grouping-start u p e =
      let z : n ≡ n - 0 = omega arith in
      record {
        plain = p;
        same = λ next. ap (λ (rs : List Row). prepend rs (group at n start next)) e
            ∙ ap (λ (k : ℕ). prepend (rows_of u) (group at k start next)) z;
      }

  module _ (i p : ℕ) (u : Table) (g : Grouping at before n start i p u) where
    -- the row at p is whole, and goes behind the others
    pub grouping-turn : (r : Row) (q : ℕ) → i < n → at p ≡ got r q
        → Grouping at before n start (i + 1) q (table_of (rows_of u ++ (r ∷ [])))
    grouping-turn r q h e =
        record {
          plain = table-plain (rows_of u ++ (r ∷ []));
          same = λ next. g.same next ∙ step next
              ∙ sym (ap (λ (rs : List Row). prepend rs (group at (n - (i + 1)) q next)) (rows-table (rows_of u ++ (r ∷ [])))
              ∙ prepend-append (rows_of u) (r ∷ []) (group at (n - (i + 1)) q next));
        }
      where
        one : (next : ℕ → Reading) → group at (n - i) p next ≡ prepend (r ∷ []) (group at (n - (i + 1)) q next)
        one next = front next (n - i) (n - (i + 1)) (omega arith)
          where
            front : (next : ℕ → Reading) (a b : ℕ) → a ≡ suc b → group at a p next ≡ prepend (r ∷ []) (group at b q next)
            front next a b f = ap (λ (k : ℕ). group at k p next) f ∙ (unfold group prepend in rw e)

        step : (next : ℕ → Reading) → prepend (rows_of u) (group at (n - i) p next)
            ≡ prepend (rows_of u) (prepend (r ∷ []) (group at (n - (i + 1)) q next))
        step next = ap (prepend (rows_of u)) (one next)

    -- the row at p is not whole
    pub grouping-short : i < n → at p ≡ short → (next : ℕ → Reading)
        → prepend before (group at n start next) ≡ prepend (rows_of u) (ends (refused 40))
    unfolding group
    grouping-short h e next =
        let f : n - i ≡ suc (n - (i + 1)) = omega arith in
        g.same next ∙ ap (prepend (rows_of u)) (ap (λ (k : ℕ). group at k p next) f ∙ rw e)

    -- behind the last row
    pub grouping-end : n ≤ i → (next : ℕ → Reading) → prepend before (group at n start next) ≡ prepend (rows_of u) (next p)
    unfolding group
    grouping-end h next =
        let f : n - i ≡ 0 = omega arith in
        g.same next ∙ ap (λ (k : ℕ). prepend (rows_of u) (group at k p next)) f

-- one row more
pub put-count : (t : Table) (r : Row) → Plain t → (table_of (rows_of t ++ (r ∷ []))).count ≡ t.count + 1
put-count t r p =
    let long : t.count ≡ length (rows_of t) = ap (λ (u : Table). u.count) p in
    length-append (rows_of t) (r ∷ []) ∙ ap (λ (k : ℕ). k + 1) (sym long)

-- the loop's state: where the next row begins, in `size` bytes, how many rows stand, and what was read
pub record Turn (size : ℕ) (at : ℕ → Got) (t : Table) (n start i p : ℕ) (u : Table) : Type 0 where
  pub inside : p ≤ size
  pub count : u.count ≡ t.count + i
  pub read : Grouping at (rows_of t) n start i p u

module _ {size : ℕ} {at : ℕ → Got} {t : Table} {n start : ℕ} where
  -- before the first row
  pub turn-first : start ≤ size → Plain t → Turn size at t n start 0 start t
  turn-first h p = record { inside = h; count = omega arith; read = grouping-start at (rows_of t) n start t p refl }

  module _ {i p : ℕ} {u : Table} (w : Turn size at t n start i p u) where
    -- one row more
    pub turn-next : i < n → ((p : ℕ) (r : Row) (q : ℕ) → at p ≡ got r q → q ≤ size) → (r : Row) (q : ℕ) → Ok (r, q) ≡ entry (at p)
        → (v : Table) → v ≡ table_of (rows_of u ++ (r ∷ [])) → Turn size at t n start (i + 1) q v
    turn-next h ends_in r q e v f =
        let met : at p ≡ got r q = is (at p) e in
        let k = put-count u r w.read.plain in
        let c = w.count in
        record {
          inside = ends_in p r q met;
          count = ap (λ (x : Table). x.count) f ∙ omega arith;
          read = subst (λ (x : Table). Grouping at (rows_of t) n start (i + 1) q x) (sym f)
              (grouping-turn at (rows_of t) n start i p u w.read r q h met);
        }
      where
        is : (g : Got) → Ok (r, q) ≡ entry g → g ≡ got r q
        is short e = zero-is-not-one (cc)
        is (got r' q') e =
            let same : ◌≡◌ {A = Row × ℕ} (r, q) (r', q') = cc in
            sym (ap (λ (x : Row × ℕ). got x.0 x.1) same)

    -- a row that is not whole ends the reading
    pub turn-cut : i < n → (r : Refusal) → Err r ≡ entry (at p) → (x : Result ℕ Refusal) → x ≡ Err r
        → Reads size (t.count + n) (rows_of t) (group at n start) x u
    turn-cut h r e x f =
        let met = cut (at p) e in
        subst (λ (y : Result ℕ Refusal). Reads size (t.count + n) (rows_of t) (group at n start) y u) (sym (f ∙ ap Err met.1))
        (record {
          same = grouping-short at (rows_of t) n start i p u w.read h met.0;
          inside = tt;
          room = omega (arith, w.count);
          plain = w.read.plain;
        })
      where
        cut : (g : Got) → Err r ≡ entry g → (g ≡ short) × (r ≡ EndsEarly)
        cut short e = (refl, cc)
        cut (got r' q') e = zero-is-not-one (cc)

    -- behind the last row
    pub turn-last : n ≤ i → i ≤ n → Reads size (t.count + n) (rows_of t) (group at n start) (Ok p) u
    turn-last h g = record {
      same = grouping-end at (rows_of t) n start i p u w.read h;
      inside = w.inside;
      room = omega (arith, w.count);
      plain = w.read.plain;
    }
