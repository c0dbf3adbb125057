-- Asking for a key twice after the reading comes to the same as asking at each row; and the two groups of a reading, taken together.
-- Assumes nothing.
use Prim.Native.Nat.{ℕ, ◌+◌, ◌<◌, ◌≤◌}
use mathlib.Core.Bool.{Bool, true, false}
use mathlib.Core.List.{List, [], ◌∷◌, ◌++◌, append_assoc, append-nil}
use mathlib.Core.Path.{◌≡◌, refl, ap, sym, subst, ◌∙◌}
use lib.ListN.{length, length-append, length-replicate}
use native.Mathlib.Omega.{arith}
use borrow.Author.Tests.{lt-ltb, le-ltb}
use Rattle.std.specs.Prelude.{Result, Ok, Err}
use Rattle.lists.specs.Choice.{pick}
use Rattle.lists.specs.Outcome.{Outcome, refused, done}
use Rattle.lists.proofs.Outcome.{refused-is-not-done, done-injective}
use Rattle.lists.proofs.Each.{any_append}
use Rattle.refusal.specs.declared.Refusal.{Refusal}
use Rattle.refusal.specs.declared.Refusal.TheVariants.{OverLimit}
use Rattle.refusal.specs.Refusals.{number, outcome}
use Rattle.little_endian.specs.LittleEndian.{number_at}
use Rattle.keys.specs.Sorting.{has, sort_by, clash}
use Rattle.keys.proofs.Sorting.{clash-middle}
use Rattle.delta.specs.Table.{row_key, rows_of, table_of, Plain, arranged_of, ordered}
use Rattle.delta.specs.Reading.{Reading.ends, erase_at, reinstate_at, group, reinstates, reading, walk, onward}
use Rattle.delta.specs.Reading.{decode_outcome, answered, decoded_of, prepend, Reads, WholeRead}
use Rattle.delta.specs.declared.Row.{Row}
use Rattle.delta.specs.declared.Table.{Table}
use Rattle.delta.specs.declared.Decoded.{Decoded}
use Rattle.delta.proofs.TablePlain.{table-plain}

-- a row whose key an earlier one has
clash-met : (seen : List Row) (r : Row) (xs : List Row) → has row_key r.key seen ≡ true → clash row_key (seen ++ (r ∷ xs)) ≡ true
clash-met seen r xs h = clash-middle row_key seen r xs ∙ rw (any_append _ seen xs, h)

-- a row whose key no earlier one has
clash-new : (seen : List Row) (r : Row) → has row_key r.key seen ≡ false → clash row_key seen ≡ false
    → clash row_key (seen ++ (r ∷ [])) ≡ false
clash-new seen r h c = clash-middle row_key seen r [] ∙ rw (append-nil, h, c)

-- asking at each row whether an earlier one has its key is asking at the end whether two have one key
pub walk_rows : (seen xs : List Row) (e : Outcome ℕ) → clash row_key seen ≡ false
    → walk seen (prepend xs (ends e)) ≡ pick (clash row_key (seen ++ xs)) (refused 42, []) (e, seen ++ xs)
unfolding walk prepend
walk_rows seen [] e c = rw (append-nil, c)
walk_rows seen (x ∷ xs) e c = go (has row_key x.key seen) refl (λ n. walk_rows (seen ++ (x ∷ [])) xs e (clash-new seen x n c))
  where
    go : (b : Bool) → has row_key x.key seen ≡ b
        → (has row_key x.key seen ≡ false → walk (seen ++ (x ∷ [])) (prepend xs (ends e))
        ≡ pick (clash row_key ((seen ++ (x ∷ [])) ++ xs)) (refused 42, []) (e, (seen ++ (x ∷ [])) ++ xs))
        → pick b (refused 42, []) (walk (seen ++ (x ∷ [])) (prepend xs (ends e)))
        ≡ pick (clash row_key (seen ++ (x ∷ xs))) (refused 42, []) (e, seen ++ (x ∷ xs))
    go true h ih = rw (clash-met seen x xs h)
    go false h ih = ih h ∙ ap (λ (l : List Row). pick (clash row_key l) (refused 42, []) (e, l)) (append_assoc seen (x ∷ []) xs)

-- what decoding answers, by the rows that were read in full and how the reading ended
pub decoded-read : (most : ℕ) (s : List ℕ) (xs : List Row) (e : Outcome ℕ) → reading most s ≡ prepend xs (ends e)
    → decoded_of most s ≡ pick (clash row_key xs) (answered (refused 42) xs) (answered e xs)
decoded-read most s xs e q =
    ap (λ (w : Outcome ℕ × List Row). answered w.0 w.1) (ap (walk []) q ∙ walk_rows [] xs e none) ∙ go (clash row_key xs)
  where
    none : clash row_key [] ≡ false
    none = unfold clash in refl

    go : (b : Bool) → answered (pick {A = Outcome ℕ × List Row} b (refused 42, []) (e, xs)).0
        (pick {A = Outcome ℕ × List Row} b (refused 42, []) (e, xs)).1 ≡ pick b (answered (refused 42) xs) (answered e xs)
    go true = refl
    go false = refl

-- an erase group of n rows was read whole, and ended at p
pub record Erased (most : ℕ) (s : List ℕ) (n p : ℕ) (t : Table) : Type 0 where
  pub same : reading most s ≡ prepend (rows_of t) (reinstates most s n p)
  pub room : t.count ≤ most
  pub plain : Plain t

-- ---- the reading that an answer belongs to

module _ (most : ℕ) (s : List ℕ) where
  -- the erase count is not whole
  pub read-none : (x : ℕ) → refused x ≡ number_at 4 s 0 → reading most s ≡ ends (refused x)
  unfolding reading
  read-none x e = rw (sym e)

  -- a reading that ended before the first row
  pub read-nothing : (a : Result ℕ Refusal) → reading most s ≡ ends (outcome a) → (t : Table) → t ≡ table_of [] → WholeRead most s a t
  unfolding prepend
  read-nothing a q t w = record {
    same = q ∙ sym (ap (λ (u : Table). prepend (rows_of u) (ends (outcome a))) w);
    room = none (ap (λ (u : Table). u.count) w);
    plain = subst (λ (u : Table). Plain u) (sym w) (table-plain []);
  }
    where
      none : t.count ≡ 0 → t.count ≤ most
      none z = omega arith

  module _ (n : ℕ) (e : done n ≡ number_at 4 s 0) where
    -- the erase count passes the limit
    pub read-over : most < n → reading most s ≡ ends (refused 41)
    unfolding reading
    read-over h = rw (sym e, lt-ltb most n h)

    module _ (h : n ≤ most) (before : List Row) (b : before ≡ []) (size k : ℕ) (few : k ≤ most) (a : Result ℕ Refusal) (t : Table)
        (g : Reads size k before (group (erase_at s) n 4) a t) where
      first_group : reading most s ≡ prepend before (group (erase_at s) n 4 (λ p. reinstates most s n p))
      unfolding reading prepend
      first_group = rw (sym e, le-ltb most n h, b)

      erases : reading most s ≡ prepend (rows_of t) (onward (outcome a) (reinstates most s n))
      erases = first_group ∙ g.same (reinstates most s n)

      -- the erase group is not whole
      pub read-erases : (x : Refusal) → a ≡ Err x → (y : Result ℕ Refusal) → y ≡ Err x → WholeRead most s y t
      read-erases x c y f = record {
        same = erases ∙ ap (λ (z : Result ℕ Refusal). prepend (rows_of t) (onward (outcome z) (reinstates most s n))) c
            ∙ sym (ap (λ (z : Result ℕ Refusal). prepend (rows_of t) (ends (outcome z))) f);
        room = omega (arith, g.room);
        plain = g.plain;
      }

      -- the erase group is whole
      pub erases-read : (p : ℕ) → a ≡ Ok p → Erased most s n p t
      erases-read p c = record {
        same = erases ∙ ap (λ (z : Result ℕ Refusal). prepend (rows_of t) (onward (outcome z) (reinstates most s n))) c;
        room = omega (arith, g.room);
        plain = g.plain;
      }

module _ {most : ℕ} {s : List ℕ} {n p : ℕ} {t : Table} (g : Erased most s n p t) where
  -- the reinstate count is not whole
  pub read-cut : (x : Refusal) → refused (number x) ≡ number_at 4 s p → (y : Result ℕ Refusal) → y ≡ Err x → WholeRead most s y t
  read-cut x e y f = record {
    same = g.same ∙ ap (prepend (rows_of t)) cut ∙ sym (ap (λ (z : Result ℕ Refusal). prepend (rows_of t) (ends (outcome z))) f);
    room = g.room;
    plain = g.plain;
  }
    where
      cut : reinstates most s n p ≡ ends (refused (number x))
      cut = unfold reinstates in rw (sym e)

  module _ (m : ℕ) (e : done m ≡ number_at 4 s p) where
    -- the counts together pass the limit
    pub read-many : most < n + m → WholeRead most s (Err OverLimit) t
    read-many o = record {
      same = g.same ∙ ap (prepend (rows_of t)) (unfold reinstates in rw (sym e, lt-ltb most (n + m) o));
      room = g.room;
      plain = g.plain;
    }

    -- both groups
    pub read-both : n + m ≤ most → (size k : ℕ) → k ≤ most → (a : Result ℕ Refusal) (u : Table)
        → Reads size k (rows_of t) (group (reinstate_at s) m (p + 4)) a u → WholeRead most s a u
    read-both o size k few a u z =
        record {
          same = g.same ∙ ap (prepend (rows_of t)) both
              ∙ z.same (λ i. ends (done i)) ∙ ap (prepend (rows_of u)) (last (outcome a));
          room = omega (arith, z.room);
          plain = z.plain;
        }
      where
        both : reinstates most s n p ≡ group (reinstate_at s) m (p + 4) (λ q. ends (done q))
        both = unfold reinstates in rw (sym e, le-ltb most (n + m) o)

        last : (d : Outcome ℕ) → onward d (λ i. ends (done i)) ≡ ends d
        last (done i) = refl
        last (refused i) = refl

-- ---- what `decode` answers, by the rows put in order

module _ (most : ℕ) (s : List ℕ) (a : Result ℕ Refusal) (t : Table) (w : WholeRead most s a t)
    (b : Result (Unit {0}) Refusal) (u : Table) (q : ordered b u ≡ arranged_of (rows_of t)) where
  whole : decoded_of most s ≡ pick (clash row_key (rows_of t)) (answered (refused 42) (rows_of t)) (answered (outcome a) (rows_of t))
  whole = decoded-read most s (rows_of t) (outcome a) w.same

  -- a key twice
  pub decode-twins : (x : Refusal) → b ≡ Err x → (y : Result Decoded Refusal) → y ≡ Err x → decode_outcome y ≡ decoded_of most s
  decode-twins x e y f =
      ap decode_outcome f ∙ go (clash row_key (rows_of t)) (sym (ap (λ (z : Result (Unit {0}) Refusal). ordered z u) e) ∙ q) ∙ sym whole
    where
      go : (c : Bool) → refused (number x) ≡ pick c (refused 42) (done (table_of (sort_by row_key (rows_of t))))
          → record { answer = refused (number x); table = table_of [] }
          ≡ pick c (answered (refused 42) (rows_of t)) (answered (outcome a) (rows_of t))
      go true h = ap (λ (o : Outcome ℕ). record { answer = o; table = table_of [] }) (cc)
      go false h = refused-is-not-done h

  module _ (v : Unit {0}) (e : b ≡ Ok v) where
    once : (clash row_key (rows_of t) ≡ false) × (u ≡ table_of (sort_by row_key (rows_of t)))
    once = go (clash row_key (rows_of t)) (sym (ap (λ (z : Result (Unit {0}) Refusal). ordered z u) e) ∙ q)
      where
        go : (c : Bool) → done u ≡ pick c (refused 42) (done (table_of (sort_by row_key (rows_of t))))
            → (c ≡ false) × (u ≡ table_of (sort_by row_key (rows_of t)))
        go true h = refused-is-not-done (sym h)
        go false h = (refl, done-injective h)

    decoded : decoded_of most s ≡ answered (outcome a) (rows_of t)
    decoded = whole ∙ rw once.0

    -- another fault
    pub decode-fault : (x : Refusal) → a ≡ Err x → (y : Result Decoded Refusal) → y ≡ Err x → decode_outcome y ≡ decoded_of most s
    decode-fault x f y g = ap decode_outcome g ∙ sym (decoded ∙ ap (λ (z : Result ℕ Refusal). answered (outcome z) (rows_of t)) f)

    -- no fault
    pub decode-good : (n : ℕ) → a ≡ Ok n → decode_outcome (Ok (record { consumed = n; table = u })) ≡ decoded_of most s
    decode-good n f =
        (λ i. record { answer = done n; table = once.1 i })
        ∙ sym (decoded ∙ ap (λ (z : Result ℕ Refusal). answered (outcome z) (rows_of t)) f)

-- the array of a table whose rows were read has its 256 rows
pub whole-long : {s : List ℕ} {a : Result ℕ Refusal} {t : Table} → WholeRead 256 s a t → length t.rows ≡ 256
whole-long {s} {a} {t} w =
    let count : t.count ≡ length (rows_of t) = ap (λ (u : Table). u.count) w.plain in
    let room = w.room in
    ap (λ (u : Table). length u.rows) w.plain ∙ simp (length-append, length-replicate) (omega arith)
