-- The cases of what `parse` answers, one behind the other, in document 01's order.
-- Assumes nothing.
use mathlib.Core.Path.{◌≡◌}
use mathlib.Core.Bool.{true, false}
use mathlib.Core.List.{List}
use Prim.Native.Nat.{ℕ}
use lib.ListN.{length}
use borrow.Author.Tests.{eq-eqb, ne_eqb}
use Rattle.lists.specs.Outcome.{refused}
use Rattle.segment_filename.specs.Words.{starts_with, ends_with}
use Rattle.segment_filename.specs.Formatting.{dot, suffix}
use Rattle.segment_filename.specs.Parsing.{without_prefix, without_suffix, id_bytes, u32_of, parse_of}

module _ (prefix name : List ℕ) where
  pub parse-refuses-30 : length prefix ≡ 0 → parse_of prefix name ≡ refused 30
  unfolding parse_of
  parse-refuses-30 h = simp (eq-eqb (length prefix) 0 h)

  module _ (some : length prefix ≡ 0 → ⊥) where
    pub parse-refuses-31 : starts_with prefix name ≡ false → parse_of prefix name ≡ refused 31
    unfolding parse_of
    parse-refuses-31 h = simp (ne_eqb (length prefix) 0 some, h)

    module _ (begins : starts_with prefix name ≡ true) where
      pub parse-refuses-32 : ends_with suffix (without_prefix prefix name) ≡ false → parse_of prefix name ≡ refused 32
      unfolding parse_of
      parse-refuses-32 h = simp (ne_eqb (length prefix) 0 some, begins, h)

      module _ (ends : ends_with suffix (without_prefix prefix name) ≡ true) where
        pub parse-refuses-33 : starts_with dot (without_suffix prefix name) ≡ false → parse_of prefix name ≡ refused 33
        unfolding parse_of
        parse-refuses-33 h = simp (ne_eqb (length prefix) 0 some, begins, ends, h)

        module _ (dotted : starts_with dot (without_suffix prefix name) ≡ true) where
          pub parse-refuses-34 : (length (id_bytes prefix name) ≡ 10 → ⊥) → parse_of prefix name ≡ refused 34
          unfolding parse_of
          parse-refuses-34 h = simp (ne_eqb (length prefix) 0 some, begins, ends, dotted, ne_eqb (length (id_bytes prefix name)) 10 h)

          -- 35, or the id
          pub parse-reads : length (id_bytes prefix name) ≡ 10 → parse_of prefix name ≡ u32_of (id_bytes prefix name)
          unfolding parse_of
          parse-reads h = simp (ne_eqb (length prefix) 0 some, begins, ends, dotted, eq-eqb (length (id_bytes prefix name)) 10 h)
