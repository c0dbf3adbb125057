-- A loop that turns each row of an array into another's form. Assumes nothing.
use Rattle.std.proofs.Common.{ℕ, List, [], ◌∷◌, ◌++◌, map, ◌≡◌, ◌+◌, ◌<◌, ◌≤◌, length, get_or, take, sym, ap, ◌∙◌, arith}
use Rattle.std.proofs.lemmas.List.{take_more, take_more_set}
use mathlib.Core.List.{map-append}
use lib.ListN.{set, length-set}
use lib.Seq.{take_all}

module _ {A B : Type 0} (f : A → B) where
  -- the first i of the new rows are those of the old, turned
  pub record Turned (rows : List A) (out : List B) (i : ℕ) : Type 0 where
    pub long : length out ≡ length rows
    pub front : take i out ≡ map f (take i rows)

  -- one row more
  pub turned-more : (rows : List A) (out : List B) (i : ℕ) (d : A) → i < length rows → Turned rows out i
      → Turned rows (set out i (f (get_or rows i d))) (i + 1)
  turned-more rows out i d h t =
      let l = t.long in
      record {
        long = simp length-set l;
        front = take_more_set out i (f (get_or rows i d)) (omega arith) ∙ ap (λ x. x ++ (f (get_or rows i d) ∷ [])) t.front
            ∙ sym (map-append f (take i rows) (get_or rows i d ∷ [])) ∙ ap (map f) (sym (take_more rows i d h));
      }

  -- all rows are turned
  pub turned-all : (rows : List A) (out : List B) (i : ℕ) → length rows ≤ i → Turned rows out i → out ≡ map f rows
  turned-all rows out i h t =
      let l = t.long in
      sym (take_all i out (omega arith)) ∙ t.front ∙ ap (map f) (take_all i rows h)
