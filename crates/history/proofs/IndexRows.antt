-- The rows of an index, by their number: what the words at its front deliver, each row delivers by its own four words.
-- Assumes nothing.
use mathlib.Core.List.{List, ◌∷◌, ◌++◌, []}
use mathlib.Core.Path.{◌≡◌, ap, ◌∙◌, sym}
use Prim.Native.Nat.{ℕ, ◌+◌, suc, ◌*◌, zero, ◌<◌}
use native.Mathlib.Nat.{add-zero}
use native.Mathlib.Omega.{arith}
use lib.ListN.{get_or, length}
use Rattle.seglog.specs.declared.Log.{Log}
use Rattle.payload.specs.Row.{row_question, payload_of}
use Rattle.history.specs.Demand.{row_word, question_at, payload_at}
use Rattle.history.proofs.Deliver.{delivered, items}

-- row i has the id a + i, is good, and its payload is what f has for that id
pub record RowIs (l : Log) (area index : List ℕ) (f : ℕ → List ℕ) (a i : ℕ) : Type 0 where
  pub id-is : row_word index i 0 ≡ a + i
  pub good : question_at l area index i ≡ 0
  pub payload : payload_at l area index i ≡ f (a + i)

-- behind the first row, each row is one row further on
pub shift : (x y z w : ℕ) (ws : List ℕ) (i j : ℕ) → row_word (x ∷ y ∷ z ∷ w ∷ ws) (suc i) j ≡ row_word ws i j
shift x y z w ws i j =
    let e : 4 * suc i + j ≡ suc (suc (suc (suc (4 * i + j)))) = omega arith in ap (λ (k : ℕ). get_or (x ∷ y ∷ z ∷ w ∷ ws) k 0) e

module _ (l : Log) (area : List ℕ) (f : ℕ → List ℕ) where
  first-row : (a x y z w : ℕ) (ws : List ℕ) → x ≡ a → row_question l area y z w ≡ 0 → payload_of l area y z w ≡ f a
      → RowIs l area (x ∷ y ∷ z ∷ w ∷ ws) f a 0
  first-row a x y z w ws p q r = record { id-is = p ∙ sym (add-zero a); good = q; payload = r ∙ ap f (sym (add-zero a)) }

  next_row : (a x y z w : ℕ) (ws : List ℕ) (i : ℕ) → RowIs l area ws f (suc a) i → RowIs l area (x ∷ y ∷ z ∷ w ∷ ws) f a (suc i)
  next_row a x y z w ws i h =
      let one = shift x y z w ws i 1 in
      let two = shift x y z w ws i 2 in
      let three = shift x y z w ws i 3 in
      let at : suc a + i ≡ a + suc i = omega arith in
      record {
        id-is = shift x y z w ws i 0 ∙ h.id-is ∙ at;
        good = simp (one, two, three) h.good;
        payload = simp (one, two, three) (h.payload ∙ ap f at);
      }

  -- each row, whatever stands behind the words
  pub rows_are : (n a : ℕ) (ws rest : List ℕ) → length ws ≡ 4 * n → delivered l area ws ≡ items f a n → (i : ℕ) → i < n
      → RowIs l area (ws ++ rest) f a i
  unfolding delivered items
  rows_are zero a ws rest long is i h = absurd (omega arith)
  rows_are (suc n) a [] rest long is i h = absurd (omega arith)
  rows_are (suc n) a (x ∷ []) rest long is i h = absurd (omega arith)
  rows_are (suc n) a (x ∷ y ∷ []) rest long is i h = absurd (omega arith)
  rows_are (suc n) a (x ∷ y ∷ z ∷ []) rest long is i h = absurd (omega arith)
  rows_are (suc n) a (x ∷ y ∷ z ∷ w ∷ ws) rest long is i h = go i h (rows_are n (suc a) ws rest (omega arith) (cc))
    where
      go : (i : ℕ) → i < suc n → ((i : ℕ) → i < n → RowIs l area (ws ++ rest) f (suc a) i)
          → RowIs l area (x ∷ y ∷ z ∷ w ∷ (ws ++ rest)) f a i
      go zero h ih = first-row a x y z w (ws ++ rest) (cc) (cc) (cc)
      go (suc i) h ih = next_row a x y z w (ws ++ rest) i (ih i (omega arith))
