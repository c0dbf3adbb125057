-- A test of each element, of some element, and of neighbours. Laws: proofs/Each.antt. Assumes nothing.
use Rattle.std.specs.Prelude.{Bool, true, false, ◌&&◌, ◌||◌, List, [], ◌∷◌}

module _ {A : Type 0} where
  -- each element has the property
  abbrev pub Every : (A → Type 0) → List A → Type 0
  Every P [] = Unit {0}
  Every P (x ∷ xs) = P x × Every P xs

  -- each element passes the test
  unfoldable pub all : (A → Bool) → List A → Bool
  all p [] = true
  all p (x ∷ xs) = p x && all p xs

  -- some element passes the test
  unfoldable pub any : (A → Bool) → List A → Bool
  any p [] = false
  any p (x ∷ xs) = p x || any p xs

  -- each element passes the test with the one before it
  unfoldable pub linked : (A → A → Bool) → List A → Bool
  linked r [] = true
  linked r (x ∷ []) = true
  linked r (x ∷ y ∷ xs) = r x y && linked r (y ∷ xs)
