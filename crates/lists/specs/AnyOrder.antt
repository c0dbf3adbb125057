-- The elements of a list in any order: the one permutation of this project. Laws: proofs/AnyOrder.antt. Assumes nothing.
use Rattle.std.specs.Prelude.{◌≡◌, List, [], ◌∷◌, ◌++◌}

module _ {A : Type 0} where
  -- x stands somewhere in t, and without it t is as R says
  pub record Placed (R : List A → Type 0) (x : A) (t : List A) : Type 0 where
    pub before : List A
    pub behind : List A
    pub whole : t ≡ before ++ (x ∷ behind)
    pub others : R (before ++ behind)

  -- l has the elements of t, each as often, in any order
  abbrev pub AnyOrder : List A → List A → Type 0
  AnyOrder [] t = t ≡ []
  AnyOrder (x ∷ l) t = Placed (AnyOrder l) x t
