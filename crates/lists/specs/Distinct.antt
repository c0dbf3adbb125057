-- Elements with numbers of their own, as the slots of segments: which number none has, and that none has another's.
-- Laws: proofs/Distinct.antt. Assumes nothing.
use Rattle.std.specs.Prelude.{Bool, true, ◌&&◌, not, List, [], ◌∷◌, ℕ, eqb}
use Rattle.lists.specs.Each.{all}

module _ {A : Type 0} (key : A → ℕ) where
  -- no element has the number n
  abbrev pub fresh : ℕ → List A → Bool
  fresh n xs = all (λ x. not (eqb n (key x))) xs

  -- no number twice
  unfoldable pub distinct : List A → Bool
  distinct [] = true
  distinct (x ∷ xs) = fresh (key x) xs && distinct xs
