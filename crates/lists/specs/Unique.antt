-- What it means that a contract leaves no choice: of one call, any two answers that it allows are equal, and so is what lent memory
-- holds afterwards. `Learnt` is what a caller learns of the arguments, the answer and the lent slices at exit (a function's Reads).
-- Laws: proofs/Unique.antt. Assumes nothing.
use Rattle.std.specs.Prelude.{◌≡◌}

module _ {K : Type 0} {A R E : K → Type 0} (Learnt : (κs : K) → A κs → R κs → E κs → Type 0) where
  -- the answer
  abbrev pub UniqueAnswer : Type 0
  UniqueAnswer = (κs : K) (a : A κs) (r r' : R κs) (e e' : E κs) → Learnt κs a r e → Learnt κs a r' e' → r ≡ r'

  -- what lent memory holds afterwards, of a function that answers nothing
  abbrev pub UniqueMemory : {M : Type 0} → ((κs : K) → E κs → M) → Type 0
  UniqueMemory m = (κs : K) (a : A κs) (r r' : R κs) (e e' : E κs) → Learnt κs a r e → Learnt κs a r' e' → m κs e ≡ m κs e'

  -- the answer, and what lent memory holds afterwards
  abbrev pub UniqueBoth : {M : Type 0} → ((κs : K) → E κs → M) → Type 0
  UniqueBoth m =
      (κs : K) (a : A κs) (r r' : R κs) (e e' : E κs) → Learnt κs a r e → Learnt κs a r' e' → (r ≡ r') × (m κs e ≡ m κs e')
