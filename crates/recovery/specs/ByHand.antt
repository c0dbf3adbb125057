-- What a caller learns of a function that is lent a slice of records (`read_rows`, `iflughan_recover`), written out as an account; `SaysAll`
-- holds such an account to the generated contract: the contract asks nothing and ensures the account, no less and no more. Assumes nothing.
use Rattle.std.specs.Prelude.{◌≡◌}
use seplogic.Ra.Ura.{Ura}
use base.Logic.{SProp, emp}
use prog.Memory.{Memory}
use prog.Routine.{Routine}
use types.Logic.{Logic}
use contract.Lifetimes.{Lfts}
use contract.Monad.{Fun, fact}
use denote.Triple.Clauses.{Ended, Clauses, AtExit}
use denote.Triple.Entry.{Args, Res}

-- what a caller learns of the arguments, the answer and what is lent, at exit
abbrev pub Account : Ended → Type 1
Account T = (κs : Lfts T.signature.lifetimes) → Args T.signature κs → Res T.signature κs → AtExit T κs → Type 0

-- a contract as it is generated: clauses in any model of the logic
abbrev pub Generated : Ended → Type 2
Generated T =
    (M : Type 1) (𝓤 : Ura M) (𝓛 : Logic 𝓤) → (Memory → SProp 𝓤) → (Routine → Fun 𝓤) → Clauses 𝓤 T

-- the contract asks nothing and ensures the account, no less and no more
abbrev pub SaysAll : (T : Ended) → Generated T → Account T → Type 2
SaysAll T clauses Learnt =
    (M : Type 1) (𝓤 : Ura M) (𝓛 : Logic 𝓤) (mem : Memory → SProp 𝓤) (run : Routine → Fun 𝓤)
    (κs : Lfts T.signature.lifetimes) (a : Args T.signature κs) (g : (clauses M 𝓤 𝓛 mem run κs a).ghost)
    (r : Res T.signature κs) (e : AtExit T κs)
    → ((clauses M 𝓤 𝓛 mem run κs a).requires g ≡ emp 𝓤)
    × ((clauses M 𝓤 𝓛 mem run κs a).ensures g r e ≡ fact 𝓤 (Learnt κs a r e))
