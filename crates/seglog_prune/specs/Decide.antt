-- The tests that both prunes share, in document 01's order: 2, the two easy outcomes, 8, 9. Assumes nothing.
use Rattle.std.specs.Prelude.{Bool, not, [], ◌∷◌, ℕ, length, ltb, eqb, Result, Ok, Err}
use Rattle.lists.specs.Choice.{◌⇒◌, first}
use Rattle.refusal.specs.declared.Refusal.{Refusal}
use Rattle.refusal.specs.declared.Refusal.TheVariants.{NotShaped, AboveLiveEnd, BelowLiveStart}
use Rattle.seglog.specs.View.{View}
use Rattle.seglog_prune.specs.declared.Early.{Early}
use Rattle.seglog_prune.specs.declared.Early.TheVariants.{Empty, Same, Onward}

-- "argument 0 gives the empty log; on an empty log any argument gives the same log"; 8 above the live end; 9 below the live start.
-- `fits` says that the log is well shaped and the area has K x C bytes
unfoldable pub early_of : View → (fits : Bool) → (n : ℕ) → Result Early Refusal
early_of a fits n =
    first
    ((not fits ⇒ Err NotShaped) ∷ (eqb n 0 ⇒ Ok Empty) ∷ (eqb (length a.segs) 0 ⇒ Ok Same) ∷ (ltb a.end n ⇒ Err AboveLiveEnd)
    ∷ (ltb n a.start ⇒ Err BelowLiveStart)
    ∷ [])
    (Ok Onward)
