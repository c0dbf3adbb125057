-- Which segments a prune keeps. Assumes nothing.
use Rattle.std.specs.Prelude.{List, [], ◌∷◌, ℕ, ltb}
use Rattle.lists.specs.Choice.{pick}
use Rattle.segment.specs.declared.Segment.{Segment}

-- prune oldest "drops leading segments whose max is below the new start, never the last one"
unfoldable pub drop_old : ℕ → List Segment → List Segment
drop_old n [] = []
drop_old n (g ∷ []) = g ∷ []
drop_old n (g ∷ h ∷ gs) = pick (ltb g.max n) (drop_old n (h ∷ gs)) (g ∷ h ∷ gs)

-- g stays in front of what is kept behind it, or where its min is not above n
abbrev pub keep_at : ℕ → Segment → List Segment → List Segment
keep_at n g [] = pick (ltb n g.min) [] (g ∷ [])
keep_at n g (h ∷ hs) = g ∷ h ∷ hs

-- prune recent "drops trailing segments whose min is above the new end"
unfoldable pub drop_new : ℕ → List Segment → List Segment
drop_new n [] = []
drop_new n (g ∷ gs) = keep_at n g (drop_new n gs)
