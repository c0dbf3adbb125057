-- Where prune recent cuts: a segment's newest record by its header alone (document 02's ask 8), any other by a search of the image, in
-- document 01's words for 10. Laws: proofs/Cut.antt. Assumes nothing.
use Rattle.std.specs.Prelude.{List, [], ◌∷◌, ℕ, ◌-◌, length, ltb, eqb, Result, Ok, Err}
use Rattle.lists.specs.Choice.{pick, ◌⇒◌, first}
use Rattle.lists.specs.Outcome.{Outcome, refused, done}
use Rattle.lists.specs.Until.{Turn, again, stop, until}
use Rattle.record.specs.Record.{header_at}
use Rattle.segment.specs.declared.Segment.{Segment}
use Rattle.refusal.specs.declared.Refusal.{Refusal}
use Rattle.walk.specs.declared.Placed.{Placed}
use Rattle.walk.specs.Judging.{record_at}
use Rattle.seglog_prune.specs.declared.Newest.{Newest}
use Rattle.seglog_prune.specs.declared.Look.{Look}
use Rattle.seglog_prune.specs.declared.Look.TheVariants.{Here, Other, Nothing}

-- refusal 10: the cut is not found
abbrev pub lost : Outcome Newest
lost = refused 10

-- ---- one header

-- what stands at a place of an image of `size` bytes, to one who looks for the record n: "short header, length above 2^30, a payload that
-- ends past the size" are no record, whether or not it is of the one looked for; the sequence is not looked at
abbrev pub look_by : (size n at : ℕ) → Result Placed Refusal → Look
look_by size n at (Err r) = Nothing
look_by size n at (Ok p) =
    first ((ltb size p.end ⇒ Nothing) ∷ (eqb p.id n ⇒ Here (record { at = at; end = p.next })) ∷ []) (Other p.next)

-- and by the header there
unfoldable pub look_at : List ℕ → (n at : ℕ) → Look
look_at img n at = look_by (length img) n at (record_at (length img) at (header_at img at))

-- ---- the newest record

-- one look decides: the record n stands there, or 10
abbrev pub only : Look → Outcome Newest
only (Here x) = done x
only (Other next) = lost
only Nothing = lost

-- "looks only at that header": 10 "if the id there isn't the one wanted, the length is above 2^30 or the payload ends past the size"
abbrev pub cut_at : List ℕ → (n at : ℕ) → Outcome Newest
cut_at img n at = only (look_at img n at)

-- ---- the search

-- a look as a turn of the search
abbrev pub turn_of : Look → Turn ℕ (Outcome Newest)
turn_of (Here x) = stop (done x)
turn_of (Other next) = again next
turn_of Nothing = stop lost

-- one turn: "end of image first" ends the search too
unfoldable pub cut_turn : List ℕ → ℕ → ℕ → Turn ℕ (Outcome Newest)
cut_turn img n at = pick (ltb at (length img)) (turn_of (look_at img n at)) (stop lost)

-- "walks to the first record with that id", from `at` on
unfoldable pub find_cut : List ℕ → (n at : ℕ) → Outcome Newest
find_cut img n at = until (cut_turn img n) (λ x. lost) (λ x. length img - x) at

-- ---- a segment's cut

-- the record n of the segment g, whose image is img: "A cut at a segment's max looks only at that header"; any other is searched
unfoldable pub cut_in : Segment → List ℕ → ℕ → Outcome Newest
cut_in g img n = pick (eqb g.max n) (cut_at img n g.newest_at) (find_cut img n 0)
