-- The listed segments of a well-shaped log, as tests in document 01's words: each by itself, each with the one after it, their slots, and
-- the two ends of the live range. Laws: proofs/Chain.antt. Assumes nothing.
use Rattle.std.specs.Prelude.{List, [], ◌∷◌, Bool, ◌&&◌, ℕ, ◌+◌, ◌%◌, ltb, leb, eqb}
use Rattle.lists.specs.Each.{all, linked}
use Rattle.lists.specs.Distinct.{distinct}
use Rattle.segment.specs.declared.Segment.{Segment}
use Rattle.segment.specs.Segment.{slot_number}
use Rattle.seglog.specs.View.{head_of}

-- where the newest record starts: "this offset is a multiple of 4096 and its 12 header bytes fit below the size" (document 02, ask 8)
unfoldable pub newest_of : (at size : ℕ) → Bool
newest_of at size = eqb (at % 4096) 0 && leb (at + 12) size

-- "segment ids are non-zero", "slots are below K", "sizes are 1..C", "each min is 1 or more and <= max"; and the newest record
unfoldable pub seg_of : ℕ → ℕ → Segment → Bool
seg_of k c g =
    leb 1 g.id && ltb g.slot k && leb 1 g.size && leb g.size c && leb 1 g.min && leb g.min g.max
    && newest_of g.newest_at g.size

-- "ids rise by 1", "the next min is max + 1": h goes on from g
unfoldable pub goes_on : Segment → Segment → Bool
goes_on g h = eqb h.id (g.id + 1) && eqb h.min (g.max + 1)

-- the listed segments, each by itself and with the one after it
unfoldable pub chain_of : ℕ → ℕ → List Segment → Bool
chain_of k c gs = all (seg_of k c) gs && linked goes_on gs

-- "there are no segments exactly when the range is (0, 0)"; else "the live start lies in the first segment", "the last size is a
-- multiple of 4096", "the last max is the live end"
unfoldable pub ends_of : ℕ → ℕ → List Segment → Bool
ends_of s e [] = eqb s 0 && eqb e 0
ends_of s e (g ∷ gs) =
    leb g.min s && leb s g.max && eqb ((head_of (g ∷ gs)).size % 4096) 0 && eqb (head_of (g ∷ gs)).max e

-- "slots are distinct"
abbrev pub slots_apart : List Segment → Bool
slots_apart = distinct slot_number
