-- What an accepted scan leaves: the segments that hold a live record, at the front of 64 entries, and the last of them closed at e.
-- Assumes nothing.
use Rattle.std.specs.Prelude.{◌≡◌, Bool, ◌&&◌, List, [], ◌∷◌, ◌++◌, ℕ, ◌+◌, ◌-◌, ◌*◌, ◌≤◌, ◌<◌, length, replicate, leb}
use Rattle.lists.specs.Choice.{pick}
use Rattle.segment.specs.declared.Segment.{Segment}
use Rattle.seglog.specs.View.{View, log_of, head_of, front_of}
use Rattle.segment.specs.Segment.{no_segment, ended_at, padded_to}
use Rattle.recovery_walk.specs.Scan.{live_count, RangePre}
use Rattle.recovery.specs.declared.Recovered.{Recovered}
use Rattle.recovery.specs.declared.kept.Kept.{Kept}

-- the segment holds a record with s <= id <= e
unfoldable pub holds_live : ℕ → ℕ → Segment → Bool
holds_live s e g = leb g.min e && leb s g.max

-- "segments holding a live record are kept"
unfoldable pub kept_of : ℕ → ℕ → List Segment → List Segment
kept_of s e [] = []
kept_of s e (g ∷ gs) = pick (holds_live s e g) (g ∷ kept_of s e gs) (kept_of s e gs)

-- the kept segments, with zeros in the entries behind them
abbrev pub kept_in : ℕ → ℕ → List Segment → Kept
kept_in s e gs = record {
  count = length (kept_of s e gs);
  segs = kept_of s e gs ++ replicate (64 - length (kept_of s e gs)) no_segment;
}

-- the log of the segments gs, the last of them closed at e, whose header starts at `at` and whose padded end is x
abbrev pub closed_view : (k c m s e at x : ℕ) → List Segment → View
closed_view k c m s e at x gs = record {
  k = k;
  c = c;
  m = m;
  start = s;
  end = e;
  segs = front_of gs ++ (ended_at (head_of gs) e at x ∷ []);
}

-- what closing asks of the kept segments gs: there is one, the last one's slot lies in the area, and the padded end x in the slot
pub record ClosePre (c s e n x : ℕ) (area : List ℕ) (gs : List Segment) : Type 0 where
  pub few : n ≤ 64
  pub range : RangePre s e
  pub some : 0 < length gs
  pub slot : (head_of gs).slot * c + c ≤ length area
  pub end : x ≤ c

-- what closing the kept segments gs at e, from its start `at` to its padded end x, ensures
pub record CloseDid (k c m s e at x : ℕ) (gs : List Segment) (area area' : List ℕ) (r : Recovered) : Type 0 where
  pub answer : r ≡ record { rows = live_count s e; log = log_of (closed_view k c m s e at x gs) }
  pub bytes : area' ≡ padded_to c area (head_of gs) x
