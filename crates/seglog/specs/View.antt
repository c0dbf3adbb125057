-- The two forms of a log: in memory 64 entries, the listed segments in front and zeros behind them; and a `View`, the listed segments
-- alone, which the definitions above work on. Laws: proofs/View.antt. Assumes nothing.
use Rattle.std.specs.Prelude.{List, [], ◌∷◌, ◌++◌, Bool, true, ◌&&◌, ℕ, ◌-◌, length, get_or, take, drop, replicate, leb, eqb}
use Rattle.segment.specs.declared.Segment.{Segment}
use Rattle.segment.specs.Segment.{no_segment}
use Rattle.seglog.specs.declared.Log.{Log}

-- a log by its listed segments
pub record View : Type 0 where
  pub k : ℕ
  pub c : ℕ
  pub m : ℕ
  pub start : ℕ
  pub end : ℕ
  pub segs : List Segment

-- the log that lists the segments of a view
abbrev pub log_of : View → Log
log_of a = record {
  k = a.k;
  c = a.c;
  m = a.m;
  start = a.start;
  end = a.end;
  count = length a.segs;
  segs = a.segs ++ replicate (64 - length a.segs) no_segment;
}

-- the view of a log: its first `count` entries
abbrev pub view_of : Log → View
view_of l = record { k = l.k; c = l.c; m = l.m; start = l.start; end = l.end; segs = take l.count l.segs }

-- no segments, and the live range (0, 0)
abbrev pub empty_of : ℕ → ℕ → ℕ → View
empty_of k c m = record { k = k; c = c; m = m; start = 0; end = 0; segs = [] }

-- the all-zero log, which stands beside a refusal where no log was given
abbrev pub zero_log : Log
zero_log = record { k = 0; c = 0; m = 0; start = 0; end = 0; count = 0; segs = replicate 64 no_segment }

-- the last listed segment
abbrev pub head_of : List Segment → Segment
head_of gs = get_or gs (length gs - 1) no_segment

-- the listed segments before the last
abbrev pub front_of : List Segment → List Segment
front_of gs = take (length gs - 1) gs

-- every field of an entry is 0
abbrev pub zero_of : Segment → Bool
zero_of g = eqb g.id 0 && eqb g.slot 0 && eqb g.size 0 && eqb g.min 0 && eqb g.max 0 && eqb g.newest_at 0

-- every entry is zero
unfoldable pub zeros_of : List Segment → Bool
zeros_of [] = true
zeros_of (g ∷ gs) = zero_of g && zeros_of gs

-- "unused segment entries are all zero"
unfoldable pub plain_of : Log → Bool
plain_of l = leb l.count 64 && zeros_of (drop l.count l.segs)
