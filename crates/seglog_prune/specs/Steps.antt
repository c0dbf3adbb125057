-- What the parts of the code answer, in the terms of Prune.antt. Assumes nothing.
use Rattle.std.specs.Prelude.{ℕ, ◌-◌, get_or, take}
use Rattle.seglog.specs.declared.Log.{Log}
use Rattle.seglog.specs.View.{log_of, view_of, empty_of}
use Rattle.segment.specs.Segment.{no_segment}
use Rattle.seglog_prune.specs.declared.Newest.{Newest}
use Rattle.seglog_prune.specs.declared.Early.{Early}
use Rattle.seglog_prune.specs.declared.Early.TheVariants.{Empty, Same, Onward}
use Rattle.seglog_prune.specs.Prune.{ended_view}

-- the log where the shared tests decide
abbrev pub settled_of : Log → Early → Log
settled_of l Empty = log_of (empty_of l.k l.c l.m)
settled_of l Same = l
settled_of l Onward = l

-- the first `left` segments of a log, of which the last ends with the record n, which is x
abbrev pub ended_log : Log → (left n : ℕ) → Newest → Log
ended_log l left n x = log_of (ended_view (view_of l) n (take (left - 1) l.segs) (get_or l.segs (left - 1) no_segment) x)
