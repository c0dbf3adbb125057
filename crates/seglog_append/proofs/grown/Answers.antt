-- `grown` meets its contract. Assumes nothing.
use Rattle.std.proofs.Common.{ℕ, ◌+◌, set, ap, ◌∙◌}
use Rattle.segment.specs.declared.Segment.{Segment}
use Rattle.segment.specs.Segment.{ended_at}
use Rattle.seglog.specs.declared.Log.{Log}
use Rattle.seglog_append.specs.declared.Appended.{Appended}
use Rattle.seglog_append.proofs.grown.Goals as goal

-- the answer that the code makes
abbrev answer : Log → ℕ → ℕ → Segment → Appended
answer l at start g = record {
  id = l.end + 1;
  log = record { k = l.k; c = l.c; m = l.m; start = start; end = l.end + 1; count = at + 1; segs = set l.segs at g };
}

pub returns : goal.returns
returns c =
    let a = c.args in
    ap (λ (g : Segment). answer a.log a.place.at c.start_after.result g) c.ended_at.ensures
    ∙ ap (λ (s : ℕ). answer a.log a.place.at s (ended_at a.place.target (a.log.end + 1) a.place.target.size a.size))
    c.start_after.ensures
