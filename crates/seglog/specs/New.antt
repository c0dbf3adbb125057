-- A new log: refusal 1, or the empty log. And the live range of a log. Assumes nothing.
use Rattle.std.specs.Prelude.{[], ◌∷◌, Bool, ◌&&◌, not, ℕ, ◌*◌, eqb, Result, Ok, Err}
use Rattle.lists.specs.Choice.{◌⇒◌, first}
use Rattle.refusal.specs.declared.Refusal.{Refusal}
use Rattle.refusal.specs.Refusals.{number}
use Rattle.seglog.specs.declared.Log.{Log}
use Rattle.seglog.specs.declared.LiveRange.{LiveRange}
use Rattle.seglog.specs.View.{empty_of, log_of, zero_log}
use Rattle.seglog.specs.Fit.{sizes_of}

-- not refusal 1: K, C, M and the area's length n obey the rules
unfoldable pub roomy_of : (k c m n : ℕ) → Bool
roomy_of k c m n = sizes_of k c m && eqb n (k * c)

-- a refusal's number, or 0, and the log
pub record Logged : Type 0 where
  pub refusal : ℕ
  pub log : Log

-- a refusal's number with the log that stands beside it
abbrev pub refused_log : ℕ → Log → Logged
refused_log n l = record { refusal = n; log = l }

-- an accepted log
abbrev pub accepted : Log → Logged
accepted l = record { refusal = 0; log = l }

-- an answer with its log; l is the log that stands beside a refusal
abbrev pub logged : Log → Result Log Refusal → Logged
logged l (Ok a) = accepted a
logged l (Err r) = refused_log (number r) l

-- "A new log is the empty one"; n is the area's length
unfoldable pub new_of : (k c m n : ℕ) → Logged
new_of k c m n = first ((not (roomy_of k c m n) ⇒ refused_log 1 zero_log) ∷ []) (accepted (log_of (empty_of k c m)))

-- the live range
abbrev pub range_of : Log → LiveRange
range_of l = record { start = l.start; end = l.end }
