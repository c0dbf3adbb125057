-- `samples::filled`: each turn appends a record, and leaves one less to append.
-- Assumes nothing.
use mathlib.Core.Path.{◌≡◌, refl, sym, ap, ◌∙◌}
use Rattle.std.proofs.Common.{arith, ◌-◌, ◌+◌, ◌≤◌, ℕ}
use Rattle.std.specs.Prelude.{Result, Ok, Err}
use Rattle.std.specs.Result.{result_unwrap_or}
use Rattle.refusal.specs.declared.Refusal.{Refusal}
use Rattle.seglog.specs.declared.Log.{Log}
use Rattle.seglog.specs.View.{zero_log}
use Rattle.seglog.specs.New.{logged}
use Rattle.seglog_append.specs.Appending.{appended}
use Rattle.samples.specs.Sample.{Sample, abcs}
use Rattle.samples.proofs.Sample.{sample-same, abcs-turn, abcs-none}
use Rattle.samples.proofs.filled.Goals as goal
use Rattle.samples.proofs.filled.Goals.{in-Ok, in_default}

-- a new log, or what stands in its place
unwrapped : (l : Log) (r : Result Log Refusal) → result_unwrap_or r l ≡ (logged l r).log
unwrapped l (Ok a) = refl
unwrapped l (Err r) = refl

pub loop-preserved : goal.loop-preserved
loop-preserved c =
    let loop = c.loop in
    let s : Sample = record { log = loop.log; area = loop.area } in
    let joined : c.match-append.log ≡ (appended loop.log c.append.result).log =
    elim c.match-append.branch [
      | in-Ok w ↦ w.log-is ∙ sym (ap (λ r. (appended loop.log r).log) w.in-Ok.is)
      | in_default w ↦ w.log-is ∙ sym (ap (λ r. (appended loop.log r).log) w.in_default.is)
    ] in
    let fewer : c.args.n - (loop.counter + 1) ≡ c.args.n - loop.counter - 1 = omega arith in
    ap (λ (k : ℕ). abcs k (record { log = c.match-append.log; area = c.append.new.area })) fewer
    ∙ ap (abcs (c.args.n - loop.counter - 1)) (sample-same _ _ (joined ∙ ap (λ r. r.log) c.append.ensures.answer) c.append.ensures.bytes)
    ∙ sym (abcs-turn (c.args.n - loop.counter) s (omega arith)) ∙ loop.invariant

pub returns : goal.returns
returns c =
    let loop = c.loop in
    let made = c.new_log.ensures in
    let zero : c.empty_log-zero.result ≡ zero_log = c.empty_log-zero.ensures in
    let begun : c.unwrap_or-log.result ≡ (logged zero_log c.new_log.result).log =
    c.unwrap_or-log.ensures ∙ ap (result_unwrap_or c.new_log.result) zero ∙ unwrapped zero_log c.new_log.result in
    let s : Sample = record { log = loop.log; area = loop.area } in
    let none : c.args.n - loop.counter ≤ 0 = omega arith in
    let whole =
    sym (abcs-none (c.args.n - loop.counter) s none) ∙ loop.invariant
    ∙ ap (abcs c.args.n) (sample-same _ _ (begun ∙ ap (λ r. r.log) made.0) made.1) in
    (ap (λ s. s.log) whole, ap (λ s. s.area) whole)
