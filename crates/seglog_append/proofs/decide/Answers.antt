-- `decide` meets its contract: each return is a way of its definition, and both ways to a segment meet in the one that was chosen.
-- Assumes nothing.
use Rattle.std.proofs.Common.{◌≡◌, ◌<◌, length, sym, ap, ◌∙◌, arith, rules}
use Rattle.lists.specs.Outcome.{done}
use Rattle.lists.proofs.Arrays.{unmapped}
use Rattle.lists.proofs.Outcome.{handed-on}
use Rattle.refusal.specs.Refusals.{outcome}
use Rattle.record.specs.Record.{record_room}
use Rattle.segment.proofs.Bounds.{entry-fits}
use Rattle.seglog.proofs.Bounds.{last-below}
use Rattle.seglog_append.proofs.Deciding.{Past, Chosen, few-listed, shaped, append-refuses-2, append-refuses-3, append-refuses-4}
use Rattle.seglog_append.proofs.Deciding.{chosen-refuses-7, append_places, opens_by, opened-refuses, opened-chosen, chosen-head}
use Rattle.seglog_append.proofs.decide.Goals as goal
use Rattle.seglog_append.proofs.decide.Goals.{then-opens+in_ok-open_segment, else-opens}

pub returns-then-not-fits : goal.returns-then-not-fits
returns-then-not-fits c =
    let a = c.args in
    sym (append-refuses-2 a.log a.bytes a.n (sym c.fits.ensures ∙ c.if-not-fits.true))

pub returns-then-n : goal.returns-then-n
returns-then-n c =
    let a = c.args in
    sym (append-refuses-3 a.log a.bytes a.n
    (sym c.fits.ensures ∙ c.if-not-fits.false) c.if-n.true)

pub returns-then-log : goal.returns-then-log
returns-then-log c =
    let a = c.args in
    sym (append-refuses-4 a.log a.bytes a.n (sym c.fits.ensures ∙ c.if-not-fits.false)
    (omega (arith, c.if-n.false)) c.if-log.true)

pub offset_bounds-log-last : goal.offset_bounds-log-last
offset_bounds-log-last c =
    let a = c.args in
    let long-at : length a.log.segs ≡ 64 = search (rules, unmapped) in
    let below : c.saturating_sub-last.result < 64 = last-below (few-listed a.log a.bytes long-at (sym c.fits.ensures ∙ c.if-not-fits.false))
    c.saturating_sub-last.ensures in
    entry-fits below

pub bounds-log-last : goal.bounds-log-last
bounds-log-last c =
    let a = c.args in
    let long-at : length a.log.segs ≡ 64 = search (rules, unmapped) in
    let below : c.saturating_sub-last.result < 64 = last-below (few-listed a.log a.bytes long-at (sym c.fits.ensures ∙ c.if-not-fits.false))
    c.saturating_sub-last.ensures in
    below

pub open_segment-requires-clause-fits : goal.open_segment-requires-clause-fits
open_segment-requires-clause-fits c =
    let a = c.args in
    shaped a.log a.bytes (search (rules, unmapped)) (sym c.fits.ensures ∙ c.if-not-fits.false)

pub returns-in_err-open_segment : goal.returns-in_err-open_segment
returns-in_err-open_segment c =
    let a = c.args in
    let past : Past a.log a.bytes a.n = record {
      long = search (rules, unmapped);
      fits = sym c.fits.ensures ∙ c.if-not-fits.false;
      small = omega (arith, c.if-n.false);
      more = λ z. omega (arith, c.if-log.false);
    } in
    let wanted = opens_by a.log a.bytes past.long past.fits _ c.saturating_sub-last.ensures _ c.opens.ensures in
    ap outcome (handed-on c.from_residual.result c.in_err-open_segment.field-0.0 c.from_residual.ensures.1)
    ∙ sym (opened-refuses a.log a.bytes past.long past.fits _ c.saturating_sub-last.ensures a.n _ (sym wanted ∙ c.if-opens.true) past
    (sym c.open_segment.ensures ∙ ap outcome c.in_err-open_segment.was))

pub overflow_sub-log : goal.overflow_sub-log
overflow_sub-log c =
    let a = c.args in
    let past : Past a.log a.bytes a.n = record {
      long = search (rules, unmapped);
      fits = sym c.fits.ensures ∙ c.if-not-fits.false;
      small = omega (arith, c.if-n.false);
      more = λ z. omega (arith, c.if-log.false);
    } in
    let wanted = opens_by a.log a.bytes past.long past.fits _ c.saturating_sub-last.ensures _ c.opens.ensures in
    let chosen : Chosen a.log c.if-opens.at.0 c.if-opens.at.1 = elim c.if-opens.branch [
      | then-opens+in_ok-open_segment w ↦
          opened-chosen a.log a.bytes past.long past.fits _ c.saturating_sub-last.ensures c.if-opens.at.0 c.if-opens.at.1
          (sym wanted ∙ w.if-opens.true) (ap (λ p. p.1) w.at-is)
          (sym w.open_segment.ensures ∙ ap outcome w.in_ok-open_segment.was ∙ ap (λ p. done p.0) (sym w.at-is))
      | else-opens w ↦
          chosen-head a.log a.bytes past.long past.fits _ c.saturating_sub-last.ensures c.if-opens.at.0 c.if-opens.at.1
          (sym wanted ∙ w.if-opens.false) (ap (λ p. p.1) w.at-is) (ap (λ p. p.0) w.at-is)
    ] in
    chosen.size

pub returns-then-log-target : goal.returns-then-log-target
unfolding record_room
returns-then-log-target c =
    let a = c.args in
    let past : Past a.log a.bytes a.n = record {
      long = search (rules, unmapped);
      fits = sym c.fits.ensures ∙ c.if-not-fits.false;
      small = omega (arith, c.if-n.false);
      more = λ z. omega (arith, c.if-log.false);
    } in
    let wanted = opens_by a.log a.bytes past.long past.fits _ c.saturating_sub-last.ensures _ c.opens.ensures in
    let chosen : Chosen a.log c.if-opens.at.0 c.if-opens.at.1 = elim c.if-opens.branch [
      | then-opens+in_ok-open_segment w ↦
          opened-chosen a.log a.bytes past.long past.fits _ c.saturating_sub-last.ensures c.if-opens.at.0 c.if-opens.at.1
          (sym wanted ∙ w.if-opens.true) (ap (λ p. p.1) w.at-is)
          (sym w.open_segment.ensures ∙ ap outcome w.in_ok-open_segment.was ∙ ap (λ p. done p.0) (sym w.at-is))
      | else-opens w ↦
          chosen-head a.log a.bytes past.long past.fits _ c.saturating_sub-last.ensures c.if-opens.at.0 c.if-opens.at.1
          (sym wanted ∙ w.if-opens.false) (ap (λ p. p.1) w.at-is) (ap (λ p. p.0) w.at-is)
    ] in
    sym (chosen-refuses-7 a.log a.bytes a.n past c.if-opens.at.0 c.if-opens.at.1 chosen _ c.padded_end-room.ensures c.if-log-target.true)

pub returns : goal.returns
unfolding record_room
returns c =
    let a = c.args in
    let past : Past a.log a.bytes a.n = record {
      long = search (rules, unmapped);
      fits = sym c.fits.ensures ∙ c.if-not-fits.false;
      small = omega (arith, c.if-n.false);
      more = λ z. omega (arith, c.if-log.false);
    } in
    let wanted = opens_by a.log a.bytes past.long past.fits _ c.saturating_sub-last.ensures _ c.opens.ensures in
    let chosen : Chosen a.log c.if-opens.at.0 c.if-opens.at.1 = elim c.if-opens.branch [
      | then-opens+in_ok-open_segment w ↦
          opened-chosen a.log a.bytes past.long past.fits _ c.saturating_sub-last.ensures c.if-opens.at.0 c.if-opens.at.1
          (sym wanted ∙ w.if-opens.true) (ap (λ p. p.1) w.at-is)
          (sym w.open_segment.ensures ∙ ap outcome w.in_ok-open_segment.was ∙ ap (λ p. done p.0) (sym w.at-is))
      | else-opens w ↦
          chosen-head a.log a.bytes past.long past.fits _ c.saturating_sub-last.ensures c.if-opens.at.0 c.if-opens.at.1
          (sym wanted ∙ w.if-opens.false) (ap (λ p. p.1) w.at-is) (ap (λ p. p.0) w.at-is)
    ] in
    append_places a.log a.bytes a.n past c.if-opens.at.0 c.if-opens.at.1 chosen _ c.padded_end-room.ensures c.if-log-target.false
