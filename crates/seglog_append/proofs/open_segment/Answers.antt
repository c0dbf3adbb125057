-- `open_segment` meets its contract: the id and the slot are there, or 5 or 6 is handed on. Assumes nothing.
use Rattle.std.proofs.Common.{◌+◌, ◌%◌, ◌^◌, sym, ap, ◌∙◌}
use Rattle.lists.specs.Outcome.{refused, done}
use Rattle.lists.proofs.Outcome.{handed-on}
use Rattle.refusal.specs.declared.Refusal.{Refusal}
use Rattle.refusal.specs.Refusals.{number, outcome}
use Rattle.seglog.specs.View.{view_of}
use Rattle.seglog_append.specs.Deciding.{lowest_free}
use Rattle.seglog_append.proofs.Deciding.{number-found, number-refused, opened-5, opened-6, opened-done}
use Rattle.seglog_append.proofs.open_segment.Goals as goal

pub returns-in_err-id : goal.returns-in_err-id
returns-in_err-id c =
    let v = view_of c.args.log in
    let none = number-refused ((c.args.last + 1) % 2 ^ 32) 0 _ _ c.gen_segment_id.ensures c.in_err-id.field-0.0
    (sym c.ok_or.ensures.value ∙ c.in_err-id.was) in
    ap outcome (handed-on c.from_residual.result c.in_err-id.field-0.0 c.from_residual.ensures.1)
    ∙ ap (λ (d : Refusal). refused (number d)) none.0 ∙ sym (opened-5 v c.args.last none.1)

pub returns-in_err-slot : goal.returns-in_err-slot
returns-in_err-slot c =
    let v = view_of c.args.log in
    let id = number-found ((c.args.last + 1) % 2 ^ 32) 0 _ _ c.gen_segment_id.ensures c.in_ok-id.id (sym c.ok_or.ensures.value ∙ c.in_ok-id.was) in
    let none = number-refused (lowest_free v) v.k _ _ c.lowest_free.ensures c.in_err-slot.field-0.0
    (sym c.ok_or-2.ensures.value ∙ c.in_err-slot.was) in
    ap outcome (handed-on c.from_residual-in_err-slot.result c.in_err-slot.field-0.0 c.from_residual-in_err-slot.ensures.1)
    ∙ ap (λ (d : Refusal). refused (number d)) none.0 ∙ sym (opened-6 v c.args.last id.1 none.1)

pub returns : goal.returns
returns c =
    let v = view_of c.args.log in
    let id = number-found ((c.args.last + 1) % 2 ^ 32) 0 _ _ c.gen_segment_id.ensures c.in_ok-id.id (sym c.ok_or.ensures.value ∙ c.in_ok-id.was) in
    let slot = number-found (lowest_free v) v.k _ _ c.lowest_free.ensures c.in_ok-slot.slot (sym c.ok_or-2.ensures.value ∙ c.in_ok-slot.was) in
    let none = c.no_segment.ensures in
    (λ j. done (record {
      id = id.0 j;
      slot = slot.0 j;
      size = (none j).size;
      min = v.end + 1;
      max = v.end + 1;
      newest_at = (none j).newest_at;
    })) ∙ sym (opened-done v c.args.last id.1 slot.1)
