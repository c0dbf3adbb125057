-- `put` meets its contract: the writer's answer is the segment's size, and the log lists the segment with it. Assumes nothing.
use Rattle.std.proofs.Common.{◌≡◌, length, ap, ◌∙◌, rules}
use Rattle.lists.proofs.Arrays.{unmapped}
use Rattle.seglog_append.specs.Appending.{taken, GrownPre}
use Rattle.seglog_append.proofs.Appending.{decided-ready, put-answer, put-area}
use Rattle.seglog_append.proofs.put.Goals as goal

pub overflow_add-log : goal.overflow_add-log
overflow_add-log c =
    let long-at : length c.args.log.segs ≡ 64 = search (rules, unmapped) in
    let ready : GrownPre c.args.log c.args.place = let a = c.args in
    decided-ready a.log (length a.area.now) (length a.payload.now) long-at a.place c.requires in
    let more = ready.more in search rules

pub grown-requires : goal.grown-requires
grown-requires c =
    let long-at : length c.args.log.segs ≡ 64 = search (rules, unmapped) in
    let ready : GrownPre c.args.log c.args.place = let a = c.args in
    decided-ready a.log (length a.area.now) (length a.payload.now) long-at a.place c.requires in
    ready

pub returns : goal.returns
returns c =
    let long-at : length c.args.log.segs ≡ 64 = search (rules, unmapped) in
    let wrote = c.append_record-size.ensures in
    let a = c.args in record { answer = ap taken c.grown.ensures ∙ put-answer a.log a.area.now a.payload.now long-at a.place c.requires _ _ wrote; bytes = put-area a.log a.area.now a.payload.now long-at a.place c.requires _ _ wrote }
