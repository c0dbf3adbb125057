-- `iflughan::recover::iflughan_recover` meets its contract: recovery from the array that was read is recovery from the lent rows.
-- Assumes nothing.
use Rattle.std.proofs.Common.{length, ap, subst, ◌∙◌}
use Rattle.image_rows.specs.declared.Rows.{Rows}
use Rattle.image_rows.specs.Rows.{listed_of}
use Rattle.recovery.specs.Recovery.{Recovery, recovery_of}
use Rattle.recovery.proofs.RecoveryRows.{read_same}
use Rattle.iflughan.specs.Recover.{Recovers, recovered_out}
use Rattle.iflughan.proofs.recover.iflughan_recover.Goals as goal

pub returns : goal.returns
returns c =
    let a = c.args in
    let did = c.recover.ensures in
    let same = ap (λ (z : Rows). recovery_of a.k a.c a.m a.area.now (listed_of z) a.s a.e (length a.index.now)) c.read_rows-rows.ensures
    ∙ read_same a.k a.c a.m a.area.now a.images.now a.s a.e (length a.index.now) in
    subst (λ (o : Recovery). Recovers o a.area.now a.index.now c.from.result c.recover.new.area c.recover.new.index) same
    (record { answer = c.from.ensures ∙ ap recovered_out did.answer; bytes = did.bytes; words = did.words })
