-- The answers of a new log, of append and of the prunes as the structs that cross the C interface: the library's, with the padding named.
-- Assumes nothing.
use Rattle.seglog.specs.New as Library
use Rattle.seglog_append.specs.Appending.{AppendAnswer}
use Rattle.iflughan.specs.declared.Logged.{Logged}
use Rattle.iflughan.specs.declared.Appended.{Appended}

-- the refusal number and the log of a new log or a prune
abbrev pub logged_out : Library.Logged → Logged
logged_out answer = record { refusal = answer.refusal; reserved = 0; log = answer.log }

-- the refusal number, the record's id and the log of an append
abbrev pub appended_out : AppendAnswer → Appended
appended_out answer = record { refusal = answer.refusal; reserved = 0; id = answer.id; log = answer.log }
