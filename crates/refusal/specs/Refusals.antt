-- Document 01's number of each refusal, and what a call that can be refused comes to: that number, or what it answers.
-- Laws: proofs/Refusals.antt. Assumes nothing.
use Rattle.std.specs.Prelude.{ℕ, Result, Ok, Err}
use Rattle.lists.specs.Outcome.{Outcome, refused, done}
use Rattle.refusal.specs.declared.Refusal.{Refusal}
use Rattle.refusal.specs.declared.Refusal.TheVariants.{OutsideRules, NotShaped, PayloadTooLong, LastRecordId, LastSegmentId, NoFreeSlot}
use Rattle.refusal.specs.declared.Refusal.TheVariants.{NoRoom, AboveLiveEnd, BelowLiveStart, CutNotFound, OneEndZero, RangeReversed}
use Rattle.refusal.specs.declared.Refusal.TheVariants.{RowsUnfit, SegmentZero, SegmentsApart, ImageGap, ShortHeader, HeaderTooLong}
use Rattle.refusal.specs.declared.Refusal.TheVariants.{OutOfSequence, ShortPayload, StartNotFound, EndNotFound, IndexShort, RowOutside}
use Rattle.refusal.specs.declared.Refusal.TheVariants.{EmptyPrefix, PrefixMissing, SuffixMissing, DotMissing, NotTenBytes, NotU32, NameBufferShort}
use Rattle.refusal.specs.declared.Refusal.TheVariants.{EndsEarly, OverLimit, DuplicateKey, TableOutside, OutputShort}

-- document 01's number
abbrev pub number : Refusal → ℕ
number OutsideRules = 1
number NotShaped = 2
number PayloadTooLong = 3
number LastRecordId = 4
number LastSegmentId = 5
number NoFreeSlot = 6
number NoRoom = 7
number AboveLiveEnd = 8
number BelowLiveStart = 9
number CutNotFound = 10
number OneEndZero = 11
number RangeReversed = 12
number RowsUnfit = 13
number SegmentZero = 14
number SegmentsApart = 15
number ImageGap = 16
number ShortHeader = 17
number HeaderTooLong = 18
number OutOfSequence = 19
number ShortPayload = 20
number StartNotFound = 21
number EndNotFound = 22
number IndexShort = 23
number RowOutside = 24
number EmptyPrefix = 30
number PrefixMissing = 31
number SuffixMissing = 32
number DotMissing = 33
number NotTenBytes = 34
number NotU32 = 35
number NameBufferShort = 36
number EndsEarly = 40
number OverLimit = 41
number DuplicateKey = 42
number TableOutside = 43
number OutputShort = 44

-- what a call's answer comes to, in the terms of every definition of an answer
abbrev pub outcome : {A : Type 0} → Result A Refusal → Outcome A
outcome (Ok a) = done a
outcome (Err r) = refused (number r)
