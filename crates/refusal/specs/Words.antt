-- Document 01's words of each refusal, as it is printed. Assumes nothing.
use Rattle.std.specs.Prelude.{ℕ, List, codes}
use Rattle.refusal.specs.declared.Refusal.{Refusal}
use Rattle.refusal.specs.declared.Refusal.TheVariants.{OutsideRules, NotShaped, PayloadTooLong, LastRecordId, LastSegmentId, NoFreeSlot}
use Rattle.refusal.specs.declared.Refusal.TheVariants.{NoRoom, AboveLiveEnd, BelowLiveStart, CutNotFound, OneEndZero, RangeReversed}
use Rattle.refusal.specs.declared.Refusal.TheVariants.{RowsUnfit, SegmentZero, SegmentsApart, ImageGap, ShortHeader, HeaderTooLong}
use Rattle.refusal.specs.declared.Refusal.TheVariants.{OutOfSequence, ShortPayload, StartNotFound, EndNotFound, IndexShort, RowOutside}
use Rattle.refusal.specs.declared.Refusal.TheVariants.{EmptyPrefix, PrefixMissing, SuffixMissing, DotMissing, NotTenBytes, NotU32, NameBufferShort}
use Rattle.refusal.specs.declared.Refusal.TheVariants.{EndsEarly, OverLimit, DuplicateKey, TableOutside, OutputShort}

-- the words of a refusal, byte by byte
abbrev pub words : Refusal → List ℕ
words OutsideRules = codes "K, C, M or area length outside the rules"
words NotShaped = codes "log value not well shaped, or area length not K x C"
words PayloadTooLong = codes "payload above 2^30"
words LastRecordId = codes "live end is 2^64 - 1"
words LastSegmentId = codes "new segment wanted, last id is 2^32 - 1"
words NoFreeSlot = codes "new segment wanted, all K slots listed"
words NoRoom = codes "padded record above C minus the size (C for a new segment)"
words AboveLiveEnd = codes "prune above live end"
words BelowLiveStart = codes "prune below live start"
words CutNotFound = codes "cut not found"
words OneEndZero = codes "exactly one of s, e is 0"
words RangeReversed = codes "s > e"
words RowsUnfit = codes "over 64 rows, slot >= K, slot twice, or size > C"
words SegmentZero = codes "lowest segment id 0"
words SegmentsApart = codes "neighbours not 1 apart (equal too)"
words ImageGap = codes "image of size above 0 directly after one of size 0"
words ShortHeader = codes "short header"
words HeaderTooLong = codes "header length above 2^30"
words OutOfSequence = codes "record id 0 or out of sequence"
words ShortPayload = codes "short live payload"
words StartNotFound = codes "s not found"
words EndNotFound = codes "e not found"
words IndexShort = codes "fewer than 4 index words for each live record"
words RowOutside = codes "row asked for (after 2): slot >= K, or offset + length above C as whole numbers"
words EmptyPrefix = codes "empty prefix"
words PrefixMissing = codes "prefix missing"
words SuffixMissing = codes ".log missing"
words DotMissing = codes "dot missing"
words NotTenBytes = codes "not 10 bytes"
words NotU32 = codes "not a u32"
words NameBufferShort = codes "name buffer short"
words EndsEarly = codes "delta input ends early"
words OverLimit = codes "over 256 keys"
words DuplicateKey = codes "duplicate key"
words TableOutside = codes "table over 256 rows or a value outside its slice"
words OutputShort = codes "output short"
