-- Laws of the refusals' numbers: each number gives its refusal back. Assumes nothing.
use mathlib.Core.Path.{◌≡◌, refl, ap, sym, ◌∙◌}
use Rattle.std.specs.Prelude.{ℕ, Result, Ok, Err, eqb, [], ◌∷◌}
use Rattle.lists.specs.Choice.{◌⇒◌, first}
use Rattle.lists.specs.Outcome.{Outcome, refused, done}
use Rattle.refusal.specs.declared.Refusal.{Refusal}
use Rattle.refusal.specs.declared.Refusal.TheVariants.{OutsideRules, NotShaped, PayloadTooLong, LastRecordId, LastSegmentId, NoFreeSlot}
use Rattle.refusal.specs.declared.Refusal.TheVariants.{NoRoom, AboveLiveEnd, BelowLiveStart, CutNotFound, OneEndZero, RangeReversed}
use Rattle.refusal.specs.declared.Refusal.TheVariants.{RowsUnfit, SegmentZero, SegmentsApart, ImageGap, ShortHeader, HeaderTooLong}
use Rattle.refusal.specs.declared.Refusal.TheVariants.{OutOfSequence, ShortPayload, StartNotFound, EndNotFound, IndexShort, RowOutside}
use Rattle.refusal.specs.declared.Refusal.TheVariants.{EmptyPrefix, PrefixMissing, SuffixMissing, DotMissing, NotTenBytes, NotU32, NameBufferShort}
use Rattle.refusal.specs.declared.Refusal.TheVariants.{EndsEarly, OverLimit, DuplicateKey, TableOutside, OutputShort}
use Rattle.refusal.specs.Refusals.{number, outcome}
use Rattle.refusal.specs.Promised.{NumbersDiffer, OutcomesDiffer}

-- the refusal with a number
abbrev pub refusal_of : ℕ → Refusal
refusal_of n =
    first
    ((eqb n 1 ⇒ OutsideRules)
    ∷ (eqb n 2 ⇒ NotShaped)
    ∷ (eqb n 3 ⇒ PayloadTooLong)
    ∷ (eqb n 4 ⇒ LastRecordId)
    ∷ (eqb n 5 ⇒ LastSegmentId)
    ∷ (eqb n 6 ⇒ NoFreeSlot)
    ∷ (eqb n 7 ⇒ NoRoom)
    ∷ (eqb n 8 ⇒ AboveLiveEnd)
    ∷ (eqb n 9 ⇒ BelowLiveStart)
    ∷ (eqb n 10 ⇒ CutNotFound)
    ∷ (eqb n 11 ⇒ OneEndZero)
    ∷ (eqb n 12 ⇒ RangeReversed)
    ∷ (eqb n 13 ⇒ RowsUnfit)
    ∷ (eqb n 14 ⇒ SegmentZero)
    ∷ (eqb n 15 ⇒ SegmentsApart)
    ∷ (eqb n 16 ⇒ ImageGap)
    ∷ (eqb n 17 ⇒ ShortHeader)
    ∷ (eqb n 18 ⇒ HeaderTooLong)
    ∷ (eqb n 19 ⇒ OutOfSequence)
    ∷ (eqb n 20 ⇒ ShortPayload)
    ∷ (eqb n 21 ⇒ StartNotFound)
    ∷ (eqb n 22 ⇒ EndNotFound)
    ∷ (eqb n 23 ⇒ IndexShort)
    ∷ (eqb n 24 ⇒ RowOutside)
    ∷ (eqb n 30 ⇒ EmptyPrefix)
    ∷ (eqb n 31 ⇒ PrefixMissing)
    ∷ (eqb n 32 ⇒ SuffixMissing)
    ∷ (eqb n 33 ⇒ DotMissing)
    ∷ (eqb n 34 ⇒ NotTenBytes)
    ∷ (eqb n 35 ⇒ NotU32)
    ∷ (eqb n 36 ⇒ NameBufferShort)
    ∷ (eqb n 40 ⇒ EndsEarly)
    ∷ (eqb n 41 ⇒ OverLimit)
    ∷ (eqb n 42 ⇒ DuplicateKey)
    ∷ (eqb n 43 ⇒ TableOutside)
    ∷ [])
    OutputShort

-- a refusal's number gives it back
pub number-back : (r : Refusal) → refusal_of (number r) ≡ r
number-back OutsideRules = refl
number-back NotShaped = refl
number-back PayloadTooLong = refl
number-back LastRecordId = refl
number-back LastSegmentId = refl
number-back NoFreeSlot = refl
number-back NoRoom = refl
number-back AboveLiveEnd = refl
number-back BelowLiveStart = refl
number-back CutNotFound = refl
number-back OneEndZero = refl
number-back RangeReversed = refl
number-back RowsUnfit = refl
number-back SegmentZero = refl
number-back SegmentsApart = refl
number-back ImageGap = refl
number-back ShortHeader = refl
number-back HeaderTooLong = refl
number-back OutOfSequence = refl
number-back ShortPayload = refl
number-back StartNotFound = refl
number-back EndNotFound = refl
number-back IndexShort = refl
number-back RowOutside = refl
number-back EmptyPrefix = refl
number-back PrefixMissing = refl
number-back SuffixMissing = refl
number-back DotMissing = refl
number-back NotTenBytes = refl
number-back NotU32 = refl
number-back NameBufferShort = refl
number-back EndsEarly = refl
number-back OverLimit = refl
number-back DuplicateKey = refl
number-back TableOutside = refl
number-back OutputShort = refl

pub numbers-differ : NumbersDiffer
numbers-differ a b e = sym (number-back a) ∙ ap refusal_of e ∙ number-back b

-- the answer that an outcome belongs to
abbrev answer_of : {A : Type 0} → Outcome A → Result A Refusal
answer_of (done a) = Ok a
answer_of (refused n) = Err (refusal_of n)

-- an answer's outcome gives it back
answer-back : {A : Type 0} (a : Result A Refusal) → answer_of (outcome a) ≡ a
answer-back (Ok a) = refl
answer-back (Err r) = ap Err (number-back r)

pub outcomes-differ : OutcomesDiffer
outcomes-differ A a b e = sym (answer-back a) ∙ ap answer_of e ∙ answer-back b
