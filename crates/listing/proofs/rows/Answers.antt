-- `listing::rows`: the line of the next row is put, or none is left.
-- Assumes nothing.
use Rattle.std.proofs.Common.{◌∙◌, arith, refl}
use Rattle.text.proofs.Texts.{put-join}
use Rattle.listing.proofs.Lines.{put-inside, rest-begins, rest-turn, rest-ends}
use Rattle.listing.proofs.rows.Goals as goal

pub loop-words-init : goal.loop-words-init
loop-words-init c =
    let made = c.into_iter-words-iterator.ensures.into_iter_gives in
    let source = c.take-words-items.ensures.source in
    rw (made, source, c.chunks_exact.ensures.size, c.chunks_exact.ensures.rest, c.take-words-items.ensures.count)
    (refl, rest-begins (put-inside c.put.ensures.text).1, refl)

pub loop-words-preserved : goal.loop-words-preserved
loop-words-preserved c =
    let next = c.in-Some.ensures.steps in
    let loop = c.loop-words.invariant in
    let did = c.line.ensures in (
      next.0.0 ∙ loop.0,
      rest-turn c.in-Some.words.now next.1 next.0.1.0 (next.0.1.1 ∙ loop.0) loop.1 did.put,
      did.same_buffer ∙ loop.2,
    )

pub returns-clause-put : goal.returns-clause-put
returns-clause-put c =
    let loop = c.loop-words in
    put-join c.put.ensures.text
    (rest-ends loop.words-iterator.n (λ more. omega (arith, loop.invariant.0, (c.in-None.ensures.steps more).1.0)) loop.invariant.1)
