-- `fits` meets its contract: its tests, one by one, are those of the definition. Assumes nothing.
use Rattle.std.proofs.Common.{rules, ◌≡◌, true, ◌&&◌, arith, sym, ap, ◌∙◌}
use Rattle.lists.proofs.Arrays.{unmapped}
use Rattle.lists.proofs.Bools.{and-fails, and-goes-on}
use Rattle.seglog.specs.View.{zeros_of}
use Rattle.seglog.specs.Chain.{chain_of, slots_apart, ends_of}
use Rattle.seglog.proofs.Fit.{sized-is, sized-count, chain-few, fit-sizes, fit-listed, fit-ends}
use Rattle.seglog.proofs.fits.Goals as goal
use Rattle.seglog.proofs.fits.Goals.{then-all_zero, else-all_zero, then-chain_good, else-chain_good}

pub returns-then-not-numbers_good : goal.returns-then-not-numbers_good
returns-then-not-numbers_good c =
    let a = c.args in
    fit-sizes a.log a.bytes (search (rules, unmapped)) (sym c.numbers_good.ensures ∙ c.if-not-numbers_good.true)

pub split_at-requires : goal.split_at-requires
split_at-requires c =
    let s = sized-is c.args.log c.args.bytes (search (rules, unmapped)) (sym c.numbers_good.ensures ∙ c.if-not-numbers_good.false) in
    omega (arith, s.long, sized-count _ _ s)

pub slots_good-requires : goal.slots_good-requires
slots_good-requires c =
    let l = c.args.log in
    let s = sized-is l c.args.bytes (search (rules, unmapped)) (sym c.numbers_good.ensures ∙ c.if-not-numbers_good.false) in
    let listed : chain_of l.k l.c c.split_at.result.0.now ≡ true = elim c.if-all_zero.branch [
      | then-all_zero w ↦ sym w.chain_good.ensures ∙ sym w.value-is ∙ c.if-chain_good.true
      | else-all_zero w ↦ search rules
    ] in
    chain-few l.k l.c l.m _ s.sizes listed

pub returns-then-slots_good : goal.returns-then-slots_good
returns-then-slots_good c =
    let l = c.args.log in
    let s = sized-is l c.args.bytes (search (rules, unmapped)) (sym c.numbers_good.ensures ∙ c.if-not-numbers_good.false) in
    let one : c.if-all_zero.value ≡ zeros_of c.split_at.result.1.now && chain_of l.k l.c c.split_at.result.0.now = elim c.if-all_zero.branch [
      | then-all_zero w ↦ w.value-is ∙ w.chain_good.ensures ∙ sym (and-goes-on _ (sym c.all_zero.ensures ∙ w.if-all_zero.true))
      | else-all_zero w ↦ w.value-is ∙ w.if-all_zero.false ∙ sym (and-fails _ (sym c.all_zero.ensures ∙ w.if-all_zero.false))
    ] in
    let two : c.if-chain_good.value ≡ zeros_of c.split_at.result.1.now && chain_of l.k l.c c.split_at.result.0.now
    && slots_apart c.split_at.result.0.now = elim c.if-chain_good.branch [
      | then-chain_good w ↦ w.value-is ∙ w.slots_good.ensures ∙ sym (and-goes-on _ (sym one ∙ w.if-chain_good.true))
      | else-chain_good w ↦ w.value-is ∙ w.if-chain_good.false ∙ sym (and-fails _ (sym one ∙ w.if-chain_good.false))
    ] in
    fit-ends l c.args.bytes _ s (rw (← c.split_at.ensures.front, ← c.split_at.ensures.back) (sym two ∙ c.if-slots_good.true))
    (c.ends_good.ensures ∙ ap (ends_of l.start l.end) c.split_at.ensures.front)

pub returns-else-slots_good : goal.returns-else-slots_good
returns-else-slots_good c =
    let l = c.args.log in
    let s = sized-is l c.args.bytes (search (rules, unmapped)) (sym c.numbers_good.ensures ∙ c.if-not-numbers_good.false) in
    let one : c.if-all_zero.value ≡ zeros_of c.split_at.result.1.now && chain_of l.k l.c c.split_at.result.0.now = elim c.if-all_zero.branch [
      | then-all_zero w ↦ w.value-is ∙ w.chain_good.ensures ∙ sym (and-goes-on _ (sym c.all_zero.ensures ∙ w.if-all_zero.true))
      | else-all_zero w ↦ w.value-is ∙ w.if-all_zero.false ∙ sym (and-fails _ (sym c.all_zero.ensures ∙ w.if-all_zero.false))
    ] in
    let two : c.if-chain_good.value ≡ zeros_of c.split_at.result.1.now && chain_of l.k l.c c.split_at.result.0.now
    && slots_apart c.split_at.result.0.now = elim c.if-chain_good.branch [
      | then-chain_good w ↦ w.value-is ∙ w.slots_good.ensures ∙ sym (and-goes-on _ (sym one ∙ w.if-chain_good.true))
      | else-chain_good w ↦ w.value-is ∙ w.if-chain_good.false ∙ sym (and-fails _ (sym one ∙ w.if-chain_good.false))
    ] in
    c.if-slots_good.false
    ∙ fit-listed l c.args.bytes s.long (rw (← c.split_at.ensures.front, ← c.split_at.ensures.back) (sym two ∙ c.if-slots_good.false))
