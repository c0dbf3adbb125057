-- `delta_encode::encode` meets its contract: each answer by the tests that led there, and the four parts one behind the other.
-- Assumes nothing.
use Rattle.std.proofs.Common.{ℕ, List, Err, ◌≤◌, length, ap, sym, ◌∙◌, arith}
use lib.ListN.{length-take}
use Rattle.lists.specs.Splice.{splice}
use borrow.Author.Rules.{rules}
use Rattle.lists.proofs.Arrays.{unmapped}
use Rattle.lists.proofs.Outcome.{handed-on}
use Rattle.refusal.specs.Refusals.{outcome}
use Rattle.delta.specs.Table.{rows_of, ordered}
use Rattle.delta_encode.specs.Bytes.{bytes_of}
use Rattle.delta_encode.proofs.BytesWhole.{known, four-parts, arranged-refused, arranged-few, ends-many, ends-outside, ends-twins, ends-short, ends-written}
use Rattle.delta_encode.proofs.encode.Goals as goal

pub returns-then-t-gt256 : goal.returns-then-t-gt256
returns-then-t-gt256 c =
    let a = c.args in
    let both = ends-many 256 a.t a.values.now a.out.now (omega arith) in
    record { result_value = both.0; out_after = both.1 }

pub returns-then-any_outside : goal.returns-then-any_outside
returns-then-any_outside c =
    let a = c.args in
    let both = ends-outside 256 a.t a.values.now a.out.now (omega arith) (sym c.any_outside.ensures ∙ c.if-any_outside.true) in
    record { result_value = both.0; out_after = both.1 }

pub in_order-requires : goal.in_order-requires
in_order-requires c = search (rules, unmapped)

pub returns-in_err-in_order : goal.returns-in_err-in_order
returns-in_err-in_order c =
    let a = c.args in
    let inside = sym c.any_outside.ensures ∙ c.if-any_outside.false in
    let r = c.in_err-in_order.field-0.0 in
    let d = arranged-refused (rows_of a.t) r (ap (λ z. ordered z c.in_order.new.t) (sym c.in_err-in_order.was) ∙ c.in_order.ensures.answer) in
    let both = ends-twins 256 a.t a.values.now a.out.now (omega arith) inside d.1 in
    record {
      result_value = ap outcome (handed-on c.from_residual.result r c.from_residual.ensures.1 ∙ ap Err d.0) ∙ both.0;
      out_after = both.1;
    }

pub returns-then-out-sizes : goal.returns-then-out-sizes
returns-then-out-sizes c =
    let a = c.args in
    let inside = sym c.any_outside.ensures ∙ c.if-any_outside.false in
    let k = known a.t c.in_order.new.t (omega arith) (ap (λ z. ordered z c.in_order.new.t) (sym c.in_ok-in_order.was) ∙ c.in_order.ensures.answer) a.values.now c.measure-sizes.result inside c.measure-sizes.ensures in
    let n = k.size in
    let both = ends-short 256 a.t a.values.now a.out.now (omega arith) inside k.once (omega arith) in
    record { result_value = both.0; out_after = both.1 }

pub put_erases-p-requires : goal.put_erases-p-requires
put_erases-p-requires c =
    let a = c.args in
    let inside = sym c.any_outside.ensures ∙ c.if-any_outside.false in
    let k = known a.t c.in_order.new.t (omega arith) (ap (λ z. ordered z c.in_order.new.t) (sym c.in_ok-in_order.was) ∙ c.in_order.ensures.answer) a.values.now c.measure-sizes.result inside c.measure-sizes.ensures in
    record { keyed = c.measure-sizes.ensures.keyed; in_bounds = omega (arith, k.size, k.parts) }

pub overflow_add-p : goal.overflow_add-p
overflow_add-p c =
    let a = c.args in
    let inside = sym c.any_outside.ensures ∙ c.if-any_outside.false in
    let k = known a.t c.in_order.new.t (omega arith) (ap (λ z. ordered z c.in_order.new.t) (sym c.in_ok-in_order.was) ∙ c.in_order.ensures.answer) a.values.now c.measure-sizes.result inside c.measure-sizes.ensures in
    omega (arith, k.size, k.parts, c.put_erases-p.ensures.value, c.if-out-sizes.false, c.well_formed)

pub put_reinstates-q-requires : goal.put_reinstates-q-requires
put_reinstates-q-requires c =
    let a = c.args in
    let inside = sym c.any_outside.ensures ∙ c.if-any_outside.false in
    let k = known a.t c.in_order.new.t (omega arith) (ap (λ z. ordered z c.in_order.new.t) (sym c.in_ok-in_order.was) ∙ c.in_order.ensures.answer) a.values.now c.measure-sizes.result inside c.measure-sizes.ensures in
    record {
      keyed = c.measure-sizes.ensures.keyed;
      inside = k.none;
      in_bounds = omega (arith, k.size, k.parts, c.put_erases-p.ensures.value, c.if-out-sizes.false);
    }

pub returns : goal.returns
returns c =
    let a = c.args in
    let m = c.measure-sizes.result in
    let inside = sym c.any_outside.ensures ∙ c.if-any_outside.false in
    let k = known a.t c.in_order.new.t (omega arith) (ap (λ z. ordered z c.in_order.new.t) (sym c.in_ok-in_order.was) ∙ c.in_order.ensures.answer) a.values.now m inside c.measure-sizes.ensures in
    let n = k.size in
    let p = k.parts in
    let q = c.put_erases-p.ensures.value in
    let l = c.put_reinstates-q.ensures.value in
    let room : length (bytes_of a.t a.values.now) ≤ length a.out.now = omega (arith, c.if-out-sizes.false) in
    let parts = four-parts a.values.now a.out.now (rows_of c.in_order.new.t) m.erases m.reinstates c.put_erases-p.result
    c.put_reinstates-q.result c.write_u32.new.out c.put_erases-p.new.out c.write_u32-2.new.out c.put_reinstates-q.new.out
    c.measure-sizes.ensures.erased c.measure-sizes.ensures.kept q c.write_u32.ensures c.put_erases-p.ensures.out_after c.write_u32-2.ensures
    c.put_reinstates-q.ensures.out_after in
    let both = ends-written 256 a.t a.values.now a.out.now (omega arith) inside k.once room c.put_reinstates-q.result c.put_reinstates-q.new.out
    (omega arith) (parts ∙ ap (λ (b : List ℕ). splice 0 b a.out.now) (sym k.bytes)) in
    record { result_value = both.0; out_after = both.1 }

pub shared_ref_as_front-rows : goal.shared_ref_as_front-rows
shared_ref_as_front-rows c =
    arranged-few c.args.t c.in_order.new.t (omega arith)
    (ap (λ z. ordered z c.in_order.new.t) (sym c.in_ok-in_order.was) ∙ c.in_order.ensures.answer)

pub measure-sizes-requires : goal.measure-sizes-requires
measure-sizes-requires c =
    simp length-take (omega (
      arith,
      arranged-few c.args.t c.in_order.new.t (omega arith)
          (ap (λ z. ordered z c.in_order.new.t) (sym c.in_ok-in_order.was) ∙ c.in_order.ensures.answer),
    ))
