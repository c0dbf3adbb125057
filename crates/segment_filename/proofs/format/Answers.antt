-- `segment_filename::format` meets its contract: the four pieces are written one behind the other.
-- Assumes nothing.
use mathlib.Core.Path.{ap, ◌∙◌}
use mathlib.Core.List.{List}
use Prim.Native.Nat.{ℕ, ◌+◌}
use native.Mathlib.Omega.{arith}
use lib.ListN.{length}
use Rattle.lists.specs.Splice.{splice}
use Rattle.segment_filename.specs.Digits.{digits}
use Rattle.segment_filename.specs.Formatting.{dot, suffix}
use Rattle.segment_filename.proofs.Formatting.{format-refuses-30, format-refuses-36, format-accepts, name-pieces}
use Rattle.segment_filename.proofs.format.Goals as goal

pub returns-then-n-eq0 : goal.returns-then-n-eq0
returns-then-n-eq0 c =
    let a = c.args in
    let both = format-refuses-30 a.prefix.now a.id a.out.now c.if-n-eq0.true in record { answer = both.0; buffer = both.1 }

pub returns-then-saturating_sub-n : goal.returns-then-saturating_sub-n
returns-then-saturating_sub-n c =
    let a = c.args in
    let both = format-refuses-36 a.prefix.now a.id a.out.now c.if-n-eq0.false (omega arith) in record { answer = both.0; buffer = both.1 }

pub returns : goal.returns
returns c =
    let a = c.args in
    let n : ℕ = length a.prefix.now in
    let given = format-accepts a.prefix.now a.id a.out.now c.if-n-eq0.false (omega arith) in record {
      answer = given.0;
      buffer = c.copy_into-4.ensures ∙ ap (splice (n + 11) suffix) (c.copy_into-3.ensures
          ∙ ap (λ (l : List ℕ). splice (n + 1) l c.copy_into-2.new.out) c.ten_digits-digits.ensures
          ∙ ap (splice (n + 1) (digits 10 a.id)) (c.copy_into-2.ensures ∙ ap (splice n dot) c.copy_into.ensures))
          ∙ name-pieces a.prefix.now a.id a.out.now ∙ given.1;
    }
