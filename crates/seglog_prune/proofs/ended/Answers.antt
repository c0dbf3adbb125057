-- `seglog_prune::ended` meets its contract: the entries behind are cleared, and the last segment ends with the record.
-- Assumes nothing.
use mathlib.Core.Path.{◌≡◌, ap, refl, ◌∙◌}
use mathlib.Core.List.{List, [], ◌++◌, append-nil}
use lib.ListN.{length, set, take, drop, replicate, length-take, length-drop, drop_of_length-le}
use lib.Seq.{drop-drop}
use Prim.Native.Nat.{ℕ, ◌-◌, ◌≤◌}
use borrow.Author.Rules.{rules}
use borrow.Rule.Slice.PartMut.{post_of}
use native.Mathlib.Omega.{arith}
use Rattle.lists.proofs.Arrays.{unmapped}
use Rattle.segment.specs.declared.Segment.{Segment}
use Rattle.segment.specs.Segment.{no_segment}
use Rattle.seglog_prune.proofs.Prune.{ended_is}
use Rattle.seglog_prune.proofs.ended.Goals as goal

-- the entries from a place on, filled
filled : (l ys : List Segment) (left k : ℕ) (z : Segment) → length l ≡ 64 → left ≤ 64 → k ≡ length l - left
    → ys ≡ replicate (length (take k (drop left l))) z → take left l ++ (ys ++ post_of left k l) ≡ take left l ++ replicate (64 - left) z
filled l ys left k z long within e f =
    let whole : length (take k (drop left l)) ≡ 64 - left = simp (length-take, length-drop) (omega arith) in
    let behind : post_of left k l ≡ [] = drop-drop k left l ∙ drop_of_length-le l (omega arith) in
    ap (λ (x : List Segment). take left l ++ x)
    (ap (λ (x : List Segment). ys ++ x) behind ∙ append-nil ys ∙ f ∙ ap (λ (n : ℕ). replicate n z) whole)

pub returns : goal.returns
returns c =
    let a = c.args in
    let k : ℕ = length a.log.segs - a.left in
    let long_of : length a.log.segs ≡ 64 = search (rules, unmapped) in
    let n : ℕ = length (take k (drop a.left a.log.segs)) in
    let all : List Segment = take a.left a.log.segs ++ (c.fill.new.self ++ post_of a.left k a.log.segs) in
    ended_is a.log a.left a.n a.newest all _ long_of c.requires.0 c.requires.1
    (filled a.log.segs c.fill.new.self a.left k no_segment long_of c.requires.1 refl
    (c.fill.ensures.after (λ y e. e) ∙ ap (λ (z : Segment). replicate n z) c.no_segment.ensures))
    (ap (λ (g : Segment). set all (a.left - 1) g) c.ended_at.ensures)
