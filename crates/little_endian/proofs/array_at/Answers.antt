-- `little_endian::array_at` meets its contract: the bytes behind `at`, and of these the first N.
-- Assumes nothing.
use Rattle.std.proofs.Common.{◌≡◌, ℕ, ◌+◌, ◌≤◌, ◌<◌, ◌-◌, length, take, drop, List, Bor, sym, ap, ◌∙◌, arith, length-drop, ◌⊎◌}
use Rattle.std.specs.Prelude.{Option, Some, None, Result, Ok, Err, MatchOption, IsSome}
use Rattle.std.specs.Option.{ok_or, option_copied}
use Rattle.std.specs.Result.{IsErrAnd}
use Rattle.std.specs.List.{slice_range}
use Rattle.std.specs.Array.{IsFirstChunk}
use borrow.Author.Tests.{lt-leb, le-leb}
use Rattle.refusal.specs.declared.Refusal.{Refusal}
use Rattle.refusal.specs.declared.Refusal.TheVariants.{EndsEarly}
use Rattle.refusal.specs.Refusals.{number, outcome}
use Rattle.lists.specs.Outcome.{refused, done}
use Rattle.lists.proofs.Cases.{by_order}
use Rattle.std.proofs.lemmas.Slice.{between_to_end}
use Rattle.little_endian.specs.LittleEndian.{bytes_at}
use Rattle.little_endian.proofs.LittleEndian.{bytes-refuse-40, bytes-read}
use Rattle.little_endian.proofs.array_at.Goals as goal

-- where nothing stands from `at` on
no-rest : (n : ℕ) (s : List ℕ) (at : ℕ) (o : Option (Bor (List ℕ))) (r : Result (List ℕ) Refusal) (e : Refusal)
    → ((at ≤ length s) × (length s ≤ length s) → IsSome o) → ok_or o EndsEarly ≡ Err e → IsErrAnd r (λ y. y ≡ e)
    → outcome r ≡ bytes_at n s at
no-rest n s at (Some b) r e h q g = absurd (let z = q in cc)
no-rest n s at None (Ok b) e h q g = absurd g
no-rest n s at None (Err y) e h q g =
    let none : y ≡ EndsEarly = cc in
    by_order at (length s) (λ l. let z = h (l, omega arith) in cc)
    (λ l. ap (λ (z : Refusal). refused (number z)) none ∙ sym (bytes-refuse-40 n s at (lt-leb (at + n) (length s) (omega arith))))

-- the slice from `at` on
behind : (s : List ℕ) (at : ℕ) (o : Option (Bor (List ℕ))) (t : Bor (List ℕ))
    → MatchOption o ((length s < at) ⊎ (length s < length s)) (λ x. (at ≤ length s) × (length s ≤ length s) × (x.now ≡ slice_range s at (length s)) × (length x.now + at ≡ length s))
    → ok_or o EndsEarly ≡ Ok t → (at ≤ length s) × (t.now ≡ drop at s)
behind s at (Some b) t m q =
    let is : b ≡ t = cc in
    (m.0, ap (λ (x : Bor (List ℕ)). x.now) (sym is) ∙ m.2 ∙ between_to_end s at (length s) (omega arith))
behind s at None t m q = absurd (let z = q in cc)

-- of the slice from `at` on, the first n bytes
first-of : (n : ℕ) (s t : List ℕ) (at : ℕ) (o : Option (Bor (List ℕ))) (r : Result (List ℕ) Refusal)
    → at ≤ length s → t ≡ drop at s → (n ≤ length t → IsSome o) → MatchOption o (length t < n) (λ y. IsFirstChunk t y.now n)
    → r ≡ ok_or (option_copied o) EndsEarly → outcome r ≡ bytes_at n s at
first-of n s t at (Some b) r le is h m q =
    let long : length t ≡ length s - at = ap length is ∙ length-drop at s in
    let enough = m.enough in
    ap outcome q ∙ ap done (m.same ∙ ap (take n) is) ∙ sym (bytes-read n s at (le-leb (at + n) (length s) (omega arith)))
first-of n s t at None r le is h m q =
    let long : length t ≡ length s - at = ap length is ∙ length-drop at s in
    let few : length t < n = m in
    ap outcome q ∙ sym (bytes-refuse-40 n s at (lt-leb (at + n) (length s) (omega arith)))

pub returns-in_err-rest : goal.returns-in_err-rest
returns-in_err-rest g c =
    no-rest g.row.N c.args.s.now c.args.at c.get.result c.from_residual.result c.in_err-rest.field-0.0 c.get.ensures.lookup.1
    (sym c.ok_or.ensures.value ∙ c.in_err-rest.was) c.from_residual.ensures.1

pub returns : goal.returns
returns g c =
    let s = c.args.s.now in
    let at = c.args.at in
    let rest = behind s at c.get.result c.in_ok-rest.rest c.get.ensures.lookup.0 (sym c.ok_or.ensures.value ∙ c.in_ok-rest.was) in
    first-of g.row.N s c.in_ok-rest.rest.now at c.first_chunk.result c.ok_or-2.result rest.0 rest.1 c.first_chunk.ensures.variant.1
    c.first_chunk.ensures.cases (c.ok_or-2.ensures.value ∙ ap (λ o. ok_or o EndsEarly) c.copied.ensures)
