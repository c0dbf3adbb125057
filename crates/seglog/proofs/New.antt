-- A new log: an answer by its log, and that what is accepted is well shaped. Assumes nothing.
use mathlib.Core.Path.{◌≡◌, refl, sym, ap, ◌∙◌}
use mathlib.Core.Bool.{true, false}
use Prim.Native.Nat.{ℕ}
use native.Mathlib.Omega.{arith}
use Rattle.std.specs.Prelude.{Result, Ok, Err}
use Rattle.refusal.specs.declared.Refusal.{Refusal}
use Rattle.refusal.specs.Refusals.{number}
use Rattle.refusal.proofs.Refusals.{refusal_of, number-back, numbers-differ}
use Rattle.lists.specs.Each.{all, linked}
use Rattle.lists.specs.Distinct.{distinct}
use Rattle.seglog.specs.declared.Log.{Log}
use Rattle.seglog.specs.View.{empty_of, log_of, zero_log, zeros_of}
use Rattle.seglog.specs.Chain.{chain_of, ends_of}
use Rattle.seglog.specs.Fit.{fitting_of}
use Rattle.seglog.specs.New.{roomy_of, refused_log, accepted, new_of, Logged, logged}
use Rattle.seglog.proofs.Fit.{roomy-is, is-fitting}

-- no refusal has the number 0
pub number-some : (r : Refusal) → number r ≡ 0 → ⊥
number-some r e = absurd (omega (arith, e, ap number (sym (number-back r) ∙ ap refusal_of e)))

-- an answer and a log are two answers' only where the answers are one
pub logged-unique : (l : Log) (r q : Result Log Refusal) → logged l r ≡ logged l q → r ≡ q
logged-unique l (Ok a) (Ok b) e = ap Ok (ap (λ (x : Logged). x.log) e)
logged-unique l (Ok a) (Err b) e = absurd (number-some b (sym (ap (λ (x : Logged). x.refusal) e)))
logged-unique l (Err a) (Ok b) e = absurd (number-some a (ap (λ (x : Logged). x.refusal) e))
logged-unique l (Err a) (Err b) e = ap Err (numbers-differ a b (ap (λ (x : Logged). x.refusal) e))

module _ (k c m n : ℕ) where
  -- refusal 1
  pub new-refuses-1 : (l : Log) → roomy_of k c m n ≡ false → l ≡ zero_log → refused_log 1 l ≡ new_of k c m n
  unfolding new_of
  new-refuses-1 l h e = rw (h, e) refl

  -- the empty log
  pub new-empty : (l : Log) → roomy_of k c m n ≡ true → l ≡ log_of (empty_of k c m) → accepted l ≡ new_of k c m n
  unfolding new_of
  new-empty l h e = rw (h, e) refl

  -- a new log is well shaped and fits its area
  pub new-shaped : roomy_of k c m n ≡ true → fitting_of (new_of k c m n).log n ≡ true
  unfolding new_of zeros_of chain_of all linked distinct ends_of
  new-shaped h =
      let t = roomy-is k c m n h in
      rw (h) (is-fitting (log_of (empty_of k c m)) n refl
      (record {
        sizes = t.sizes;
        few = omega arith;
        area = t.area;
        zeros = refl;
        chain = refl;
        apart = refl;
        ends = refl;
      }))
