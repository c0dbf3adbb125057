-- For each public function of this crate: two answers, and two contents of the lent buffer, that its contract allows are equal.
-- Assumes nothing.
use mathlib.Core.Path.{◌≡◌, refl}
use mathlib.Core.List.{List}
use Prim.Native.Nat.{ℕ}
use Rattle.lists.specs.Unique.{UniqueMemory}
use Rattle.lists.proofs.Unique.{unique}
use Rattle.text.specs.Texts.{Put}
use Rattle.text.proofs.Text.put.Reads as put
use Rattle.text.proofs.Text.put_number.Reads as put-number
use Rattle.text.proofs.Text.put_named.Reads as put-named

-- `Put` fixes where a text ends, and every byte of the buffer
pub text-unique : {at end end' : ℕ} {text l k k' : List ℕ} → Put at text l end k → Put at text l end' k' → (end ≡ end') × (k ≡ k')
text-unique p q = (unique p.ends q.ends, unique p.written q.written)

-- and so the whole of it
pub same-text : {at end end' : ℕ} {text l k k' : List ℕ} → Put at text l end k → Put at text l end' k' → ◌≡◌ {A = ℕ × List ℕ} (end, k) (end', k')
same-text p q = let both = text-unique p q in rw (both.0, both.1) refl

pub put-unique : UniqueMemory put.Learnt {M = ℕ × List ℕ} (λ _ e. (e.0.now.end, e.0.now.out.now))
put-unique κs a r r' e e' p q = same-text p.0 q.0

pub put-number-unique : UniqueMemory put-number.Learnt {M = ℕ × List ℕ} (λ _ e. (e.0.now.end, e.0.now.out.now))
put-number-unique κs a r r' e e' p q = same-text p.0 q.0

pub put-named-unique : UniqueMemory put-named.Learnt {M = ℕ × List ℕ} (λ _ e. (e.0.now.end, e.0.now.out.now))
put-named-unique κs a r r' e e' p q = same-text p.0 q.0
