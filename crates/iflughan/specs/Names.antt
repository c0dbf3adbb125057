-- The answers on names as the structs that cross the C interface: document 01's number and value.
-- Assumes nothing.
use Rattle.std.specs.Prelude.{ℕ}
use Rattle.lists.specs.Outcome.{Outcome, either}
use Rattle.iflughan.specs.declared.Written.{Written}
use Rattle.iflughan.specs.declared.ParsedName.{ParsedName}

-- the refusal number and the length of a name or a delta that is written
unfoldable pub written : Outcome ℕ → Written
written o = record { refusal = either (λ n. n) (λ n. 0) o; reserved = 0; length = either (λ n. 0) (λ n. n) o }

-- the refusal number and the id of a name that is read
unfoldable pub parsed_name : Outcome ℕ → ParsedName
parsed_name o = record { refusal = either (λ n. n) (λ v. 0) o; id = either (λ n. 0) (λ v. v) o }
