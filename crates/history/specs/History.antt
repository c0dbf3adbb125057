-- Calls of append and of the prunes, what a caller holds after a run of them, and the payload that was last appended under an id, read
-- off the calls and their answers alone. Everything is said of the answers that the contracts of the functions fix. Assumes nothing.
use Rattle.std.specs.Prelude.{List, [], ◌∷◌, ℕ, length, eqb}
use Rattle.lists.specs.Choice.{pick}
use Rattle.seglog.specs.declared.Log.{Log}
use Rattle.seglog.specs.New.{new_of}
use Rattle.seglog_append.specs.Appending.{AppendAnswer}
use Rattle.seglog_append.specs.Appending.{Left, append_log, append_answer, append_area}
use Rattle.lists.specs.Outcome.{Outcome}
use Rattle.seglog_prune.specs.Prune.{Pruned, oldest_log, recent_log, prune_answer, prune_area}

-- a call: append of any bytes, prune oldest or prune recent to any number
pub data Call : Type 0 where
  append : List ℕ → Call
  oldest : ℕ → Call
  recent : ℕ → Call

-- what a caller holds: the log, and the area that it lends
pub record Held : Type 0 where
  pub log : Log
  pub area : List ℕ

-- a new log over an area of any content
abbrev pub begun : (k c m : ℕ) → List ℕ → Held
begun k c m area = record { log = (new_of k c m (length area)).log; area = area }

-- ---- a run

-- after an append: the answer's log, and the area as the call leaves it
abbrev pub after_append : Held → Outcome Left → Held
after_append t r = record { log = (append_answer t.log r).log; area = append_area t.area r }

-- after a prune: the same
abbrev pub after_prune : Held → Outcome Pruned → Held
after_prune t r = record { log = (prune_answer t.log r).log; area = prune_area t.area r }

-- what is held after a call, refused or not
abbrev pub step : Held → Call → Held
step t (append p) = after_append t (append_log t.log t.area p)
step t (oldest n) = after_prune t (oldest_log t.log t.area n)
step t (recent n) = after_prune t (recent_log t.log t.area n)

-- what is held after calls, the first one first
unfoldable pub run : Held → List Call → Held
run t [] = t
run t (call ∷ calls) = run (step t call) calls

-- the refusal's number that a call answers, 0 where it is accepted
abbrev pub refusal_of : Held → Call → ℕ
refusal_of t (append p) = (append_answer t.log (append_log t.log t.area p)).refusal
refusal_of t (oldest n) = (prune_answer t.log (oldest_log t.log t.area n)).refusal
refusal_of t (recent n) = (prune_answer t.log (recent_log t.log t.area n)).refusal

-- calls that only append
abbrev pub appends : List (List ℕ) → List Call
appends [] = []
appends (p ∷ ps) = append p ∷ appends ps

-- ---- what was last appended

-- the payloads f, with p under id from now on
abbrev pub noted : (ℕ → List ℕ) → ℕ → List ℕ → ℕ → List ℕ
noted f id p i = pick (eqb i id) p (f i)

-- an append's answer: an accepted one gives the id under which p now stands
abbrev pub heard : (ℕ → List ℕ) → List ℕ → AppendAnswer → ℕ → List ℕ
heard f p r = pick (eqb r.refusal 0) (noted f r.id p) f

-- a call's answer: a prune takes nothing back
abbrev pub heard_call : (ℕ → List ℕ) → Held → Call → ℕ → List ℕ
heard_call f t (append p) = heard f p (append_answer t.log (append_log t.log t.area p))
heard_call f t (oldest n) = f
heard_call f t (recent n) = f

-- the payload last appended under each id after calls from t on, where f was so before them
unfoldable pub told : (ℕ → List ℕ) → Held → List Call → ℕ → List ℕ
told f t [] = f
told f t (call ∷ calls) = told (heard_call f t call) (step t call) calls

-- before the first append: nothing under any id
abbrev pub nothing : ℕ → List ℕ
nothing i = []

-- the payload last appended under each id, by calls from t on
abbrev pub last_under : Held → List Call → ℕ → List ℕ
last_under t calls = told nothing t calls
