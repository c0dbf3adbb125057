-- The log and the area after some appends of abc. Assumes nothing.
use Rattle.std.specs.Prelude.{List, [], ◌∷◌, ℕ, zero, suc, length}
use Rattle.seglog.specs.declared.Log.{Log}
use Rattle.seglog.specs.New.{new_of}
use Rattle.seglog_append.specs.Appending.{append_log, append_answer, append_area}

-- a log and its area
pub record Sample : Type 0 where
  pub log : Log
  pub area : List ℕ

-- one append of abc
abbrev pub abc_to : Sample → Sample
abc_to s =
    let did = append_log s.log s.area (97 ∷ 98 ∷ 99 ∷ []) in
    record { log = (append_answer s.log did).log; area = append_area s.area did }

-- n of them
unfoldable pub abcs : ℕ → Sample → Sample
abcs zero s = s
abcs (suc n) s = abcs n (abc_to s)

-- n of them to a new log
abbrev pub filled_by : ℕ → ℕ → List ℕ → Sample
filled_by m n area = abcs n (record { log = (new_of 2 8192 m (length area)).log; area = area })
