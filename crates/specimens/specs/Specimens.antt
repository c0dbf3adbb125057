-- Document 01's specimens marked P, a field for each, as equations between what the definitions give and what the paper says
-- (specimen 8: what document 02's ask 3 makes of it).
-- proofs/Specimens.antt proves them together. Assumes nothing.
use Rattle.std.specs.Prelude.{◌≡◌, List, [], ◌∷◌, ◌++◌, ℕ, length, replicate}
use Rattle.record.specs.Record.{record_room}
use Rattle.little_endian.specs.LittleEndian.{le_bytes}
use Rattle.lists.specs.Outcome.{refused, done}
use Rattle.segment_filename.specs.Formatting.{dot, suffix, name_of, format_of}
use Rattle.segment_filename.specs.Parsing.{parse_of}
use Rattle.delta.specs.Table.{erased, reinstated, table_of}
use Rattle.delta.specs.Reading.{decoded_of}
use Rattle.delta_encode.specs.Bytes.{bytes_of, encoded_of, after_of}

-- ---- words

-- the bytes of "rollback"
abbrev pub rollback : List ℕ
rollback = 114 ∷ 111 ∷ 108 ∷ 108 ∷ 98 ∷ 97 ∷ 99 ∷ 107 ∷ []

-- nine digits 0 and a 1: "0000000001" without its first digit
abbrev pub nine : List ℕ
nine = 48 ∷ 48 ∷ 48 ∷ 48 ∷ 48 ∷ 48 ∷ 48 ∷ 48 ∷ 49 ∷ []

-- "429496729" and a last digit
abbrev pub near : ℕ → List ℕ
near last = 52 ∷ 50 ∷ 57 ∷ 52 ∷ 57 ∷ 54 ∷ 55 ∷ 50 ∷ 57 ∷ last ∷ []

-- a name under "rollback" with these ten bytes for its id
abbrev pub named : List ℕ → List ℕ
named ten = rollback ++ (dot ++ (ten ++ suffix))

-- a key, and a value of three bytes
abbrev pub key : List ℕ
key = replicate 32 7

-- "abc"
abbrev pub abc : List ℕ
abc = 97 ∷ 98 ∷ 99 ∷ []

-- one erase key: its count, the key, and no reinstated key
abbrev pub one_erased : List ℕ
one_erased = le_bytes 4 1 ++ key ++ le_bytes 4 0

-- one reinstated key with 3 bytes: no erase key, the count, the key, the length, the value
abbrev pub one_reinstated : List ℕ
one_reinstated = le_bytes 4 0 ++ le_bytes 4 1 ++ key ++ le_bytes 4 3 ++ abc

-- the same key in both groups
abbrev pub both_groups : List ℕ
both_groups = le_bytes 4 1 ++ key ++ le_bytes 4 1 ++ key ++ le_bytes 4 0

-- ---- the table

-- the specimens marked P
pub record Specimens : Type 0 where
  -- 1. payload 4084: size 4096
  pub one-page : record_room 4084 ≡ 4096
  -- 2. payload 4085: size 8192
  pub two-pages : record_room 4085 ≡ 8192
  -- 3. payload 0: size 4096
  pub no_payload : record_room 0 ≡ 4096
  -- 5. prefix rollback, id 1: rollback.0000000001.log (23 bytes)
  pub name : name_of rollback 1 ≡ named (48 ∷ nine)
  pub name-length : format_of rollback 23 ≡ done 23
  -- 6. digits 4294967295 read
  pub largest : parse_of rollback (named (near 53)) ≡ done 4294967295
  -- 7. 4294967296: 35
  pub too_large : parse_of rollback (named (near 54)) ≡ refused 35
  -- 8. +000000001, as document 02 changes it: 35
  pub plus-sign : parse_of rollback (named (43 ∷ nine)) ≡ refused 35
  -- 9. empty delta: eight zero bytes
  pub empty-encoded : bytes_of (table_of []) [] ≡ replicate 8 0
  pub empty-decoded : decoded_of 256 (replicate 8 0) ≡ record { answer = done 8; table = table_of [] }
  -- 10. one erase key: 40 bytes
  pub erase-encoded : bytes_of (table_of (erased key ∷ [])) [] ≡ one_erased
  pub erase-length : length one_erased ≡ 40
  pub erase-decoded : decoded_of 256 one_erased ≡ record { answer = done 40; table = table_of (erased key ∷ []) }
  -- 11. one reinstated key with 3 bytes: 47
  pub reinstate-encoded : encoded_of 256 (table_of (reinstated key 0 3 ∷ [])) abc (replicate 48 1) ≡ done 47
  pub reinstate-bytes : after_of 256 (table_of (reinstated key 0 3 ∷ [])) abc (replicate 48 1) ≡ one_reinstated ++ (1 ∷ [])
  pub reinstate-length : length one_reinstated ≡ 47
  pub reinstate-decoded : decoded_of 256 one_reinstated ≡ record { answer = done 47; table = table_of (reinstated key 44 3 ∷ []) }
  -- 12. the same key in both groups: 42
  pub both-decoded : (decoded_of 256 both_groups).answer ≡ refused 42
  pub both-encoded : encoded_of 256 (table_of (erased key ∷ reinstated key 0 3 ∷ [])) abc [] ≡ refused 42
