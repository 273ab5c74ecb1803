-- ASCII texts, as the examples have them.
use Rattle.std.proofs.Common.{◌≡◌, ℕ, zero, suc, ◌<◌, Bool, true, List, [], ◌∷◌, get_or, Result, arith}
use Rattle.std.specs.Char.{is_ascii}
use Rattle.std.specs.List.{list_all}
use Rattle.std.specs.Prelude.{nat_lt}
use Rattle.std.proofs.lemmas.Bool.{and_parts}
use Rattle.std.proofs.lemmas.Str.{IsUtf8-from_ascii}
use Rattle.toml.specs.Parse.{parse_document}
use Rattle.vcm_part.proofs.Bytes.{text_is}
use Rattle.vcm_probe_set.specs.declared.fault.Refusal.{Refusal}
use Rattle.vcm_probe_set.specs.Probes.{Probes}
use Rattle.vcm_probe_set.specs.ProbeFile.{set_of_document, set_of, has_probes, is_of_several}

ascii_each : (bytes : List ℕ) → list_all is_ascii bytes ≡ true → (i : ℕ) → get_or bytes i 0 < 128
ascii_each [] e i = omega arith
ascii_each (b ∷ bs) e zero = let h : nat_lt b 128 ≡ true = (and_parts (is_ascii b) (list_all is_ascii bs) e).0 in grind arith
ascii_each (b ∷ bs) e (suc i) = ascii_each bs (and_parts (is_ascii b) (list_all is_ascii bs) e).1 i

pub ascii_gives : (bytes : List ℕ) (r : Result Probes Refusal) → list_all is_ascii bytes ≡ true → set_of_document (parse_document bytes) ≡ r → set_of bytes ≡ r
unfolding set_of
ascii_gives bytes r e h = rw (text_is bytes (IsUtf8-from_ascii bytes (ascii_each bytes e))) h

pub ascii_is : (bytes : List ℕ) (b : Bool) → list_all is_ascii bytes ≡ true → has_probes (parse_document bytes) ≡ b → is_of_several bytes ≡ b
unfolding is_of_several
ascii_is bytes b e h = rw (text_is bytes (IsUtf8-from_ascii bytes (ascii_each bytes e))) h
