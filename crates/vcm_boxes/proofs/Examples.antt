-- ASCII texts, as the examples have them.
use Rattle.std.proofs.Common.{◌≡◌, ℕ, zero, suc, ◌<◌, true, List, [], ◌∷◌, get_or, Result, arith}
use Rattle.std.specs.Char.{is_ascii}
use Rattle.std.specs.List.{list_all}
use Rattle.std.specs.Prelude.{nat_lt}
use Rattle.std.proofs.lemmas.Bool.{and_parts}
use Rattle.std.proofs.lemmas.Str.{IsUtf8-from_ascii}
use Rattle.toml.specs.Parse.{parse_document}
use Rattle.vcm_part.proofs.Bytes.{text_is}
use Rattle.vcm_boxes.specs.declared.boxes.ProbeBox.{ProbeBox}
use Rattle.vcm_boxes.specs.declared.fault.Refusal.{Refusal}
use Rattle.vcm_boxes.specs.BoxFile.{boxes_of_document, boxes_of}

ascii_each : (bytes : List ℕ) → list_all is_ascii bytes ≡ true → (i : ℕ) → get_or bytes i 0 < 128
ascii_each [] e i = omega arith
ascii_each (b ∷ bs) e zero = let h : nat_lt b 128 ≡ true = (and_parts (is_ascii b) (list_all is_ascii bs) e).0 in grind arith
ascii_each (b ∷ bs) e (suc i) = ascii_each bs (and_parts (is_ascii b) (list_all is_ascii bs) e).1 i

pub ascii_gives : (bytes : List ℕ) (r : Result (List ProbeBox) Refusal) → list_all is_ascii bytes ≡ true → boxes_of_document (parse_document bytes) ≡ r → boxes_of bytes ≡ r
unfolding boxes_of
ascii_gives bytes r e h = rw (text_is bytes (IsUtf8-from_ascii bytes (ascii_each bytes e))) h
