-- Bytes that are UTF-8, as a test.
use Rattle.std.proofs.Common.{◌≡◌, ℕ, zero, suc, ◌<◌, Bool, true, false, List, [], ◌∷◌, get_or, None, Result, Err, refl, arith}
use Rattle.std.specs.Char.{is_ascii}
use Rattle.std.specs.List.{list_all}
use Rattle.std.proofs.lemmas.Bool.{and_parts}
use Rattle.std.specs.Prelude.{nat_lt, if◌then◌else◌}
use Rattle.std.specs.Str.{IsUtf8, is_utf8}
use Rattle.std.proofs.lemmas.Str.{IsUtf8-from_is_utf8, IsUtf8-from_ascii, is_utf8-from_IsUtf8}
use Rattle.vcm_part.specs.declared.fault.PartCode.TheVariants.{NotToml}
use Rattle.vcm_part.specs.Faults.{fault}
use Rattle.toml.specs.Parse.{parse_document}
use Rattle.vcm_spec.specs.Workpiece.{Workpiece}
use Rattle.vcm_part.specs.declared.fault.PartFault.{PartFault}
use Rattle.vcm_part.specs.PartFile.{part_of_document, part_of}

pub text_is : (bytes : List ℕ) → IsUtf8 bytes → is_utf8 bytes ≡ true
text_is bytes h = is_utf8-from_IsUtf8 bytes h

pub text_is_not : (bytes : List ℕ) → (IsUtf8 bytes → ⊥) → is_utf8 bytes ≡ false
text_is_not bytes h = by (is_utf8 bytes) refl
  where
    by : (t : Bool) → is_utf8 bytes ≡ t → is_utf8 bytes ≡ false
    by true e = absurd (h (IsUtf8-from_is_utf8 bytes e))
    by false e = e

-- refused, whether or not they are text
pub refused_either : (t : Bool) → (if t then part_of_document None else Err (fault NotToml 0)) ≡ Err (fault NotToml 0)
refused_either true = refl
refused_either false = refl

-- ASCII bytes are text
ascii_each : (bytes : List ℕ) → list_all is_ascii bytes ≡ true → (i : ℕ) → get_or bytes i 0 < 128
ascii_each [] e i = omega arith
ascii_each (b ∷ bs) e zero = let h : nat_lt b 128 ≡ true = (and_parts (is_ascii b) (list_all is_ascii bs) e).0 in grind arith
ascii_each (b ∷ bs) e (suc i) = ascii_each bs (and_parts (is_ascii b) (list_all is_ascii bs) e).1 i

pub ascii_gives : (bytes : List ℕ) (r : Result Workpiece PartFault) → list_all is_ascii bytes ≡ true → part_of_document (parse_document bytes) ≡ r → part_of bytes ≡ r
unfolding part_of
ascii_gives bytes r e h = rw (text_is bytes (IsUtf8-from_ascii bytes (ascii_each bytes e))) h
