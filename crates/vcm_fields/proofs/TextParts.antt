-- Names and texts, read as they are spelled.
use Rattle.std.proofs.Common.{◌≡◌, ℕ, ◌≤◌, Bool, true, nat_le, IsTrue, List, length, refl, arith}
use Rattle.vcm_spec.specs.TextBytes.{is_text_byte, is_text, IsText}
use Rattle.vcm_items.proofs.NameLemmas.{variable_name_is_name}
use Rattle.vcm_items.specs.NameBytes.{is_name, is_name_byte, IsName, is_variable_name, IsVariableName}
use Rattle.vcm_fields.specs.declared.fault.ImageFault.TheVariants.{BadField}
use Rattle.std.specs.List.{list_all}
use Rattle.vcm_fields.specs.Readers.{within, tested, byte_at, bytes_at, name_at, variable_name_at, text_at}
use Rattle.vcm_fields.specs.Spelling.{byte, name, text}
use Rattle.vcm_fields.proofs.Inverse.{Reads, reads_as, reads_tested, reads_after}
use Rattle.vcm_fields.proofs.NumberInverse.{reads_byte, reads_short, reads_bytes}
use Rattle.vcm_fields.proofs.ItemParts.{in_range}
use Rattle.std.proofs.lemmas.Bool.{and_parts}

-- ---- names and texts

truth_is : (b : Bool) → IsTrue b → b ≡ true
truth_is b h = h

is_truth : (b : Bool) → b ≡ true → IsTrue b
is_truth b e = e

reads_tested_bytes : (test : List ℕ → Bool) (n : ℕ) → Reads (tested BadField test (bytes_at n)) (λ x. x) (λ x. (length x ≡ n) × IsTrue (test x))
reads_tested_bytes test n = reads_tested (reads_bytes n) BadField test (λ x. (length x ≡ n) × IsTrue (test x)) (λ x h e. (h, is_truth (test x) e)) (λ x h. (h.0, truth_is (test x) h.1))

reads_length : Reads (tested BadField (within 1 16) byte_at) byte (λ n. within 1 16 n ≡ true)
reads_length = reads_tested reads_byte BadField (within 1 16) (λ n. within 1 16 n ≡ true) (λ n lt e. e) (λ n h. (let r = in_range 1 16 n h in omega (arith, r.1), h))

-- a name has 1 to 16 bytes
name_length : (bs : List ℕ) → IsName bs → within 1 16 (length bs) ≡ true
name_length bs h = (and_parts (within 1 16 (length bs)) (list_all is_name_byte bs) h).0

pub reads_name : Reads name_at name IsName
unfolding name_at
reads_name = reads_as (reads_after reads_length length (reads_tested_bytes is_name)) name IsName (λ x. refl) (λ x h. h.1) (λ x h. (name_length x h, h))

pub reads_variable_name : Reads variable_name_at name IsVariableName
unfolding variable_name_at
reads_variable_name = reads_as (reads_after reads_length length (reads_tested_bytes is_variable_name)) name IsVariableName (λ x. refl) (λ x h. h.1)
    (λ x h. (name_length x (variable_name_is_name x h), h))

pub most : (m n : ℕ) → nat_le n m ≡ true → n ≤ m
most m n e = grind arith

pub most_back : (m n : ℕ) → n ≤ m → nat_le n m ≡ true
most_back m n h = grind arith

-- a text has at most 1,024 bytes
text_length : (bs : List ℕ) → IsText bs → nat_le (length bs) 1024 ≡ true
text_length bs h = (and_parts (nat_le (length bs) 1024) (list_all is_text_byte bs) h).0

pub reads_text : Reads text_at text IsText
unfolding text_at
reads_text = reads_as (reads_after (reads_tested reads_short BadField (λ n. nat_le n 1024) (λ n. n ≤ 1024) (λ n lt e. most 1024 n e)
    (λ n h. (omega (arith, h), most_back 1024 n h))) length (reads_tested_bytes is_text)) text IsText
    (λ x. refl) (λ x h. h.1) (λ x h. (most 1024 (length x) (text_length x h), h))
