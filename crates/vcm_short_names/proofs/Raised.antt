-- Words that are one name in whatever case.
use Rattle.std.proofs.Common.{◌≡◌, ℕ, Bool, true, false, IsTrue, ◌↔◌, List, [], ◌∷◌, map, refl, sym, ap, ◌∙◌, arith}
use Rattle.std.specs.Char.{to_ascii_lowercase}
use Rattle.std.specs.Str.{bytes_eq}
use Rattle.std.proofs.lemmas.Slice.Eq.{bytes_eq-Decides}
use Rattle.vcm_lines.specs.Bytes.{upper}

-- a letter in lower case is the same letter in upper case
raised_back : (b : ℕ) → upper (to_ascii_lowercase b) ≡ upper b
raised_back b = grind arith

lowered_back : (b : ℕ) → to_ascii_lowercase (upper b) ≡ to_ascii_lowercase b
lowered_back b = grind arith

all_raised_back : (w : List ℕ) → map upper (map to_ascii_lowercase w) ≡ map upper w
all_raised_back [] = refl
all_raised_back (b ∷ w) = rw (raised_back b, all_raised_back w) refl

all_lowered_back : (w : List ℕ) → map to_ascii_lowercase (map upper w) ≡ map to_ascii_lowercase w
all_lowered_back [] = refl
all_lowered_back (b ∷ w) = rw (lowered_back b, all_lowered_back w) refl

same_raised : (w v : List ℕ) → map to_ascii_lowercase w ≡ map to_ascii_lowercase v → map upper w ≡ map upper v
same_raised w v e = sym (all_raised_back w) ∙ ap (map upper) e ∙ all_raised_back v

same_lowered : (w v : List ℕ) → map upper w ≡ map upper v → map to_ascii_lowercase w ≡ map to_ascii_lowercase v
same_lowered w v e = sym (all_lowered_back w) ∙ ap (map to_ascii_lowercase) e ∙ all_lowered_back v

-- two tests of one thing
same_test : {P : Type 0} → (a b : Bool) → (a ≡ true → P) → (P → a ≡ true) → (b ≡ true → P) → (P → b ≡ true) → a ≡ b
same_test true b a_holds holds_a b_holds holds_b = sym (holds_b (a_holds refl))
same_test false true a_holds holds_a b_holds holds_b = holds_a (b_holds refl)
same_test false false a_holds holds_a b_holds holds_b = refl

-- the test of the standard library is that of the definitions
pub one_name : (r : Bool) → (w v : List ℕ) → IsTrue r ↔ (map to_ascii_lowercase w ≡ map to_ascii_lowercase v) → r ≡ bytes_eq (map upper w) (map upper v)
one_name r w v e =
    let d = bytes_eq-Decides (map upper w) (map upper v) in
    same_test r (bytes_eq (map upper w) (map upper v)) (λ h. same_raised w v (e.0 h)) (λ h. e.1 (same_lowered w v h)) d.0 d.1
