-- A word spells one number.
use Rattle.std.proofs.Common.{◌≡◌, ap, subst, refl, sym, ◌∙◌, ℕ, ℤ, pos, ◌≤◌, true, false, List, Option, Some, None, IfSome, Result, Ok, Err, arith}
use lib.Signed.{lt_z}
use Rattle.vcm_num.specs.declared.number.Literal.{Literal}
use Rattle.vcm_num.specs.declared.read.NumFault.{NumFault}
use Rattle.vcm_num.specs.declared.read.NumFault.TheVariants.{BadNumber, TooFine, TooLarge}
use Rattle.vcm_num.specs.declared.number.Literal.TheVariants.{Int}
use Rattle.vcm_num.specs.Literals.{Parts, SpellsNumber, Reads, point_part, is_fine, has_minus, literal_of, magnitude_of}
use Rattle.vcm_num.specs.inner.Digits.{NoDigitFirst}
use Rattle.vcm_num.specs.Point.{is_near_zero}
use Rattle.vcm_num.proofs.Reading.{cut_once}
use Rattle.vcm_blocks.specs.Words.{micrometres, IsLength, IsMost}

point_first : (d : Option (List ℕ)) → NoDigitFirst (point_part d)
point_first None = tt
point_first (Some ds) = refl

same_point : (d e : Option (List ℕ)) → point_part d ≡ point_part e → d ≡ e
same_point None None h = refl
same_point None (Some x) h = absurd (cc)
same_point (Some x) None h = absurd (cc)
same_point (Some x) (Some y) h = let tail : x ≡ y = cc in ap (λ (ds : List ℕ). Some ds) tail

abbrev parts_of : List ℕ → Option (List ℕ) → Parts
parts_of whole decimals = record { whole = whole; decimals = decimals }

same_parts : (bytes : List ℕ) (p q : Parts) → SpellsNumber bytes p → SpellsNumber bytes q → p ≡ q
same_parts bytes p q h k =
    let c = cut_once p.whole q.whole (point_part p.decimals) (point_part q.decimals) h.whole_digits k.whole_digits (point_first p.decimals) (point_first q.decimals) (sym h.cut ∙ k.cut) in
    ap (λ (w : List ℕ). parts_of w p.decimals) c.0 ∙ ap (λ (d : Option (List ℕ)). parts_of q.whole d) (same_point p.decimals q.decimals c.1)

abbrev spelled : List ℕ → Parts → Literal
spelled bytes p = literal_of (has_minus bytes) (magnitude_of p.whole p.decimals) p.decimals

pub one_number : (bytes : List ℕ) (x : Literal) (r : Result Literal NumFault) → Reads bytes (Ok x) → Reads bytes r → r ≡ Ok x
one_number bytes x (Ok y) h k =
    let same : k.0 ≡ h.0 = same_parts bytes k.0 h.0 k.1 h.1 in
    ap (λ (z : Literal). Ok z) (k.4 ∙ ap (λ (p : Parts). spelled bytes p) same ∙ sym h.4)
one_number bytes x (Err BadNumber) h k = absurd (k h.0 h.1)
one_number bytes x (Err TooFine) h k =
    let same : k.0 ≡ h.0 = same_parts bytes k.0 h.0 k.1 h.1 in
    let fine : false ≡ true = sym k.2 ∙ ap is_fine same ∙ h.2 in
    absurd (cc)
one_number bytes x (Err TooLarge) h k =
    let same : k.0 ≡ h.0 = same_parts bytes k.0 h.0 k.1 h.1 in
    let size : magnitude_of k.0.whole k.0.decimals ≡ magnitude_of h.0.whole h.0.decimals = ap (λ (p : Parts). magnitude_of p.whole p.decimals) same in
    let small = h.3 in
    let large = k.3 in
    absurd (omega (arith, size, small, large))

pub same_number : (bytes : List ℕ) (x y : Literal) → Reads bytes (Ok x) → Reads bytes (Ok y) → x ≡ y
same_number bytes x y h k = let e : Ok y ≡ Ok x = one_number bytes x (Ok y) h k in cc

pub same_length : (word : List ℕ) (y z : ℤ) → IsLength word y → IsLength word z → y ≡ z
same_length word y z h k = h.is ∙ ap micrometres (same_number word h.literal k.literal h.spelled k.spelled) ∙ sym k.is

pub no_number : (word : List ℕ) (e : NumFault) → Reads word (Err e) → (z : ℤ) → IsLength word z → ⊥
no_number word e h z k = let no : Err e ≡ Ok k.literal = one_number word k.literal (Err e) k.spelled h in absurd (cc)

pub too_far : (word : List ℕ) (x : Literal) → Reads word (Ok x) → is_near_zero (micrometres x) ≡ false → (z : ℤ) → IsLength word z → ⊥
too_far word x h far z k =
    let is : z ≡ micrometres x = k.is ∙ ap micrometres (same_number word k.literal x k.spelled h) in
    let near : is_near_zero z ≡ true = k.near in
    let no : true ≡ false = sym near ∙ ap is_near_zero is ∙ far in
    absurd (cc)

pub most_is : (word : List ℕ) (x : Literal) (r : Option ℕ) → Reads word (Ok x) → IfSome r (λ n. (x ≡ Int (pos n)) × (1 ≤ n) × (n ≤ 4096)) → IfSome r (IsMost word)
most_is word x None h k = k
most_is word x (Some n) h k = record { spelled = subst (λ (y : Literal). Reads word (Ok y)) k.0 h; some = k.1; few = k.2 }

pub no_most : (word : List ℕ) (e : NumFault) → Reads word (Err e) → (n : ℕ) → IsMost word n → ⊥
no_most word e h n k = let no : Err e ≡ Ok (Int (pos n)) = one_number word (Int (pos n)) (Err e) k.spelled h in absurd (cc)

pub other_most : (word : List ℕ) (x : Literal) → Reads word (Ok x) → ((n : ℕ) → x ≡ Int (pos n) → 1 ≤ n → n ≤ 4096 → ⊥) → (n : ℕ) → IsMost word n → ⊥
other_most word x h none n k = none n (same_number word x (Int (pos n)) h k.spelled) k.some k.few

pub not_below_one : (z : ℤ) (n : ℕ) → z ≡ pos n → 1 ≤ n → lt_z z (pos 1) ≡ true → ⊥
not_below_one z n e some h =
    let k : lt_z (pos n) (pos 1) ≡ true = rw e at h in
    grind arith
