-- Items of an expression, read as they are spelled.
use Rattle.std.proofs.Common.{◌≡◌, ℕ, zero, suc, ◌<◌, ◌≤◌, ◌&&◌, Bool, true, false, nat_le, nat_lt, List, [], ◌∷◌, ◌++◌, length, Ok, refl, ap, subst, ◌∙◌, arith, FitsSigned, to_z-of_z}
use mir.ValLaws.{of_z_fits, to_z-Fits, of_z-to_z}
use Rattle.std.specs.Int.{w64, to_le_bytes, cast_signed, cast_unsigned}
use Rattle.vcm_spec.specs.declared.expression.Operand.TheVariants.{Integer, Thousandths, Truth, Variable}
use Rattle.vcm_spec.specs.declared.expression.UnaryOp.TheVariants.{Neg}
use Rattle.vcm_spec.specs.declared.expression.BinaryOp.TheVariants.{Add, Compare}
use Rattle.vcm_spec.specs.declared.expression.Relation.TheVariants.{Equal}
use Rattle.vcm_spec.specs.declared.expression.Item.{Item}
use Rattle.vcm_spec.specs.declared.expression.Item.TheVariants.{Push, Apply, Combine}
use Rattle.vcm_fields.specs.declared.fault.ImageFault.TheVariants.{BadField}
use Rattle.vcm_fields.specs.inner.Fitting.{FitsExpression}
use Rattle.vcm_fields.specs.Readers.{within}
use Rattle.vcm_fields.specs.Widths.{FitsItem}
use Rattle.vcm_spec.specs.Results.{◌>>=◌}
use Rattle.vcm_fields.specs.declared.items.Tag.{Tag}
use Rattle.vcm_fields.specs.declared.items.Tag.TheVariants as tags
use Rattle.vcm_fields.specs.Spelling.{byte, signed, truth_byte, unary, binary, tag_byte, item, expression}
use Rattle.vcm_fields.specs.Readers.{after, one_of, signed_at, is_one, truth_at, all_tags, behind_tag, item_at, expression_at}
use Rattle.vcm_fields.proofs.Inverse.{IsBytes, Takes, Reads, bind_ok, ok_is, via_takes, via_again, reads_via, reads_tested, reads_after, reads_times}
use Rattle.vcm_fields.proofs.NumberInverse.{Found, reads_one_of, reads_byte, reads_short, reads_eight}

-- ---- items

pub reads_signed : Reads signed_at signed (FitsSigned w64)
reads_signed = reads_via reads_eight (cast_signed w64) (cast_unsigned w64) signed (FitsSigned w64)
    (λ n lt. ap (to_le_bytes w64) (of_z-to_z w64 n (record { fits = lt })))
    (λ n lt. to_z-Fits w64 n (record { fits = lt }))
    (λ z h. (to_z-of_z h, refl, (of_z_fits w64 z h).fits))

truth_spelled : (n : ℕ) → n < 2 → truth_byte (is_one n) ≡ n ∷ []
truth_spelled zero lt = refl
truth_spelled (suc zero) lt = refl
truth_spelled (suc (suc n)) lt = absurd (omega arith)

truth_number : Bool → ℕ
truth_number false = 0
truth_number true = 1

truth_back : (b : Bool) → (is_one (truth_number b) ≡ b) × (truth_byte b ≡ truth_number b ∷ []) × (truth_number b < 2)
unfolding truth_number
truth_back false = (refl, refl, omega arith)
truth_back true = (refl, refl, omega arith)

reads_truth : Reads truth_at truth_byte (λ b. Unit {0})
reads_truth = reads_via (reads_tested reads_byte BadField (λ b. nat_lt b 2) (λ n. n < 2) (λ n lt e. grind arith) (λ n lt. (omega arith, grind arith))) is_one truth_number truth_byte (λ b. Unit {0})
    (λ n lt. truth_spelled n lt) (λ n lt. tt) (λ b h. truth_back b)

found_tag : Found tag_byte all_tags
found_tag tags.Integer rest = refl
found_tag (tags.Unary Neg) rest = refl
found_tag (tags.Unary _) rest = refl
found_tag (tags.Binary Add) rest = refl
found_tag (tags.Binary (Compare Equal)) rest = refl
found_tag (tags.Binary (Compare _)) rest = refl
found_tag (tags.Binary _) rest = refl
found_tag _ rest = refl

behind_takes : (t : Tag) (bytes : List ℕ) (x : Item × List ℕ) → IsBytes bytes → behind_tag t bytes ≡ Ok x → Takes (byte (tag_byte t) ++ bytes) (item x.0) x.1 × FitsItem x.0
behind_takes tags.Integer bytes x fits e = via_takes reads_signed (λ n. Push (Integer n)) (byte 1) item FitsItem (λ n h. refl) (λ n h. h) bytes x fits e
behind_takes tags.Thousandths bytes x fits e = via_takes reads_signed (λ n. Push (Thousandths n)) (byte 2) item FitsItem (λ n h. refl) (λ n h. h) bytes x fits e
behind_takes tags.Truth bytes x fits e = via_takes reads_truth (λ b. Push (Truth b)) (byte 3) item FitsItem (λ n h. refl) (λ n h. h) bytes x fits e
behind_takes tags.Variable bytes x fits e = via_takes reads_short (λ v. Push (Variable v)) (byte 4) item FitsItem (λ n h. refl) (λ n h. h) bytes x fits e
behind_takes (tags.Unary op) bytes x fits e =
    subst (λ (y : Item × List ℕ). Takes (byte (unary op) ++ bytes) (item y.0) y.1 × FitsItem y.0) (ok_is (Apply op, bytes) x e) (record { parts = refl; rest_fits = fits }, tt)
behind_takes (tags.Binary op) bytes x fits e =
    subst (λ (y : Item × List ℕ). Takes (byte (binary op) ++ bytes) (item y.0) y.1 × FitsItem y.0) (ok_is (Combine op, bytes) x e) (record { parts = refl; rest_fits = fits }, tt)

item_takes : (bytes : List ℕ) (x : Item × List ℕ) → IsBytes bytes → item_at bytes ≡ Ok x → Takes bytes (item x.0) x.1 × FitsItem x.0
unfolding item_at
item_takes bytes x fits e =
    let p = bind_ok (one_of tag_byte all_tags bytes) (λ y. behind_tag y.0 y.1) x e in
    let s = (reads_one_of tag_byte all_tags found_tag).takes bytes p.0 fits p.1 in
    let t = behind_takes p.0.0 p.0.1 x s.0.rest_fits p.2 in
    (record { parts = s.0.parts ∙ t.0.parts; rest_fits = t.0.rest_fits }, t.1)

-- an operator is found by its tag
operator_again : (t : Tag) (rest : List ℕ) → after (one_of tag_byte all_tags) behind_tag (byte (tag_byte t) ++ rest) ≡ behind_tag t rest
operator_again t rest = ap (λ r. r >>= λ x. behind_tag x.0 x.1) (found_tag t rest)

item_again : (i : Item) (rest : List ℕ) → FitsItem i → item_at (item i ++ rest) ≡ Ok (i, rest)
unfolding item_at
item_again (Push (Integer n)) rest h = via_again reads_signed (λ n. Push (Integer n)) n rest h
item_again (Push (Thousandths n)) rest h = via_again reads_signed (λ n. Push (Thousandths n)) n rest h
item_again (Push (Truth b)) rest h = via_again reads_truth (λ b. Push (Truth b)) b rest tt
item_again (Push (Variable v)) rest h = via_again reads_short (λ v. Push (Variable v)) v rest h
item_again (Apply op) rest h = operator_again (tags.Unary op) rest
item_again (Combine op) rest h = operator_again (tags.Binary op) rest

pub reads_item : Reads item_at item FitsItem
reads_item = record { takes = item_takes; again = item_again }

-- a test of a range
pub in_range : (low high n : ℕ) → within low high n ≡ true → (low ≤ n) × (n ≤ high)
in_range low high n e = split (nat_le low n) (nat_le n high) refl refl e
  where
    split : (a b : Bool) → nat_le low n ≡ a → nat_le n high ≡ b → (a && b) ≡ true → (low ≤ n) × (n ≤ high)
    split true true p q r = (grind arith, grind arith)
    split true false p q r = absurd cc
    split false b p q r = absurd cc

-- and back
pub range_in : (low high n : ℕ) → (low ≤ n) × (n ≤ high) → within low high n ≡ true
range_in low high n h = let a : nat_le low n ≡ true = grind (arith, h.0) in let b : nat_le n high ≡ true = grind (arith, h.1) in rw (a, b) refl

pub reads_expression : Reads expression_at expression FitsExpression
unfolding expression_at
reads_expression = reads_after (reads_tested reads_short BadField (within 1 1024) (λ n. (1 ≤ n) × (n ≤ 1024)) (λ n lt e. in_range 1 1024 n e)
    (λ n h. (omega (arith, h.1), range_in 1 1024 n h))) length (reads_times reads_item)
