use Rattle.std.proofs.Common.{◌≡◌, ◌<◌, ◌+◌, ◌==◌, ◌∷◌, true, false, length, drop, ap, ◌∙◌, sym, arith, rules, FitsSigned, w64}
use Rattle.std.specs.List.{list_all}
use Rattle.std.specs.Char.{is_ascii_digit}
use Rattle.std.proofs.lemmas.List.{nil_from_length}
use Rattle.std.proofs.lemmas.Int.{to_z-of_z}
use Rattle.vcm_num.proofs.Reading.{AllDigits-from_test, no_digits, no_point, bare_point, bad_decimals, reads_whole, reads_whole_large, reads_too_fine, reads_large, reads_thousandths}
use Rattle.vcm_num.proofs.read.read_number.Goals as goal

pub returns-then-is_empty : goal.returns-then-is_empty
returns-then-is_empty c =
    let cut = sym c.split_sign-minus.ensures.rest ∙ c.split_digits.ensures.cut in
    let digits = c.split_digits.ensures.digits in
    let rest = c.split_digits.ensures.rest in
    let nil = nil_from_length c.split_digits.result.1.now c.in_default.ensures.cases in
    let none : length c.split_digits.result.0.now ≡ 0 = grind arith in
    no_digits _ _ _ cut digits rest nil none

pub returns-in_default-number_with : goal.returns-in_default-number_with
returns-in_default-number_with c =
    let cut = sym c.split_sign-minus.ensures.rest ∙ c.split_digits.ensures.cut in
    let digits = c.split_digits.ensures.digits in
    let rest = c.split_digits.ensures.rest in
    let nil = nil_from_length c.split_digits.result.1.now c.in_default.ensures.cases in
    let some : 0 < length c.split_digits.result.0.now = grind arith in
    reads_whole_large _ _ _ cut digits rest nil some c.in_default-number_with.ensures

pub returns-in_default : goal.returns-in_default
returns-in_default c =
    let cut = sym c.split_sign-minus.ensures.rest ∙ c.split_digits.ensures.cut in
    let digits = c.split_digits.ensures.digits in
    let rest = c.split_digits.ensures.rest in
    let nil = nil_from_length c.split_digits.result.1.now c.in_default.ensures.cases in
    let some : 0 < length c.split_digits.result.0.now = grind arith in
    let in_range : FitsSigned w64 c.with_sign.result = search rules in
    let number = c.in-Some-number_with.ensures in
    rw (to_z-of_z, c.with_sign.ensures, c.split_sign-minus.ensures.minus) (reads_whole _ _ _ cut digits rest nil some _ number.0 number.1)

pub returns-then-point-ne46 : goal.returns-then-point-ne46
returns-then-point-ne46 c =
    let cut = sym c.split_sign-minus.ensures.rest ∙ c.split_digits.ensures.cut in
    let digits = c.split_digits.ensures.digits in
    let rest = c.split_digits.ensures.rest in
    no_point _ _ _ cut digits rest _ _ c.in-Some.ensures.cases.0 c.if-point-ne46.true

pub returns-then-has_no_digit : goal.returns-then-has_no_digit
returns-then-has_no_digit c =
    let cut = sym c.split_sign-minus.ensures.rest ∙ c.split_digits.ensures.cut in
    let digits = c.split_digits.ensures.digits in
    let rest = c.split_digits.ensures.rest in
    let ds = c.in-Some.decimals.now in
    let point : c.split_digits.result.1.now ≡ 46 ∷ ds = c.in-Some.ensures.cases.0 ∙ ap (λ b. b ∷ ds) c.if-point-ne46.false in
    bare_point _ _ _ cut digits rest ds point (grind arith) (grind arith)

pub returns-then-not-all_digits : goal.returns-then-not-all_digits
returns-then-not-all_digits c =
    let cut = sym c.split_sign-minus.ensures.rest ∙ c.split_digits.ensures.cut in
    let digits = c.split_digits.ensures.digits in
    let rest = c.split_digits.ensures.rest in
    let ds = c.in-Some.decimals.now in
    let point : c.split_digits.result.1.now ≡ 46 ∷ ds = c.in-Some.ensures.cases.0 ∙ ap (λ b. b ∷ ds) c.if-point-ne46.false in
    let bad : list_all is_ascii_digit ds ≡ false = grind arith in
    bad_decimals _ _ _ cut digits rest ds point bad

pub returns-then-not-fine : goal.returns-then-not-fine
returns-then-not-fine c =
    let cut = sym c.split_sign-minus.ensures.rest ∙ c.split_digits.ensures.cut in
    let digits = c.split_digits.ensures.digits in
    let rest = c.split_digits.ensures.rest in
    let ds = c.in-Some.decimals.now in
    let point : c.split_digits.result.1.now ≡ 46 ∷ ds = c.in-Some.ensures.cases.0 ∙ ap (λ b. b ∷ ds) c.if-point-ne46.false in
    let all : list_all is_ascii_digit ds ≡ true = grind arith in
    let some : 0 < length c.split_digits.result.0.now + length ds = grind arith in
    let coarse : list_all (λ d. d == 48) (drop 3 ds) ≡ false = grind arith in
    reads_too_fine _ _ _ cut digits rest ds point all some coarse

pub number_with_three-requires-clause-decimals : goal.number_with_three-requires-clause-decimals
number_with_three-requires-clause-decimals c = AllDigits-from_test _ (grind arith)

pub returns-in_default-number_with_three : goal.returns-in_default-number_with_three
returns-in_default-number_with_three c =
    let cut = sym c.split_sign-minus.ensures.rest ∙ c.split_digits.ensures.cut in
    let digits = c.split_digits.ensures.digits in
    let rest = c.split_digits.ensures.rest in
    let ds = c.in-Some.decimals.now in
    let point : c.split_digits.result.1.now ≡ 46 ∷ ds = c.in-Some.ensures.cases.0 ∙ ap (λ b. b ∷ ds) c.if-point-ne46.false in
    let all : list_all is_ascii_digit ds ≡ true = grind arith in
    let some : 0 < length c.split_digits.result.0.now + length ds = grind arith in
    let fine : list_all (λ d. d == 48) (drop 3 ds) ≡ true = grind arith in
    reads_large _ _ _ cut digits rest ds point all some fine c.in_default-number_with_three.ensures

pub returns : goal.returns
returns c =
    let cut = sym c.split_sign-minus.ensures.rest ∙ c.split_digits.ensures.cut in
    let digits = c.split_digits.ensures.digits in
    let rest = c.split_digits.ensures.rest in
    let ds = c.in-Some.decimals.now in
    let point : c.split_digits.result.1.now ≡ 46 ∷ ds = c.in-Some.ensures.cases.0 ∙ ap (λ b. b ∷ ds) c.if-point-ne46.false in
    let all : list_all is_ascii_digit ds ≡ true = grind arith in
    let some : 0 < length c.split_digits.result.0.now + length ds = grind arith in
    let fine : list_all (λ d. d == 48) (drop 3 ds) ≡ true = grind arith in
    let in_range : FitsSigned w64 c.with_sign-2.result = search rules in
    let number = c.in-Some-number_with_three.ensures in
    rw (to_z-of_z, c.with_sign-2.ensures, c.split_sign-minus.ensures.minus) (reads_thousandths _ _ _ cut digits rest ds point all some fine _ number.0 number.1)
