use Rattle.std.proofs.Common.{◌≡◌, ◌<◌, ◌^◌, ◌++◌, ◌∙◌, ap, subst, arith}
use Rattle.std.specs.Prelude.{SomeIff}
use Rattle.vcm_num.specs.Literals.{number_after, three_decimals, digits_value}
use Rattle.vcm_num.proofs.Reading.{with_three, number_after-le}
use Rattle.vcm_num.proofs.read.number_with_three.Goals as goal

pub returns-in_err-number : goal.returns-in_err-number
returns-in_err-number c =
    let w = c.args.whole.now in
    let ds = three_decimals c.args.decimals.now in
    rw c.from_residual.ensures (λ small. c.in_err-number.ensures (omega (arith, with_three w c.args.decimals.now, number_after-le (number_after 0 w) ds)))

pub returns : goal.returns
returns c =
    let w = c.args.whole.now in
    let e : number_after c.in_ok-number.number c.first_three.result ≡ digits_value (w ++ three_decimals c.args.decimals.now) =
    ap (λ n. number_after n c.first_three.result) c.in_ok-number.ensures.1 ∙ ap (number_after (number_after 0 w)) c.first_three.ensures
    ∙ with_three w c.args.decimals.now in
    subst (λ n. SomeIff c.number_with-2.result (n < 2 ^ 63) n) e c.number_with-2.ensures
