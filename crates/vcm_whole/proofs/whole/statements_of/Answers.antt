use Rattle.std.proofs.Common.{◌≡◌}
use Rattle.std.proofs.lemmas.Result.{IfOk-weaker}
use Rattle.vcm_given.specs.Texts.{given_texts}
use Rattle.vcm_doubts.specs.Settled.{settled}
use Rattle.vcm_whole.specs.Whole.{statements_of}
use Rattle.vcm_whole.proofs.Dating.{said_to_the_end}
use Rattle.vcm_whole.proofs.whole.statements_of.Goals as goal

pub returns : goal.returns
returns c =
    let g : c.as_slice-2.result.now ≡ given_texts c.args.choices.now.answers = cc (c.as_slice-2.ensures, c.in_ok-given.ensures, c.as_slice.ensures) in
    IfOk-weaker c.settle.result
    (λ ss. ss.items ≡ settled c.args.text.now c.args.lines.now c.in_ok-dated.dated.items)
    (λ ss. ss.items ≡ statements_of c.args.choices.now c.args.text.now c.args.lines.now)
    (λ ss e.
    said_to_the_end c.args.choices.now c.args.text.now c.args.lines.now c.as_slice-2.result.now c.args.said.items c.in_ok-compared.compared.items
    c.in_ok-chosen.chosen.items c.in_ok-dated.dated.items ss.items g c.requires c.in_ok-compared.ensures c.in_ok-chosen.ensures c.in_ok-dated.ensures e)
    c.settle.ensures
