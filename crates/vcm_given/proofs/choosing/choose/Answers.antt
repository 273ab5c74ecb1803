use Rattle.std.proofs.Common.{rules, ◌≡◌, false}
use Rattle.std.proofs.lemmas.Result.{IfOk-weaker}
use Rattle.vcm_given.specs.Texts.{fitting_answers}
use Rattle.vcm_given.specs.Spoken.{spoken}
use Rattle.vcm_given.specs.Tips.{other_tips}
use Rattle.vcm_given.specs.Chosen.{asked_from, chosen_by, chosen}
use Rattle.vcm_given.proofs.Glued.{by_these}
use Rattle.vcm_given.proofs.choosing.choose.Goals as goal

pub returns : goal.returns
returns c =
    let a : c.deref.result.now ≡ asked_from (fitting_answers c.args.choices.now.answers c.args.lines.now) false c.args.lines.now =
    cc (c.deref.ensures.value, c.in_ok-asked.ensures, c.as_slice-2.ensures, c.in_ok-answers.ensures, c.as_slice.ensures) in
    let s : c.as_slice-6.result.now ≡ spoken c.args.choices.now.probes c.args.choices.now.harmless c.args.choices.now.table c.args.lines.now = search rules in
    let t : c.as_slice-7.result.now ≡ other_tips c.args.choices.now.probes c.args.choices.now.tip c.args.lines.now = search rules in
    IfOk-weaker c.choose_by.result
    (λ ss. ss.items ≡ chosen_by c.args.choices.now c.deref.result.now c.as_slice-6.result.now c.as_slice-7.result.now c.args.said.items)
    (λ ss. ss.items ≡ chosen c.args.choices.now c.args.lines.now c.args.said.items)
    (λ ss e. by_these c.args.choices.now c.args.lines.now c.deref.result.now c.as_slice-6.result.now c.as_slice-7.result.now c.args.said.items ss.items a s t e)
    c.choose_by.ensures
