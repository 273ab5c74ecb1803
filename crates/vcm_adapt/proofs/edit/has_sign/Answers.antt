use Rattle.std.proofs.Common.{sym, ◌∙◌}
use Rattle.std.proofs.lemmas.List.{take_rest}
use Rattle.vcm_adapt.proofs.Marking.{sign_passed, sign_here, sign_none}
use Rattle.vcm_adapt.proofs.edit.has_sign.Goals as goal

pub returns-then-begins_sign : goal.returns-then-begins_sign
returns-then-begins_sign c = sign_here c.signs.rest.now c.in-len1-up.len_at_least (sym c.begins_sign.ensures ∙ c.if-begins_sign.true) ∙ c.signs.invariant

pub signs-preserved : goal.signs-preserved
signs-preserved c = rw take_rest (sign_passed c.signs.rest.now c.in-len1-up.len_at_least (sym c.begins_sign.ensures ∙ c.if-begins_sign.false) ∙ c.signs.invariant)

pub returns : goal.returns
returns c = sign_none c.signs.rest.now c.in_default.len_below ∙ c.signs.invariant
