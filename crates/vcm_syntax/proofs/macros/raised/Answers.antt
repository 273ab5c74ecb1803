use Rattle.std.proofs.Common.{List, ℕ, [], ◌∷◌, sym, ap, ◌∙◌}
use Rattle.vcm_items.specs.NameBytes.{is_name}
use Rattle.vcm_syntax.proofs.Calling.{raised_front}
use Rattle.vcm_syntax.proofs.macros.raised.Goals as goal

abbrev zeros : List ℕ
zeros = 0 ∷ 0 ∷ 0 ∷ 0 ∷ 0 ∷ 0 ∷ 0 ∷ 0 ∷ 0 ∷ 0 ∷ 0 ∷ 0 ∷ 0 ∷ 0 ∷ 0 ∷ 0 ∷ []

pub returns-then-is_name : goal.returns-then-is_name
returns-then-is_name c =
    let e = raised_front c.args.text.now c.copy_from_slice.new.self c.make_ascii_uppercase.new.self zeros c.copy_from_slice.ensures.after c.make_ascii_uppercase.ensures.after in
    (ap is_name (sym e) ∙ sym c.is_name.ensures ∙ c.if-is_name.true, c.new.ensures ∙ e)

pub returns-else-is_name : goal.returns-else-is_name
returns-else-is_name c =
    let e = raised_front c.args.text.now c.copy_from_slice.new.self c.make_ascii_uppercase.new.self zeros c.copy_from_slice.ensures.after c.make_ascii_uppercase.ensures.after in
    ap is_name (sym e) ∙ sym c.is_name.ensures ∙ c.if-is_name.false
