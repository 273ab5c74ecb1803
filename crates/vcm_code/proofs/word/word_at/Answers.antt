use Rattle.std.proofs.Common.{refl, sym, ap, ◌∙◌}
use Rattle.std.specs.Prelude.{option_map}
use Rattle.std.proofs.lemmas.Option.{slice_get_read, slice_get_past}
use Rattle.vcm_code.proofs.WordTable.{word_in_row}
use Rattle.vcm_code.proofs.word.word_at.Goals as goal

pub returns-in-Some : goal.returns-in-Some
returns-in-Some c =
    let h = c.in-Some.ensures.lookup in
    let read = slice_get_read c.args.rows.now _ c.args.index c.in-Some.field-0.now refl h.3.0 h.1 in
    sym (word_in_row c.args.rows.now c.requires c.args.index ∙ ap (option_map (λ row. row.1)) read)

pub returns-in-None : goal.returns-in-None
returns-in-None c =
    let read = slice_get_past c.args.rows.now c.args.index c.in-None.ensures.lookup.3 in
    sym (word_in_row c.args.rows.now c.requires c.args.index ∙ ap (option_map (λ row. row.1)) read)
