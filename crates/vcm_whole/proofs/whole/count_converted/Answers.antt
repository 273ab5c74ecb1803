use Rattle.std.proofs.Common.{rules, ◌≡◌}
use Rattle.std.proofs.lemmas.Option.{IfSome_then}
use Rattle.vcm_tree.specs.Acceptance.{ReadsLines}
use Rattle.vcm_plain.specs.Plain.{plain}
use Rattle.vcm_whole.proofs.whole.count_converted.Goals as goal

pub returns-in-Ok-logical_lines : goal.returns-in-Ok-logical_lines
returns-in-Ok-logical_lines c =
    let r : ReadsLines (plain c.args.lengths c.args.text.now) c.as_slice.result.now = search rules in
    IfSome_then c.count_lines.result c.count_lines.ensures
    (λ n h ls read same. h c.args.lengths (record { written = ls; as_written = read; lengths_are = same; read = r }))
