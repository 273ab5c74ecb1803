use Rattle.std.proofs.Common.{refl, ◌∙◌, ap}
use Rattle.vcm_num.proofs.KnownWrites.{wrote_then}
use Rattle.vcm_report.specs.Printed.{name_at}
use Rattle.vcm_report.proofs.features.write_feature_words.Goals as goal

pub returns-in_ok-write_all-in-None : goal.returns-in_ok-write_all-in-None
returns-in_ok-write_all-in-None g c =
    let name = c.name_at-name.ensures ∙ ap (λ l. name_at l c.args.index) c.features.ensures in
    rw c.in-None.is (wrote_then _ _ _ _ _ _ _ refl (rw c.letters.ensures at c.in_ok-write_all-in-None.ensures) (rw name at c.write_pieces.ensures))
