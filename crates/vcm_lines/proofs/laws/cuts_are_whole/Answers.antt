use Rattle.vcm_lines.proofs.CutLaws.{parts_whole, first_uncut, fields_whole, each_uncut, ends_whole}
use Rattle.vcm_lines.proofs.laws.cuts_are_whole.Goals as goal

pub returns : goal.returns
returns c = record { parts = parts_whole; first = first_uncut; fields = fields_whole; each = each_uncut; ends = ends_whole }
