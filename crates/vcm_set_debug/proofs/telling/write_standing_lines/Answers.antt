use Rattle.std.proofs.Common.{◌+◌, ◌++◌, ap, ◌∙◌}
use Rattle.vcm_num.proofs.KnownWrites.{wrote_then}
use Rattle.vcm_turning.specs.Choosing.{probe_on}
use Rattle.vcm_set_debug.specs.Reached.{now, lost}
use Rattle.vcm_set_debug.specs.Telling.{probe_line, lost_line}
use Rattle.vcm_set_debug.proofs.telling.write_standing_lines.Goals as goal

pub returns : goal.returns
returns g c =
    let r = c.args.course.now in
    let on = probe_on r.probes (now r).on in
    wrote_then _ _ _ _ _ _ _
    (ap (λ x. probe_line x ++ lost_line c.lost.result (c.count.result + 1)) c.probe.ensures ∙ ap (λ l. probe_line on ++ lost_line l (c.count.result + 1)) c.lost.ensures
    ∙ ap (λ n. probe_line on ++ lost_line (lost r r.count) (n + 1)) c.count.ensures)
    c.in_ok-write_probe.ensures c.write_lost.ensures
