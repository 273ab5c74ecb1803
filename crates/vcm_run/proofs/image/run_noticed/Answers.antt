use Rattle.std.proofs.Common.{◌∙◌}
use Rattle.vcm_run.proofs.SameRun.{text_run, text_next}
use Rattle.vcm_run.proofs.image.run_noticed.Goals as goal

pub returns-clause-image : goal.returns-clause-image
returns-clause-image g c = λ none.
    let found = c.in_ok-loaded.ensures.found in
    record {
      code = c.in_ok-loaded.loaded;
      valid = found.1.0;
      fits = found.0;
      spelled = found.1.1;
      run = c.in_ok-summary.ensures.run;
      notices = c.in_ok-summary.ensures.notices ∙ none;
    }

pub returns-clause-text : goal.returns-clause-text
returns-clause-text g c = λ text built.
    let found = c.in_ok-loaded.ensures.found in
    text_run (g.P.Part.part c.args.part.now) text c.args.image.now c.args.notices.items c.args.n c.in_ok-summary.summary c.in_ok-loaded.loaded built found.0 found.1.1
    c.in_ok-summary.ensures.run c.in_ok-summary.ensures.notices

pub returns-clause-next : goal.returns-clause-next
returns-clause-next g c = λ text built.
    let found = c.in_ok-loaded.ensures.found in
    text_next text c.args.image.now c.args.notices.items c.in_ok-summary.summary c.in_ok-loaded.loaded built found.0 found.1.1 c.in_ok-summary.ensures.run.within
