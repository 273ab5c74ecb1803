use Rattle.std.proofs.Common.{◌++◌, ap, ◌∙◌}
use Rattle.std.specs.Prelude.{drop, suc, take}
use Rattle.vcm_calls.proofs.Reading.{macro_read}
use Rattle.vcm_calls.proofs.expanding.read.Goals as goal

pub returns-in_ok-push-in-Macro-clause-read : goal.returns-in_ok-push-in-Macro-clause-read
returns-in_ok-push-in-Macro-clause-read c = rw c.in-Macro.is
    (ap (λ l. c.args.calls.now.items ++ l) (macro_read c.args.macros.now.items c.push.new.self.items _ c.args.others.now c.behind.result.now c.in_ok-push-in-Macro.ensures.items
    (ap (λ n. take n c.args.others.now) c.body_size-size.ensures.is) (c.behind.ensures ∙ ap (λ n. drop (suc n) c.args.others.now) c.body_size-size.ensures.is)))
