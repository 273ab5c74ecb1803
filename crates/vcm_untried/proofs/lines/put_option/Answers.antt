use Rattle.std.proofs.Common.{◌++◌, ap, ◌∙◌}
use Rattle.std.specs.Prelude.{codes}
use Rattle.std.proofs.lemmas.Result.{on_ok_weaker}
use Rattle.vcm_untried.proofs.Joined.{three}
use Rattle.vcm_untried.proofs.lines.put_option.Goals as goal

pub returns : goal.returns
returns c =
    on_ok_weaker c.put-3.result
    (λ e. three c.args.out.now.items c.put.new.out.items c.put-2.new.out.items c.put-3.new.out.items (codes "; give --frame ") c.args.frame.now.name (codes "=X,Y,Z")
    c.in_ok-put.ensures (c.in_ok-put-2.ensures ∙ ap (λ n. c.put.new.out.items ++ n) c.as_slice.ensures) e)
    c.put-3.ensures
