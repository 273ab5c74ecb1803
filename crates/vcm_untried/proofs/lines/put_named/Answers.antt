use Rattle.std.proofs.Common.{◌++◌, ap, ◌∙◌, decimal}
use Rattle.std.specs.Prelude.{codes}
use Rattle.std.proofs.lemmas.Result.{on_ok_weaker}
use Rattle.vcm_untried.specs.Lines.{give_text}
use Rattle.vcm_untried.proofs.Joined.{four}
use Rattle.vcm_untried.proofs.lines.put_named.Goals as goal

pub returns : goal.returns
returns c =
    let between = codes " isn't known since line " in
    on_ok_weaker c.put_give.result
    (λ e. four c.args.out.now.items c.put.new.out.items c.put-2.new.out.items c.put_before.new.out.items c.put_give.new.out.items (codes ", the frame ")
    c.args.frame.now.name between (decimal c.args.since) (give_text c.args.frame.now) c.in_ok-put.ensures
    (c.in_ok-put-2.ensures ∙ ap (λ n. c.put.new.out.items ++ n) c.as_slice.ensures)
    (c.in_ok-put_before.ensures ∙ ap (λ k. c.put-2.new.out.items ++ (between ++ decimal k)) c.from.ensures) e)
    c.put_give.ensures
