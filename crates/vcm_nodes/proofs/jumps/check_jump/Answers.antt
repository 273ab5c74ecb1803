use Rattle.std.proofs.Common.{refl, sym, ◌∙◌, rules}
use Rattle.vcm_nodes.specs.inner.Judging.{jump}
use Rattle.vcm_nodes.proofs.Jumping.{first_here, is_unknown, is_inward}
use Rattle.vcm_nodes.proofs.jumps.check_jump.Goals as goal

pub returns-then-not-contains : goal.returns-then-not-contains
returns-then-not-contains c =
    let j = jump c.args.line c.args.label.now c.args.reach.now in
    first_here c.args.all.now j _ (is_unknown c.args.all.now j (sym c.contains.ensures ∙ c.if-not-contains.true)) refl

pub returns-then-not-contains-2 : goal.returns-then-not-contains-2
returns-then-not-contains-2 c =
    let j = jump c.args.line c.args.label.now c.args.reach.now in
    first_here c.args.all.now j _ (is_inward c.args.all.now j (sym c.contains.ensures ∙ c.if-not-contains.false) (sym c.contains-2.ensures ∙ c.if-not-contains-2.true)) refl

pub returns : goal.returns
returns c = search rules
