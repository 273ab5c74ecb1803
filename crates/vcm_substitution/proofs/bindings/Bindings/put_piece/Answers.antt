use Rattle.std.proofs.Common.{arith}
use Rattle.vcm_expr.specs.declared.expression.Term.TheVariants.{Number, Truth, Variable}
use Rattle.vcm_substitution.proofs.Puttings.{leaf_room, top_there, two_there, between_puts}
use Rattle.vcm_substitution.proofs.bindings.Bindings.put_piece.Goals as goal

pub prefixed-requires : goal.prefixed-requires
prefixed-requires c = top_there c.args.self.now c.requires.0 _ c.in-Some.a _ _ c.in-Some.ensures.top c.requires.1

pub joined-requires : goal.joined-requires
joined-requires c = two_there c.args.self.now c.requires.0 _ c.in-Some-pop-2.a c.in-Some-pop.b _ _ _ c.in-Some-pop.ensures.top c.in-Some-pop-2.ensures.top c.requires.1

pub returns-in_ok-size-in-Between-clause-ok : goal.returns-in_ok-size-in-Between-clause-ok
returns-in_ok-size-in-Between-clause-ok c = λ es h.
    rw c.in-Between.is (between_puts c.args.self.now c.in-Between.op es _ _ c.in-Some-pop-2.a c.in-Some-pop.b c.in_ok-size-in-Between.size _ _ _ _
    c.in-Some-pop.ensures.top c.in-Some-pop-2.ensures.top c.in_ok-size-in-Between.ensures.ok c.push-in-Between.ensures h)

pub push-requires : goal.push-requires
push-requires c = (grind arith, leaf_room c.args.self.now (Number c.in-Number.literal) c.requires.0 _ _ c.requires.1 (rw c.in-Number.is at c.requires.2))

pub push-requires-in-Truth : goal.push-requires-in-Truth
push-requires-in-Truth c = (grind arith, leaf_room c.args.self.now (Truth c.in-Truth.truth) c.requires.0 _ _ c.requires.1 (rw c.in-Truth.is at c.requires.2))

pub push-requires-in-Variable : goal.push-requires-in-Variable
push-requires-in-Variable c = (grind arith, leaf_room c.args.self.now (Variable c.in-Variable.name 0) c.requires.0 _ _ c.requires.1 (rw c.in-Variable.is at c.requires.2))
