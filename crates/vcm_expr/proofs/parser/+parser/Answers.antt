use Rattle.std.proofs.Common.{◌∙◌, ◌∷◌, refl, ap, inr, arith}
use Rattle.std.proofs.lemmas.Result.{err_from_is_err_and}
use Rattle.vcm_expr.specs.declared.levels.Chain.TheVariants.{Disjunction, Conjunction, Sum, Product}
use Rattle.vcm_expr.specs.Source.{is_small}
use Rattle.vcm_expr.specs.Parser.{relation_op}
use Rattle.vcm_expr.specs.inner.Levels.{chain_in, chain_op, fronted_in}
use Rattle.vcm_expr.proofs.Chains.{chain_begins, chain_on, chain_stops, chain_fails, chain_big, told_same, told_big, front_is, front_reads, front_told}
use Rattle.vcm_expr.proofs.Chains.{front_big, front_alone, front_first, sign_reads, sign_fails, sign_big, read_same, refused_same, once_made, once_big}
use Rattle.vcm_expr.proofs.Chains.{once_fails, group_full, group_fails, group_closed, group_open}
use Rattle.vcm_expr.proofs.Fronts.{next_shorter}
use Rattle.vcm_expr.proofs.parser.+parser.Goals as goal

pub disjunction-returns-in_err-left-clause-fault : goal.disjunction-returns-in_err-left-clause-fault
disjunction-returns-in_err-left-clause-fault t c =
    let p = err_from_is_err_and c.from_residual.result c.from_residual.ensures.1 in
    rw (p.1, p.2) (told_same c.args.line _ _ _ (chain_fails Disjunction c.args.room c.args.words.now) c.in_err-left.ensures.fault)

pub disjunction-loop-op-init : goal.disjunction-loop-op-init
disjunction-loop-op-init t c = let r = c.in_ok-left.ensures.ok
    in record { shorter = c.in_ok-left.ensures.shorter; there = (r.tree, r.there, r.sized, chain_begins Disjunction c.args.room c.args.words.now _ _ r.read) }

pub disjunction-loop-op-preserved : goal.disjunction-loop-op-preserved
disjunction-loop-op-preserved t c =
    let h = c.loop-op.invariant.there in
    let r = c.in_ok-right.ensures.ok in
    let j = c.in_ok-left-2.ensures.ok h.0 r.tree _ (r.there ∙ ap (λ es. r.tree ∷ es) h.1) h.2 r.sized in record {
      shorter = omega (
        arith,
        next_shorter (chain_op Disjunction) c.loop-op.words c.in-Some.op c.take_operator.new.words c.in-Some.ensures.some,
        c.in_ok-right.ensures.shorter,
        c.loop-op.invariant.shorter,
      );
      there = (
        _,
        j.0,
        j.1,
        chain_on Disjunction c.args.room c.args.words.now h.0 _ c.loop-op.words c.in-Some.op c.take_operator.new.words r.tree _ h.3
            c.in-Some.ensures.some r.read j.1.small refl c.in_ok-right.ensures.shorter,
      );
    }

pub disjunction-returns-in_err-right-clause-fault : goal.disjunction-returns-in_err-right-clause-fault
disjunction-returns-in_err-right-clause-fault t c =
    let p = err_from_is_err_and c.from_residual-in_err-right.result c.from_residual-in_err-right.ensures.1 in
    rw (p.1, p.2) (told_same c.args.line _ _ _
    (λ code. chain_stops Disjunction c.args.room c.args.words.now c.loop-op.invariant.there.0 c.loop-op.words c.in-Some.op c.take_operator.new.words code
    c.loop-op.invariant.there.3 c.in-Some.ensures.some) c.in_err-right.ensures.fault)

pub conjunction-returns-in_err-left-clause-fault : goal.conjunction-returns-in_err-left-clause-fault
conjunction-returns-in_err-left-clause-fault t c =
    let p = err_from_is_err_and c.from_residual.result c.from_residual.ensures.1 in
    rw (p.1, p.2) (told_same c.args.line _ _ _ (chain_fails Conjunction c.args.room c.args.words.now) c.in_err-left.ensures.fault)

pub conjunction-loop-op-init : goal.conjunction-loop-op-init
conjunction-loop-op-init t c = let r = c.in_ok-left.ensures.ok
    in record { shorter = c.in_ok-left.ensures.shorter; there = (r.tree, r.there, r.sized, chain_begins Conjunction c.args.room c.args.words.now _ _ r.read) }

pub conjunction-loop-op-preserved : goal.conjunction-loop-op-preserved
conjunction-loop-op-preserved t c =
    let h = c.loop-op.invariant.there in
    let r = c.in_ok-right.ensures.ok in
    let j = c.in_ok-left-2.ensures.ok h.0 r.tree _ (r.there ∙ ap (λ es. r.tree ∷ es) h.1) h.2 r.sized in record {
      shorter = omega (
        arith,
        next_shorter (chain_op Conjunction) c.loop-op.words c.in-Some.op c.take_operator.new.words c.in-Some.ensures.some,
        c.in_ok-right.ensures.shorter,
        c.loop-op.invariant.shorter,
      );
      there = (
        _,
        j.0,
        j.1,
        chain_on Conjunction c.args.room c.args.words.now h.0 _ c.loop-op.words c.in-Some.op c.take_operator.new.words r.tree _ h.3
            c.in-Some.ensures.some r.read j.1.small refl c.in_ok-right.ensures.shorter,
      );
    }

pub sum-returns-in_err-left-clause-fault : goal.sum-returns-in_err-left-clause-fault
sum-returns-in_err-left-clause-fault t c =
    let p = err_from_is_err_and c.from_residual.result c.from_residual.ensures.1 in
    rw (p.1, p.2) (told_same c.args.line _ _ _ (chain_fails Sum c.args.room c.args.words.now) c.in_err-left.ensures.fault)

pub sum-loop-op-init : goal.sum-loop-op-init
sum-loop-op-init t c = let r = c.in_ok-left.ensures.ok
    in record { shorter = c.in_ok-left.ensures.shorter; there = (r.tree, r.there, r.sized, chain_begins Sum c.args.room c.args.words.now _ _ r.read) }

pub sum-loop-op-preserved : goal.sum-loop-op-preserved
sum-loop-op-preserved t c =
    let h = c.loop-op.invariant.there in
    let r = c.in_ok-right.ensures.ok in
    let j = c.in_ok-left-2.ensures.ok h.0 r.tree _ (r.there ∙ ap (λ es. r.tree ∷ es) h.1) h.2 r.sized in record {
      shorter = omega (arith, next_shorter (chain_op Sum) c.loop-op.words c.in-Some.op c.take_operator.new.words c.in-Some.ensures.some, c.in_ok-right.ensures.shorter, c.loop-op.invariant.shorter);
      there = (
        _,
        j.0,
        j.1,
        chain_on Sum c.args.room c.args.words.now h.0 _ c.loop-op.words c.in-Some.op c.take_operator.new.words r.tree _ h.3
            c.in-Some.ensures.some r.read j.1.small refl c.in_ok-right.ensures.shorter,
      );
    }

pub sum-returns-in_err-right-clause-fault : goal.sum-returns-in_err-right-clause-fault
sum-returns-in_err-right-clause-fault t c =
    let p = err_from_is_err_and c.from_residual-in_err-right.result c.from_residual-in_err-right.ensures.1 in
    rw (p.1, p.2) (told_same c.args.line _ _ _
    (λ code. chain_stops Sum c.args.room c.args.words.now c.loop-op.invariant.there.0 c.loop-op.words c.in-Some.op c.take_operator.new.words code
    c.loop-op.invariant.there.3 c.in-Some.ensures.some) c.in_err-right.ensures.fault)

pub product-returns-in_err-left-clause-fault : goal.product-returns-in_err-left-clause-fault
product-returns-in_err-left-clause-fault t c =
    let p = err_from_is_err_and c.from_residual.result c.from_residual.ensures.1 in
    rw (p.1, p.2) (told_same c.args.line _ _ _ (chain_fails Product c.args.room c.args.words.now) c.in_err-left.ensures.fault)

pub product-loop-op-init : goal.product-loop-op-init
product-loop-op-init t c = let r = c.in_ok-left.ensures.ok
    in record { shorter = c.in_ok-left.ensures.shorter; there = (r.tree, r.there, r.sized, chain_begins Product c.args.room c.args.words.now _ _ r.read) }

pub product-loop-op-preserved : goal.product-loop-op-preserved
product-loop-op-preserved t c =
    let h = c.loop-op.invariant.there in
    let r = c.in_ok-right.ensures.ok in
    let j = c.in_ok-left-2.ensures.ok h.0 r.tree _ (r.there ∙ ap (λ es. r.tree ∷ es) h.1) h.2 r.sized in record {
      shorter = omega (
        arith,
        next_shorter (chain_op Product) c.loop-op.words c.in-Some.op c.take_operator.new.words c.in-Some.ensures.some,
        c.in_ok-right.ensures.shorter,
        c.loop-op.invariant.shorter,
      );
      there = (
        _,
        j.0,
        j.1,
        chain_on Product c.args.room c.args.words.now h.0 _ c.loop-op.words c.in-Some.op c.take_operator.new.words r.tree _ h.3
            c.in-Some.ensures.some r.read j.1.small refl c.in_ok-right.ensures.shorter,
      );
    }

pub behind_sign-returns-in_err-size-clause-fault : goal.behind_sign-returns-in_err-size-clause-fault
behind_sign-returns-in_err-size-clause-fault t c =
    let p = err_from_is_err_and c.from_residual-in_err-size.result c.from_residual-in_err-size.ensures.1 in
    rw (p.1, p.2) (front_told c.args.front c.args.room c.args.words.now c.take_signs.new.words c.in_ok-signs.signs.items c.args.line _
    (front_is c.args.front c.args.room c.args.words.now ∙ c.in_ok-signs.ensures.ok (fronted_in c.args.front c.args.room)) c.in_err-size.ensures.fault)

pub behind_sign-with_signs-requires : goal.behind_sign-with_signs-requires
behind_sign-with_signs-requires t c = let r = c.in_ok-size.ensures.ok in (r.tree, _, r.there, r.sized)

pub behind_sign-returns-in_err-size-2-clause-fault : goal.behind_sign-returns-in_err-size-2-clause-fault
behind_sign-returns-in_err-size-2-clause-fault t c =
    let p = err_from_is_err_and c.from_residual-in_err-size-2.result c.from_residual-in_err-size-2.ensures.1 in
    let r = c.in_ok-size.ensures.ok in
    rw (p.1, p.2) (front_big c.args.front c.args.room c.args.words.now c.take_signs.new.words _ c.in_ok-signs.signs.items c.in_ok-size.size _ _ r.tree
    c.args.line _ (front_is c.args.front c.args.room c.args.words.now ∙ c.in_ok-signs.ensures.ok (fronted_in c.args.front c.args.room)) r.read r.there
    r.sized c.in_err-size-2.ensures.fault)

pub behind_sign-returns-clause-ok : goal.behind_sign-returns-clause-ok
behind_sign-returns-clause-ok t c =
    let r = c.in_ok-size.ensures.ok in
    let q = c.in_ok-size-2.ensures.ok r.tree _ c.under.new.words r.there r.sized in
    record {
      tree = q.tree;
      read = front_reads c.args.front c.args.room c.args.words.now c.take_signs.new.words c.in_ok-signs.signs.items r.tree q.tree _
          (front_is c.args.front c.args.room c.args.words.now ∙ c.in_ok-signs.ensures.ok (fronted_in c.args.front c.args.room)) r.read q.read;
      there = q.there;
      sized = q.sized;
    }

pub group-returns-then-room-eq0-clause-fault : goal.group-returns-then-room-eq0-clause-fault
group-returns-then-room-eq0-clause-fault t c = rw c.too_deep.ensures (inr (refl, group_full c.args.room c.args.words.now c.if-room-eq0.true))

pub group-returns-in_err-size-clause-fault : goal.group-returns-in_err-size-clause-fault
group-returns-in_err-size-clause-fault t c =
    let p = err_from_is_err_and c.from_residual.result c.from_residual.ensures.1 in
    rw (p.1, p.2) (told_same c.args.line _ _ _ (λ code. group_fails c.args.room c.args.words.now code (omega arith)) c.in_err-size.ensures.fault)

pub group-returns-else-take_closing-clause-fault : goal.group-returns-else-take_closing-clause-fault
group-returns-else-take_closing-clause-fault t c =
    rw c.bad_syntax.ensures (inr (
      refl,
      group_open c.args.room c.args.words.now c.in_ok-size.ensures.ok.tree _ (omega arith) c.in_ok-size.ensures.ok.read
          (c.take_closing.ensures.none c.if-take_closing.false),
    ))

pub group-returns-then-take_closing-clause-ok : goal.group-returns-then-take_closing-clause-ok
group-returns-then-take_closing-clause-ok t c =
    let r = c.in_ok-size.ensures.ok in
    record { tree = r.tree; read = group_closed c.args.room c.args.words.now r.tree _ _ (omega arith) r.read (c.take_closing.ensures.some c.if-take_closing.true); there = r.there; sized = r.sized }

pub relation-returns-in_err-right-clause-fault : goal.relation-returns-in_err-right-clause-fault
relation-returns-in_err-right-clause-fault t c =
    let p = err_from_is_err_and c.from_residual-in_err-right.result c.from_residual-in_err-right.ensures.1 in
    rw (p.1, p.2) (told_same c.args.line _ _ _
    (λ code. once_fails is_small (chain_in Sum c.args.room) relation_op c.args.words.now _ _ _ _ code c.in_ok-left.ensures.ok.read c.in-Some.ensures.some)
    c.in_err-right.ensures.fault)

pub relation-joined-requires : goal.relation-joined-requires
relation-joined-requires t c =
    let l = c.in_ok-left.ensures.ok in
    let r = c.in_ok-right.ensures.ok in
    (l.tree, r.tree, _, r.there ∙ ap (λ es. r.tree ∷ es) l.there, l.sized, r.sized)

pub relation-returns-in_err-both-clause-fault : goal.relation-returns-in_err-both-clause-fault
relation-returns-in_err-both-clause-fault t c =
    let p = err_from_is_err_and c.from_residual-in_err-both.result c.from_residual-in_err-both.ensures.1 in
    let l = c.in_ok-left.ensures.ok in
    let r = c.in_ok-right.ensures.ok in
    rw (p.1, p.2) (told_big c.args.line c.in-Some.op c.in_ok-left.left c.in_ok-right.right l.tree r.tree _ _ l.sized r.sized
    (once_big is_small (chain_in Sum c.args.room) relation_op c.args.words.now _ _ _ _ _ _ l.read c.in-Some.ensures.some r.read)
    c.in_err-both.ensures.fault)

pub relation-returns-clause-ok : goal.relation-returns-clause-ok
relation-returns-clause-ok t c =
    let l = c.in_ok-left.ensures.ok in
    let r = c.in_ok-right.ensures.ok in
    let j = c.in_ok-both.ensures.ok l.tree r.tree _ (r.there ∙ ap (λ es. r.tree ∷ es) l.there) l.sized r.sized in
    record {
      tree = _;
      read = once_made is_small (chain_in Sum c.args.room) relation_op c.args.words.now _ _ _ _ r.tree _ _ l.read c.in-Some.ensures.some r.read j.1.small refl;
      there = j.0;
      sized = j.1;
    }

pub disjunction-joined-requires : goal.disjunction-joined-requires
disjunction-joined-requires t c =
    let h = c.loop-op.invariant.there in
    let r = c.in_ok-right.ensures.ok in
    (h.0, r.tree, _, r.there ∙ ap (λ es. r.tree ∷ es) h.1, h.2, r.sized)

pub conjunction-joined-requires : goal.conjunction-joined-requires
conjunction-joined-requires t c =
    let h = c.loop-op.invariant.there in
    let r = c.in_ok-right.ensures.ok in
    (h.0, r.tree, _, r.there ∙ ap (λ es. r.tree ∷ es) h.1, h.2, r.sized)

pub sum-joined-requires : goal.sum-joined-requires
sum-joined-requires t c =
    let h = c.loop-op.invariant.there in
    let r = c.in_ok-right.ensures.ok in
    (h.0, r.tree, _, r.there ∙ ap (λ es. r.tree ∷ es) h.1, h.2, r.sized)

pub product-joined-requires : goal.product-joined-requires
product-joined-requires t c =
    let h = c.loop-op.invariant.there in
    let r = c.in_ok-right.ensures.ok in
    (h.0, r.tree, _, r.there ∙ ap (λ es. r.tree ∷ es) h.1, h.2, r.sized)

pub disjunction-returns-in_err-left-2-clause-fault : goal.disjunction-returns-in_err-left-2-clause-fault
disjunction-returns-in_err-left-2-clause-fault t c =
    let p = err_from_is_err_and c.from_residual-in_err-left-2.result c.from_residual-in_err-left-2.ensures.1 in
    let h = c.loop-op.invariant.there in
    let r = c.in_ok-right.ensures.ok in
    rw (p.1, p.2) (told_big c.args.line c.in-Some.op c.loop-op.left c.in_ok-right.right h.0 r.tree _ _ h.2 r.sized
    (chain_big Disjunction c.args.room c.args.words.now h.0 c.loop-op.words c.in-Some.op c.take_operator.new.words r.tree _ h.3 c.in-Some.ensures.some
    r.read) c.in_err-left-2.ensures.fault)

pub conjunction-returns-in_err-left-2-clause-fault : goal.conjunction-returns-in_err-left-2-clause-fault
conjunction-returns-in_err-left-2-clause-fault t c =
    let p = err_from_is_err_and c.from_residual-in_err-left-2.result c.from_residual-in_err-left-2.ensures.1 in
    let h = c.loop-op.invariant.there in
    let r = c.in_ok-right.ensures.ok in
    rw (p.1, p.2) (told_big c.args.line c.in-Some.op c.loop-op.left c.in_ok-right.right h.0 r.tree _ _ h.2 r.sized
    (chain_big Conjunction c.args.room c.args.words.now h.0 c.loop-op.words c.in-Some.op c.take_operator.new.words r.tree _ h.3 c.in-Some.ensures.some
    r.read) c.in_err-left-2.ensures.fault)

pub sum-returns-in_err-left-2-clause-fault : goal.sum-returns-in_err-left-2-clause-fault
sum-returns-in_err-left-2-clause-fault t c =
    let p = err_from_is_err_and c.from_residual-in_err-left-2.result c.from_residual-in_err-left-2.ensures.1 in
    let h = c.loop-op.invariant.there in
    let r = c.in_ok-right.ensures.ok in
    rw (p.1, p.2) (told_big c.args.line c.in-Some.op c.loop-op.left c.in_ok-right.right h.0 r.tree _ _ h.2 r.sized
    (chain_big Sum c.args.room c.args.words.now h.0 c.loop-op.words c.in-Some.op c.take_operator.new.words r.tree _ h.3 c.in-Some.ensures.some r.read)
    c.in_err-left-2.ensures.fault)

pub product-returns-in_err-left-2-clause-fault : goal.product-returns-in_err-left-2-clause-fault
product-returns-in_err-left-2-clause-fault t c =
    let p = err_from_is_err_and c.from_residual-in_err-left-2.result c.from_residual-in_err-left-2.ensures.1 in
    let h = c.loop-op.invariant.there in
    let r = c.in_ok-right.ensures.ok in
    rw (p.1, p.2) (told_big c.args.line c.in-Some.op c.loop-op.left c.in_ok-right.right h.0 r.tree _ _ h.2 r.sized
    (chain_big Product c.args.room c.args.words.now h.0 c.loop-op.words c.in-Some.op c.take_operator.new.words r.tree _ h.3 c.in-Some.ensures.some r.read)
    c.in_err-left-2.ensures.fault)

pub product-returns-in_err-right-clause-fault : goal.product-returns-in_err-right-clause-fault
product-returns-in_err-right-clause-fault t c =
    let p = err_from_is_err_and c.from_residual-in_err-right.result c.from_residual-in_err-right.ensures.1 in
    rw (p.1, p.2) (told_same c.args.line _ _ _
    (λ code. chain_stops Product c.args.room c.args.words.now c.loop-op.invariant.there.0 c.loop-op.words c.in-Some.op c.take_operator.new.words code
    c.loop-op.invariant.there.3 c.in-Some.ensures.some) c.in_err-right.ensures.fault)

pub conjunction-returns-in_err-right-clause-fault : goal.conjunction-returns-in_err-right-clause-fault
conjunction-returns-in_err-right-clause-fault t c =
    let p = err_from_is_err_and c.from_residual-in_err-right.result c.from_residual-in_err-right.ensures.1 in
    rw (p.1, p.2) (told_same c.args.line _ _ _
    (λ code. chain_stops Conjunction c.args.room c.args.words.now c.loop-op.invariant.there.0 c.loop-op.words c.in-Some.op c.take_operator.new.words code
    c.loop-op.invariant.there.3 c.in-Some.ensures.some) c.in_err-right.ensures.fault)

pub fronted-returns-in_default-clause-ok : goal.fronted-returns-in_default-clause-ok
fronted-returns-in_default-clause-ok t c =
    read_same _ _ (rw c.in_default.ensures.none.1 (front_alone c.args.front c.args.room c.args.words.now c.in_default.ensures.none.0)) _ _ _ _ c.under.ensures.ok

pub fronted-returns-in_default-clause-fault : goal.fronted-returns-in_default-clause-fault
fronted-returns-in_default-clause-fault t c =
    refused_same _ _ (rw c.in_default.ensures.none.1 (front_alone c.args.front c.args.room c.args.words.now c.in_default.ensures.none.0)) c.args.line _ c.under.ensures.fault

pub fronted-returns-clause-ok : goal.fronted-returns-clause-ok
fronted-returns-clause-ok t c = read_same _ _ (front_first c.args.front c.args.room c.args.words.now c.in-Some.sign c.take_front.new.words c.in-Some.ensures.some) _ _ _ _ c.signed.ensures.ok

pub fronted-returns-clause-fault : goal.fronted-returns-clause-fault
fronted-returns-clause-fault t c = refused_same _ _
    (front_first c.args.front c.args.room c.args.words.now c.in-Some.sign c.take_front.new.words c.in-Some.ensures.some) c.args.line _ c.signed.ensures.fault

pub signed-prefixed-requires : goal.signed-prefixed-requires
signed-prefixed-requires t c = let r = c.in_ok-operand.ensures.ok in (r.tree, _, r.there, r.sized)

pub signed-returns-in_err-operand-clause-fault : goal.signed-returns-in_err-operand-clause-fault
signed-returns-in_err-operand-clause-fault t c =
    let p = err_from_is_err_and c.from_residual.result c.from_residual.ensures.1 in
    rw (p.1, p.2) (told_same c.args.line _ _ _ (sign_fails c.args.sign c.args.front c.args.room c.args.words.now) c.in_err-operand.ensures.fault)

pub signed-returns-in_err-size-clause-fault : goal.signed-returns-in_err-size-clause-fault
signed-returns-in_err-size-clause-fault t c =
    let p = err_from_is_err_and c.from_residual-in_err-size.result c.from_residual-in_err-size.ensures.1 in
    let r = c.in_ok-operand.ensures.ok in
    rw (p.1, p.2) (sign_big c.args.sign c.args.front c.args.room c.args.words.now r.tree _ c.in_ok-operand.operand c.args.line _ r.read r.sized c.in_err-size.ensures.fault)

pub signed-returns-clause-ok : goal.signed-returns-clause-ok
signed-returns-clause-ok t c =
    let r = c.in_ok-operand.ensures.ok in
    let j = c.in_ok-size.ensures.ok r.tree _ r.there r.sized in
    record { tree = _; read = sign_reads c.args.sign c.args.front c.args.room c.args.words.now r.tree _ r.read j.1.small; there = j.0; sized = j.1 }
