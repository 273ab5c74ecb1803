use Rattle.std.proofs.Common.{◌+◌, ◌∙◌, ℕ, List, ap, sym, refl, rules, FitsSigned, w64, to_z-of_z}
use Rattle.std.proofs.lemmas.Result.{err_from_is_err_and}
use Rattle.std.specs.Int.{w16, w32}
use Rattle.vcm_num.specs.declared.number.Kind.TheVariants.{Int}
use Rattle.vcm_code.specs.CodeTable.{code_state}
use Rattle.vcm_fields.specs.Readers.{both, variable_at, pair_at, expression_at, three_at, target_at}
use Rattle.vcm_fields.proofs.Inverse.{ok_is}
use Rattle.vcm_fields.proofs.Taking.{number_there, both_are, three_are}
use Rattle.vcm_machine.proofs.LoopBranches.{do_first, do_second, do_third, do_zero, do_past, do_enter}
use Rattle.vcm_machine.proofs.Reading.{read_first, known_first, stands_first}
use Rattle.vcm_machine.proofs.looping.begin.Goals as goal

pub known_short-variable-requires : goal.known_short-variable-requires
known_short-variable-requires c = number_there w16 _ _ (both_are variable_at (both pair_at (both three_at target_at)) _ _ _ c.requires.operands.2).1

pub value-requires : goal.value-requires
value-requires c =
    let r = (known_first variable_at (both pair_at (both three_at target_at)) _ _ _ _ c.known_short-variable.ensures c.requires.operands.2).1 in
    let q = stands_first _ _ pair_at (both three_at target_at) c.known_short-variable.result.1.now _ _ _ c.pair.ensures c.known-pair.ensures r in
    let b = both_are three_at target_at _ _ _ q in
    let t = three_are _ _ _ b.1 in
    (Int, (c.requires.operands.0.1.1.0.0, t.0, t.2, c.requires.operands.3.2))

pub value-requires-2 : goal.value-requires-2
value-requires-2 c =
    let r = (known_first variable_at (both pair_at (both three_at target_at)) _ _ _ _ c.known_short-variable.ensures c.requires.operands.2).1 in
    let q = stands_first _ _ pair_at (both three_at target_at) c.known_short-variable.result.1.now _ _ _ c.pair.ensures c.known-pair.ensures r in
    let b = both_are three_at target_at _ _ _ q in
    let t = three_are _ _ _ b.1 in
    (Int, (c.requires.operands.0.1.1.0.1.0, t.1, ap expression_at (c.in_ok-initial.ensures.value _ _ t.2).1 ∙ t.3, c.requires.operands.3.3))

pub value-requires-3 : goal.value-requires-3
value-requires-3 c =
    let r = (known_first variable_at (both pair_at (both three_at target_at)) _ _ _ _ c.known_short-variable.ensures c.requires.operands.2).1 in
    let q = stands_first _ _ pair_at (both three_at target_at) c.known_short-variable.result.1.now _ _ _ c.pair.ensures c.known-pair.ensures r in
    let b = both_are three_at target_at _ _ _ q in
    let t = three_are _ _ _ b.1 in
    let x = c.in_ok-initial.ensures.value _ _ t.2 in
    let y = c.in_ok-limit.ensures.value _ _ (ap expression_at x.1 ∙ t.3) in
    (Int, (c.requires.operands.0.1.1.0.1.1, b.0, ap expression_at y.1 ∙ t.4, c.requires.operands.3.4))

pub known_long-exit-requires : goal.known_long-exit-requires
known_long-exit-requires c =
    let r = (known_first variable_at (both pair_at (both three_at target_at)) _ _ _ _ c.known_short-variable.ensures c.requires.operands.2).1 in
    let q = stands_first _ _ pair_at (both three_at target_at) c.known_short-variable.result.1.now _ _ _ c.pair.ensures c.known-pair.ensures r in
    let b = both_are three_at target_at _ _ _ q in
    let t = three_are _ _ _ b.1 in
    let x = c.in_ok-initial.ensures.value _ _ t.2 in
    let y = c.in_ok-limit.ensures.value _ _ (ap expression_at x.1 ∙ t.3) in
    let z = c.in_ok-increment.ensures.value _ _ (ap expression_at y.1 ∙ t.4) in
    number_there w32 _ _ (ap target_at z.1 ∙ b.2)

pub returns-in_err-initial-clause-turned : goal.returns-in_err-initial-clause-turned
returns-in_err-initial-clause-turned c setup line =
    let p = err_from_is_err_and c.from_residual.result c.from_residual.ensures.1 in
    rw (p.1, p.2) (λ o rest h.
    let r = known_first variable_at (both pair_at (both three_at target_at)) _ o rest _ c.known_short-variable.ensures h in
    let q = read_first _ _ pair_at (both three_at target_at) c.known_short-variable.result.1.now o.1 rest _ c.pair.ensures c.known-pair.ensures r.1 in
    let b = both_are three_at target_at _ o.1.1 rest q.1 in
    let t = three_are _ o.1.1.0 b.0 b.1 in
    (do_first setup c.args.world.now.state o.0 o.1.0 o.1.1.0.0 o.1.1.0.1.0 o.1.1.0.1.1 o.1.1.1 line c.args.next c.args.pairs.now _ (c.in_err-initial.ensures.fault o.1.1.0.0 t.0 t.2), refl, refl))

pub returns-in_err-limit-clause-turned : goal.returns-in_err-limit-clause-turned
returns-in_err-limit-clause-turned c setup line =
    let p = err_from_is_err_and c.from_residual-in_err-limit.result c.from_residual-in_err-limit.ensures.1 in
    rw (p.1, p.2) (λ o rest h.
    let r = known_first variable_at (both pair_at (both three_at target_at)) _ o rest _ c.known_short-variable.ensures h in
    let q = read_first _ _ pair_at (both three_at target_at) c.known_short-variable.result.1.now o.1 rest _ c.pair.ensures c.known-pair.ensures r.1 in
    let b = both_are three_at target_at _ o.1.1 rest q.1 in
    let t = three_are _ o.1.1.0 b.0 b.1 in
    let x = c.in_ok-initial.ensures.value o.1.1.0.0 t.0 t.2 in (
      do_second setup c.args.world.now.state o.0 o.1.0 o.1.1.0.0 o.1.1.0.1.0 o.1.1.0.1.1 o.1.1.1 line c.args.next c.args.pairs.now _ x.0 _
          (c.in_err-limit.ensures.fault o.1.1.0.1.0 t.1 (ap expression_at x.1 ∙ t.3)),
      refl,
      refl,
    ))

pub returns-in_err-increment-clause-turned : goal.returns-in_err-increment-clause-turned
returns-in_err-increment-clause-turned c setup line =
    let p = err_from_is_err_and c.from_residual-in_err-increment.result c.from_residual-in_err-increment.ensures.1 in
    rw (p.1, p.2) (λ o rest h.
    let r = known_first variable_at (both pair_at (both three_at target_at)) _ o rest _ c.known_short-variable.ensures h in
    let q = read_first _ _ pair_at (both three_at target_at) c.known_short-variable.result.1.now o.1 rest _ c.pair.ensures c.known-pair.ensures r.1 in
    let b = both_are three_at target_at _ o.1.1 rest q.1 in
    let t = three_are _ o.1.1.0 b.0 b.1 in
    let x = c.in_ok-initial.ensures.value o.1.1.0.0 t.0 t.2 in
    let y = c.in_ok-limit.ensures.value o.1.1.0.1.0 t.1 (ap expression_at x.1 ∙ t.3) in (
      do_third setup c.args.world.now.state o.0 o.1.0 o.1.1.0.0 o.1.1.0.1.0 o.1.1.0.1.1 o.1.1.1 line c.args.next c.args.pairs.now _ x.0 _ y.0 _
          (c.in_err-increment.ensures.fault o.1.1.0.1.1 b.0 (ap expression_at y.1 ∙ t.4)),
      refl,
      refl,
    ))

pub returns-then-is_zero-clause-turned : goal.returns-then-is_zero-clause-turned
returns-then-is_zero-clause-turned c setup line o rest h =
    let fc : FitsSigned w64 c.in_ok-increment.increment = search rules in
    let r = known_first variable_at (both pair_at (both three_at target_at)) _ o rest _ c.known_short-variable.ensures h in
    let q = read_first _ _ pair_at (both three_at target_at) c.known_short-variable.result.1.now o.1 rest _ c.pair.ensures c.known-pair.ensures r.1 in
    let b = both_are three_at target_at _ o.1.1 rest q.1 in
    let t = three_are _ o.1.1.0 b.0 b.1 in
    let x = c.in_ok-initial.ensures.value o.1.1.0.0 t.0 t.2 in
    let y = c.in_ok-limit.ensures.value o.1.1.0.1.0 t.1 (ap expression_at x.1 ∙ t.3) in
    let z = c.in_ok-increment.ensures.value o.1.1.0.1.1 b.0 (ap expression_at y.1 ∙ t.4) in
    let zero = rw (to_z-of_z fc) at c.is_zero.ensures in
    (do_zero setup c.args.world.now.state o.0 o.1.0 o.1.1.0.0 o.1.1.0.1.0 o.1.1.0.1.1 o.1.1.1 line c.args.next c.args.pairs.now _ x.0 _ y.0 _ z.0 (sym zero ∙ c.if-is_zero.true), refl, refl)

pub returns-then-is_past-clause-turned : goal.returns-then-is_past-clause-turned
returns-then-is_past-clause-turned c setup line o rest h =
    let fa : FitsSigned w64 c.in_ok-initial.initial = search rules in
    let fb : FitsSigned w64 c.in_ok-limit.limit = search rules in
    let fc : FitsSigned w64 c.in_ok-increment.increment = search rules in
    let r = known_first variable_at (both pair_at (both three_at target_at)) _ o rest _ c.known_short-variable.ensures h in
    let q = read_first _ _ pair_at (both three_at target_at) c.known_short-variable.result.1.now o.1 rest _ c.pair.ensures c.known-pair.ensures r.1 in
    let b = both_are three_at target_at _ o.1.1 rest q.1 in
    let t = three_are _ o.1.1.0 b.0 b.1 in
    let x = c.in_ok-initial.ensures.value o.1.1.0.0 t.0 t.2 in
    let y = c.in_ok-limit.ensures.value o.1.1.0.1.0 t.1 (ap expression_at x.1 ∙ t.3) in
    let z = c.in_ok-increment.ensures.value o.1.1.0.1.1 b.0 (ap expression_at y.1 ∙ t.4) in
    let exit = ap (λ (e : ℕ × List ℕ). e.0) (ok_is _ _ (sym c.known_long-exit.ensures ∙ ap target_at z.1 ∙ b.2)) in
    let zero = rw (to_z-of_z fc) at c.is_zero.ensures in
    let s = rw (to_z-of_z fa, r.0) at c.set_index.ensures.state in
    let past = rw (to_z-of_z fb, to_z-of_z fc, r.0) at c.is_past.ensures in
    let kept = rw (to_z-of_z fb, to_z-of_z fc, q.0) at c.set_pair.ensures in
    do_past setup c.args.world.now.state o.0 o.1.0 o.1.1.0.0 o.1.1.0.1.0 o.1.1.0.1.1 o.1.1.1 line c.args.next c.args.pairs.now _ x.0 _ y.0 _ z.0
    (sym zero ∙ c.if-is_zero.false) c.set_index.new.world.state s (sym past ∙ c.if-is_past.true)
    ∙ ap (λ l. code_state c.set_index.new.world.state o.1.1.1 l) (sym kept)
    ∙ ap (λ e. code_state c.set_index.new.world.state e c.set_pair.new.pairs) (sym exit)

pub returns-else-is_past-clause-turned : goal.returns-else-is_past-clause-turned
returns-else-is_past-clause-turned c setup line o rest h =
    let fa : FitsSigned w64 c.in_ok-initial.initial = search rules in
    let fb : FitsSigned w64 c.in_ok-limit.limit = search rules in
    let fc : FitsSigned w64 c.in_ok-increment.increment = search rules in
    let r = known_first variable_at (both pair_at (both three_at target_at)) _ o rest _ c.known_short-variable.ensures h in
    let q = read_first _ _ pair_at (both three_at target_at) c.known_short-variable.result.1.now o.1 rest _ c.pair.ensures c.known-pair.ensures r.1 in
    let b = both_are three_at target_at _ o.1.1 rest q.1 in
    let t = three_are _ o.1.1.0 b.0 b.1 in
    let x = c.in_ok-initial.ensures.value o.1.1.0.0 t.0 t.2 in
    let y = c.in_ok-limit.ensures.value o.1.1.0.1.0 t.1 (ap expression_at x.1 ∙ t.3) in
    let z = c.in_ok-increment.ensures.value o.1.1.0.1.1 b.0 (ap expression_at y.1 ∙ t.4) in
    let zero = rw (to_z-of_z fc) at c.is_zero.ensures in
    let s = rw (to_z-of_z fa, r.0) at c.set_index.ensures.state in
    let past = rw (to_z-of_z fb, to_z-of_z fc, r.0) at c.is_past.ensures in
    let kept = rw (to_z-of_z fb, to_z-of_z fc, q.0) at c.set_pair.ensures in
    do_enter setup c.args.world.now.state o.0 o.1.0 o.1.1.0.0 o.1.1.0.1.0 o.1.1.0.1.1 o.1.1.1 line c.args.next c.args.pairs.now _ x.0 _ y.0 _ z.0
    (sym zero ∙ c.if-is_zero.false) c.set_index.new.world.state s (sym past ∙ c.if-is_past.false)
    ∙ ap (λ l. code_state c.set_index.new.world.state (c.args.next + 1) l) (sym kept)
