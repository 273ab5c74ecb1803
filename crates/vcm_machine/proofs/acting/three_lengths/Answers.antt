use Rattle.std.proofs.Common.{ap, ◌∙◌, rules, FitsSigned, w64, to_z-of_z}
use Rattle.std.proofs.lemmas.Result.{err_from_is_err_and}
use Rattle.vcm_num.specs.declared.number.Kind.TheVariants.{Real}
use Rattle.vcm_fields.specs.Readers.{expression_at}
use Rattle.vcm_fields.proofs.Taking.{three_are}
use Rattle.vcm_machine.proofs.Effects.{first_fault, second_fault, third_fault, all_given}
use Rattle.vcm_machine.proofs.acting.three_lengths.Goals as goal

pub value_here-requires : goal.value_here-requires
value_here-requires c =
    let t = three_are _ _ _ c.requires.2 in
    (Real, (c.requires.0.0, t.0, t.2, c.requires.3.0))

pub value_here-requires-2 : goal.value_here-requires-2
value_here-requires-2 c =
    let t = three_are _ _ _ c.requires.2 in
    (Real, (c.requires.0.1.0, t.1, ap expression_at (c.in_ok-x.ensures.value _ _ t.2).1 ∙ t.3, c.requires.3.1))

pub value_here-requires-3 : goal.value_here-requires-3
value_here-requires-3 c =
    let t = three_are _ _ _ c.requires.2 in
    let x = c.in_ok-x.ensures.value _ _ t.2 in
    let y = c.in_ok-y.ensures.value _ _ (ap expression_at x.1 ∙ t.3) in
    (Real, (c.requires.0.1.1, c.requires.1, ap expression_at y.1 ∙ t.4, c.requires.3.2))

pub returns-in_err-x : goal.returns-in_err-x
returns-in_err-x c =
    let p = err_from_is_err_and c.from_residual.result c.from_residual.ensures.1 in
    rw (p.1, p.2) (record {
      lengths = tt;
      fault = λ o rest h.
          let t = three_are _ o rest h in
          first_fault c.args.world.now.state o.0 o.1.0 o.1.1 _ (c.in_err-x.ensures.fault o.0 t.0 t.2);
    })

pub returns-in_err-y : goal.returns-in_err-y
returns-in_err-y c =
    let p = err_from_is_err_and c.from_residual-in_err-y.result c.from_residual-in_err-y.ensures.1 in
    rw (p.1, p.2) (record {
      lengths = tt;
      fault = λ o rest h.
          let t = three_are _ o rest h in
          let x = c.in_ok-x.ensures.value o.0 t.0 t.2 in
          second_fault c.args.world.now.state o.0 o.1.0 o.1.1 _ _ x.0 (c.in_err-y.ensures.fault o.1.0 t.1 (ap expression_at x.1 ∙ t.3));
    })

pub returns-in_err-z : goal.returns-in_err-z
returns-in_err-z c =
    let p = err_from_is_err_and c.from_residual-in_err-z.result c.from_residual-in_err-z.ensures.1 in
    rw (p.1, p.2) (record {
      lengths = tt;
      fault = λ o rest h.
          let t = three_are _ o rest h in
          let x = c.in_ok-x.ensures.value o.0 t.0 t.2 in
          let y = c.in_ok-y.ensures.value o.1.0 t.1 (ap expression_at x.1 ∙ t.3) in
          third_fault c.args.world.now.state o.0 o.1.0 o.1.1 _ _ _ x.0 y.0 (c.in_err-z.ensures.fault o.1.1 rest (ap expression_at y.1 ∙ t.4));
    })

pub returns : goal.returns
returns c =
    let fx : FitsSigned w64 c.in_ok-x.x = search rules in
    let fy : FitsSigned w64 c.in_ok-y.y = search rules in
    let fz : FitsSigned w64 c.in_ok-z.z = search rules in
    record {
      lengths = λ o rest h.
          let t = three_are _ o rest h in
          let x = c.in_ok-x.ensures.value o.0 t.0 t.2 in
          let y = c.in_ok-y.ensures.value o.1.0 t.1 (ap expression_at x.1 ∙ t.3) in
          let z = c.in_ok-z.ensures.value o.1.1 rest (ap expression_at y.1 ∙ t.4) in
          (rw (to_z-of_z fx, to_z-of_z fy, to_z-of_z fz) (all_given c.args.world.now.state o.0 o.1.0 o.1.1 _ _ _ x.0 y.0 z.0), z.1);
      fault = tt;
    }
