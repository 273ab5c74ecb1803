use Rattle.std.proofs.Common.{◌≡◌, false, nat_lt, length, arith}
use Rattle.std.proofs.lemmas.Bool.{le-ltb}
use Rattle.std.proofs.lemmas.Result.{err_from_is_err_and}
use Rattle.vcm_mesh.proofs.TextLines.{goes_on, ends, is_done, nothing}
use Rattle.vcm_mesh.proofs.text.text_mesh.Goals as goal

pub returns-in_err-place : goal.returns-in_err-place
returns-in_err-place c =
    let short : nat_lt 50000084 (length c.args.bytes.now) ≡ false = le-ltb _ _ (omega arith) in
    let p = err_from_is_err_and c.from_residual.result c.from_residual.ensures.1 in
    rw (p.1, p.2, short)
    (ends c.args.placing.now c.loop-rest.line c.loop-rest.triangles.items c.loop-rest.place c.loop-rest.rest.now _ c.loop-rest.invariant.read
    c.split_line.result.0.now c.split_line.result.1.now c.split_line.ensures.cut c.in_err-place.field-0.0 c.in_err-place.ensures.took)

pub loop-rest-preserved : goal.loop-rest-preserved
loop-rest-preserved c = record {
  few = c.read_line.ensures.few;
  room = omega (arith, c.split_line.ensures.shorter);
  read = goes_on c.args.placing.now c.loop-rest.line c.loop-rest.triangles.items c.loop-rest.place c.loop-rest.rest.now _ c.loop-rest.invariant.read
      c.split_line.result.0.now c.split_line.result.1.now c.split_line.ensures.cut c.read_line.new.triangles.items c.in_ok-place.place c.in_ok-place.ensures.took;
}

pub returns : goal.returns
returns c =
    let short : nat_lt 50000084 (length c.args.bytes.now) ≡ false = le-ltb _ _ (omega arith) in
    rw (
      short,
      is_done c.args.placing.now c.loop-rest.line c.loop-rest.triangles.items c.loop-rest.place c.loop-rest.rest.now _ c.loop-rest.invariant.read
          (nothing c.loop-rest.rest.now c.is_empty.result c.is_empty.ensures c.loop-rest-test.false),
    ) c.read_end.ensures
