use Rattle.std.proofs.Common.{◌≡◌, pos, ◌*ℤ◌, rules, refl, FitsSigned, to_z-of_z}
use mir.Syntax.{w128}
use Rattle.vcm_first_contact.proofs.Passes.{times_fits, times_small}
use Rattle.vcm_first_contact.proofs.entry.product.Goals as goal

pub overflow_mul-result : goal.overflow_mul-result
overflow_mul-result c =
    let fl : FitsSigned w128 c.args.length = search rules in
    let ff : FitsSigned w128 c.from.result = search rules in
    let e : c.from.result ≡ pos c.args.count = search rules in
    rw (to_z-of_z ff, to_z-of_z fl, e) (times_fits c.args.count c.args.length c.requires.count c.requires.length)

pub returns-clause-is : goal.returns-clause-is
returns-clause-is c =
    let fl : FitsSigned w128 c.args.length = search rules in
    let ff : FitsSigned w128 c.from.result = search rules in
    let e : c.from.result ≡ pos c.args.count = search rules in
    let fp : FitsSigned w128 (c.from.result *ℤ c.args.length) = rw e (times_fits c.args.count c.args.length c.requires.count c.requires.length) in
    rw (to_z-of_z ff, to_z-of_z fl, to_z-of_z fp, e) refl

pub returns-clause-small : goal.returns-clause-small
returns-clause-small c =
    let fl : FitsSigned w128 c.args.length = search rules in
    let ff : FitsSigned w128 c.from.result = search rules in
    let e : c.from.result ≡ pos c.args.count = search rules in
    let fp : FitsSigned w128 (c.from.result *ℤ c.args.length) = rw e (times_fits c.args.count c.args.length c.requires.count c.requires.length) in
    rw (to_z-of_z ff, to_z-of_z fl, to_z-of_z fp, e) (times_small c.args.count c.args.length c.requires.count c.requires.length)
