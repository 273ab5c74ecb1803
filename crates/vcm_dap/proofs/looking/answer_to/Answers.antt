use Rattle.std.proofs.Common.{◌≡◌, arith}
use Rattle.vcm_console.specs.Parsing.{steps_of}
use Rattle.vcm_dap.proofs.Looks.{look_keeps, look_stays}
use Rattle.vcm_dap.proofs.looking.answer_to.Goals as goal

pub command-requires : goal.command-requires
command-requires g c = let e : steps_of c.args.command.now ≡ 0 = look_stays c.args.command.now c.requires.looks in omega (arith, e, c.requires.count)

pub returns-clause-same : goal.returns-clause-same
returns-clause-same g c =
    look_keeps c.args.session.now c.command.new.self c.args.command.now c.command.result c.requires.looks c.command.ensures.carried
