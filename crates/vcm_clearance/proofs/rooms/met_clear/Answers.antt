use Rattle.vcm_clearance.proofs.Trials.{clear_start, some_width, trial_first, trial_narrow}
use Rattle.vcm_clearance.proofs.rooms.met_clear.Goals as goal

pub narrowed-clear-requires-clause-some : goal.narrowed-clear-requires-clause-some
narrowed-clear-requires-clause-some c =
    let blocks = c.args.blocks.now.blocks in
    let body = c.args.body.now in
    let all = c.bounds-bounds.ensures.valid.each in
    some_width blocks body c.requires.body all c.args.gone.now c.args.by c.args.met
    (clear_start blocks body c.requires.body all c.args.gone.now c.contact_on.result c.in-None.is c.contact_on.ensures) c.requires.met

pub narrowed-clear-requires-clause-clear : goal.narrowed-clear-requires-clause-clear
narrowed-clear-requires-clause-clear c =
    clear_start c.args.blocks.now.blocks c.args.body.now c.requires.body c.bounds-bounds.ensures.valid.each c.args.gone.now c.contact_on.result c.in-None.is c.contact_on.ensures

pub returns-in-Some : goal.returns-in-Some
returns-in-Some c narrow ws p placed room =
    trial_first c.args.blocks.now.blocks c.args.body.now c.requires.body c.bounds-bounds.ensures.valid.each c.args.gone.now c.args.place ws p placed
    c.contact_on.result c.in-Some.field-0 c.in-Some.is
    c.contact_on.ensures c.args.by narrow room

pub returns-in-None : goal.returns-in-None
returns-in-None c narrow ws p placed room =
    trial_narrow c.args.blocks.now.blocks c.args.body.now c.requires.body c.bounds-bounds.ensures.valid.each c.args.gone.now c.args.place ws p placed c.args.by c.narrowed-clear.result.0 narrow
    c.narrowed-clear.result.1 c.told.result c.narrowed-clear.ensures.less c.narrowed-clear.ensures.clear c.narrowed-clear.ensures.met (c.told.ensures p placed) room
