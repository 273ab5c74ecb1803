use Rattle.vcm_first_contact.proofs.Firsts.{no_way, none_there, one_there}
use Rattle.vcm_way.specs.Gone.{first_way}
use Rattle.vcm_first_contact.proofs.first.first_here.Goals as goal

pub returns-in-Some-first_on : goal.returns-in-Some-first_on
returns-in-Some-first_on c =
    let part = c.args.blocks.now in
    one_there part.blocks c.args.boxes.now c.args.place c.in-Some.gone (first_way part c.args.marks.now) c.in-Some.ensures c.in-Some-first_on.met c.in-Some-first_on.ensures _ c.told_at.ensures

pub returns-in-None-first_on : goal.returns-in-None-first_on
returns-in-None-first_on c =
    let part = c.args.blocks.now in
    none_there part.blocks c.args.boxes.now c.args.place c.in-Some.gone (first_way part c.args.marks.now) c.in-Some.ensures c.in-None-first_on.ensures

pub returns-in-None : goal.returns-in-None
returns-in-None c =
    let part = c.args.blocks.now in
    no_way part.blocks c.args.boxes.now c.args.place (first_way part c.args.marks.now) c.in-None.ensures
