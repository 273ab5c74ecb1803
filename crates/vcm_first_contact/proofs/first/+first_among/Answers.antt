use Rattle.vcm_first_contact.proofs.Firsts.{first_near, found_now, found_later}
use Rattle.vcm_first_contact.proofs.first.+first_among.Goals as goal

pub first_here-requires-clause-near : goal.first_here-requires-clause-near
first_here-requires-clause-near depth c =
    first_near c.args.blocks.now c.args.boxes.now c.args.place c.args.marks.now _ c.in-Some.behind.now c.in-Some.ensures.cases.0 c.requires.near

pub returns-in-Some-first_here : goal.returns-in-Some-first_here
returns-in-Some-first_here depth c =
    found_now c.args.blocks.now c.args.boxes.now c.args.place c.args.marks.now _ c.in-Some.behind.now c.in-Some.ensures.cases.0 c.in-Some-first_here.found c.in-Some-first_here.ensures

pub returns-in-None-first_here : goal.returns-in-None-first_here
returns-in-None-first_here depth c =
    found_later c.args.blocks.now c.args.boxes.now c.args.place c.args.marks.now _ c.in-Some.behind.now c.in-Some.ensures.cases.0 c.in-None-first_here.ensures c.first_among.result c.first_among.ensures
