use Rattle.vcm_carried.proofs.fraction.Stretch.common.Goals as goal

pub returns : goal.returns
returns c a b =
    let l = c.later.ensures a b in
    let e = c.earlier.ensures a b in (
      λ w. (record { after = (l.0 w.after).0; before = (e.0 w.before).0 }, record { after = (l.0 w.after).1; before = (e.0 w.before).1 }),
      λ w. record { after = l.1 (w.0.after, w.1.after); before = e.1 (w.0.before, w.1.before) },
    )
