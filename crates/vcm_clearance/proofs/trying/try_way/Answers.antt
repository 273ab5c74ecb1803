use Rattle.std.proofs.Common.{◌≡◌, Some, [], ◌∷◌, ◌++◌, slice_get, refl, sym, ap, ◌∙◌}
use Rattle.std.proofs.lemmas.Option.{slice_get-get_or, slice_get_read}
use Rattle.std.proofs.lemmas.Result.{err_from_is_err_and}
use Rattle.vcm_clearance.proofs.Sizes.{box_at}
use Rattle.vcm_clearance.specs.inner.Here.{here_text}
use Rattle.vcm_clearance.proofs.Keeping.{kept_next}
use Rattle.vcm_clearance.proofs.Tried.{to_body, of_body, told_of_body, room_before, next, cut, ended}
use Rattle.vcm_clearance.proofs.trying.try_way.Goals as goal

pub next_room-room-requires : goal.next_room-room-requires
next_room-room-requires g c =
    let boxes = c.args.boxes.now in
    let b = c.index-boxes-index.result in
    let n = c.loop-index.index in
    let at : slice_get boxes n ≡ Some b = slice_get-get_or boxes n _ c.loop-index-test.true ∙ ap Some (sym c.index-boxes-index.is) in
    rw c.from_ref-body.ensures.value (box_at boxes c.requires n b at, tt)

pub told_on-told-requires : goal.told_on-told-requires
told_on-told-requires g c =
    let boxes = c.args.boxes.now in
    let b = c.index-boxes-index.result in
    let n = c.loop-index.index in
    let at : slice_get boxes n ≡ Some b = slice_get-get_or boxes n _ c.loop-index-test.true ∙ ap Some (sym c.index-boxes-index.is) in
    rw c.from_ref-body.ensures.value (box_at boxes c.requires n b at, tt)

pub returns-in_err-write_contact-clause-err : goal.returns-in_err-write_contact-clause-err
returns-in_err-write_contact-clause-err g c =
    let q = err_from_is_err_and c.from_residual.result c.from_residual.ensures.1 in
    let blocks = c.args.blocks.now.blocks in
    let boxes = c.args.boxes.now in
    let b = c.index-boxes-index.result in
    let n = c.loop-index.index in
    let at : slice_get boxes n ≡ Some b = slice_get-get_or boxes n _ c.loop-index-test.true ∙ ap Some (sym c.index-boxes-index.is) in
    rw q.1 (λ ws p placed rooms.
    let so_far = c.loop-index.invariant ws p placed rooms in
    let tried = so_far.0 in
    let backtrace = here_text c.args.here.now in
    let there = c.in-Some.ensures.lookup in
    let read = slice_get_read c.deref.result.now _ n c.in-Some.room.now refl there.3.0 there.1 in
    let stands : slice_get c.loop-index.rooms.items n ≡ Some c.in-Some.room.now = (rw c.deref.ensures.value at read) in
    let before = room_before backtrace blocks boxes c.args.is_first ws p n c.loop-index.rooms.items _ _ tried b at c.in-Some.room.now stands in
    let e = c.from_ref-body.ensures.value in
    let own = c.next_room-room.ensures ws p placed (to_body blocks _ b.block e ws c.in-Some.room.now before) in
    let told = told_of_body blocks _ b.block e c.args.is_first p c.told_on-told.result (c.told_on-told.ensures ws p [] placed own) in
    cut backtrace blocks boxes c.args.is_first ws p n c.loop-index.rooms.items _ _ tried b at _ (rw (c.as_bytes.ensures.is, told) at c.in_err-write_contact.ensures))

pub loop-index-preserved : goal.loop-index-preserved
loop-index-preserved g c ws p placed rooms =
    let blocks = c.args.blocks.now.blocks in
    let boxes = c.args.boxes.now in
    let b = c.index-boxes-index.result in
    let n = c.loop-index.index in
    let at : slice_get boxes n ≡ Some b = slice_get-get_or boxes n _ c.loop-index-test.true ∙ ap Some (sym c.index-boxes-index.is) in
    let so_far = c.loop-index.invariant ws p placed rooms in
    let tried = so_far.0 in
    let backtrace = here_text c.args.here.now in
    let there = c.in-Some.ensures.lookup in
    let read = slice_get_read c.deref.result.now _ n c.in-Some.room.now refl there.3.0 there.1 in
    let stands : slice_get c.loop-index.rooms.items n ≡ Some c.in-Some.room.now = (rw c.deref.ensures.value at read) in
    let before = room_before backtrace blocks boxes c.args.is_first ws p n c.loop-index.rooms.items _ _ tried b at c.in-Some.room.now stands in
    let e = c.from_ref-body.ensures.value in
    let own = c.next_room-room.ensures ws p placed (to_body blocks _ b.block e ws c.in-Some.room.now before) in
    let told = told_of_body blocks _ b.block e c.args.is_first p c.told_on-told.result (c.told_on-told.ensures ws p [] placed own) in
    let now = of_body blocks _ b.block e (ws ++ p ∷ []) c.next_room-room.result own in (
      next backtrace blocks boxes c.args.is_first ws p n c.loop-index.rooms.items _ _ tried b at c.next_room-room.result now _ (rw (c.as_bytes.ensures.is, told) at c.in_ok-write_contact.ensures),
      rw c.keep_if.ensures (kept_next (b.block ∷ []) blocks (box_at boxes c.requires n b at, tt) c.bounds-bounds.ensures.valid.each ws p c.args.here.now placed n c.loop-index.rooms.items c.loop-index.kept.items
          c.in-Some.room.now c.next_room-room.result stands before now c.args.rooms.now.items c.args.kept.now.items so_far.1),
    )

pub returns-clause-ok : goal.returns-clause-ok
returns-clause-ok g c ws p placed rooms =
    let so_far = c.loop-index.invariant ws p placed rooms in
    let all = ended (here_text c.args.here.now) c.args.blocks.now.blocks c.args.boxes.now c.args.is_first ws p c.loop-index.index c.loop-index.rooms.items _ _ so_far.0 c.loop-index-test.false in
    (all.0, all.1, so_far.1)
