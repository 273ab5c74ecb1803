use Rattle.std.proofs.Common.{◌≡◌, ◌∙◌, ◌<◌, [], length, refl, ap, arith}
use Rattle.std.specs.Prelude.{unwrap_or, slice_get}
use Rattle.std.proofs.lemmas.Result.{err_from_is_err_and}
use Rattle.vcm_state.proofs.Moves.{text_full, text_goes}
use Rattle.vcm_state.proofs.Changes.{unprinted, printed}
use Rattle.vcm_state.proofs.world.World.output.Goals as goal

pub returns-in-Err : goal.returns-in-Err
returns-in-Err c part = ((unprinted _ _ _ _ _ c.in-Err.ensures, refl), (refl, refl))

pub returns-then-len-ge-MOST_LINES : goal.returns-then-len-ge-MOST_LINES
returns-then-len-ge-MOST_LINES c part =
    let n : ¬ (length c.self.inside.lines < 100000) = (λ h. omega (arith, c.len.ensures, c.if-len-ge-MOST_LINES.true)) in
    let hf = rw (← c.self.view_is) at c.in-Ok.ensures in
    rw (← c.self.view_is) ((printed _ _ _ _ _ hf ∙ text_full _ _ _ n, refl), (refl, refl))

pub returns-in_err-line : goal.returns-in_err-line
returns-in_err-line c part =
    let n : length c.self.inside.lines < 100000 = omega (arith, c.len.ensures, c.if-len-ge-MOST_LINES.false) in
    let hf = rw (← c.self.view_is) at c.in-Ok.ensures in
    let p = err_from_is_err_and c.from_residual.result c.from_residual.ensures.1 in
    rw (p.1, p.2, ← c.self.view_is) (((_, printed _ _ _ _ _ hf ∙ text_goes _ _ _ n), refl), (refl, refl))

pub returns-in_err-push : goal.returns-in_err-push
returns-in_err-push c part =
    let n : length c.self.inside.lines < 100000 = omega (arith, c.len.ensures, c.if-len-ge-MOST_LINES.false) in
    let hf = rw (← c.self.view_is) at c.in-Ok.ensures in
    let p = err_from_is_err_and c.from_residual-in_err-push.result c.from_residual-in_err-push.ensures.1 in
    rw (p.1, p.2, ← c.self.view_is, c.in_err-push.ensures.err) (((_, printed _ _ _ _ _ hf ∙ text_goes _ _ _ n), refl), (refl, refl))

pub returns : goal.returns
returns c part =
    let n : length c.self.inside.lines < 100000 = omega (arith, c.len.ensures, c.if-len-ge-MOST_LINES.false) in
    let hf = rw (← c.self.view_is) at c.in-Ok.ensures in
    let name : c.as_bytes.result.now ≡ unwrap_or (slice_get c.self.inside.tables.value.features c.args.feature) [] =
    c.as_bytes.ensures.is ∙ c.name_at-name.ensures ∙ ap (λ fs. unwrap_or (slice_get fs c.args.feature) []) c.features.ensures
    ∙ ap (λ t. unwrap_or (slice_get t.features c.args.feature) []) c.deref.ensures in
    rw (← c.self.view_is, c.in_ok-push.ensures.ok, c.as_slice.ensures, c.in_ok-line.ensures, name) (printed _ _ _ _ _ hf ∙ text_goes _ _ _ n, (refl, refl))
