-- A run has one way.
use Rattle.std.proofs.Common.{◌≡◌, sym, ap, ◌∙◌}
use Rattle.vcm_spec.specs.Setup.{Tables}
use Rattle.vcm_spec.specs.World.{World}
use Rattle.vcm_machine.specs.declared.ran.Ran.{Ran}
use Rattle.vcm_machine.specs.Running.{started}
use Rattle.vcm_machine.proofs.LawLemmas.{one_run}
use Rattle.vcm_state.specs.Held.{Held}
use Rattle.vcm_way.specs.Following.{way_after}
use Rattle.vcm_way.specs.Laws.{WaysAreOne}

abbrev held : Tables → World → Held
held tables state = record { tables = tables; state = state }

one_held : (h k : Held) → h.tables ≡ k.tables → h.state ≡ k.state → h ≡ k
one_held h k tables state = ap (λ x. held x h.state) tables ∙ ap (held k.tables) state

pub one_way : WaysAreOne
one_way part c n world other x y way more h k p q =
    let same = one_run n (started part c) h.new k.new x y h.has_run k.has_run p q in (
      one_held world other (h.tables ∙ sym k.tables) (h.state ∙ ap (λ m. m.state.world) same.0 ∙ sym k.state),
      same.1,
      h.kept ∙ ap (λ (r : Ran). way_after part c r.done) same.1 ∙ sym k.kept,
    )
