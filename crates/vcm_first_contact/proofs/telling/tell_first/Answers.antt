use Rattle.std.proofs.Common.{List, ℕ, Bor, refl}
use Rattle.std.specs.Prelude.{option_map}
use Rattle.vcm_num.specs.Written.{AppendsFront}
use Rattle.vcm_first_contact.specs.Telling.{told_of}
use Rattle.vcm_first_contact.proofs.Behind.{told_as}
use Rattle.vcm_first_contact.proofs.telling.tell_first.Goals as goal

pub returns-clause-fault : goal.returns-clause-fault
returns-clause-fault g c =
    let w = c.in-Ok-watched_for.watched in
    let first = c.in-Ok.first in (
      told_of first w.world.state.stop,
      told_as c.args.names.now (option_map (λ (t : Bor (List ℕ)). t.now) c.args.text) c.args.blocks.now c.args.boxes.now c.args.loaded.now c.args.steps first c.in-Ok.ensures.first
          c.steps_up_to.result c.steps_up_to.ensures w c.in-Ok-watched_for.ensures.watched c.in-Ok-source_in.source c.in-Ok-source_in.ensures (told_of first w.world.state.stop) refl
          (AppendsFront (g.W.Write.contents c.args.writer.now) (g.W.Write.contents c.tell.new.writer)) c.in-Err-tell.ensures,
    )
