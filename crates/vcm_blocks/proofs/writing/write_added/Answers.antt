use Rattle.std.specs.String.{string_bytes}
use Rattle.vcm_blocks.proofs.Joins.{adds_from}
use Rattle.vcm_blocks.proofs.writing.write_added.Goals as goal

pub returns : goal.returns
returns g c = adds_from (λ w. string_bytes w.text) _ _ _ _ _ c.write_found.result c.deref-2.ensures.value c.in_ok-found.ensures c.write_found.ensures
