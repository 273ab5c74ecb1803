use Rattle.vcm_keys.proofs.Members.{first_entry}
use Rattle.vcm_keys.proofs.statement.first_member.Goals as goal

pub returns-in-Some : goal.returns-in-Some
returns-in-Some c = rw c.as_bytes.ensures.value (first_entry c.in-Some.key.now c.in-Some.value.now _ c.in-Some.ensures.first)
