-- Images that are read from the front, one statement after the other.
use Rattle.std.specs.Prelude.{ℕ, ◌-◌, List, [], ◌∷◌, ◌++◌, Result, Ok}
use Rattle.vcm_spec.specs.Results.{◌>>=◌}
use Rattle.vcm_spec.specs.Setup.{Tables}
use Rattle.vcm_code.specs.Code.{CodeStatement}
use Rattle.vcm_code.specs.declared.code.Code.{Code}
use Rattle.vcm_fields.specs.declared.fault.ImageFault.{ImageFault}
use Rattle.vcm_fields.specs.Readers.{Reader, From, both, via, times, entry_at, name_at, line_at}
use Rattle.vcm_image.specs.declared.counts.Counts.{Counts}
use Rattle.vcm_image.specs.Whole.{header_at, ended}

-- an image of which the names are read, and of whose statements some are
pub record Opened : Type 0 where
  -- what is read of it
  pub code : Code
  -- how many statements are left
  pub left : ℕ
  -- the bytes behind what is read
  pub rest : List ℕ

-- so many variables, features and frames, one behind the other
abbrev pub names_at : Counts → Reader Tables
names_at n =
    via (λ t. record { variables = t.0; features = t.1.0; frames = t.1.1 })
    (both (times entry_at n.variables) (both (times name_at n.features) (times name_at n.frames)))

-- reading the header and the names
unfoldable pub begun_at : List ℕ → Result Opened ImageFault
begun_at bytes =
    header_at bytes >>= λ h.
    names_at h.0 h.1 >>= λ t.
    Ok (record { code = record { version = h.0.version; tables = t.0; statements = [] }; left = h.0.statements; rest = t.1 })

-- a code with these statements behind its own
abbrev pub with_statements : Code → List CodeStatement → Code
with_statements c ss = record { version = c.version; tables = c.tables; statements = c.statements ++ ss }

-- reading one statement more
unfoldable pub next_at : From Opened ImageFault CodeStatement
next_at o =
    line_at o.code.version o.rest >>= λ x.
    Ok (x.0, record { code = with_statements o.code (x.0 ∷ []); left = o.left - 1; rest = x.1 })

-- reading all that is left: the code of the image, or the first refusal
unfoldable pub rest_at : Opened → Result Code ImageFault
rest_at o = times (line_at o.code.version) o.left o.rest >>= λ ss. ended (with_statements o.code ss.0, ss.1)
