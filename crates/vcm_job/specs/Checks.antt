-- What the check of a program answers.
use Rattle.std.specs.Prelude.{◌≡◌, ℕ, List, [], ◌∷◌, Option, IfSome, decimal, codes, flat_map}
use Rattle.std.specs.Io.KnownBytes.{Appends}
use Rattle.vcm_num.specs.Written.{AppendsFront}
use Rattle.vcm_lines.specs.declared.fault.SourceFault.{SourceFault}
use Rattle.vcm_lines.specs.Fault.{NoMemoryOr}
use Rattle.vcm_spec.specs.Program.{sizes}
use Rattle.vcm_program.specs.declared.accepted.Noticed.{Noticed}
use Rattle.vcm_tree.specs.Acceptance.{IsAccepted, IsRefused}
use Rattle.vcm_program.specs.Program.{Parsed}
use Rattle.vcm_job.specs.declared.fault.Fault.{Fault}
use Rattle.vcm_job.specs.Unanswered.{IsUnwritten, NeverHalts}

-- the line that tells how many statements a program has
abbrev pub count_line : ℕ → List ℕ
count_line count = flat_map (λ t. t) (codes "ok " ∷ decimal count ∷ codes " statements\n" ∷ [])

-- the text is accepted as a program with these notices, and its number of statements was written, and nothing else
pub record IsChecked (text : List ℕ) (notices : List Noticed) (old new : Option (List ℕ)) : Type 0 where
  pub parsed : Parsed
  pub accepted : IsAccepted text parsed
  pub notices_are : notices ≡ parsed.notices
  pub written : Appends old new (count_line (sizes parsed.program))

-- the text is accepted, and a front of its number of statements was written, and not all of it
pub record IsCheckCutOff (text : List ℕ) (old new : Option (List ℕ)) : Type 0 where
  pub parsed : Parsed
  pub accepted : IsAccepted text parsed
  pub front : AppendsFront old new (count_line (sizes parsed.program))

-- why no whole line was written: a failed write cut it off; or memory, the reader, its length or a refusal, and nothing was written
abbrev pub IsNotChecked : Option (List ℕ) → Option (List ℕ) → Fault SourceFault → Option (List ℕ) → Option (List ℕ) → Type 0
IsNotChecked before after f old new =
    IsUnwritten (λ text f. NoMemoryOr (IsRefused text) f) NeverHalts (λ done old new. (done ≡ 0) × IfSome before (λ text. IsCheckCutOff text old new))
    before after f old new
