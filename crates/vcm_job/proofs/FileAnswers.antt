-- Two answers to one program that is built or checked, to one part file, or to one input that is read whole, are one.
use Rattle.std.proofs.Common.{◌≡◌, ℕ, ◌<◌, List, [], length, Option, Some, None, Result, Ok, Err, refl, sym, ap, ◌∙◌, arith}
use Rattle.std.specs.Global.{Vec}
use Rattle.std.specs.Io.KnownBytes.{Appends}
use Rattle.vcm_part.specs.PartFile.{part_of}
use Rattle.vcm_spec.specs.Workpiece.{Workpiece}
use Rattle.vcm_spec.specs.Program.{sizes}
use Rattle.vcm_program.specs.declared.accepted.Noticed.{Noticed}
use Rattle.vcm_tree.specs.Acceptance.{IsAccepted}
use Rattle.vcm_program.specs.Program.{Parsed}
use Rattle.vcm_tree.proofs.AcceptanceLaws.{one_program}
use Rattle.vcm_run.specs.Built.{IsBuilt}
use Rattle.vcm_run.proofs.OneRun.{one_build}
use Rattle.vcm_job.specs.declared.reading.ReadFault.{ReadFault}
use Rattle.vcm_job.specs.declared.reading.ReadFault.TheVariants as reads
use Rattle.vcm_job.specs.Reading.{most_bytes, IsReadFault}
use Rattle.vcm_job.specs.Files.{IsPartIn, IsPartRefusal}
use Rattle.vcm_job.specs.Checks.{count_line, IsChecked}
use Rattle.vcm_lines.specs.Fault.{NoMemoryOr}
use Rattle.vcm_tree.specs.Acceptance.{IsRefused}
use Rattle.vcm_run.specs.Programs.{IsRefusal}
use Rattle.vcm_job.specs.Causes.{Cause, too_long, text_cause, part_cause, refusal_cause, read_cause}
use Rattle.vcm_job.specs.Answers.{IsReadAnswer, image_and_notices, read_told}
use Rattle.vcm_job.specs.Laws.{BuildAnswersAreOne, CheckAnswersAreOne, PartAnswersAreOne, ReadAnswersAreOne}
use Rattle.vcm_job.proofs.Answering.{Tells, one_answer, telling, told_long, written_once, given_once}
use Rattle.vcm_job.proofs.Told.{TextRefused, one_text, never_text, text_told, program_told, PartRefused, one_part, never_part, part_told}

-- ---- images of programs

abbrev pair : List ℕ → List Noticed → List ℕ × List Noticed
pair image notices = (image, notices)

abbrev BuildGives : List ℕ → List ℕ × List Noticed → List ℕ → Type 0
BuildGives text b bytes = IsBuilt text b.0 b.1 × (bytes ≡ [])

module _ (text : List ℕ) where
  one_build_given : (a b : List ℕ × List Noticed) (xs ys : List ℕ) → BuildGives text a xs → BuildGives text b ys → (a ≡ b) × (xs ≡ ys)
  one_build_given a b xs ys h k =
      let same = one_build text a.0 b.0 a.1 b.1 h.0 k.0 in
      let given : pair a.0 a.1 ≡ pair b.0 b.1 = ap (λ x. pair x a.1) same.0 ∙ ap (pair b.0) same.1 in
      (given, h.1 ∙ sym k.1)

  never_build_given : (b : List ℕ × List Noticed) (xs : List ℕ) (c : Cause) → BuildGives text b xs → TextRefused text c → ⊥
  never_build_given b xs c h k = never_text text h.0.parsed c h.0.accepted k

pub build_answers : BuildAnswersAreOne
build_answers text =
    given_once image_and_notices refusal_cause IsRefusal text (BuildGives text) (TextRefused text) (program_told text) (one_build_given text) (one_text text) (never_build_given text)
    (λ b. IsBuilt text b.image.items b.notices.items) (λ b h. (h, refl))

-- ---- checks

-- what a check gives and writes
pub record CheckGives (text : List ℕ) (b : List Noticed) (bytes : List ℕ) : Type 0 where
  pub parsed : Parsed
  pub accepted : IsAccepted text parsed
  pub gives : b ≡ parsed.notices
  pub writes : bytes ≡ count_line (sizes parsed.program)

module _ (text : List ℕ) where
  one_check_given : (a b : List Noticed) (xs ys : List ℕ) → CheckGives text a xs → CheckGives text b ys → (a ≡ b) × (xs ≡ ys)
  one_check_given a b xs ys h k =
      let same : h.parsed ≡ k.parsed = one_program text h.parsed k.parsed h.accepted k.accepted in (
        h.gives ∙ ap (λ (p : Parsed). p.notices) same ∙ sym k.gives,
        h.writes ∙ ap (λ (p : Parsed). count_line (sizes p.program)) same ∙ sym k.writes,
      )

  never_check_given : (b : List Noticed) (xs : List ℕ) (c : Cause) → CheckGives text b xs → TextRefused text c → ⊥
  never_check_given b xs c h k = never_text text h.parsed c h.accepted k

  check_gives : (v : Vec Noticed) (old new : Option (List ℕ)) → IsChecked text v.items old new → (bytes : List ℕ) × (CheckGives text v.items bytes × Appends old new bytes)
  check_gives v old new h =
      (count_line (sizes h.parsed.program), (record { parsed = h.parsed; accepted = h.accepted; gives = h.notices_are; writes = refl }, h.written))

pub check_answers : CheckAnswersAreOne
check_answers text =
    written_once (λ v. v.items) text_cause (λ text f. NoMemoryOr (IsRefused text) f) text (CheckGives text) (TextRefused text) (text_told text) (one_check_given text) (one_text text)
    (never_check_given text) (λ v old new. IsChecked text v.items old new) _ _ (check_gives text)

-- ---- part files

abbrev PartGives : List ℕ → Workpiece → List ℕ → Type 0
PartGives file part bytes = (part_of file ≡ Ok part) × (bytes ≡ [])

module _ (file : List ℕ) where
  one_part_given : (a b : Workpiece) (xs ys : List ℕ) → PartGives file a xs → PartGives file b ys → (a ≡ b) × (xs ≡ ys)
  one_part_given a b xs ys h k = let p = h.0 in let q = k.0 in let same : a ≡ b = cc in (same, h.1 ∙ sym k.1)

  never_part_given : (b : Workpiece) (xs : List ℕ) (c : Cause) → PartGives file b xs → PartRefused file c → ⊥
  never_part_given b xs c h k = never_part file b c h.0 k

pub part_answers : PartAnswersAreOne
part_answers file =
    given_once (λ p. p) part_cause IsPartRefusal file (PartGives file) (PartRefused file) (part_told file) (one_part_given file) (one_part file) (never_part_given file)
    (λ p. IsPartIn file p) (λ p h. (h, refl))

-- ---- inputs read whole

abbrev ReadGives : List ℕ → List ℕ → List ℕ → Type 0
ReadGives input b bytes = (b ≡ input) × (bytes ≡ [])

module _ (input : List ℕ) where
  abbrev ReadTells : Result (List ℕ) Cause → Type 0
  ReadTells x = Tells (ReadGives input) (λ c. ⊥) (most_bytes < length input) x None None

  one_read_given : (a b xs ys : List ℕ) → ReadGives input a xs → ReadGives input b ys → (a ≡ b) × (xs ≡ ys)
  one_read_given a b xs ys h k = (h.0 ∙ sym k.0, h.1 ∙ sym k.1)

  none_refused : (c d : Cause) → ⊥ → ⊥ → c ≡ d
  none_refused c d h k = absurd h

  never_read_given : (b xs : List ℕ) (c : Cause) → ReadGives input b xs → ⊥ → ⊥
  never_read_given b xs c h k = k

  read_refuses : (f : ReadFault) (rest : Option (List ℕ)) → IsReadFault (Some input) rest f → (c : Cause) → read_cause f ≡ Some c → ReadTells (Err c)
  read_refuses reads.NoMemory rest h c e = absurd cc
  read_refuses reads.Device rest h c e = absurd cc
  read_refuses reads.TooLong rest h c e = let is : c ≡ too_long = cc in (told_long (λ c. ⊥) (most_bytes < length input) c h (λ l. is), tt)

  read_tells : (r : Result (Vec ℕ) ReadFault) (rest : Option (List ℕ)) (x : Result (List ℕ) Cause) → IsReadAnswer input r rest → read_told r ≡ Some x → ReadTells x
  read_tells (Ok v) rest x h e =
      let short = h.short in
      let all = ap length h.all in
      telling (λ (v : Vec ℕ). v.items) read_cause ReadTells (Ok v) x ((λ (l : most_bytes < length input). omega arith), ([], ((h.all, refl), tt))) tt e
  read_tells (Err f) rest x h e = telling (λ (v : Vec ℕ). v.items) read_cause ReadTells (Err f) x tt (read_refuses f rest h.fault) e

pub read_answers : ReadAnswersAreOne
read_answers input r s rest left x y h k p q =
    (one_answer (ReadGives input) (λ c. ⊥) (most_bytes < length input) (one_read_given input) (none_refused input) (never_read_given input) x y None None None None
    (read_tells input r rest x h p) (read_tells input s left y k q)).0
