-- What is built of the statements that a text reads as is built of the text.
use Rattle.std.proofs.Common.{ℕ, List}
use Rattle.vcm_forms.specs.declared.statement.Statement.{Statement}
use Rattle.vcm_program.specs.declared.accepted.Noticed.{Noticed}
use Rattle.vcm_tree.specs.Acceptance.{ReadsAs}
use Rattle.vcm_tree.proofs.Accepting.{text_refused}
use Rattle.vcm_run.specs.declared.run.Refusal.{Refusal}
use Rattle.vcm_run.specs.declared.run.Refusal.TheVariants.{Source, Part, NoMemory}
use Rattle.vcm_run.specs.Programs.{IsRefusal, IsRefusalFrom}
use Rattle.vcm_run.specs.Built.{IsBuilt, IsBuiltFrom}

pub built_text : (text : List ℕ) (ss : List Statement) (bytes : List ℕ) (notices : List Noticed) → ReadsAs text ss → IsBuiltFrom ss bytes notices
    → IsBuilt text bytes notices
built_text text ss bytes notices read b = record {
  parsed = b.parsed;
  accepted = record { statements = ss; read = read; accepted = b.accepted };
  image = b.image;
  notices_are = b.notices_are;
}

pub refused_text : (text : List ℕ) (ss : List Statement) (r : Refusal) → ReadsAs text ss → IsRefusalFrom ss r → IsRefusal text r
refused_text text ss (Source f) read h = text_refused text ss f read h
refused_text text ss (Part f) read h = h
refused_text text ss NoMemory read h = (h.0, record { statements = ss; read = read; accepted = h.1 })
