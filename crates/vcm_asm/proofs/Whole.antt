-- The statement code of a whole program.
use Rattle.std.proofs.Common.{◌≡◌, ◌≤◌, Bool, true, false, List, length, refl, sym, subst, arith}
use Rattle.vcm_spec.specs.Setup.{Tables, setup_of}
use Rattle.vcm_spec.specs.Program.{Block}
use Rattle.vcm_program.specs.Program.{IsWhole, AreNames as AreFewNames}
use Rattle.vcm_code.specs.declared.code.Code.{Code}
use Rattle.vcm_code.specs.Code.{CodeStatement}
use Rattle.vcm_code.specs.Valid.{IsValid}
use Rattle.vcm_code.specs.declared.version.Version.{Version}
use Rattle.vcm_spec.specs.Table.{if_true}
use Rattle.vcm_code.specs.declared.version.Version.TheVariants.{One, Two}
use Rattle.vcm_code.specs.Ranges.{AllInRange, has_selection, version_for, IsOfVersion, IsInRange}
use Rattle.vcm_asm.specs.inner.Spelled.{BlockKeeps}
use Rattle.vcm_asm.specs.Assembled.{marks, place_in, flat_code}
use Rattle.vcm_asm.specs.Simulation.{IsAssembled}
use Rattle.vcm_asm.proofs.Structured.{structured}
use Rattle.vcm_asm.proofs.Place.{block_length}
use Rattle.vcm_asm.proofs.Follow.{same}
use Rattle.vcm_asm.proofs.ValidCode.{valid}
use Rattle.vcm_asm.proofs.InRange.{block_range}

-- the first version that has some statements has them
of_version : (ss : List CodeStatement) → IsOfVersion (version_for ss) ss
of_version ss = by (has_selection ss) refl
  where
    by : (t : Bool) → has_selection ss ≡ t → IsOfVersion (if_true t Two One) ss
    by true e = tt
    by false e = e

module _ (program : Block) (tables : Tables) (whole : IsWhole program tables) where
  -- the code with these tables and statements, of the first version that has them
  abbrev with_statements : List CodeStatement → Code
  with_statements ss = record { version = version_for ss; tables = tables; statements = ss }

  pub assembled : IsAssembled program tables (with_statements (flat_code program))
  assembled = record {
    follows = λ part n. same (setup_of part tables) program whole.closed (structured program tables whole) n;
    version_is = refl;
    tables_are = refl;
    statements_are = refl;
  }

  pub all_valid : BlockKeeps program → IsValid (with_statements (flat_code program))
  all_valid kept = valid program tables whole kept

  few_statements : length (flat_code program) ≤ 20000
  few_statements = (let l = block_length (place_in (marks program 0)) program 0 0 in let few = whole.few in omega (arith, l, few))

  all_in_range : BlockKeeps program → AllInRange (flat_code program)
  all_in_range kept = block_range tables (place_in (marks program 0)) program 0 0 whole.few whole.fits kept (structured program tables whole).deep

  -- where there are few variables, features and frames
  pub in_range : length tables.variables ≤ 4096 → AreFewNames tables.features → AreFewNames tables.frames → BlockKeeps program → IsInRange (with_statements (flat_code program))
  in_range few features frames kept = record {
    variables = (few, whole.named);
    features = (features.few, features.named);
    frames = (frames.few, frames.named);
    statements = (few_statements, all_in_range kept);
    version = of_version (flat_code program);
  }

  -- what holds of that code holds of one with these tables and statements, where they are the same and its version is theirs
  pub with_code : (P : Code → Type 0) (v : Version) (ts : Tables) (ss : List CodeStatement) → v ≡ version_for ss → ts ≡ tables → ss ≡ flat_code program
      → P (with_statements (flat_code program)) → P (record { version = v; tables = ts; statements = ss })
  with_code P v ts ss d e f h =
      subst (λ x. P (record { version = x; tables = ts; statements = ss })) (sym d)
      (subst (λ x. P (record { version = version_for ss; tables = x; statements = ss })) (sym e) (subst (λ x. P (with_statements x)) (sym f) h))
