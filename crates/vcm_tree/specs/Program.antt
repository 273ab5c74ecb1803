-- Which program the statements of a text are, with the tables of its names, and its notices.
use Rattle.std.specs.Prelude.{◌≡◌, List, [], ◌∷◌}
use Rattle.std.specs.List.{flat_map}
use Rattle.vcm_spec.specs.Setup.{Tables}
use Rattle.vcm_forms.specs.declared.statement.Form.TheVariants.{Ignored}
use Rattle.vcm_forms.specs.declared.statement.Statement.{Statement}
use Rattle.vcm_macro.specs.declared.placed.Placed.{Placed}
use Rattle.vcm_program.specs.declared.accepted.Noticed.{Noticed}
use Rattle.vcm_program.specs.Program.{Parsed}
use Rattle.vcm_tree.specs.Sentences.{sentences}
use Rattle.vcm_tree.specs.Blocks.{Behind}
use Rattle.vcm_tree.specs.Resolving.{start, behind_all, sentences_from}

-- the tables of the names that statements leave behind them: variables in the order of their declarations, features in that of their first
-- FEAT, frames in that of their first TRANS or ROTATE
abbrev pub tables_of : Behind → Tables
tables_of b = record { variables = b.variables; features = b.measured.features; frames = b.measured.frames }

-- the notice of a statement that has no effect
abbrev pub notice_of : Statement → List Noticed
notice_of s = elim s.form [ Ignored w ↦ record { line = s.line; word = w } ∷ [] | _ ↦ [] ]

-- the notices of the statements, in writing
abbrev pub notices_of : List Statement → List Noticed
notices_of ss = flat_map notice_of ss

-- the expanded statements are this program: written down it is their counted ones, its tables are those of their names, and its notices
-- those of the statements as they are written
pub record IsParsed (ss : List Statement) (all : List Placed) (p : Parsed) : Type 0 where
  pub program : sentences p.program ≡ sentences_from start all
  pub tables : p.tables ≡ tables_of (behind_all start all)
  pub notices : p.notices ≡ notices_of ss
