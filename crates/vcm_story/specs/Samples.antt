-- A worked story, computed.
use Rattle.std.specs.Prelude.{◌≡◌, refl, false, [], ◌∷◌, codes}
use Rattle.std.specs.Fmt.{digits}
use Rattle.vcm_spec.specs.declared.simple.Simple.TheVariants.{Text}
use Rattle.vcm_spec.specs.World.{with_variable}
use Rattle.vcm_spec.specs.Effect.{value_in, effect, carried_out}
use Rattle.vcm_spec.specs.Value.{items_value}
use Rattle.vcm_spec.specs.Control.{is_zero, is_past, with_next_index}
use Rattle.vcm_spec.specs.Samples.Parts.{one_block}
use Rattle.vcm_code.specs.declared.version.Version.TheVariants.{One}
use Rattle.vcm_code.specs.declared.code.Code.{Code}
use Rattle.vcm_code.specs.declared.op.Op.TheVariants as ops
use Rattle.vcm_report.specs.Printed.{in_a_row}
use Rattle.vcm_story.specs.Stories.{story_text}

-- TEXT/OPER,'<%' on line 3, ENDFIL on line 4
abbrev telling : Code
telling = record {
  version = One;
  tables = record { variables = []; features = []; frames = [] };
  statements = record { line = 3; op = ops.Plain (Text (codes "<%")) } ∷ record { line = 4; op = ops.EndFil } ∷ [];
}

-- its story, which shows the text 'A<' and nothing else
pub a_whole_story : story_text one_block telling (codes "A<\n") false [] 0 100 ≡ in_a_row (
    codes "vcm-view 1\n"
    ∷ codes "P -500000 -500000 -500000 500000 500000 500000\n"
    ∷ codes "H 0 0 100000\n"
    ∷ codes "T 0\n"
    ∷ codes "B 10000 10000 0 30000 30000 20000\n"
    ∷ codes "L A%3C\n"
    ∷ codes "C 3 TEXT\n"
    ∷ codes "C 4 ENDFIL\n"
    ∷ codes "S APPRCH 2.000\n"
    ∷ codes "S RETRCT 2.000\n"
    ∷ codes "S SEARCH 2.000\n"
    ∷ codes "S DEPTH 0.000\n"
    ∷ codes "D 0 0 0 +X +Y +Z\n"
    ∷ codes "K 0 0 0 100000\n"
    ∷ codes "1,0,3,TEXT,0.000,0.000,100.000,output 1\n"
    ∷ codes "o %3C%25\n"
    ∷ codes "2,1,4,ENDFIL,0.000,0.000,100.000,stop ENDED\n"
    ∷ [])
unfolding with_variable value_in items_value is_zero is_past effect carried_out with_next_index digits
a_whole_story = refl
