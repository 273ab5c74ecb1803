-- A worked trace, computed.
use Rattle.std.specs.Prelude.{◌≡◌, refl, ℕ, pos, List, [], ◌∷◌, codes}
use Rattle.std.specs.Fmt.{digits}
use Rattle.vcm_num.specs.declared.number.Kind.TheVariants.{Int}
use Rattle.vcm_spec.specs.declared.expression.Operand.TheVariants.{Integer}
use Rattle.vcm_spec.specs.declared.expression.Item.{Item}
use Rattle.vcm_spec.specs.declared.expression.Item.TheVariants.{Push}
use Rattle.vcm_spec.specs.World.{with_variable}
use Rattle.vcm_spec.specs.Effect.{value_in, effect, carried_out}
use Rattle.vcm_spec.specs.Value.{items_value}
use Rattle.vcm_spec.specs.Control.{is_zero, is_past, with_next_index}
use Rattle.vcm_spec.specs.Samples.Parts.{one_block}
use Rattle.vcm_code.specs.declared.version.Version.TheVariants.{One}
use Rattle.vcm_code.specs.declared.code.Code.{Code}
use Rattle.vcm_spec.specs.declared.simple.Simple.TheVariants.{Text}
use Rattle.vcm_code.specs.declared.op.Op.TheVariants as ops
use Rattle.vcm_report.specs.Printed.{in_a_row}
use Rattle.vcm_trace.specs.Traces.{trace_text}

-- a whole number as an expression
abbrev whole : ℕ → List Item
whole n = Push (Integer (pos n)) ∷ []

-- DO/I,1,2 on line 4, TEXT/OPER,'A,B' on line 5, ENDDO on line 6, ENDFIL on line 7
abbrev looping : Code
looping = record {
  version = One;
  tables = record { variables = record { name = codes "I"; kind = Int; expansion = 0 } ∷ []; features = []; frames = [] };
  statements =
      record { line = 4; op = ops.Do 0 0 (whole 1) (whole 2) (whole 1) 3 } ∷ record { line = 5; op = ops.Plain (Text (codes "A,B")) }
      ∷ record { line = 6; op = ops.EndDo 0 0 1 } ∷ record { line = 7; op = ops.EndFil } ∷ [];
}

-- the trace of its run to its end
pub a_whole_trace : trace_text one_block looping 100 ≡ in_a_row (
    codes "step,statement,line,word,x,y,z,done\n"
    ∷ codes "1,0,4,DO,0.000,0.000,100.000,I=1 next 1\n"
    ∷ codes "2,1,5,TEXT,0.000,0.000,100.000,output 1\n"
    ∷ codes "3,2,6,ENDDO,0.000,0.000,100.000,I=2 next 1\n"
    ∷ codes "4,1,5,TEXT,0.000,0.000,100.000,output 2\n"
    ∷ codes "5,2,6,ENDDO,0.000,0.000,100.000,I=3 next 3\n"
    ∷ codes "6,3,7,ENDFIL,0.000,0.000,100.000,stop ENDED\n"
    ∷ [])
unfolding with_variable value_in items_value is_zero is_past effect carried_out with_next_index digits
a_whole_trace = refl

-- the trace of its first two steps
pub a_trace_cut_short : trace_text one_block looping 2 ≡ in_a_row (
    codes "step,statement,line,word,x,y,z,done\n"
    ∷ codes "1,0,4,DO,0.000,0.000,100.000,I=1 next 1\n"
    ∷ codes "2,1,5,TEXT,0.000,0.000,100.000,output 1\n"
    ∷ codes "2,2,6,,0.000,0.000,100.000,no stop after 2 steps\n"
    ∷ [])
unfolding with_variable value_in items_value is_zero is_past effect carried_out with_next_index digits
a_trace_cut_short = refl
