-- What a producer's text says, statement by statement, and which text is refused.
use Rattle.std.specs.Prelude.{ℕ, Bool, true, false, codes, if◌then◌else◌, List, [], ◌∷◌, ◌++◌, map, Option, Some, None, Result, Ok, Err, ◌&&◌}
use Rattle.vcm_lines.specs.declared.fault.FaultCode.{FaultCode}
use Rattle.vcm_lines.specs.declared.fault.SourceFault.{SourceFault}
use Rattle.vcm_lines.specs.declared.logical.Logical.{Logical}
use Rattle.vcm_syntax.specs.Statements.{statement_of}
use Rattle.vcm_forms.specs.declared.statement.Form.{Form}
use Rattle.vcm_forms.specs.declared.statement.Form.TheVariants.{Opening, Measures, Touch}
use Rattle.vcm_forms.specs.declared.statement.Statement.{Statement}
use Rattle.std.specs.List.{list_any}
use Rattle.vcm_heads.specs.declared.rows.Row.{Row}
use Rattle.vcm_heads.specs.declared.rows.Row.TheVariants as row
use Rattle.vcm_heads.specs.Rows.{row_in, words_of, own_behind}
use Rattle.vcm_said.specs.Cases.{is_shaping}
use Rattle.vcm_said.specs.Said.{said}

-- forms as statements of a line
abbrev pub on_line : ℕ → List Form → List Statement
on_line line fs = map (λ f. record { line = line; form = f }) fs

-- what a statement says, where the machine's own statements say nothing
abbrev pub said_unless : (planes own : Bool) → Logical → List Statement
said_unless planes true l = []
said_unless planes false l = on_line l.line (said planes l.line (words_of l))

-- what statements say, one behind the other
abbrev pub said_from : (planes own : Bool) → List Logical → List Statement
said_from planes own [] = []
said_from planes own (l ∷ ls) = said_unless planes own l ++ said_from planes (own_behind own (words_of l)) ls

-- whether a row is that of PTMEAS
abbrev pub is_touch : Row → Bool
is_touch row.Touch = true
is_touch r = false

-- whether words spell a point without a direction
abbrev pub spells_undirected : Result Form FaultCode → Bool
spells_undirected (Ok (Touch p None)) = true
spells_undirected r = false

-- whether a statement is one
abbrev pub is_undirected : Logical → Bool
is_undirected l = is_touch (row_in (words_of l)) && spells_undirected (statement_of (words_of l))

-- whether planes have their place and direction: where points of a text have none of their own
abbrev pub needs_planes : List Logical → Bool
needs_planes ls = list_any is_undirected ls

-- what a text says: it begins as a program does, with lengths in millimetres, whatever it begins with
abbrev pub said_all : List Logical → List Statement
said_all ls = on_line 1 (Opening ∷ Measures ∷ []) ++ said_from (needs_planes ls) false ls

-- the fault of a statement on a line that is none of the language, where it is refused for that
abbrev pub shape_fault : ℕ → Bool → Result Form FaultCode → Option SourceFault
shape_fault line true (Err c) = Some (record { code = c; line = line })
shape_fault line shaping r = None

-- the fault of a statement that shapes the program and is none of the language
abbrev pub refused_at : Logical → Option SourceFault
refused_at l = shape_fault l.line (is_shaping (row_in (words_of l)) (words_of l)) (statement_of (words_of l))

-- a fault that was found, or else what is found behind it
abbrev pub fault_or : Option SourceFault → Option SourceFault → Option SourceFault
fault_or None behind = behind
fault_or (Some f) behind = Some f

-- the first statement that shapes the program and is none of the language
abbrev pub refused_from : Bool → List Logical → Option SourceFault
refused_from own [] = None
refused_from own (l ∷ ls) = fault_or (if own then None else refused_at l) (refused_from (own_behind own (words_of l)) ls)
