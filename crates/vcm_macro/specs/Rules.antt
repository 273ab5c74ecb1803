-- The rules of the phase of macros.
use Rattle.std.specs.Prelude.{ℕ, ◌+◌, Bool, true, false, not, ◌&&◌, ◌||◌, nat_eq, nat_lt, nat_le, if◌then◌else◌, List, [], ◌∷◌, ◌++◌, drop}
use Rattle.std.specs.Prelude.{length, map, Contains, Option, Some, None}
use Rattle.std.specs.List.{list_any}
use Rattle.vcm_lines.specs.declared.fault.FaultCode.{FaultCode}
use Rattle.vcm_lines.specs.declared.fault.FaultCode.TheVariants.{TooDeep, DuplicateName, UnknownName, Unbalanced, BadArguments, TooLong}
use Rattle.vcm_forms.specs.declared.statement.Parameter.{Parameter}
use Rattle.vcm_forms.specs.declared.statement.Argument.{Argument}
use Rattle.vcm_forms.specs.declared.statement.Form.{Form}
use Rattle.vcm_forms.specs.declared.statement.Form.TheVariants.{Declaration, Assignment, Test, Otherwise, TestEnd, Repeat, RepeatEnd}
use Rattle.vcm_forms.specs.declared.statement.Form.TheVariants.{Measure, MeasureEnd, Query, Macro}
use Rattle.vcm_forms.specs.declared.statement.Form.TheVariants.{MacroEnd, Choose, Case, Default, CaseEnd, ChooseEnd}
use Rattle.vcm_forms.specs.declared.statement.Statement.{Statement}
use Rattle.vcm_macro.specs.declared.placed.Placed.{Placed}
use Rattle.vcm_macro.specs.declared.fitting.Wanted.{Wanted}
use Rattle.vcm_macro.specs.declared.fitting.Wanted.TheVariants.{Name as AName, Variable as AVariable, Value as AValue}
use Rattle.vcm_macro.specs.declared.blocks.Opener.{Opener}
use Rattle.vcm_macro.specs.declared.blocks.Opener.TheVariants.{If, Else, Do, Meas, Select, Last, InCase}
use Rattle.vcm_substitution.specs.Substitution.{is_same, variable_of}
use Rattle.vcm_substitution.specs.Sizes.{is_small_option, are_small}
use Rattle.vcm_substitution.specs.Kept.{is_kept}
use Rattle.vcm_macro.specs.Walk.{Defined, Visit, Opens, Inside, Stands, Misplaced, Calls, is_in_block}
use Rattle.vcm_num.specs.declared.limits.TheConstants.{DEEPEST_CALLS, MOST_PARAMETERS, MOST_STATEMENTS}

-- ---- a macro is defined once, and so is each of its parameters

-- whether a parameter of these has the name
abbrev pub is_parameter : List Parameter → List ℕ → Bool
is_parameter ps name = list_any (λ p. is_same p.name name) ps

-- whether two of these parameters have one name
abbrev pub has_twins : List Parameter → Bool
has_twins [] = false
has_twins (p ∷ ps) = is_parameter ps p.name || has_twins ps

-- whether MACRO gives a name again, that of a macro above or that of a parameter
abbrev pub is_taken : List Defined → Form → Bool
is_taken ms (Macro name ps) = list_any (λ m. is_same m.name name) ms || has_twins ps
is_taken ms form = false

-- whether a declaration takes the name of a parameter
abbrev pub redeclares : List Parameter → Form → Bool
redeclares ps (Declaration kind names) = list_any (is_parameter ps) names
redeclares ps form = false

-- ---- the blocks of a body

-- the blocks that are open behind a statement, the innermost first
abbrev pub blocks_behind : List Opener → Form → List Opener
blocks_behind os (Test s) = If ∷ os
blocks_behind os Otherwise = Else ∷ drop 1 os
blocks_behind os TestEnd = drop 1 os
blocks_behind os (Repeat r) = Do ∷ os
blocks_behind os RepeatEnd = drop 1 os
blocks_behind os (Measure n) = Meas ∷ os
blocks_behind os MeasureEnd = drop 1 os
blocks_behind os (Choose s) = Select ∷ os
blocks_behind os (Case z) = InCase ∷ os
blocks_behind os Default = InCase ∷ Last ∷ drop 1 os
blocks_behind os CaseEnd = drop 1 os
blocks_behind os ChooseEnd = drop 1 os
blocks_behind os form = os

-- the blocks that are open behind statements
abbrev pub blocks_after : List Opener → List Statement → List Opener
blocks_after os [] = os
blocks_after os (s ∷ ss) = blocks_after (blocks_behind os s.form) ss

-- whether ELSE goes on with the innermost block
abbrev pub takes_else : List Opener → Bool
takes_else (If ∷ os) = true
takes_else os = false

-- whether ENDIF ends the innermost block
abbrev pub takes_endif : List Opener → Bool
takes_endif (If ∷ os) = true
takes_endif (Else ∷ os) = true
takes_endif os = false

-- whether ENDDO ends the innermost block
abbrev pub takes_enddo : List Opener → Bool
takes_enddo (Do ∷ os) = true
takes_enddo os = false

-- whether ENDMES ends the innermost block
abbrev pub takes_endmes : List Opener → Bool
takes_endmes (Meas ∷ os) = true
takes_endmes os = false

-- whether CASE or DFTCAS begins a block of the innermost SELECT, which has no DFTCAS above
abbrev pub takes_case : List Opener → Bool
takes_case (Select ∷ os) = true
takes_case os = false

-- whether ENDCAS ends the innermost block
abbrev pub takes_endcas : List Opener → Bool
takes_endcas (InCase ∷ os) = true
takes_endcas os = false

-- whether a SELECT is open, and none of its blocks
abbrev pub is_choosing : List Opener → Bool
is_choosing (Select ∷ os) = true
is_choosing (Last ∷ os) = true
is_choosing os = false

-- whether ENDMAC may stand here, where no block is open
abbrev pub takes_endmac : List Opener → Bool
takes_endmac [] = true
takes_endmac (o ∷ os) = false

-- whether a statement begins, goes on with or ends a block that isn't the innermost one, ENDMAC comes before one is ended, or a statement stands
-- in a SELECT outside its blocks
abbrev pub unbalances : List Opener → Form → Bool
unbalances os Otherwise = not (takes_else os)
unbalances os TestEnd = not (takes_endif os)
unbalances os RepeatEnd = not (takes_enddo os)
unbalances os MeasureEnd = not (takes_endmes os)
unbalances os MacroEnd = not (takes_endmac os)
unbalances os (Case z) = not (takes_case os)
unbalances os Default = not (takes_case os)
unbalances os CaseEnd = not (takes_endcas os)
unbalances os ChooseEnd = not (is_choosing os)
unbalances os form = is_choosing os && is_in_block form

-- ---- arguments

-- whether a statement assigns the variable of this name
abbrev pub assigns : List ℕ → Form → Bool
assigns name (Assignment t s) = is_same t.name name
assigns name (Query t which n word) = is_same t.name name
assigns name (Repeat r) = is_same r.variable.name name
assigns name form = false

-- whether there is something
abbrev pub is_there : {A : Type 0} → Option A → Bool
is_there None = false
is_there (Some x) = true

-- what has to be given for a parameter of this body: a name for a quoted one, a variable for a plain one that the body assigns, and an
-- expression for any other
abbrev pub wanted_by : List Statement → Parameter → Wanted
wanted_by body p = if p.quoted then AName else if list_any (λ s. assigns p.name s.form) body then AVariable else AValue

-- whether an argument is what is wanted in its place
abbrev pub suits : Wanted → Argument → Bool
suits AName a = is_there a.name
suits AVariable a = is_there (variable_of a.value)
suits AValue a = is_there a.value

-- whether a macro may be called with so many arguments: it has as many parameters, and 16 at most
abbrev pub takes : Defined → ℕ → Bool
takes m n = nat_le (length m.parameters) MOST_PARAMETERS && nat_eq (length m.parameters) n

-- ---- sizes

-- one where it is so
abbrev pub one_if : Bool → ℕ
one_if true = 1
one_if false = 0

-- whether a place counts: a statement that does, and each CALL that is carried out
abbrev pub weight : Visit → ℕ
weight (Stands e s) = one_if (is_kept s.form)
weight (Calls line depth m args) = 1
weight p = 0

-- what is left of a place in the expanded program
abbrev pub kept_of : Visit → List Placed
kept_of (Stands e s) = if is_kept s.form then record { statement = s; expansion = e } ∷ [] else []
kept_of p = []

-- the expanded program: the statements that count, each with its expansion
abbrev pub kept : List Visit → List Placed
kept [] = []
kept (p ∷ ps) = kept_of p ++ kept ps

-- how much places count
abbrev pub weigh : List Visit → ℕ
weigh [] = 0
weigh (p ∷ ps) = weight p + weigh ps

-- whether one more counted place may stand behind so many
abbrev pub is_full : ℕ → Bool
is_full n = nat_le MOST_STATEMENTS n

-- ---- the phase

-- this code where it is so
abbrev pub code_if : Bool → FaultCode → List FaultCode
code_if true code = code ∷ []
code_if false code = []

-- what is wrong with an argument, from the left: its kind, and then its size
abbrev pub argument_codes : Wanted → Argument → List FaultCode
argument_codes w b = code_if (not (suits w b)) BadArguments ++ code_if (not (is_small_option b.value)) TooDeep

-- what is wrong with arguments, one after another
abbrev pub each_argument_codes : List Wanted → List Argument → List FaultCode
each_argument_codes (w ∷ ws) (b ∷ bs) = argument_codes w b ++ each_argument_codes ws bs
each_argument_codes ws bs = []

-- what is wrong with a CALL behind its own word: there is no such macro; or the number of arguments, and then each of them
abbrev pub called_codes : Option Defined → List Argument → List FaultCode
called_codes None bs = UnknownName ∷ []
called_codes (Some m) bs = code_if (not (takes m (length bs))) BadArguments ++ each_argument_codes (map (wanted_by m.body) m.parameters) bs

-- the codes of the rules that a place breaks behind places that count so much, from the left
abbrev pub codes_at : ℕ → Visit → List FaultCode
codes_at n (Opens ms s) = code_if (is_taken ms s.form) DuplicateName
codes_at n (Inside m s) =
    code_if (redeclares m.parameters s.form) DuplicateName ++ code_if (unbalances (blocks_after [] m.body) s.form) Unbalanced
codes_at n (Stands e s) = code_if (is_kept s.form && is_full n) TooLong ++ code_if (not (are_small s.form)) TooDeep
codes_at n (Misplaced line) = Unbalanced ∷ []
codes_at n (Calls line depth m bs) = code_if (nat_lt DEEPEST_CALLS depth || is_full n) TooLong ++ called_codes m bs

-- the rules, behind places that count so much
abbrev pub BreaksBehind : ℕ → Visit → FaultCode → Type 0
BreaksBehind n p code = Contains (codes_at n p) code

-- the phase: each place by what stands before it, and nothing at the end
abbrev pub BreaksMacros : List Visit → Option Visit → FaultCode → Type 0
BreaksMacros before None code = ⊥
BreaksMacros before (Some p) code = BreaksBehind (weigh before) p code

-- the line of a place
abbrev pub line_at : Visit → ℕ
line_at (Opens ms s) = s.line
line_at (Inside m s) = s.line
line_at (Stands e s) = s.line
line_at (Misplaced line) = line
line_at (Calls line depth m args) = line

-- a fault is told at its place's line
abbrev pub macros_line : List Visit → Option Visit → ℕ
macros_line before None = 0
macros_line before (Some p) = line_at p
