-- The walk taken in parts: what is done behind some places, and the first fault among others.
use Rattle.std.specs.Prelude.{◌≡◌, ◌⊎◌, ℕ, suc, ◌+◌, ◌<◌, length, take, reverse, slice_get, Bool, true, false, List, [], ◌∷◌, ◌++◌, Option, Some, None}
use Rattle.std.specs.Prelude.{if◌then◌else◌}
use Rattle.vcm_lines.specs.declared.fault.FaultCode.{FaultCode}
use Rattle.vcm_lines.specs.declared.fault.SourceFault.{SourceFault}
use Rattle.vcm_macro.specs.declared.placed.Placed.{Placed}
use Rattle.vcm_forms.specs.declared.statement.Argument.{Argument}
use Rattle.vcm_forms.specs.declared.statement.Form.{Form}
use Rattle.vcm_forms.specs.declared.statement.Form.TheVariants.{MacroEnd}
use Rattle.vcm_forms.specs.declared.statement.Statement.{Statement}
use Rattle.vcm_substitution.specs.Substitution.{Scope, is_same, put_form}
use Rattle.vcm_macro.specs.Walk.{Defined, Visit, Stands, Calls, calls_in, body_in, call_in}
use Rattle.vcm_macro.specs.Rules.{codes_at, line_at, weight, weigh, kept}
use Rattle.vcm_macro.specs.Computed.{leftmost}

-- what has been expanded: the statements, how much counts, how many CALLs were carried out
pub record Done : Type 0 where
  pub placed : List Placed
  pub count : ℕ
  pub calls : ℕ

-- a place breaks no rule
abbrev pub IsFine : ℕ → Visit → Type 0
IsFine n p = codes_at n p ≡ []

-- places break no rule, one behind the other
abbrev pub AreFine : ℕ → List Visit → Type 0
AreFine n [] = Unit {0}
AreFine n (p ∷ ps) = IsFine n p × AreFine (n + weight p) ps

-- the refusal tells the leftmost of these codes at this line
abbrev pub TellsLeftmost : ℕ → List FaultCode → SourceFault → Type 0
TellsLeftmost line codes f = (leftmost codes ≡ Some f.code) × (f.line ≡ line)

-- the refusal tells of the first of these places that breaks a rule
abbrev pub TellsFirst : ℕ → List Visit → SourceFault → Type 0
TellsFirst n [] f = ⊥
TellsFirst n (p ∷ ps) f = TellsLeftmost (line_at p) (codes_at n p) f ⊎ (IsFine n p × TellsFirst (n + weight p) ps f)

-- these places were walked
pub record Walked (old new : Done) (ps : List Visit) : Type 0 where
  pub fine : AreFine old.count ps
  pub placed : new.placed ≡ old.placed ++ kept ps
  pub count : new.count ≡ old.count + weigh ps
  pub calls : new.calls ≡ old.calls + calls_in ps

-- the macro of this name, and those above it
abbrev pub found : List Defined → List ℕ → Option (Defined × List Defined)
found [] name = None
found (m ∷ ms) name = if is_same m.name name then Some (m, ms) else found ms name

-- a CALL of what is found
abbrev pub call_by : Option (Defined × List Defined) → (line depth done : ℕ) → List Argument → List Visit
call_by None line depth done args = Calls line depth None args ∷ []
call_by (Some p) line depth done args =
    Calls line depth (Some p.0) args
    ∷ body_in (call_in p.1) (record { parameters = p.0.parameters; arguments = args; expansion = suc done }) (suc depth) (suc done) p.0.body

-- the macro of this name is the one at this place, and those before it are above it
pub record IsFoundAt (ms : List Defined) (name : List ℕ) (i : ℕ) : Type 0 where
  pub macro : Defined
  pub within : i < length ms
  pub is : slice_get ms i ≡ Some macro
  pub found : found (reverse ms) name ≡ Some (macro, reverse (take i ms))

-- the place of a statement that is no call
abbrev pub stands : Scope → Statement → Visit
stands sc s = Stands sc.expansion (record { line = s.line; form = put_form sc s.form })

-- whether a statement is ENDMAC
abbrev pub is_macro_end : Form → Bool
is_macro_end MacroEnd = true
is_macro_end form = false
