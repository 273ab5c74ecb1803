-- The forms of the statements of macros, each as a reader of what stands before its major word and of the fields behind it.
use Rattle.std.specs.Prelude.{ℕ, true, false, if◌then◌else◌, codes, List, [], ◌∷◌, map, drop, Option, Some, None, Result, Ok, Err}
use Rattle.vcm_lines.specs.declared.fault.FaultCode.{FaultCode}
use Rattle.vcm_lines.specs.declared.fault.FaultCode.TheVariants.{BadSyntax}
use Rattle.vcm_lines.specs.Bytes.{upper}
use Rattle.vcm_lines.specs.Lexemes.{Lexeme, Run, Quoted}
use Rattle.vcm_spec.specs.Results.{◌>>=◌}
use Rattle.vcm_items.specs.NameBytes.{is_name, is_variable_name}
use Rattle.vcm_expr.specs.Source.{Source}
use Rattle.vcm_expr.specs.Parsing.{expr_of}
use Rattle.vcm_forms.specs.declared.statement.Argument.{Argument}
use Rattle.vcm_forms.specs.declared.statement.Parameter.{Parameter}
use Rattle.vcm_syntax.specs.declared.heads.Letter.TheVariants as letters
use Rattle.vcm_syntax.specs.declared.heads.Prefix.{Prefix}
use Rattle.vcm_forms.specs.declared.statement.Form.{Form}
use Rattle.vcm_forms.specs.declared.statement.Form.TheVariants.{Macro, Call}
use Rattle.vcm_syntax.specs.Readers.{field, each_of}
use Rattle.vcm_syntax.specs.Places.{bare_of, titled_of, named_of}

-- a text with its letters in upper case
abbrev pub raised : List ℕ → List ℕ
raised bs = map upper bs

-- a parameter: a variable's name, between apostrophes where it stands for a name
abbrev pub parameter_of : List Lexeme → Result Parameter FaultCode
parameter_of (Run w ∷ []) = if is_variable_name w then Ok (record { name = w; quoted = false }) else Err BadSyntax
parameter_of (Quoted t ∷ []) = if is_variable_name (raised t) then Ok (record { name = raised t; quoted = true }) else Err BadSyntax
parameter_of _ = Err BadSyntax

-- an expression, none where a rule of expressions is broken
abbrev pub if_read : Result Source FaultCode → Option Source
if_read (Ok e) = Some e
if_read (Err code) = None

-- an argument that is an expression alone
abbrev pub valued_of : List Lexeme → Result Argument FaultCode
valued_of ws = do
  e ← expr_of ws
  Ok (record { name = None; value = Some e })

-- an argument: a name, between apostrophes or as one run, which may be an expression too; or an expression
abbrev pub argument_of : List Lexeme → Result Argument FaultCode
argument_of (Run w ∷ []) = if is_name w then Ok (record { name = Some w; value = if_read (expr_of (Run w ∷ [])) }) else valued_of (Run w ∷ [])
argument_of (Quoted t ∷ []) = if is_name (raised t) then Ok (record { name = Some (raised t); value = None }) else Err BadSyntax
argument_of ws = valued_of ws

-- M(l)=MACRO[/p{,p}]
abbrev pub macro_of : Prefix → List (List Lexeme) → Result Form FaultCode
macro_of p fs = do
  l ← titled_of letters.M p
  ps ← each_of parameter_of fs
  Ok (Macro l ps)

-- CALL/M(l)[,arg{,arg}]
abbrev pub call_of : Prefix → List (List Lexeme) → Result Form FaultCode
call_of p fs = do
  _ ← bare_of p
  l ← (field fs 0 >>= named_of (codes "M"))
  args ← each_of argument_of (drop 1 fs)
  Ok (Call l args)
