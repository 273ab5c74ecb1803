-- Arguments that become too deep or too large: what else they are.
use Rattle.std.proofs.Common.{◌≡◌, true, false, Option, Some, None, refl}
use Rattle.std.specs.Prelude.{option_map}
use Rattle.vcm_expr.specs.Source.{Source, Plain, Prefixed, Pair}
use Rattle.vcm_expr.specs.declared.expression.Term.TheVariants.{Number, Truth, Variable}
use Rattle.vcm_forms.specs.declared.statement.Argument.{Argument}
use Rattle.vcm_substitution.specs.Sizes.{is_small_option}
use Rattle.vcm_substitution.specs.Substitution.{Scope, put_argument, variable_of}
use Rattle.vcm_macro.specs.declared.fitting.Wanted.TheVariants.{Name as AName, Variable as AVariable, Value as AValue}
use Rattle.vcm_macro.specs.Rules.{is_there, suits}

there_too : {A B : Type 0} (f : A → B) (o : Option A) → is_there o ≡ is_there (option_map f o)
there_too f None = refl
there_too f (Some x) = refl

-- it is still a name where it was one
pub deep_name : (sc : Scope) (a : Argument) → is_there a.name ≡ suits AName (put_argument sc a)
deep_name sc a = there_too _ a.name

no_variable : (o : Option Source) → is_small_option o ≡ false → false ≡ is_there (variable_of o)
no_variable None e = absurd cc
no_variable (Some (Plain (Variable name n))) e = absurd cc
no_variable (Some (Plain (Number n))) e = refl
no_variable (Some (Plain (Truth b))) e = refl
no_variable (Some (Prefixed op s)) e = refl
no_variable (Some (Pair op s t)) e = refl

-- it is no variable
pub deep_variable : (sc : Scope) (a : Argument) → is_small_option (put_argument sc a).value ≡ false → false ≡ suits AVariable (put_argument sc a)
deep_variable sc a e = no_variable (put_argument sc a).value e

some_value : (o : Option Source) → is_small_option o ≡ false → true ≡ is_there o
some_value None e = absurd cc
some_value (Some s) e = refl

-- it is an expression
pub deep_value : (sc : Scope) (a : Argument) → is_small_option (put_argument sc a).value ≡ false → true ≡ suits AValue (put_argument sc a)
deep_value sc a e = some_value (put_argument sc a).value e
