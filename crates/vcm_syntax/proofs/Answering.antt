-- Words have one answer: a statement, or a fault.
use Rattle.std.proofs.Common.{◌≡◌, List, Ok, Err, sym, ◌∙◌}
use Rattle.std.specs.Prelude.{Result}
use Rattle.vcm_lines.specs.declared.fault.FaultCode.{FaultCode}
use Rattle.vcm_lines.specs.Lexemes.{Lexeme}
use Rattle.vcm_forms.specs.declared.statement.Form.{Form}
use Rattle.vcm_syntax.specs.Statements.{SpellsStatement, BreaksStatement, statement_of}

one_form : (r : Result Form FaultCode) (form other : Form) → r ≡ Ok form → r ≡ Ok other → form ≡ other
one_form r form other p q = let both : Ok form ≡ Ok other = sym p ∙ q in cc

no_fault : (r : Result Form FaultCode) (form : Form) (code : FaultCode) → r ≡ Ok form → r ≡ Err code → ⊥
no_fault r form code p q = let both : Ok form ≡ Err code = sym p ∙ q in cc

pub statement_once : (ws : List Lexeme) (form other : Form) → SpellsStatement ws form → SpellsStatement ws other → form ≡ other
statement_once ws form other p q = one_form (statement_of ws) form other p q

pub statement_law : (ws : List Lexeme) (form : Form) (code : FaultCode) → SpellsStatement ws form → BreaksStatement ws code → ⊥
statement_law ws form code p q = no_fault (statement_of ws) form code p q
