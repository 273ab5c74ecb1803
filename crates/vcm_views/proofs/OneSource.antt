-- A program has one source.
use Rattle.std.proofs.Common.{◌≡◌, ℕ, List, [], ◌∷◌, Option, Some, None, refl, sym, ap, ◌∙◌, subst}
use Rattle.vcm_lines.specs.declared.logical.Logical.{Logical}
use Rattle.vcm_lines.specs.Statements.{lines_of, kept_lines, grouped}
use Rattle.vcm_lines.proofs.OneReading.{one_statements}
use Rattle.vcm_forms.specs.declared.statement.Form.{Form}
use Rattle.vcm_forms.specs.declared.statement.Statement.{Statement}
use Rattle.vcm_backtrace.specs.Sources.{IsReadAs, AreReadAs, Sourced, IsSource, IsSourced}

abbrev statement : ℕ → Form → Statement
statement line form = record { line = line; form = form }

one_statement : (l : Logical) (s t : Statement) → IsReadAs l s → IsReadAs l t → s ≡ t
one_statement l s t h k =
    let form : s.form ≡ t.form = (let p = h.form in let q = k.form in cc) in
    ap (λ x. statement x s.form) (h.line ∙ sym k.line) ∙ ap (statement t.line) form

one_list : (ls : List Logical) (ss ts : List Statement) → AreReadAs ls ss → AreReadAs ls ts → ss ≡ ts
one_list [] ss ts h k = h ∙ sym k
one_list (l ∷ ls) [] ts h k = absurd h
one_list (l ∷ ls) (s ∷ ss) [] h k = absurd k
one_list (l ∷ ls) (s ∷ ss) (t ∷ ts) h k = ap (λ x. x ∷ ss) (one_statement l s t h.0 k.0) ∙ ap (λ xs. t ∷ xs) (one_list ls ss ts h.1 k.1)

abbrev sourced : List ℕ → List Statement → Sourced
sourced text statements = record { text = text; statements = statements }

one_source_of : (text : List ℕ) (t u : Sourced) → IsSource text t → IsSource text u → t ≡ u
one_source_of text t u h k =
    let lines : h.lines ≡ k.lines = one_statements (grouped (kept_lines (lines_of text))) h.lines k.lines h.logical k.logical in
    let statements : t.statements ≡ u.statements = one_list k.lines t.statements u.statements (subst (λ ls. AreReadAs ls t.statements) lines h.read) k.read in
    ap (λ x. sourced x t.statements) (h.same ∙ sym k.same) ∙ ap (sourced u.text) statements

pub one_source : (program : Option (List ℕ)) (t u : Option Sourced) → IsSourced program t → IsSourced program u → t ≡ u
one_source (Some text) (Some t) (Some u) h k = ap Some (one_source_of text t u h k)
one_source (Some text) (Some t) None h k = absurd k
one_source (Some text) None u h k = absurd h
one_source None (Some t) u h k = absurd h
one_source None None (Some u) h k = absurd k
one_source None None None h k = refl
