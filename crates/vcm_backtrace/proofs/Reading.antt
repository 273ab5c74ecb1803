-- Lines are read as one list of statements.
use Rattle.std.proofs.Common.{◌≡◌, ℕ, List, [], ◌∷◌, Ok, sym, ap, ◌∙◌}
use Rattle.vcm_lines.specs.declared.logical.Logical.{Logical}
use Rattle.vcm_forms.specs.declared.statement.Form.{Form}
use Rattle.vcm_forms.specs.declared.statement.Statement.{Statement}
use Rattle.vcm_backtrace.specs.Sources.{IsReadAs, AreReadAs}

abbrev on_line : ℕ → Form → Statement
on_line n form = record { line = n; form = form }

one_reading : (l : Logical) (s t : Statement) → IsReadAs l s → IsReadAs l t → s ≡ t
one_reading l s t a b =
    let line : s.line ≡ t.line = a.line ∙ sym b.line in
    let said : Ok s.form ≡ Ok t.form = sym a.form ∙ b.form in
    let form : s.form ≡ t.form = cc in
    ap (λ (n : ℕ). on_line n s.form) line ∙ ap (λ (f : Form). on_line t.line f) form

pub one_text : (ls : List Logical) (ss ts : List Statement) → AreReadAs ls ss → AreReadAs ls ts → ss ≡ ts
one_text [] ss ts a b = a ∙ sym b
one_text (l ∷ ls) [] ts a b = absurd a
one_text (l ∷ ls) (s ∷ ss) [] a b = absurd b
one_text (l ∷ ls) (s ∷ ss) (t ∷ ts) a b =
    let first = one_reading l s t a.0 b.0 in
    let others = one_text ls ss ts a.1 b.1 in
    cc
