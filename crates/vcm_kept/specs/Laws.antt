-- Statements about what a text is put as. Each is a clause of a law in src/laws.rt.
use Rattle.std.specs.Prelude.{◌≡◌, ℕ, Bool, true, false, ◌&&◌, ◌||◌, nat_eq, List, Option}
use Rattle.std.specs.List.{list_all, list_any}
use Rattle.vcm_forms.specs.declared.statement.Form.{Form}
use Rattle.vcm_forms.specs.declared.statement.Form.TheVariants.{TestEnd, ChooseEnd, RepeatEnd}
use Rattle.vcm_macro.specs.declared.placed.Placed.{Placed}
use Rattle.vcm_kept.specs.declared.reached.OpenBlock.{OpenBlock}
use Rattle.vcm_kept.specs.declared.text.Text.{Text}
use Rattle.vcm_kept.specs.Guarding.{Reached, first_block, line_of, guards, guarded}

-- ---- lines

-- whether a statement ends a block
abbrev pub ends_block : Form → Bool
ends_block TestEnd = true
ends_block ChooseEnd = true
ends_block RepeatEnd = true
ends_block f = false

-- whether a line is that of a statement, or else that of the innermost block, and the statement ends a block
abbrev pub is_line_for : ℕ → Form → Option OpenBlock → ℕ → Bool
is_line_for line f b n = nat_eq n line || (ends_block f && nat_eq n (line_of line b))

-- each statement that one statement is put as has the line of that, or else that of the innermost block, which it ends
abbrev pub EachIsOnItsLine : Type 0
EachIsOnItsLine =
    (text : Text) (r : Reached) (line e : ℕ) (f : Form)
    → list_all (λ g. is_line_for line f (first_block r.blocks) g.placed.statement.line) (guards text r line e f) ≡ true

-- whether a line is the first, or that of one of these statements
abbrev pub is_line_in : List Placed → ℕ → Bool
is_line_in ps n = nat_eq n 1 || list_any (λ p. nat_eq n p.statement.line) ps

-- each statement that a text is put as has the first line, or that of a statement of the text
abbrev pub AllAreOnLinesOfTheText : Type 0
AllAreOnLinesOfTheText = (ps : List Placed) → list_all (λ g. is_line_in ps g.placed.statement.line) (guarded ps) ≡ true
