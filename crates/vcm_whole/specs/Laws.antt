-- Statements about producers' texts. Each is a clause of a law in src/laws.rt.
use Rattle.std.specs.Prelude.{◌≡◌, ℕ, Bool, true, false, nat_eq, List, [], ◌∷◌, ◌++◌, None}
use Rattle.std.specs.List.{list_all, flat_map}
use Rattle.vcm_lines.specs.declared.logical.Logical.{Logical}
use Rattle.vcm_forms.specs.declared.statement.Form.TheVariants.{Opening, Measures}
use Rattle.vcm_forms.specs.declared.statement.Statement.{Statement}
use Rattle.vcm_macro.specs.declared.placed.Placed.{Placed}
use Rattle.vcm_tree.specs.Acceptance.{IsAccepted}
use Rattle.vcm_program.specs.Program.{Parsed}
use Rattle.vcm_program.specs.declared.accepted.Noticed.{Noticed}
use Rattle.vcm_run.specs.Built.{IsImageOf}
use Rattle.vcm_remarks.specs.declared.remark.NumberedRemark.{NumberedRemark}
use Rattle.vcm_heads.specs.declared.rows.Row.{Row}
use Rattle.vcm_heads.specs.declared.rows.Row.TheVariants as rows
use Rattle.vcm_heads.specs.Rows.{row_in, words_of, own_behind}
use Rattle.vcm_lines.specs.Lexemes.{Lexeme}
use Rattle.vcm_heads.specs.Heads.{behind_of}
use Rattle.vcm_said.specs.Said.{is_outside, said}
use Rattle.vcm_said.specs.All.{on_line, said_unless, needs_planes, said_all, refused_at}
use Rattle.vcm_given.specs.declared.choices.Choices.{Choices}
use Rattle.vcm_whole.specs.declared.whole.Facts.{Facts}
use Rattle.vcm_whole.specs.Whole.{Expands, stays, IsPut, IsWholeBuilt}

-- ---- one answer

-- a text whose statements say this and expand to this is put as one program: one image, one list of notices and one of remarks
abbrev pub IsPutOnce : Type 0
IsPutOnce =
    (c : Choices) (text : List ℕ) (ss : List Statement) (ps : List Placed) (bytes more : List ℕ) (ns ms : List Noticed) (rs qs : List NumberedRemark) (w v : Bool)
    → IsPut c text ss ps bytes ns rs w → IsPut c text ss ps more ms qs v → (bytes ≡ more) × (ns ≡ ms) × (rs ≡ qs) × (w ≡ v)

-- and so is a text, of which the same is told
abbrev pub WholesAreOne : Type 0
WholesAreOne =
    (c : Choices) (text bytes more : List ℕ) (ns ms : List Noticed) (rs qs : List NumberedRemark) (facts told : Facts)
    → IsWholeBuilt c text bytes ns rs facts → IsWholeBuilt c text more ms qs told → (bytes ≡ more) × (ns ≡ ms) × (rs ≡ qs) × (facts ≡ told)

-- ---- texts of the language

-- the image is that of this program, with its notices and no remark
pub record IsAsWritten (p : Parsed) (bytes : List ℕ) (ns : List Noticed) (rs : List NumberedRemark) (facts : Facts) : Type 0 where
  pub image : IsImageOf p bytes
  pub notices_are : ns ≡ p.notices
  pub no_remarks : rs ≡ []
  pub written : facts.is_as_written ≡ true

-- a text that is accepted as a program, and that stays as it is written, since it is read in one way and loses nothing, is put as that program
abbrev pub AcceptedTextsStay : Type 0
AcceptedTextsStay =
    (c : Choices) (text bytes : List ℕ) (ns : List Noticed) (rs : List NumberedRemark) (facts : Facts) (p : Parsed) (ls : List Logical) (ps : List Placed)
    → IsAccepted text p → Expands c text facts.lengths ls ps → stays c ps ≡ true → IsWholeBuilt c text bytes ns rs facts → IsAsWritten p bytes ns rs facts

-- ---- each statement

-- what each statement of a text says, in the order of the text: a list for each
abbrev pub said_lists : (planes own : Bool) → List Logical → List (List Statement)
said_lists planes own [] = []
said_lists planes own (l ∷ ls) = said_unless planes own l ∷ said_lists planes (own_behind own (words_of l)) ls

-- what a text says is what its statements say, one behind the other, behind the two statements that open it
abbrev pub NothingIsLeftOut : Type 0
NothingIsLeftOut = (ls : List Logical) → said_all ls ≡ on_line 1 (Opening ∷ Measures ∷ []) ++ flat_map (λ ss. ss) (said_lists (needs_planes ls) false ls)

-- to each statement belongs one of the lists, and all in it has the line of the statement
abbrev pub AreOnTheirLines : List Logical → List (List Statement) → Type 0
AreOnTheirLines [] [] = Unit {0}
AreOnTheirLines (l ∷ ls) (ss ∷ sss) = (list_all (λ s. nat_eq s.line l.line) ss ≡ true) × AreOnTheirLines ls sss
AreOnTheirLines ls sss = ⊥

-- all that is said has the line of its statement
abbrev pub EachHasItsLine : Type 0
EachHasItsLine = (planes : Bool) (ls : List Logical) → AreOnTheirLines ls (said_lists planes false ls)

-- whether statements of a row may say nothing: those that move nothing and choose nothing, and a CALL of another process
abbrev pub may_be_silent : Row → List Lexeme → Bool
may_be_silent rows.Stated ws = true
may_be_silent rows.Value ws = true
may_be_silent rows.Values ws = true
may_be_silent rows.Text ws = true
may_be_silent rows.Output ws = true
may_be_silent rows.Settings ws = true
may_be_silent rows.Recall ws = true
may_be_silent rows.Save ws = true
may_be_silent rows.Delete ws = true
may_be_silent rows.Switch ws = true
may_be_silent rows.Carriage ws = true
may_be_silent rows.Silent ws = true
may_be_silent rows.Call ws = is_outside (behind_of ws)
may_be_silent row ws = false

-- a statement that says nothing, and isn't refused, is of such a row
abbrev pub SilentOnesMoveNothing : Type 0
SilentOnesMoveNothing =
    (planes : Bool) (l : Logical) → refused_at l ≡ None → said planes l.line (words_of l) ≡ []
    → may_be_silent (row_in (words_of l)) (words_of l) ≡ true
