-- A statement that declares variables gives them names that are read one by one.
use Rattle.std.proofs.Common.{◌≡◌, codes, List, [], ◌∷◌, drop, Result, Ok, Err, refl, subst}
use Rattle.vcm_lines.specs.declared.fault.FaultCode.{FaultCode}
use Rattle.vcm_lines.specs.declared.fault.FaultCode.TheVariants.{BadSyntax, Unsupported}
use Rattle.vcm_lines.specs.Lexemes.{Lexeme, Open}
use Rattle.vcm_spec.specs.Results.{◌>>=◌}
use Rattle.vcm_expr.specs.Parsing.{expr_of}
use Rattle.vcm_syntax.specs.declared.heads.Major.{Major}
use Rattle.vcm_syntax.specs.declared.heads.Major.TheVariants as major
use Rattle.vcm_syntax.specs.declared.heads.Letter.TheVariants as letters
use Rattle.vcm_syntax.specs.declared.heads.Prefix.{Prefix}
use Rattle.vcm_forms.specs.declared.statement.Form.{Form}
use Rattle.vcm_forms.specs.declared.statement.Form.TheVariants.{Opening, Measures, Ignored, Declaration, Assignment, Move, Home, Say}
use Rattle.vcm_forms.specs.declared.statement.Form.TheVariants.{Test, Otherwise, TestEnd, Repeat, RepeatEnd, Mark, Leap, Ending}
use Rattle.vcm_forms.specs.declared.statement.Form.TheVariants.{Feature, Measure, Touch, MeasureEnd, Configure, Shift}
use Rattle.vcm_forms.specs.declared.statement.Form.TheVariants.{Rotation, Restore, Query, Report, Macro, MacroEnd, Call}
use Rattle.vcm_forms.specs.declared.statement.Form.TheVariants.{Choose, Case, CaseEnd, Default, ChooseEnd}
use Rattle.vcm_syntax.specs.Readers.{end_of, field, some_field, each_of}
use Rattle.vcm_syntax.specs.Majors.{prefix_of, major_of}
use Rattle.vcm_syntax.specs.Places.{bare_of, titled_of, target_of, word_of, kind_of, setting_of, axis_of, system_of, unscoped, lengths_in, any_text_of, message_of}
use Rattle.vcm_syntax.specs.Places.{unused_of, variable_of, index_of, aim_of, named_of, source_of, test_of, spot_of}
use Rattle.vcm_syntax.specs.Figures.{integer_of, vector_of, angle_of, feature_word_of, one_of}
use Rattle.vcm_syntax.specs.Measuring.{offsets_of, given_of, no_more}
use Rattle.vcm_syntax.specs.Macros.{parameter_of, argument_of}
use Rattle.vcm_syntax.specs.Forms.{temperature_of, declaration_of, step_of, notice_prefix_of, sole_of, form_of}
use Rattle.vcm_syntax.specs.Statements.{fields_behind, mark_of, worded_of, statement_of}

-- names that a statement declares are those of fields
abbrev pub DeclaresNames : Form → Type 0
DeclaresNames (Declaration k names) = (fs : List (List Lexeme)) × (each_of variable_of fs ≡ Ok names)
DeclaresNames _ = Unit {0}

-- the statement that is read, if one is, does so
pub record Declares (r : Result Form FaultCode) : Type 0 where
  pub names : (form : Form) → r ≡ Ok form → DeclaresNames form

-- what is read behind something
behind : {A : Type 0} (r : Result A FaultCode) (f : A → Result Form FaultCode) → ((a : A) → r ≡ Ok a → Declares (f a)) → Declares (r >>= f)
behind (Ok a) f h = h a refl
behind (Err c) f h = record { names = λ form e. absurd cc }

-- a statement that is read
this : (form : Form) → DeclaresNames form → Declares (Ok form)
this form h = record { names = λ other e. let same : form ≡ other = cc in subst DeclaresNames same h }

-- a statement with nothing behind it
last : {X : Type 0} (form : Form) (xs : List X) → DeclaresNames form → Declares (end_of xs >>= λ _. Ok form)
last form xs h = behind (end_of xs) _ (λ _ _. this form h)

sole : (form : Form) (p : Prefix) (fs : List (List Lexeme)) → DeclaresNames form → Declares (sole_of form p fs)
sole form p fs h = behind (bare_of p) _ (λ _ _. last form fs h)

declaration : (fs : List (List Lexeme)) → Declares (declaration_of fs)
declaration fs =
    behind (field fs 0 >>= kind_of) _ (λ k _. behind (some_field (drop 1 fs)) _ (λ _ _.
    behind (each_of variable_of (drop 1 fs)) _ (λ vs e. this (Declaration k vs) (drop 1 fs, e))))

-- each statement
form : (m : Major) (p : Prefix) (fs : List (List Lexeme)) → Declares (form_of m p fs)
form major.Dmismn p fs = behind (bare_of p) _ (λ _ _. behind (field fs 0 >>= any_text_of) _ (λ _ _. behind (unused_of (drop 1 fs)) _ (λ _ _. this Opening tt)))
form major.Units p fs =
    behind (bare_of p) _ (λ _ _. behind (field fs 0 >>= word_of (codes "MM") Unsupported) _ (λ _ _.
    behind (field fs 1 >>= word_of (codes "ANGDEC") Unsupported) _ (λ _ _. behind (temperature_of (drop 2 fs)) _ (λ _ _. this Measures tt))))
form major.Decl p fs = behind (bare_of p) _ (λ _ _. declaration (unscoped fs))
form major.Assign p fs = behind (target_of p) _ (λ v _. behind (field fs 0 >>= expr_of) _ (λ e _. last (Assignment v e) (drop 1 fs) tt))
form major.Goto p fs =
    behind (bare_of p) _ (λ _ _. behind (spot_of (lengths_in fs)) _ (λ s _. last (Move s) (drop 3 (lengths_in fs)) tt))
form major.Gohome p fs = sole Home p fs tt
form major.Text p fs =
    behind (bare_of p) _ (λ _ _. behind (field fs 0 >>= word_of (codes "OPER") Unsupported) _ (λ _ _.
    behind (field fs 1 >>= message_of) _ (λ t _. last (Say t) (drop 2 fs) tt)))
form major.Endfil p fs = sole Ending p fs tt
form major.If p fs = behind (bare_of p) _ (λ _ _. behind (field fs 0 >>= test_of) _ (λ e _. last (Test e) (drop 1 fs) tt))
form major.Else p fs = sole Otherwise p fs tt
form major.Endif p fs = sole TestEnd p fs tt
form major.Do p fs =
    behind (bare_of p) _ (λ _ _. behind (field fs 0 >>= index_of) _ (λ v _. behind (field fs 1 >>= expr_of) _ (λ a _.
    behind (field fs 2 >>= expr_of) _ (λ b _. behind (step_of (drop 3 fs)) _ (λ c _. this (Repeat _) tt)))))
form major.Enddo p fs = sole RepeatEnd p fs tt
form major.Jumpto p fs = behind (bare_of p) _ (λ _ _. behind (field fs 0 >>= aim_of) _ (λ l _. last (Leap l) (drop 1 fs) tt))
form major.Select p fs = behind (bare_of p) _ (λ _ _. behind (field fs 0 >>= expr_of) _ (λ e _. last (Choose e) (drop 1 fs) tt))
form major.Case p fs = behind (bare_of p) _ (λ _ _. behind (field fs 0 >>= integer_of) _ (λ z _. last (Case z) (drop 1 fs) tt))
form major.Endcas p fs = sole CaseEnd p fs tt
form major.Dftcas p fs = sole Default p fs tt
form major.Endsel p fs = sole ChooseEnd p fs tt
form major.Feat p fs =
    behind (titled_of letters.F p) _ (λ l _. behind (field fs 0 >>= word_of (codes "POINT") Unsupported) _ (λ _ _.
    behind (field fs 1 >>= system_of) _ (λ _ _. behind (spot_of (drop 2 fs)) _ (λ s _. behind (vector_of (drop 5 fs)) _ (λ d _.
    last (Feature l s d) (drop 8 fs) tt)))))
form major.Meas p fs =
    behind (bare_of p) _ (λ _ _. behind (field fs 0 >>= word_of (codes "POINT") BadSyntax) _ (λ _ _.
    behind (field fs 1 >>= named_of (codes "F")) _ (λ l _. behind (field fs 2 >>= one_of) _ (λ _ _. last (Measure l) (drop 3 fs) tt))))
form major.Ptmeas p fs =
    behind (bare_of p) _ (λ _ _. behind (field fs 0 >>= word_of (codes "CART") BadSyntax) _ (λ _ _.
    behind (spot_of (drop 1 fs)) _ (λ s _. behind (given_of (drop 4 fs)) _ (λ d _. this (Touch s d) tt))))
form major.Endmes p fs = sole MeasureEnd p fs tt
form major.Snset p fs =
    behind (bare_of p) _ (λ _ _. behind (field fs 0 >>= setting_of) _ (λ w _. behind (field fs 1 >>= expr_of) _ (λ e _. last (Configure w e) (drop 2 fs) tt)))
form major.Trans p fs =
    behind (titled_of letters.D p) _ (λ l _. behind (some_field fs) _ (λ _ _. behind (offsets_of [] fs) _ (λ os _. this (Shift l os) tt)))
form major.Rotate p fs =
    behind (titled_of letters.D p) _ (λ l _. behind (field fs 0 >>= axis_of) _ (λ a _. behind (field fs 1 >>= angle_of) _ (λ n _.
    last (Rotation l a n) (drop 2 fs) tt)))
form major.Recall p fs = behind (bare_of p) _ (λ _ _. behind (field fs 0 >>= named_of (codes "D")) _ (λ l _. last (Restore l) (drop 1 fs) tt))
form major.Obtain p fs =
    behind (target_of p) _ (λ v _. behind (field fs 0 >>= source_of) _ (λ s _. behind (field fs 1 >>= feature_word_of) _ (λ w _.
    last (Query v s.0 s.1 w) (drop 2 fs) tt)))
form major.Output p fs =
    behind (bare_of p) _ (λ _ _. behind (field fs 0 >>= source_of) _ (λ s _. behind (no_more (drop 1 fs)) _ (λ _ _. this (Report s.0 s.1) tt)))
form major.Macro p fs = behind (titled_of letters.M p) _ (λ l _. behind (each_of parameter_of fs) _ (λ ps _. this (Macro l ps) tt))
form major.Endmac p fs = sole MacroEnd p fs tt
form major.Call p fs =
    behind (bare_of p) _ (λ _ _. behind (field fs 0 >>= named_of (codes "M")) _ (λ l _.
    behind (each_of argument_of (drop 1 fs)) _ (λ args _. this (Call l args) tt)))
form (major.Passed n) p fs = behind (notice_prefix_of n p) _ (λ _ _. behind (some_field fs) _ (λ _ _. this (Ignored n) tt))

mark : (ws : List Lexeme) → Declares (mark_of ws)
mark ws = behind (aim_of ws) _ (λ l _. this (Mark l) tt)

worded : (ws : List Lexeme) → Declares (worded_of ws)
worded ws = behind (prefix_of ws) _ (λ p _. behind (major_of p.1) _ (λ m _. behind (fields_behind m.1) _ (λ fs _. form m.0 p.0 fs)))

pub stated : (ws : List Lexeme) → Declares (statement_of ws)
unfolding statement_of
stated (Open ∷ ws) = mark (Open ∷ ws)
stated ws = worded ws
