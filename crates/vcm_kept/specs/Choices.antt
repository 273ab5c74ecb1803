-- SELECT in a text where a CASE has several values: it is put as IFs, one for each CASE.
use Rattle.std.specs.Prelude.{ℕ, ℤ, suc, pos, nat_lt, Bool, true, false, if◌then◌else◌, List, [], ◌∷◌, ◌++◌}
use Rattle.std.specs.List.{flat_map}
use Rattle.vcm_spec.specs.declared.expression.BinaryOp.TheVariants.{Or, Compare}
use Rattle.vcm_spec.specs.declared.expression.Relation.TheVariants.{Equal}
use Rattle.vcm_expr.specs.declared.expression.Term.{Term}
use Rattle.vcm_expr.specs.Source.{Source, Plain}
use Rattle.vcm_forms.specs.declared.statement.Form.{Form}
use Rattle.vcm_forms.specs.declared.statement.Form.TheVariants as form
use Rattle.vcm_events.specs.Joined.{pair}
use Rattle.vcm_templates.specs.declared.guarded.Guarded.{Guarded}
use Rattle.vcm_templates.specs.declared.carried.Carried.TheVariants as carried
use Rattle.vcm_templates.specs.declared.carried.Item.TheVariants as items
use Rattle.vcm_templates.specs.Carried.{carried_term, item_term}
use Rattle.vcm_templates.specs.Expressions.{number, truth, either}
use Rattle.vcm_templates.specs.Templates.{stands, set_item, declare_item, asks, where_known, ends}
use Rattle.vcm_kept.specs.declared.reached.OpenBlock.{OpenBlock}
use Rattle.vcm_kept.specs.declared.reached.TheConstants.{MOST_DEPTH}

-- ---- how deep blocks are

-- one block deeper; the deepest aren't told apart, since such programs are refused
abbrev pub deeper : ℕ → ℕ
deeper n = if nat_lt n MOST_DEPTH then suc n else n

-- how deep one more block is
abbrev pub next_depth : List OpenBlock → ℕ
next_depth [] = 0
next_depth (o ∷ os) = deeper o.depth

-- how deep the innermost block is
abbrev pub inner_depth : List OpenBlock → ℕ
inner_depth [] = 0
inner_depth (o ∷ os) = o.depth

-- all depths
abbrev pub depths : List ℕ
depths =
    0 ∷ 1 ∷ 2 ∷ 3 ∷ 4 ∷ 5 ∷ 6 ∷ 7 ∷ 8 ∷ 9 ∷ 10 ∷ 11 ∷ 12 ∷ 13 ∷ 14 ∷ 15 ∷ 16 ∷ 17 ∷ 18 ∷ 19 ∷ 20 ∷ 21 ∷ 22 ∷ 23 ∷ 24 ∷ 25 ∷ 26 ∷ 27 ∷ 28 ∷ 29 ∷ 30 ∷ 31 ∷ 32 ∷ []

-- what is carried of a SELECT at a depth is declared
abbrev pub declares_choice : ℕ → List Guarded
declares_choice i = declare_item 1 items.Chosen i ∷ declare_item 1 items.Open i ∷ []

-- the same at all depths
unfoldable pub declares_choices : Bool → List Guarded
declares_choices true = flat_map declares_choice depths
declares_choices false = []

-- ---- SELECT

-- SELECT by a value that is known: this is kept, and no block is taken so far
unfoldable pub chosen_by : ℕ → ℕ → Source → List Guarded
chosen_by line i value =
    set_item line items.Chosen i value ∷ set_item line items.Open i (Plain (number (pos 1))) ∷ stands line 0 (form.Test (truth true)) ∷ []

-- SELECT by a value that is known, in a text where a CASE has several values or not
abbrev pub chooses_known : Bool → ℕ → ℕ → ℕ → Source → List Guarded
chooses_known true line e i value = chosen_by line i value
chooses_known false line e i value = stands line e (form.Choose value) ∷ []

-- SELECT by a value that isn't known
abbrev pub chooses_nothing : Bool → ℕ → ℕ → Guarded
chooses_nothing true line e = stands line 0 (form.Test (truth false))
chooses_nothing false line e = stands line e (form.Choose (Plain (number (pos 0))))

-- how a SELECT ends
abbrev pub choice_end : Bool → Form
choice_end true = form.TestEnd
choice_end false = form.ChooseEnd

-- whether the value of a SELECT is this one
abbrev pub is_chosen : ℕ → Term → Source
is_chosen i t = pair (Compare Equal) (item_term items.Chosen i) t

-- where no block of a SELECT is taken so far this is asked
unfoldable pub opens_case : ℕ → ℕ → Source → List Guarded
opens_case line i e = stands line 0 (form.Test (pair (Compare Equal) (item_term items.Open i) (number (pos 1)))) ∷ asks line e ∷ []

-- CASE
abbrev pub cases : Bool → ℕ → ℕ → ℕ → ℤ → List Guarded
cases true line e i n = opens_case line i (is_chosen i (number n))
cases false line e i n = stands line e (form.Case n) ∷ []

-- DFTCAS
abbrev pub defaults : Bool → ℕ → ℕ → ℕ → List Guarded
defaults true line e i = opens_case line i (truth true)
defaults false line e i = stands line e form.Default ∷ []

-- one value more of a CASE
unfoldable pub adds_value : ℕ → ℕ → Term → List Guarded
adds_value line i t = asks line (either (Plain (carried_term carried.Asked)) (is_chosen i t)) ∷ []

-- the block of a CASE begins, behind its values: it is taken where one of them is the value
unfoldable pub begins_case : ℕ → ℕ → List Guarded
begins_case line i = where_known line ∷ set_item line items.Open i (Plain (number (pos 0))) ∷ []

-- ENDCAS
abbrev pub case_ends : Bool → ℕ → ℕ → List Guarded
case_ends true line e = ends line ∷ ends line ∷ []
case_ends false line e = stands line e form.CaseEnd ∷ []
