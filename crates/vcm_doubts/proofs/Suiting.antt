-- Arguments that fit are what has to be given.
use Rattle.std.proofs.Common.{◌≡◌, ℕ, ◌&&◌, ◌||◌, not, Bool, true, false, List, [], ◌∷◌, ◌++◌, refl, sym, ◌∙◌}
use Rattle.std.specs.Bool.{one_answer}
use Rattle.std.specs.List.{list_any, flat_map}
use Rattle.std.specs.Str.{bytes_eq}
use Rattle.std.proofs.Math.Bool.{or-false}
use Rattle.std.proofs.lemmas.Bool.{and_parts, not-true}
use Rattle.std.proofs.lemmas.List.Folds.{list_any-append}
use Rattle.std.proofs.lemmas.Slice.Eq.{bytes_eq-Decides}
use Rattle.vcm_forms.specs.declared.statement.Parameter.{Parameter}
use Rattle.vcm_forms.specs.declared.statement.Argument.{Argument}
use Rattle.vcm_forms.specs.declared.statement.Form.{Form}
use Rattle.vcm_forms.specs.declared.statement.Form.TheVariants.{Assignment, Query, Repeat}
use Rattle.vcm_forms.specs.declared.statement.Statement.{Statement}
use Rattle.vcm_macro.specs.Rules.{is_there, assigns, wanted_by, suits}
use Rattle.vcm_doubts.specs.Doubts.{is_among, sets}
use Rattle.vcm_doubts.specs.Settled.{fits}

-- ---- what a body sets

-- two names are the same whichever comes first
swapped : (a b : List ℕ) → bytes_eq a b ≡ bytes_eq b a
swapped a b =
    let there = bytes_eq-Decides a b in
    let back = bytes_eq-Decides b a in
    one_answer (bytes_eq a b) (bytes_eq b a) there (λ e. sym (back.0 e), λ e. back.1 (sym e))

-- a name alone is among these where it is this one
among_one : (name t : List ℕ) → is_among (t ∷ []) name ≡ bytes_eq t name
among_one name t = or-false (bytes_eq name t) ∙ swapped name t

-- a statement assigns a variable where that is among those that it sets
set_is_assigned : (name : List ℕ) (f : Form) → is_among (sets f) name ≡ assigns name f
set_is_assigned name (Assignment t value) = among_one name t.name
set_is_assigned name (Query t side l word) = among_one name t.name
set_is_assigned name (Repeat r) = among_one name r.variable.name
set_is_assigned name f = refl

-- and so does one of a body
all_assigned : (name : List ℕ) (body : List Statement) → is_among (flat_map (λ s. sets s.form) body) name ≡ list_any (λ s. assigns name s.form) body
all_assigned name [] = refl
all_assigned name (s ∷ ss) =
    list_any-append (bytes_eq name) (sets s.form) (flat_map (λ t. sets t.form) ss)
    ∙ rw (set_is_assigned name s.form, all_assigned name ss) refl

-- ---- what an argument is

-- what fits a quoted parameter, and what has to be given for it
fits_quoted : (set : List (List ℕ)) (p : Parameter) (a : Argument) → p.quoted ≡ true → fits set p a ≡ is_there a.name
fits_quoted set p a e = rw e refl

quoted_suits : (body : List Statement) (p : Parameter) (b : Argument) → p.quoted ≡ true → suits (wanted_by body p) b ≡ is_there b.name
quoted_suits body p b e = rw e refl

-- and a plain one that no statement of the body assigns
fits_plain : (set : List (List ℕ)) (p : Parameter) (a : Argument) → p.quoted ≡ false → fits set p a ≡ (is_there a.value && not (is_among set p.name))
fits_plain set p a e = rw e refl

plain_suits : (body : List Statement) (p : Parameter) (b : Argument) → p.quoted ≡ false → list_any (λ s. assigns p.name s.form) body ≡ false
    → suits (wanted_by body p) b ≡ is_there b.value
plain_suits body p b e none = rw (e, none) refl

-- so what fits is what has to be given
suits_by : (q : Bool) (body : List Statement) (p : Parameter) (a b : Argument) → p.quoted ≡ q → is_there b.name ≡ is_there a.name
    → is_there b.value ≡ is_there a.value → fits (flat_map (λ s. sets s.form) body) p a ≡ true → suits (wanted_by body p) b ≡ true
suits_by true body p a b quoted named valued e =
    quoted_suits body p b quoted ∙ named ∙ sym (fits_quoted (flat_map (λ s. sets s.form) body) p a quoted) ∙ e
suits_by false body p a b quoted named valued e =
    let both = and_parts (is_there a.value) (not (is_among (flat_map (λ s. sets s.form) body) p.name))
    (sym (fits_plain (flat_map (λ s. sets s.form) body) p a quoted) ∙ e) in
    let unset = not-true (is_among (flat_map (λ s. sets s.form) body) p.name) both.1 in
    plain_suits body p b quoted (sym (all_assigned p.name body) ∙ unset) ∙ valued ∙ both.0

pub fitting_suits : (body : List Statement) (p : Parameter) (a b : Argument) → is_there b.name ≡ is_there a.name → is_there b.value ≡ is_there a.value
    → fits (flat_map (λ s. sets s.form) body) p a ≡ true → suits (wanted_by body p) b ≡ true
fitting_suits body p a b named valued e = suits_by p.quoted body p a b refl named valued e
