-- The shapes of a view.
use Rattle.std.proofs.Common.{◌≡◌, ◌∙◌, ap, ℕ, List, ◌++◌, [], append_assoc, flat_map, option_to_list}
use Rattle.std.specs.Prelude.{Result, OnOk, Option}
use Rattle.vcm_num.specs.declared.point.Point.{Point}
use Rattle.vcm_marks.specs.declared.mark.Contact.{Contact}
use Rattle.vcm_marks.specs.declared.mark.PlacedMark.{PlacedMark}
use Rattle.vcm_svg.specs.declared.rect.Rect.{Rect}
use Rattle.vcm_picture.specs.declared.names.FirstNames.{FirstNames}
use Rattle.vcm_picture.specs.declared.names.Named.{Named}
use Rattle.vcm_picture.specs.declared.shapes.Shape.{Shape}
use Rattle.vcm_picture.specs.declared.shown.Seen.{Seen}
use Rattle.vcm_picture.specs.Sights.{Scope}
use Rattle.vcm_picture.specs.Drawing.{first_shapes, feature_shapes, names_beside, names_shapes}
use Rattle.vcm_picture.specs.Marks.{contact_of}
use Rattle.vcm_picture.specs.Names.{all_figure_boxes, first_names, with_first}
use Rattle.vcm_svg.proofs.Appended.{last_same, two}

-- what three calls appended to nothing
pub three_made : (o p q m a b d : List Shape) → o ≡ [] → p ≡ o ++ a → q ≡ p ++ b → m ≡ q ++ d → m ≡ a ++ (b ++ d)
three_made o p q m a b d e f g h =
    h ∙ ap (λ (l : List Shape). l ++ d) (g ∙ ap (λ (l : List Shape). l ++ b) (f ∙ ap (λ (l : List Shape). l ++ a) e)) ∙ append_assoc a b d

-- the names of a view with this contact and these names placed first
abbrev pub names_after : Scope → List (List ℕ) → List PlacedMark → List Seen → Option Contact → FirstNames → List Shape
names_after s features marks seen contact first =
    flat_map option_to_list (first_shapes s.unit contact first)
    ++ feature_shapes s.unit (names_beside s features marks (with_first [] first ++ all_figure_boxes seen))

-- the names of a view, as its steps give them
pub names_put : {A E : Type 0} (r : Result A E) (o p m : List Shape) (s : Scope) (home position : Point) (features : List (List ℕ)) (marks : List PlacedMark)
    (seen : List Seen) (contact : Option Contact) (first : FirstNames) (taken more : List Rect) (named : List Named)
    → contact ≡ contact_of marks → first ≡ first_names s contact position home [] → taken ≡ with_first [] first
    → more ≡ taken ++ all_figure_boxes seen → named ≡ names_beside s features marks more
    → p ≡ o ++ flat_map option_to_list (first_shapes s.unit contact first) → OnOk r (m ≡ p ++ feature_shapes s.unit named)
    → OnOk r (m ≡ o ++ names_shapes s home features position marks seen)
names_put r o p m s home position features marks seen contact first taken more named a b d e f g h =
    let whole : OnOk r (m ≡ o ++ (flat_map option_to_list (first_shapes s.unit contact first) ++ feature_shapes s.unit named)) = two r o p m _ _ g h in
    let beside : named ≡ names_beside s features marks (with_first [] first ++ all_figure_boxes seen) =
    f ∙ ap (λ (t : List Rect). names_beside s features marks t) (e ∙ ap (λ (t : List Rect). t ++ all_figure_boxes seen) d) in
    let on_named : OnOk r (m ≡ o ++ names_after s features marks seen contact first) =
    last_same r o m (λ (n : List Named). flat_map option_to_list (first_shapes s.unit contact first) ++ feature_shapes s.unit n) named _ beside whole in
    let on_first : OnOk r (m ≡ o ++ names_after s features marks seen contact (first_names s contact position home [])) =
    last_same r o m (λ (x : FirstNames). names_after s features marks seen contact x) first _ b on_named in
    last_same r o m (λ (k : Option Contact). names_after s features marks seen k (first_names s k position home [])) contact (contact_of marks) a on_first
