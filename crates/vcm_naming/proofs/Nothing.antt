-- Without names nothing is added.
use Rattle.std.proofs.Common.{◌≡◌, ℕ, [], ◌∷◌, ◌++◌, Option, Some, None, refl, ap, ◌∙◌}
use Rattle.vcm_naming.specs.Naming.{name_below, left_below, named_text}
use Rattle.vcm_naming.specs.Laws.{NothingIsAdded}

no_name : (o : Option ℕ) → name_below [] o ≡ []
no_name None = refl
no_name (Some n) = refl

none_left : (o : Option ℕ) → left_below [] o ≡ []
none_left None = refl
none_left (Some n) = refl

pub nothing_added : NothingIsAdded
nothing_added [] = refl
nothing_added (l ∷ ls) =
    ap (λ t. l.text ++ (t ++ named_text (left_below [] l.block) ls)) (no_name l.block)
    ∙ ap (λ ns. l.text ++ named_text ns ls) (none_left l.block) ∙ ap (λ t. l.text ++ t) (nothing_added ls)
