-- Slanted points by their six lengths.
use Rattle.std.proofs.Common.{◌≡◌, ◌≤◌, ◌<◌, ℕ, Bool, true, false, List, [], ◌∷◌, length, slice_index_or, refl, arith, Option}
use Rattle.vcm_spec.specs.Setup.{Variable}
use Rattle.vcm_forms.specs.declared.statement.Offset.{Offset}
use Rattle.vcm_kept.specs.declared.text.Text.{Text}
use Rattle.vcm_kept.specs.Places.{approach_asks, approaches, slants}
use Rattle.vcm_kept.specs.Guarding.{slants_or, approaches_feature}

pub six_legs : (slanted steps : Bool) (line : ℕ) (vs : List Variable) (legs : List Offset) (x y z i j k : Offset) → slanted ≡ true → 6 ≤ length legs → length legs < 7
    → x ≡ slice_index_or legs 0 x → y ≡ slice_index_or legs 1 y → z ≡ slice_index_or legs 2 z → i ≡ slice_index_or legs 3 i → j ≡ slice_index_or legs 4 j
    → k ≡ slice_index_or legs 5 k
    → slants slanted steps line vs legs
    ≡ approaches steps line vs approach_asks (record { x = x.length; y = y.length; z = z.length }) (record { x = i.length; y = j.length; z = k.length })
six_legs false steps line vs legs x y z i j k is some few ex ey ez ei ej ek = absurd cc
six_legs true steps line vs [] x y z i j k is some few ex ey ez ei ej ek = absurd (omega (arith, some))
six_legs true steps line vs (a ∷ []) x y z i j k is some few ex ey ez ei ej ek = absurd (omega (arith, some))
six_legs true steps line vs (a ∷ b ∷ []) x y z i j k is some few ex ey ez ei ej ek = absurd (omega (arith, some))
six_legs true steps line vs (a ∷ b ∷ c ∷ []) x y z i j k is some few ex ey ez ei ej ek = absurd (omega (arith, some))
six_legs true steps line vs (a ∷ b ∷ c ∷ d ∷ []) x y z i j k is some few ex ey ez ei ej ek = absurd (omega (arith, some))
six_legs true steps line vs (a ∷ b ∷ c ∷ d ∷ e ∷ []) x y z i j k is some few ex ey ez ei ej ek = absurd (omega (arith, some))
six_legs true steps line vs (a ∷ b ∷ c ∷ d ∷ e ∷ f ∷ []) x y z i j k is some few ex ey ez ei ej ek = rw (ex, ey, ez, ei, ej, ek) refl
six_legs true steps line vs (a ∷ b ∷ c ∷ d ∷ e ∷ f ∷ g ∷ legs) x y z i j k is some few ex ey ez ei ej ek = absurd (omega (arith, few))

pub three_legs : (text : Text) (line : ℕ) (vs : List Variable) (index : Option ℕ) (legs : List Offset) (x y z : Offset) → 3 ≤ length legs → length legs < 4
    → x ≡ slice_index_or legs 0 x → y ≡ slice_index_or legs 1 y → z ≡ slice_index_or legs 2 z
    → slants_or text line vs index legs
    ≡ approaches_feature text.steps line vs (record { x = x.length; y = y.length; z = z.length }) index
three_legs text line vs index [] x y z some few ex ey ez = absurd (omega (arith, some))
three_legs text line vs index (a ∷ []) x y z some few ex ey ez = absurd (omega (arith, some))
three_legs text line vs index (a ∷ b ∷ []) x y z some few ex ey ez = absurd (omega (arith, some))
three_legs text line vs index (a ∷ b ∷ c ∷ []) x y z some few ex ey ez = rw (ex, ey, ez) refl
three_legs text line vs index (a ∷ b ∷ c ∷ d ∷ legs) x y z some few ex ey ez = absurd (omega (arith, few))

pub fewer_legs : (text : Text) (line : ℕ) (vs : List Variable) (index : Option ℕ) (legs : List Offset) → length legs < 3
    → slants_or text line vs index legs ≡ slants text.slants text.steps line vs legs
fewer_legs text line vs index [] few = refl
fewer_legs text line vs index (a ∷ []) few = refl
fewer_legs text line vs index (a ∷ b ∷ []) few = refl
fewer_legs text line vs index (a ∷ b ∷ c ∷ legs) few = absurd (omega (arith, few))

pub more_legs : (text : Text) (line : ℕ) (vs : List Variable) (index : Option ℕ) (legs : List Offset) → 4 ≤ length legs
    → slants_or text line vs index legs ≡ slants text.slants text.steps line vs legs
more_legs text line vs index [] some = absurd (omega (arith, some))
more_legs text line vs index (a ∷ []) some = absurd (omega (arith, some))
more_legs text line vs index (a ∷ b ∷ []) some = absurd (omega (arith, some))
more_legs text line vs index (a ∷ b ∷ c ∷ []) some = absurd (omega (arith, some))
more_legs text line vs index (a ∷ b ∷ c ∷ d ∷ legs) some = refl
