-- What holds of all fields of a statement holds of all its operands, and the other way round.
use Rattle.std.proofs.Common.{List, [], ◌∷◌, ◌++◌, sym, subst}
use Rattle.std.specs.Prelude.{flat_map}
use Rattle.std.specs.List.{AllByRecursion}
use Rattle.vcm_code.specs.Code.{Op}
use Rattle.vcm_code.specs.Shape.{Place, Said, Filled, places, Parted, parted, taken_apart, over_places, over_parted, InPlaces, InParted, InOperands}
use Rattle.vcm_fields.specs.Fields.{PlainField, in_plain, alone, AreFields}
use Rattle.vcm_fields.proofs.FieldPlaces.{values_are}
use Rattle.vcm_image.specs.inner.Meeting.{Meets, FieldMeets}

all_append : {A : Type 0} (P : A → Type 0) (xs ys : List A) → AllByRecursion P xs → AllByRecursion P ys → AllByRecursion P (xs ++ ys)
all_append P [] ys h g = g
all_append P (x ∷ xs) ys h g = (h.0, all_append P xs ys h.1 g)

all_front : {A : Type 0} (P : A → Type 0) (xs ys : List A) → AllByRecursion P (xs ++ ys) → AllByRecursion P xs
all_front P [] ys h = tt
all_front P (x ∷ xs) ys h = (h.0, all_front P xs ys h.1)

all_back : {A : Type 0} (P : A → Type 0) (xs ys : List A) → AllByRecursion P (xs ++ ys) → AllByRecursion P ys
all_back P [] ys h = h
all_back P (x ∷ xs) ys h = all_back P xs ys h.1

module _ (P : (p : Place) → Said p → Type 0) where
  values_meet : (fs : List PlainField) → AllByRecursion (FieldMeets P) fs → AllByRecursion (Meets P) (flat_map (in_plain alone) fs)
  values_meet [] h = tt
  values_meet (f ∷ fs) h = all_append (Meets P) (in_plain alone f) (flat_map (in_plain alone) fs) h.0 (values_meet fs h.1)

  fields_meet : (fs : List PlainField) → AllByRecursion (Meets P) (flat_map (in_plain alone) fs) → AllByRecursion (FieldMeets P) fs
  fields_meet [] h = tt
  fields_meet (f ∷ fs) h =
      (all_front (Meets P) (in_plain alone f) (flat_map (in_plain alone) fs) h, fields_meet fs (all_back (Meets P) (in_plain alone f) (flat_map (in_plain alone) fs) h))

  from_places : (ps : List Place) (x : Filled ps) → AllByRecursion (Meets P) (over_places alone ps x) → InPlaces P ps x
  from_places [] x h = tt
  from_places (p ∷ []) x h = h.0
  from_places (p ∷ q ∷ ps) x h = (h.0, from_places (q ∷ ps) x.1 h.1)

  to_places : (ps : List Place) (x : Filled ps) → InPlaces P ps x → AllByRecursion (Meets P) (over_places alone ps x)
  to_places [] x h = tt
  to_places (p ∷ []) x h = (h, tt)
  to_places (p ∷ q ∷ ps) x h = (h.0, to_places (q ∷ ps) x.1 h.1)

  from_parted : (p : Parted) → AllByRecursion (Meets P) (over_parted alone p) → InParted P p
  from_parted (parted w x) h = from_places (places w) x h

  to_parted : (p : Parted) → InParted P p → AllByRecursion (Meets P) (over_parted alone p)
  to_parted (parted w x) h = to_places (places w) x h

  -- the operands meet what all fields do
  pub operands_meet : (fs : List PlainField) (o : Op) → AreFields fs o → AllByRecursion (FieldMeets P) fs → InOperands P o
  operands_meet fs o are h = from_parted (taken_apart o) (subst (AllByRecursion (Meets P)) (values_are fs o are) (values_meet fs h))

  -- and the fields what all operands do
  pub each_meets : (fs : List PlainField) (o : Op) → AreFields fs o → InOperands P o → AllByRecursion (FieldMeets P) fs
  each_meets fs o are h = fields_meet fs (subst (AllByRecursion (Meets P)) (sym (values_are fs o are)) (to_parted (taken_apart o) h))
