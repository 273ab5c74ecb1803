-- A statement and the values in its places.
use Rattle.std.proofs.Common.{◌≡◌, List, [], ◌∷◌, refl}
use Rattle.vcm_spec.specs.declared.simple.Simple.TheVariants.{GoHome}
use Rattle.vcm_code.specs.declared.word.Word.{Word}
use Rattle.vcm_code.specs.declared.word.Word.TheVariants as words
use Rattle.vcm_code.specs.Code.{Op}
use Rattle.vcm_code.specs.declared.op.Op.TheVariants.{Plain, EndFil}
use Rattle.vcm_code.specs.Shape.{Place, Said, Filled, places, op_in, Parted, parted, put_together, taken_apart, InPlaces, InParted, InOperands}

-- what is made of values is taken apart into them
pub apart_made : (w : Word) (f : Filled (places w)) → taken_apart (op_in w f) ≡ parted w f
apart_made words.EndFil f = refl
apart_made _ f = refl

-- a statement taken apart and put together again is that statement
pub together_apart : (o : Op) → put_together (taken_apart o) ≡ o
together_apart EndFil = refl
together_apart (Plain GoHome) = refl
together_apart (Plain _) = refl
together_apart _ = refl

-- ---- what holds of operands

module _ (P Q : (p : Place) → Said p → Type 0) where
  -- both of these
  abbrev Both : (p : Place) → Said p → Type 0
  Both p x = P p x × Q p x

  both_places : (ps : List Place) (x : Filled ps) → InPlaces P ps x → InPlaces Q ps x → InPlaces Both ps x
  both_places [] x f g = tt
  both_places (p ∷ []) x f g = (f, g)
  both_places (p ∷ q ∷ ps) x f g = ((f.0, g.0), both_places (q ∷ ps) x.1 f.1 g.1)

  first_places : (ps : List Place) (x : Filled ps) → InPlaces Both ps x → InPlaces P ps x
  first_places [] x h = tt
  first_places (p ∷ []) x h = h.0
  first_places (p ∷ q ∷ ps) x h = (h.0.0, first_places (q ∷ ps) x.1 h.1)

  second_places : (ps : List Place) (x : Filled ps) → InPlaces Both ps x → InPlaces Q ps x
  second_places [] x h = tt
  second_places (p ∷ []) x h = h.1
  second_places (p ∷ q ∷ ps) x h = (h.0.1, second_places (q ∷ ps) x.1 h.1)

  both_parted : (p : Parted) → InParted P p → InParted Q p → InParted Both p
  both_parted (parted w x) f g = both_places (places w) x f g

  first_parted : (p : Parted) → InParted Both p → InParted P p
  first_parted (parted w x) h = first_places (places w) x h

  second_parted : (p : Parted) → InParted Both p → InParted Q p
  second_parted (parted w x) h = second_places (places w) x h

  -- of a statement
  pub both_in : (o : Op) → InOperands P o → InOperands Q o → InOperands (λ p x. P p x × Q p x) o
  both_in o f g = both_parted (taken_apart o) f g

  pub first_in : (o : Op) → InOperands (λ p x. P p x × Q p x) o → InOperands P o
  first_in o h = first_parted (taken_apart o) h

  pub second_in : (o : Op) → InOperands (λ p x. P p x × Q p x) o → InOperands Q o
  second_in o h = second_parted (taken_apart o) h
