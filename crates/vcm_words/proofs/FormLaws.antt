-- The operands of a statement in a listing are read as those of any statement, place by place.
use Rattle.std.proofs.Common.{◌≡◌, ℕ, List, [], ◌∷◌, Bool, Option, Some, None, Result, Ok, Err, refl, sym, ap, ◌∙◌}
use Rattle.vcm_code.specs.Copies.{listed}
use Rattle.vcm_code.proofs.Copies.{same_op}
use Rattle.vcm_code.specs.declared.word.Word.{Word}
use Rattle.vcm_code.specs.Code.{Op}
use Rattle.vcm_code.specs.Shape.{Place, Form, form, form_of, made}
use Rattle.vcm_fields.specs.Readers.{From, both as both_by, via as via_by, filled_by, form_by, operands_by}
use Rattle.vcm_words.specs.WordReaders.{Reader, both, via}
use Rattle.vcm_words.specs.Operands.{spelling, filled_at, form_at, operands_at}
use Rattle.vcm_words.specs.inner.Refusing.{LeftWords, or_refused, place_in}

via_same : {A B : Type 0} (exact : Bool) (f : A → B) (o : Option (A × List (List ℕ))) → via_by {L = LeftWords} f (λ l. or_refused exact o) (exact, []) ≡ or_refused exact (via f (λ ws. o) [])
via_same exact f None = refl
via_same exact f (Some x) = refl

both_same : {A B : Type 0} (exact : Bool) (o : Option (A × List (List ℕ))) (f : From LeftWords (Unit {0}) B) (b : Reader B) → ((ws : List (List ℕ)) → f (exact, ws) ≡ or_refused exact (b ws))
    → both_by {L = LeftWords} (λ l. or_refused exact o) f (exact, []) ≡ or_refused exact (both (λ ws. o) b [])
both_same exact None f b h = refl
both_same exact (Some x) f b h = ap (λ r. via_by {L = LeftWords} (λ y. (x.0, y)) (λ l. r) (exact, [])) (h x.1) ∙ via_same exact (λ y. (x.0, y)) (b x.1)

filled_same : (exact : Bool) (ps : List Place) (ws : List (List ℕ)) → filled_by place_in ps (exact, ws) ≡ or_refused exact (filled_at exact ps ws)
filled_same exact [] ws = refl
filled_same exact (p ∷ []) ws = refl
filled_same exact (p ∷ q ∷ ps) ws = both_same exact ((spelling p).at exact ws) (filled_by place_in (q ∷ ps)) (filled_at exact (q ∷ ps)) (filled_same exact (q ∷ ps))

form_same : (exact : Bool) (fm : Form) (ws : List (List ℕ)) → form_by place_in fm (exact, ws) ≡ or_refused exact (form_at exact fm ws)
form_same exact (form ps make) ws =
    ap (λ r. via_by {L = LeftWords} (made ps make) (λ l. r) (exact, [])) (filled_same exact ps ws) ∙ via_same exact (made ps make) (filled_at exact ps ws)

operands_same : (exact : Bool) (w : Word) (ws : List (List ℕ)) → operands_by place_in w (exact, ws) ≡ or_refused exact (operands_at exact w ws)
unfolding operands_by operands_at
operands_same exact w ws = form_same exact (form_of w) ws

was_some : (exact : Bool) (o : Option (Op × List (List ℕ))) (x : Op) (l : LeftWords) → or_refused exact o ≡ Ok (x, l) → o ≡ Some (x, l.1)
was_some exact None x l e = absurd cc
was_some exact (Some y) x l e = ap (λ (r : Result (Op × LeftWords) (Unit {0})). words_of r) e
  where
    words_of : Result (Op × LeftWords) (Unit {0}) → Option (Op × List (List ℕ))
    words_of (Ok z) = Some (z.0, z.1.1)
    words_of (Err u) = None

was_none : (exact : Bool) (o : Option (Op × List (List ℕ))) (u : Unit {0}) → or_refused exact o ≡ Err u → o ≡ None
was_none exact None u e = refl
was_none exact (Some y) u e = absurd cc

-- what was read so is what the words say
pub were_read : (exact : Bool) (w : Word) (ws : List (List ℕ)) (o : Op) (l : LeftWords)
    → operands_by place_in w (exact, ws) ≡ Ok (listed (λ e. e) (λ t. t) (λ b. b) o, l) → operands_at exact w ws ≡ Some (o, l.1)
were_read exact w ws o l e =
    was_some exact (operands_at exact w ws) o l (sym (operands_same exact w ws) ∙ e ∙ ap (λ (x : Op). Ok (x, l)) (same_op o))

pub were_refused : (exact : Bool) (w : Word) (ws : List (List ℕ)) (u : Unit {0}) → operands_by place_in w (exact, ws) ≡ Err u → operands_at exact w ws ≡ None
were_refused exact w ws u e = was_none exact (operands_at exact w ws) u (sym (operands_same exact w ws) ∙ e)
