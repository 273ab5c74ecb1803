-- Turns one after the other.
use Rattle.std.proofs.Common.{◌≡◌, ℕ, List, [], ◌∷◌, Option, Some, None, Ok, IsTrue, refl, sym, ap, ◌∙◌, IfSome}
use Rattle.vcm_num.specs.declared.number.Literal.{Literal}
use Rattle.vcm_num.specs.Literals.{Reads}
use Rattle.vcm_num.specs.Point.{is_near_zero}
use Rattle.std.specs.Prelude.{ℤ}
use Rattle.vcm_mesh.specs.declared.placing.Turn.{Turn}
use Rattle.vcm_blocks.specs.Words.{turned, turned_all, between_commas, micrometres, IsLength}

none_turned : (ws : List (List ℕ)) → turned_all None ws ≡ None
none_turned [] = refl
none_turned (w ∷ ws) = none_turned ws

module _ (t : Turn) (rest : List ℕ) (total : Option Turn) (so_far : turned_all (Some t) (between_commas rest) ≡ total) where
  module _ (front behind : List ℕ) (cut : between_commas rest ≡ front ∷ between_commas behind) where
    first : turned_all (Some t) (between_commas rest) ≡ turned_all (turned t front) (between_commas behind)
    first = rw cut refl

    pub goes_on : (u : Turn) → turned t front ≡ Some u → turned_all (Some u) (between_commas behind) ≡ total
    goes_on u h = sym (first ∙ ap (λ (x : Option Turn). turned_all x (between_commas behind)) h) ∙ so_far

    pub ends : turned t front ≡ None → total ≡ None
    ends h = sym so_far ∙ first ∙ ap (λ (x : Option Turn). turned_all x (between_commas behind)) h ∙ none_turned (between_commas behind)

  pub is_done : between_commas rest ≡ rest ∷ [] → turned t rest ≡ total
  is_done cut =
      let one : turned_all (Some t) (between_commas rest) ≡ turned t rest = rw cut refl in
      sym one ∙ so_far

-- a literal that a word spells, as a length
pub length_is : (word : List ℕ) (x : Literal) (r : Option ℤ) → Reads word (Ok x) → IfSome r (λ z. (z ≡ micrometres x) × IsTrue (is_near_zero z)) → IfSome r (IsLength word)
length_is word x None h k = k
length_is word x (Some z) h k = record { literal = x; spelled = h; is = k.0; near = k.1 }
