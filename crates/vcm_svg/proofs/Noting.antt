-- Lines of what wasn't tried.
use Rattle.std.proofs.Common.{◌≡◌, refl, ◌∙◌, sym, ap, ℕ, ℤ, Bool, true, false, Vec, Global, List, [], ◌∷◌, ◌++◌, map, take, length, eqb, arith}
use Rattle.std.proofs.lemmas.List.{length-map, take-map}
use Rattle.vcm_svg.specs.declared.rect.Spot.{Spot}
use Rattle.vcm_svg.specs.Notes.{notes_from, begins_if, notes_text}
use Rattle.vcm_svg.specs.Style.{notes_style}

-- what lines hold
abbrev pub held : List (Vec ℕ Global) → List (List ℕ)
held lines = map (λ line. line.items) lines

-- what the first of them hold
pub few_held : (few lines : List (Vec ℕ Global)) → few ≡ take 40 lines → held few ≡ take 40 (held lines)
few_held few lines e = ap (λ xs. held xs) e ∙ sym (take-map (λ line. line.items) 40 lines)

-- how many these are
pub few_count : (few lines : List (Vec ℕ Global)) → few ≡ take 40 lines → length few ≡ length (take 40 (held lines))
few_count few lines e = sym (length-map few (λ line. line.items)) ∙ ap (λ xs. length xs) (few_held few lines e)

-- where there are lines, the first of them stand there, with the style and the row of the legend
pub some_noted : (u : ℤ) (down : ℕ) (lines few : List (Vec ℕ Global)) (at : Spot) (begins none : Bool) → few ≡ take 40 lines → none ≡ eqb (length lines) 0
    → none ≡ false → notes_style u ++ (notes_from u down (held few) ++ begins_if at u begins) ≡ notes_text u down (held lines) at begins
some_noted u down [] few at begins none e h f = absurd (let t : true ≡ false = sym h ∙ f in cc)
some_noted u down (line ∷ lines) few at begins none e h f =
    ap (λ xs. notes_style u ++ (notes_from u down xs ++ begins_if at u begins)) (few_held few (line ∷ lines) e)

-- where there are none, nothing does
pub none_noted : (u : ℤ) (down : ℕ) (lines : List (Vec ℕ Global)) (at : Spot) (begins none : Bool) → none ≡ eqb (length lines) 0 → none ≡ true
    → [] ≡ notes_text u down (held lines) at begins
none_noted u down [] at begins none h f = refl
none_noted u down (line ∷ lines) at begins none h f = absurd (let g : none ≡ false = grind arith in let t : true ≡ false = sym f ∙ g in cc)
