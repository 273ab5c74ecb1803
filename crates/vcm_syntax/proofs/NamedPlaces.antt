-- Words that are no name with a letter before it, and no title.
use Rattle.std.proofs.Common.{◌≡◌, ℕ, List, [], ◌∷◌, Ok, Err, refl}
use Rattle.std.specs.Prelude.{Some, None}
use Rattle.vcm_lines.specs.declared.fault.FaultCode.TheVariants.{BadSyntax}
use Rattle.vcm_lines.specs.Lexemes.{Lexeme, Run, Equals, Open, Close}
use Rattle.vcm_syntax.specs.declared.heads.Letter.{Letter}
use Rattle.vcm_syntax.specs.declared.heads.Prefix.TheVariants.{Bare}
use Rattle.vcm_syntax.specs.Majors.{title_of}
use Rattle.vcm_syntax.specs.Places.{named_of, source_of}

-- words that are no word with another one in parentheses
abbrev pub Unlabelled : List Lexeme → Type 0
Unlabelled f = (w l : List ℕ) → f ≡ Run w ∷ Open ∷ Run l ∷ Close ∷ [] → ⊥

pub unnamed : (letter : List ℕ) (f : List Lexeme) → Unlabelled f → named_of letter f ≡ Err BadSyntax
unnamed letter (Run w ∷ Open ∷ Run l ∷ Close ∷ []) h = absurd (h w l refl)
unnamed letter _ h = refl

pub unsourced : (f : List Lexeme) → Unlabelled f → source_of f ≡ Err BadSyntax
unsourced (Run w ∷ Open ∷ Run l ∷ Close ∷ []) h = absurd (h w l refl)
unsourced _ h = refl

-- words that are no title behind its parenthesis
abbrev pub NoTitle : List Lexeme → Type 0
NoTitle f = (l : List ℕ) (ws : List Lexeme) → f ≡ Run l ∷ Close ∷ Equals ∷ ws → ⊥

pub untitled : (w : List ℕ) (f : List Lexeme) → NoTitle f → title_of None w f ≡ Ok (Bare, Run w ∷ Open ∷ f)
untitled w (Run l ∷ Close ∷ Equals ∷ ws) h = absurd (h l ws refl)
untitled w _ h = refl

pub unclosed : (letter : Letter) (w : List ℕ) (f : List Lexeme) → NoTitle f → title_of (Some letter) w f ≡ Err BadSyntax
unclosed letter w (Run l ∷ Close ∷ Equals ∷ ws) h = absurd (h l ws refl)
unclosed letter w _ h = refl
