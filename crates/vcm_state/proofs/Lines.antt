-- Printed lines of features, piece by piece.
use Rattle.std.specs.Prelude.{codes}
use Rattle.std.specs.Fmt.{signed_decimal}
use Rattle.vcm_num.specs.Texts.{thousandths}
use Rattle.vcm_num.specs.Point.{coordinate}
use Rattle.vcm_num.specs.Axis.{unit}
use Rattle.vcm_spec.specs.declared.feature.Feature.{Feature}
use Rattle.vcm_spec.specs.declared.words.Source.{Source}
use Rattle.vcm_spec.specs.Texts.{letters, feature_line}
use Rattle.std.proofs.Common.{◌≡◌, ℕ, List, [], ◌∷◌, ◌++◌, refl, ◌∙◌, ap}

append-assoc : (a b c : List ℕ) → (a ++ b) ++ c ≡ a ++ (b ++ c)
append-assoc [] b c = refl
append-assoc (x ∷ a) b c = ap (λ l. x ∷ l) (append-assoc a b c)

-- five pieces appended one by one are the five in a row
five : (s a b c d e : List ℕ) → s ++ a ++ b ++ c ++ d ++ e ≡ s ++ (a ++ b ++ c ++ d ++ e)
five s a b c d e =
    ap (λ p. p ++ c ++ d ++ e) (append-assoc s a b)
    ∙ ap (λ p. p ++ d ++ e) (append-assoc s (a ++ b) c)
    ∙ ap (λ p. p ++ e) (append-assoc s (a ++ b ++ c) d)
    ∙ append-assoc s (a ++ b ++ c ++ d) e

-- a front, three numbers with commas between them, a comma, and three more
line_of : (s x k y m z q i r j t h : List ℕ)
    → s ++ x ++ k ++ y ++ m ++ z ++ q ++ i ++ r ++ j ++ t ++ h ≡ s ++ (x ++ k ++ y ++ m ++ z) ++ q ++ (i ++ r ++ j ++ t ++ h)
line_of s x k y m z q i r j t h =
    ap (λ p. p ++ q ++ i ++ r ++ j ++ t ++ h) (five s x k y m z) ∙ five (s ++ (x ++ k ++ y ++ m ++ z) ++ q) i r j t h

-- the pieces of a feature's line
pub printed_is : (source : Source) (name : List ℕ) (f : Feature)
    → letters source ++ name ++ codes ")=FEAT/POINT,CART," ++ thousandths (coordinate f.at 0) ++ codes "," ++ thousandths (coordinate f.at 1) ++ codes ","
    ++ thousandths (coordinate f.at 2) ++ codes "," ++ signed_decimal (unit f.toward 0) ++ codes "," ++ signed_decimal (unit f.toward 1) ++ codes "," ++ signed_decimal (unit f.toward 2)
    ≡ feature_line source name f
printed_is source name f =
    line_of (letters source ++ name ++ codes ")=FEAT/POINT,CART,") (thousandths (coordinate f.at 0)) (codes ",") (thousandths (coordinate f.at 1)) (codes ",")
    (thousandths (coordinate f.at 2)) (codes ",") (signed_decimal (unit f.toward 0)) (codes ",") (signed_decimal (unit f.toward 1)) (codes ",") (signed_decimal (unit f.toward 2))
