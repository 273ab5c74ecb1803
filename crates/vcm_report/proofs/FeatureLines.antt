-- Lines of features, part by part.
use Rattle.std.specs.Prelude.{codes}
use Rattle.std.specs.Fmt.{signed_decimal}
use Rattle.vcm_num.specs.Texts.{thousandths}
use Rattle.vcm_num.specs.Point.{coordinate}
use Rattle.vcm_num.specs.Axis.{unit}
use Rattle.vcm_spec.specs.declared.feature.Feature.{Feature}
use Rattle.vcm_spec.specs.declared.words.Source.{Source}
use Rattle.vcm_spec.specs.Texts.{three_texts, letters, feature_line}
use Rattle.vcm_report.specs.Printed.{in_a_row, point_text}
use Rattle.std.proofs.Common.{◌≡◌, ℕ, List, [], ◌∷◌, ◌++◌, sym, ◌∙◌, ap, append_assoc}
use Rattle.std.proofs.lemmas.List.{append-nil}

-- three texts with commas between them
pub row_is : (x y z : List ℕ) → in_a_row (x ∷ codes "," ∷ y ∷ codes "," ∷ z ∷ []) ≡ x ++ codes "," ++ y ++ codes "," ++ z
row_is x y z =
    ap (λ l. x ++ (codes "," ++ (y ++ (codes "," ++ l)))) (append-nil z)
    ∙ sym (append_assoc x (codes ",") _)
    ∙ sym (append_assoc (x ++ codes ",") y _)
    ∙ sym (append_assoc (x ++ codes "," ++ y) (codes ",") z)

-- the parts of a line, in a row
parts_are : (a b c x d y : List ℕ) → a ++ (b ++ (c ++ (x ++ (d ++ y)))) ≡ a ++ b ++ c ++ x ++ d ++ y
parts_are a b c x d y =
    sym (append_assoc a b _) ∙ sym (append_assoc (a ++ b) c _) ∙ sym (append_assoc (a ++ b ++ c) x _) ∙ sym (append_assoc (a ++ b ++ c ++ x) d y)

pub line_is : (source : Source) (name : List ℕ) (f : Feature)
    → letters source ++ (name ++ (codes ")=FEAT/POINT,CART," ++ (point_text (codes ",") f.at ++ (codes "," ++ three_texts (λ k. signed_decimal (unit f.toward k))))))
    ≡ feature_line source name f
line_is source name f =
    let behind = three_texts (λ k. signed_decimal (unit f.toward k)) in
    ap (λ l. letters source ++ (name ++ (codes ")=FEAT/POINT,CART," ++ (l ++ (codes "," ++ behind)))))
    (row_is (thousandths (coordinate f.at 0)) (thousandths (coordinate f.at 1)) (thousandths (coordinate f.at 2)))
    ∙ parts_are (letters source) name (codes ")=FEAT/POINT,CART,") (three_texts (λ k. thousandths (coordinate f.at k))) (codes ",") behind
