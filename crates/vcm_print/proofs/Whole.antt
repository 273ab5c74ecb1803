-- The parts of a listing, one behind the other.
use Rattle.std.proofs.Common.{◌≡◌, ℕ, List, ◌++◌, Option, refl, sym, ap, ◌∙◌, codes}
use Rattle.std.specs.Prelude.{Result}
use Rattle.std.specs.Io.KnownBytes.{Appends}
use Rattle.std.proofs.lemmas.Grind.{flat_map-append}
use Rattle.vcm_code.specs.declared.code.Code.{Code}
use Rattle.vcm_num.specs.Written.{AppendsFront, Wrote}
use Rattle.vcm_num.proofs.KnownWrites.{front_first, front_then, wrote_then}
use Rattle.vcm_words.specs.declared.row.Row.TheVariants.{Head, Variable, Feature, Frame, Numbered}
use Rattle.vcm_words.specs.Rows.{ListRow, row_text, text_of, numbered, listing}
use Rattle.vcm_print.specs.inner.Written.{heading, lines}
use Rattle.vcm_print.specs.Listed.{listed}
use Rattle.vcm_print.proofs.Lines.{head_is}

-- the lines of the statements, and all before them
abbrev from_frames : Code → List ℕ
from_frames c = lines Frame 0 c.tables.frames ++ lines Numbered 0 c.statements

abbrev from_features : Code → List ℕ
from_features c = lines Feature 0 c.tables.features ++ from_frames c

abbrev from_variables : Code → List ℕ
from_variables c = lines Variable 0 c.tables.variables ++ from_features c

text_append : (rs qs : List ListRow) → text_of (rs ++ qs) ≡ text_of rs ++ text_of qs
text_append rs qs = flat_map-append (λ r. row_text r ++ codes "\n") rs qs

listing_is : (c : Code) → heading c.version ++ from_variables c ≡ listing c
unfolding listed
listing_is c =
    let vs : List ListRow = numbered Variable 0 c.tables.variables in
    let fs : List ListRow = numbered Feature 0 c.tables.features in
    let ds : List ListRow = numbered Frame 0 c.tables.frames in
    let ss : List ListRow = numbered Numbered 0 c.statements in
    ap (λ l. l ++ from_variables c) (head_is c.version)
    ∙ ap (λ l. listed (Head c.version) ++ l) (sym (text_append vs (fs ++ (ds ++ ss)) ∙ ap (λ l. text_of vs ++ l) (text_append fs (ds ++ ss) ∙ ap (λ l. text_of fs ++ l) (text_append ds ss))))

pub fault_head : (a b : Option (List ℕ)) (c : Code) → AppendsFront a b (heading c.version) → AppendsFront a b (listing c)
fault_head a b c h = front_first a b (heading c.version) (from_variables c) (listing c) (listing_is c) h

pub fault_variables : (a b d : Option (List ℕ)) (c : Code) → Appends a b (heading c.version) → AppendsFront b d (lines Variable 0 c.tables.variables) → AppendsFront a d (listing c)
fault_variables a b d c h v =
    front_then a b d (heading c.version) (from_variables c) (listing c) (listing_is c) h
    (front_first b d (lines Variable 0 c.tables.variables) (from_features c) (from_variables c) refl v)

pub fault_features : (a b d e : Option (List ℕ)) (c : Code) → Appends a b (heading c.version) → Appends b d (lines Variable 0 c.tables.variables)
    → AppendsFront d e (lines Feature 0 c.tables.features) → AppendsFront a e (listing c)
fault_features a b d e c h v f =
    front_then a b e (heading c.version) (from_variables c) (listing c) (listing_is c) h
    (front_then b d e (lines Variable 0 c.tables.variables) (from_features c) (from_variables c) refl v
    (front_first d e (lines Feature 0 c.tables.features) (from_frames c) (from_features c) refl f))

pub fault_frames : (a b d e g : Option (List ℕ)) (c : Code) → Appends a b (heading c.version) → Appends b d (lines Variable 0 c.tables.variables)
    → Appends d e (lines Feature 0 c.tables.features) → AppendsFront e g (lines Frame 0 c.tables.frames) → AppendsFront a g (listing c)
fault_frames a b d e g c h v f m =
    front_then a b g (heading c.version) (from_variables c) (listing c) (listing_is c) h
    (front_then b d g (lines Variable 0 c.tables.variables) (from_features c) (from_variables c) refl v
    (front_then d e g (lines Feature 0 c.tables.features) (from_frames c) (from_features c) refl f
    (front_first e g (lines Frame 0 c.tables.frames) (lines Numbered 0 c.statements) (from_frames c) refl m)))

pub wrote_whole : {A E : Type 0} (a b d e g k : Option (List ℕ)) (c : Code) (r : Result A E) → Appends a b (heading c.version)
    → Appends b d (lines Variable 0 c.tables.variables) → Appends d e (lines Feature 0 c.tables.features) → Appends e g (lines Frame 0 c.tables.frames)
    → Wrote g k (lines Numbered 0 c.statements) r → Wrote a k (listing c) r
wrote_whole a b d e g k c r h v f m s =
    wrote_then a b k (heading c.version) (from_variables c) (listing c) r (listing_is c) h
    (wrote_then b d k (lines Variable 0 c.tables.variables) (from_features c) (from_variables c) r refl v
    (wrote_then d e k (lines Feature 0 c.tables.features) (from_frames c) (from_features c) r refl f
    (wrote_then e g k (lines Frame 0 c.tables.frames) (lines Numbered 0 c.statements) (from_frames c) r refl m s)))
