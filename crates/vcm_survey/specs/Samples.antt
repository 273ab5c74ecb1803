-- A worked example: what a text is adapted to by what becomes of its statements, and what that is taken back to.
use Rattle.std.specs.Prelude.{◌≡◌, refl, ℕ, List, [], ◌∷◌, ◌++◌, codes, true}
use Rattle.vcm_adapt.specs.declared.edit.Edit.{Edit}
use Rattle.vcm_adapt.specs.declared.edit.Edit.TheVariants.{Keep, LeaveOut, Put}
use Rattle.vcm_num.specs.Lines.{whole_lines}
use Rattle.vcm_adapt.specs.Marks.{begins_mark, behind_mark, restored}
use Rattle.vcm_adapt.specs.Adapted.{adapted}
use Rattle.vcm_sentences.specs.declared.sentences.Owner.{Owner}
use Rattle.vcm_sentences.specs.declared.sentences.Owner.TheVariants.{Nobody, First, Other}
use Rattle.vcm_survey.specs.Edits.{line_edits}

-- a line in front of others
abbrev line : List ℕ → List ℕ → List ℕ
line bytes others = bytes ++ (10 ∷ others)

-- a point of a plane over two lines, a comment, and a move
abbrev pub planes : List ℕ
planes = line (codes "MEAS/PLANE,F(P),1")
    (line (codes " PTMEAS/CART,1,2,50, $") (line (codes "  0,0,1") (line (codes "ENDMES") (line (codes "$$ home") (line (codes "GOHOME") [])))))

-- MEAS and ENDMES become comments, the point is approached, and the move stays
abbrev pub approached : List Edit
approached = LeaveOut ∷ Put (codes " GOTO/1.000,2.000,54.000") ∷ LeaveOut ∷ Keep ∷ []

abbrev pub owners : List Owner
owners = First ∷ First ∷ Other ∷ First ∷ Nobody ∷ First ∷ []

abbrev pub moves : List ℕ
moves = line (codes "$$- MEAS/PLANE,F(P),1")
    (line (codes " GOTO/1.000,2.000,54.000  $$-  PTMEAS/CART,1,2,50, $")
    (line (codes "$$-   0,0,1") (line (codes "$$- ENDMES") (line (codes "$$ home") (line (codes "GOHOME") [])))))

pub planes_become_moves : adapted (line_edits owners approached true) planes ≡ moves
unfolding whole_lines
planes_become_moves = refl

pub moves_are_taken_back : restored moves ≡ planes
unfolding whole_lines begins_mark behind_mark
moves_are_taken_back = refl
