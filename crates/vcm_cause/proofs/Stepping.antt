-- What is known behind one step more.
use Rattle.std.proofs.Common.{◌≡◌, ℕ, List, [], ◌∷◌, ◌++◌, refl, sym, ap, ◌∙◌}
use Rattle.vcm_spec.specs.Workpiece.{Workpiece}
use Rattle.vcm_marks.specs.declared.mark.Mark.{Mark}
use Rattle.vcm_steps.specs.Passages.{Passage}
use Rattle.vcm_way.specs.Ways.{step_marks}
use Rattle.vcm_cause.specs.Behind.{Behind, rounds_behind, framed_behind, one_behind, behind}

behind_more : (part : Workpiece) (b : Behind) (ps : List Passage) (p : Passage) → behind part b (ps ++ p ∷ []) ≡ one_behind part (behind part b ps) p
behind_more part b [] p = refl
behind_more part b (q ∷ ps) p = behind_more part (one_behind part b q) ps p

-- what is known of these marks, rounds and line of a frame
abbrev known : List Mark → List ℕ → ℕ → Behind
known marks rounds framed = record { marks = marks; rounds = rounds; framed = framed }

pub one_seen : (part : Workpiece) (from : Behind) (ps : List Passage) (p : Passage) (marks : List Mark) (rounds : List ℕ) (framed : ℕ) (old : Behind)
    → old ≡ behind part from ps → marks ≡ step_marks part p → rounds ≡ rounds_behind old.rounds p.statement.op p.number p.next p.after.stop
    → framed ≡ framed_behind old.framed p.statement.op p.statement.line p.after.stop → known marks rounds framed ≡ behind part from (ps ++ p ∷ [])
one_seen part from ps p marks rounds framed old e em er ef =
    ap (λ m. known m rounds framed) em
    ∙ ap (λ r. known (step_marks part p) r framed) (er ∙ ap (λ (o : Behind). rounds_behind o.rounds p.statement.op p.number p.next p.after.stop) e)
    ∙ ap (known (step_marks part p) (rounds_behind (behind part from ps).rounds p.statement.op p.number p.next p.after.stop))
    (ef ∙ ap (λ (o : Behind). framed_behind o.framed p.statement.op p.statement.line p.after.stop) e)
    ∙ sym (behind_more part from ps p)
