-- The statements of an adapted text.
use Rattle.std.proofs.Common.{◌≡◌, ℕ, ◌+◌, Bool, true, false, cond, List, [], ◌∷◌, refl, sym, ap, ◌∙◌}
use Rattle.std.specs.List.{onto_first}
use Rattle.vcm_lines.specs.Segments.{continues}
use Rattle.vcm_lines.specs.Statements.{KeptLine, kept_line, is_empty, kept_lines_from, kept_lines, grouped}
use Rattle.vcm_lines.proofs.SegmentLemmas.{segments_none}
use Rattle.vcm_adapt.specs.declared.edit.Edit.{Edit}
use Rattle.vcm_adapt.specs.declared.edit.Edit.TheVariants.{Keep, LeaveOut, Put}
use Rattle.vcm_adapt.specs.Adapted.{edited_lines, adapted}
use Rattle.vcm_adapt.specs.Laws.{IsNew, AreNew}
use Rattle.std.specs.Str.Lines.{lines}
use Rattle.vcm_adapt.proofs.Endings.{lines_adapted}
use Rattle.vcm_adapt.specs.Read.{IsClosed, AreClosed, seen, seen_lines}
use Rattle.vcm_adapt.proofs.Seen.{seen_alike}
use Rattle.vcm_adapt.specs.Choices.{of_others, choices_behind, line_edits, chosen, IsStatement, AreStatements}

-- the kept lines of lines
rows_empty : (n : ℕ) (l : List ℕ) (ls : List (List ℕ)) → is_empty l ≡ true → kept_lines_from n (l ∷ ls) ≡ kept_lines_from (n + 1) ls
rows_empty n l ls e = rw e refl

rows_kept : (n : ℕ) (l : List ℕ) (ls : List (List ℕ)) → is_empty l ≡ false → kept_lines_from n (l ∷ ls) ≡ kept_line n l ∷ kept_lines_from (n + 1) ls
rows_kept n l ls e = rw e refl

rows_nothing : (n : ℕ) (ls : List (List ℕ)) → kept_lines_from n ([] ∷ ls) ≡ kept_lines_from (n + 1) ls
rows_nothing n ls = rw segments_none refl

-- the statements of kept lines
group_ends : (r : KeptLine) (rs : List KeptLine) → r.goes_on ≡ false → grouped (r ∷ rs) ≡ (r ∷ []) ∷ grouped rs
group_ends r rs e = rw e refl

group_goes : (r : KeptLine) (rs : List KeptLine) → r.goes_on ≡ true → grouped (r ∷ rs) ≡ onto_first r (grouped rs)
group_goes r rs e = rw e refl

-- what becomes of a statement that has one more line in front
nothing_chosen : (cs : List Edit) → chosen cs [] ≡ []
nothing_chosen [] = refl
nothing_chosen (c ∷ cs) = refl

all_chosen : (gs : List (List KeptLine)) → chosen [] gs ≡ gs
all_chosen [] = refl
all_chosen (g ∷ gs) = refl

keep_onto : (r : KeptLine) (cs : List Edit) (gs : List (List KeptLine)) → onto_first r (chosen (Keep ∷ cs) gs) ≡ chosen (Keep ∷ cs) (onto_first r gs)
keep_onto r cs [] = ap (λ (x : List (List KeptLine)). (r ∷ []) ∷ x) (sym (nothing_chosen cs))
keep_onto r cs (g ∷ gs) = refl

leave_onto : (r : KeptLine) (cs : List Edit) (gs : List (List KeptLine)) → chosen (LeaveOut ∷ cs) gs ≡ chosen (LeaveOut ∷ cs) (onto_first r gs)
leave_onto r cs [] = sym (nothing_chosen cs)
leave_onto r cs (g ∷ gs) = refl

put_onto : (r : KeptLine) (new : List ℕ) (cs : List Edit) (gs : List (List KeptLine)) → (kept_line r.line new ∷ []) ∷ chosen (LeaveOut ∷ cs) gs ≡ chosen (Put new ∷ cs) (onto_first r gs)
put_onto r new cs [] = ap (λ (x : List (List KeptLine)). (kept_line r.line new ∷ []) ∷ x) (sym (nothing_chosen cs))
put_onto r new cs (g ∷ gs) = refl

-- the statements of the lines from the n-th on, as the edits leave them
abbrev left : ℕ → List Edit → List (List ℕ) → List (List KeptLine)
left n cs ls = grouped (kept_lines_from n (seen_lines (line_edits cs ls) ls))

abbrev AreChosen : ℕ → List Edit → List (List ℕ) → Type 0
AreChosen n cs ls = left n cs ls ≡ chosen cs (grouped (kept_lines_from n ls))

-- a line with its edit, and those behind it with theirs
abbrev left_behind : ℕ → Edit → List ℕ → List Edit → List (List ℕ) → List (List KeptLine)
left_behind n c l cs ls = grouped (kept_lines_from n (seen c l ∷ seen_lines (line_edits cs ls) ls))

empty_line : (n : ℕ) (l : List ℕ) (ls : List (List ℕ)) (c : Edit) (cs : List Edit) → is_empty l ≡ true → AreChosen (n + 1) (c ∷ cs) ls
    → left_behind n Keep l (c ∷ cs) ls ≡ chosen (c ∷ cs) (grouped (kept_lines_from n (l ∷ ls)))
empty_line n l ls c cs e h =
    ap grouped (rows_empty n l (seen_lines (line_edits (c ∷ cs) ls) ls) e) ∙ h ∙ ap (λ (x : List KeptLine). chosen (c ∷ cs) (grouped x)) (sym (rows_empty n l ls e))

-- a line that ends its statement
last_line : (n : ℕ) (l : List ℕ) (ls : List (List ℕ)) (c : Edit) (cs : List Edit) → is_empty l ≡ false → continues l ≡ false → IsStatement c → AreChosen (n + 1) cs ls
    → left_behind n c l cs ls ≡ chosen (c ∷ cs) (grouped (kept_lines_from n (l ∷ ls)))
last_line n l ls Keep cs e f s h =
    rw (
      rows_kept n l ls e,
      rows_kept n l (seen_lines (line_edits cs ls) ls) e,
      group_ends (kept_line n l) (kept_lines_from (n + 1) ls) f,
      group_ends
          (kept_line n l) (kept_lines_from (n + 1) (seen_lines (line_edits cs ls) ls)) f,
    )
    (ap (λ (x : List (List KeptLine)). (kept_line n l ∷ []) ∷ x) h)
last_line n l ls LeaveOut cs e f s h =
    rw (rows_kept n l ls e, rows_nothing n (seen_lines (line_edits cs ls) ls), group_ends (kept_line n l) (kept_lines_from (n + 1) ls) f) h
last_line n l ls (Put new) cs e f s h =
    rw (
      rows_kept n l ls e,
      rows_kept n new (seen_lines (line_edits cs ls) ls) s.0,
      group_ends (kept_line n l) (kept_lines_from (n + 1) ls) f,
      group_ends
          (kept_line n new) (kept_lines_from (n + 1) (seen_lines (line_edits cs ls) ls)) s.1,
    )
    (ap (λ (x : List (List KeptLine)). (kept_line n new ∷ []) ∷ x) h)

-- a line behind which its statement goes on
going_line : (n : ℕ) (l : List ℕ) (ls : List (List ℕ)) (c : Edit) (cs : List Edit) → is_empty l ≡ false → continues l ≡ true → IsStatement c → AreChosen (n + 1) (of_others c ∷ cs) ls
    → left_behind n c l (of_others c ∷ cs) ls ≡ chosen (c ∷ cs) (grouped (kept_lines_from n (l ∷ ls)))
going_line n l ls Keep cs e f s h =
    rw (
      rows_kept n l ls e,
      rows_kept n l (seen_lines (line_edits (Keep ∷ cs) ls) ls) e,
      group_goes (kept_line n l) (kept_lines_from (n + 1) ls) f,
      group_goes
          (kept_line n l) (kept_lines_from (n + 1) (seen_lines (line_edits (Keep ∷ cs) ls) ls)) f,
    )
    (ap (onto_first (kept_line n l)) h ∙ keep_onto (kept_line n l) cs (grouped (kept_lines_from (n + 1) ls)))
going_line n l ls LeaveOut cs e f s h =
    rw (rows_kept n l ls e, rows_nothing n (seen_lines (line_edits (LeaveOut ∷ cs) ls) ls), group_goes (kept_line n l) (kept_lines_from (n + 1) ls) f)
    (h ∙ leave_onto (kept_line n l) cs (grouped (kept_lines_from (n + 1) ls)))
going_line n l ls (Put new) cs e f s h =
    rw (
      rows_kept n l ls e,
      rows_kept n new (seen_lines (line_edits (LeaveOut ∷ cs) ls) ls) s.0,
      group_goes (kept_line n l) (kept_lines_from (n + 1) ls) f,
      group_ends (kept_line n new) (kept_lines_from (n + 1) (seen_lines (line_edits (LeaveOut ∷ cs) ls) ls)) s.1,
    )
    (ap (λ (x : List (List KeptLine)). (kept_line n new ∷ []) ∷ x) h ∙ put_onto (kept_line n l) new cs (grouped (kept_lines_from (n + 1) ls)))

others_stand : (c : Edit) → IsStatement (of_others c)
others_stand Keep = tt
others_stand LeaveOut = tt
others_stand (Put new) = tt

edits_last : (l : List ℕ) (ls : List (List ℕ)) (c : Edit) (cs : List Edit) → is_empty l ≡ false → continues l ≡ false → line_edits (c ∷ cs) (l ∷ ls) ≡ c ∷ line_edits cs ls
edits_last l ls c cs e f = rw (e, f) refl

edits_going : (l : List ℕ) (ls : List (List ℕ)) (c : Edit) (cs : List Edit) → is_empty l ≡ false → continues l ≡ true → line_edits (c ∷ cs) (l ∷ ls) ≡ c ∷ line_edits (of_others c ∷ cs) ls
edits_going l ls c cs e f = rw (e, f) refl

edits_empty : (l : List ℕ) (ls : List (List ℕ)) (c : Edit) (cs : List Edit) → is_empty l ≡ true → line_edits (c ∷ cs) (l ∷ ls) ≡ Keep ∷ line_edits (c ∷ cs) ls
edits_empty l ls c cs e = rw e refl

by_line : (t u : Bool) (n : ℕ) (l : List ℕ) (ls : List (List ℕ)) (c : Edit) (cs : List Edit) → is_empty l ≡ t → continues l ≡ u → AreStatements (c ∷ cs)
    → ((ds : List Edit) → AreStatements ds → AreChosen (n + 1) ds ls) → AreChosen n (c ∷ cs) (l ∷ ls)
by_line true u n l ls c cs e f s h =
    ap (λ (es : List Edit). grouped (kept_lines_from n (seen_lines es (l ∷ ls)))) (edits_empty l ls c cs e) ∙ empty_line n l ls c cs e (h (c ∷ cs) s)
by_line false true n l ls c cs e f s h =
    ap (λ (es : List Edit). grouped (kept_lines_from n (seen_lines es (l ∷ ls)))) (edits_going l ls c cs e f)
    ∙ going_line n l ls c cs e f s.0 (h (of_others c ∷ cs) (others_stand c, s.1))
by_line false false n l ls c cs e f s h =
    ap (λ (es : List Edit). grouped (kept_lines_from n (seen_lines es (l ∷ ls)))) (edits_last l ls c cs e f) ∙ last_line n l ls c cs e f s.0 (h cs s.1)

are_chosen : (n : ℕ) (cs : List Edit) (ls : List (List ℕ)) → AreStatements cs → AreChosen n cs ls
are_chosen n cs [] s = sym (nothing_chosen cs)
are_chosen n [] (l ∷ ls) s = sym (all_chosen (grouped (kept_lines_from n (l ∷ ls))))
are_chosen n (c ∷ cs) (l ∷ ls) s = by_line (is_empty l) (continues l) n l ls c cs refl refl s (λ ds d. are_chosen (n + 1) ds ls d)

pub statements_chosen : (cs : List Edit) (ls : List (List ℕ)) → AreStatements cs → grouped (kept_lines (seen_lines (line_edits cs ls) ls)) ≡ chosen cs (grouped (kept_lines ls))
statements_chosen cs ls s = are_chosen 1 cs ls s

-- what is put stays closed
closed_edit : (t : Bool) (c : Edit) → IsClosed c → IsClosed (cond t Keep c)
closed_edit true c h = tt
closed_edit false c h = h

closed_others : (c : Edit) → IsClosed (of_others c)
closed_others Keep = tt
closed_others LeaveOut = tt
closed_others (Put new) = tt

closed_behind : (t u : Bool) (c : Edit) (cs : List Edit) → AreClosed (c ∷ cs) → AreClosed (cond t (c ∷ cs) (cond u (of_others c ∷ cs) cs))
closed_behind true u c cs h = h
closed_behind false true c cs h = (closed_others c, h.1)
closed_behind false false c cs h = h.1

closed_edits : (cs : List Edit) (ls : List (List ℕ)) → AreClosed cs → AreClosed (line_edits cs ls)
closed_edits cs [] h = tt
closed_edits [] (l ∷ ls) h = tt
closed_edits (c ∷ cs) (l ∷ ls) h = (closed_edit (is_empty l) c h.0, closed_edits (choices_behind l c cs) ls (closed_behind (is_empty l) (continues l) c cs h))

pub statements_edited : (cs : List Edit) (ls : List (List ℕ)) → AreClosed cs → AreStatements cs → grouped (kept_lines (edited_lines (line_edits cs ls) ls)) ≡ chosen cs (grouped (kept_lines ls))
statements_edited cs ls h s = ap grouped (seen_alike (line_edits cs ls) ls (closed_edits cs ls h)) ∙ statements_chosen cs ls s

-- what is put may still stand for a line
new_edit : (t : Bool) (c : Edit) → IsNew c → IsNew (cond t Keep c)
new_edit true c h = tt
new_edit false c h = h

new_others : (c : Edit) → IsNew (of_others c)
new_others Keep = tt
new_others LeaveOut = tt
new_others (Put new) = tt

new_behind : (t u : Bool) (c : Edit) (cs : List Edit) → AreNew (c ∷ cs) → AreNew (cond t (c ∷ cs) (cond u (of_others c ∷ cs) cs))
new_behind true u c cs h = h
new_behind false true c cs h = (new_others c, h.1)
new_behind false false c cs h = h.1

pub new_edits : (cs : List Edit) (ls : List (List ℕ)) → AreNew cs → AreNew (line_edits cs ls)
new_edits cs [] h = tt
new_edits [] (l ∷ ls) h = tt
new_edits (c ∷ cs) (l ∷ ls) h = (new_edit (is_empty l) c h.0, new_edits (choices_behind l c cs) ls (new_behind (is_empty l) (continues l) c cs h))

pub texts_edited : (cs : List Edit) (text : List ℕ) → AreNew cs → AreClosed cs → AreStatements cs
    → grouped (kept_lines (lines (adapted (line_edits cs (lines text)) text))) ≡ chosen cs (grouped (kept_lines (lines text)))
texts_edited cs text n h s =
    ap (λ (ls : List (List ℕ)). grouped (kept_lines ls)) (lines_adapted (line_edits cs (lines text)) text (new_edits cs (lines text) n)) ∙ statements_edited cs (lines text) h s
