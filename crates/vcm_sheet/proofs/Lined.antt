-- How many lines a heading has.
use Rattle.std.proofs.Common.{◌≡◌, ◌∙◌, sym, ap, refl, ℕ, suc, ◌+◌, min, Bool, true, false, List, [], ◌∷◌, ◌++◌, length, length-append, take, Option, Some, None, arith}
use Rattle.std.specs.Prelude.{nat_eq, not, is_some, flat_map, if◌then◌else◌}
use Rattle.std.proofs.lemmas.List.{length-take}
use Rattle.vcm_num.specs.declared.point.Point.{Point}
use Rattle.vcm_marks.specs.declared.mark.Contact.{Contact}
use Rattle.vcm_sheet.specs.Content.{Filing, heading_lines}
use Rattle.vcm_sheet.specs.Heading.{stop_line, files_line, position_line, lines_line, contact_line, left_out_line, note_line, untried_lines}
use Rattle.vcm_sheet.specs.Sayings.{Saying}

stop_one : (d : Bool) (s : List ℕ) → length (stop_line d s) ≡ 1
stop_one true s = refl
stop_one false s = refl

position_one : (d : Bool) (p : Point) (n : ℕ) → length (position_line d p n) ≡ (if d then 1 else 0)
position_one true p n = refl
position_one false p n = refl

one_or_none : (b : Bool) (s : Saying) → length (if b then [] else s ∷ []) ≡ (if not b then 1 else 0)
one_or_none true s = refl
one_or_none false s = refl

contact_one : (names : List (List ℕ)) (c : Option Contact) → length (contact_line names c) ≡ (if is_some c then 1 else 0)
contact_one names None = refl
contact_one names (Some c) = refl

notes_many : (xs : List (List ℕ)) → length (flat_map note_line xs) ≡ length xs
notes_many [] = refl
notes_many (x ∷ xs) = ap suc (notes_many xs)

six : (a b c d e g u : List Saying) → length (a ++ (b ++ (c ++ (d ++ (e ++ (g ++ u)))))) ≡ length a + (length b + (length c + (length d + (length e + (length g + length u)))))
six a b c d e g u = simp length-append

-- two, and one for each that is there, and those of what wasn't tried
pub lines_counted : (f : Filing) (stopped : List ℕ) (d : Bool) (c : Option Contact) (a b e g n : ℕ) → a ≡ (if d then 1 else 0)
    → b ≡ (if not (nat_eq f.lines.first 0) then 1 else 0) → e ≡ (if is_some c then 1 else 0) → g ≡ (if not (nat_eq f.left_out 0) then 1 else 0)
    → n ≡ min 40 (length f.untried) → 2 + a + b + e + g + n ≡ heading_lines f stopped d c
lines_counted f stopped d c a b e g n ha hb he hg hn =
    let all = six (stop_line d stopped) (files_line f.program_name f.part_name f.part.bounds.tip) (position_line d f.held.state.position f.done) (lines_line f.lines)
    (contact_line f.block_names c) (left_out_line f.left_out) (untried_lines f.untried) in
    let stop = stop_one d stopped in
    let position : length (position_line d f.held.state.position f.done) ≡ a = position_one d f.held.state.position f.done ∙ sym ha in
    let lines : length (lines_line f.lines) ≡ b = one_or_none (nat_eq f.lines.first 0) _ ∙ sym hb in
    let contact : length (contact_line f.block_names c) ≡ e = contact_one f.block_names c ∙ sym he in
    let left : length (left_out_line f.left_out) ≡ g = one_or_none (nat_eq f.left_out 0) _ ∙ sym hg in
    let notes : length (untried_lines f.untried) ≡ n = notes_many (take 40 f.untried) ∙ length-take 40 f.untried ∙ sym hn in
    omega (arith, all, stop, position, lines, contact, left, notes)
