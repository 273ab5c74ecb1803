-- Taking the comments back.
use Rattle.std.proofs.Common.{◌≡◌, ℕ, Bool, true, false, eqb, List, [], ◌∷◌, ◌++◌, refl, sym, ap, ◌∙◌, arith}
use Rattle.std.specs.Prelude.{◌&&◌}
use Rattle.std.specs.List.{flat_map}
use Rattle.std.proofs.lemmas.Bool.{and_right, or_parts}
use Rattle.std.proofs.lemmas.List.{append-nil}
use Rattle.vcm_adapt.specs.declared.edit.Edit.{Edit}
use Rattle.vcm_adapt.specs.declared.edit.Edit.TheVariants.{Keep, LeaveOut, Put}
use Rattle.vcm_num.specs.Lines.{whole_lines}
use Rattle.vcm_adapt.specs.Marks.{mark, begins_mark, has_mark, begins_sign, has_sign, behind_mark, restored_line, restored}
use Rattle.vcm_adapt.specs.Adapted.{edited, edited_lines, adapted}
use Rattle.vcm_adapt.specs.Laws.{IsNew, AreNew, KeepsNoMark, KeepNoMark, AreUnmarked}
use Rattle.vcm_num.proofs.WholeLines.{whole_nil}
use Rattle.vcm_adapt.proofs.Whole.{new_parts, lines_joined, adapted_lines}

-- no mark begins where none begins without its blank
no_sign_here : (x y z w : Bool) → (x && (y && z)) ≡ false → (x && (y && (z && w))) ≡ false
no_sign_here true true true w e = absurd (differs e) where
  differs : true ≡ false → ⊥
  differs e = grind arith
no_sign_here true true false w e = refl
no_sign_here true false z w e = refl
no_sign_here false y z w e = refl

-- nor where a new line and its two blanks stand
no_mark_begins : (b : ℕ) (new line : List ℕ) → begins_sign (b ∷ new) ≡ false → begins_mark (b ∷ (new ++ (32 ∷ 32 ∷ (mark ++ line)))) ≡ false
unfolding begins_mark begins_sign
no_mark_begins b [] line e = and_right _ _ refl
no_mark_begins b (c ∷ []) line e = and_right _ _ (and_right _ _ refl)
no_mark_begins b (c ∷ d ∷ []) line e = no_sign_here (eqb b 36) (eqb c 36) (eqb d 45) true e
no_mark_begins b (c ∷ d ∷ f ∷ new) line e = no_sign_here (eqb b 36) (eqb c 36) (eqb d 45) (eqb f 32) e

mark_found : (other line : List ℕ) → behind_mark other (mark ++ line) ≡ line
unfolding begins_mark behind_mark
mark_found other line = refl

blanks_found : (other line : List ℕ) → behind_mark other (32 ∷ 32 ∷ (mark ++ line)) ≡ line
unfolding begins_mark behind_mark
blanks_found other line = refl

passed : (other : List ℕ) (b : ℕ) (bs : List ℕ) → begins_mark (b ∷ bs) ≡ false → behind_mark other (b ∷ bs) ≡ behind_mark other bs
unfolding behind_mark
passed other b bs e = rw e refl

no_sign_parts : (b : ℕ) (bs : List ℕ) → has_sign (b ∷ bs) ≡ false → (begins_sign (b ∷ bs) ≡ false) × (has_sign bs ≡ false)
unfolding has_sign
no_sign_parts b bs e = or_parts _ _ e

new_found : (other new line : List ℕ) → has_sign new ≡ false → behind_mark other (new ++ (32 ∷ 32 ∷ (mark ++ line))) ≡ line
new_found other [] line e = blanks_found other line
new_found other (b ∷ new) line e =
    let p = no_sign_parts b new e in
    passed other b (new ++ (32 ∷ 32 ∷ (mark ++ line))) (no_mark_begins b new line p.0) ∙ new_found other new line p.1

no_mark_parts : (b : ℕ) (bs : List ℕ) → has_mark (b ∷ bs) ≡ false → (begins_mark (b ∷ bs) ≡ false) × (has_mark bs ≡ false)
unfolding has_mark
no_mark_parts b bs e = or_parts _ _ e

none_left : (other : List ℕ) → behind_mark other [] ≡ other
unfolding behind_mark
none_left other = refl

none_found : (other bs : List ℕ) → has_mark bs ≡ false → behind_mark other bs ≡ other
none_found other [] e = none_left other
none_found other (b ∷ bs) e = let p = no_mark_parts b bs e in passed other b bs p.0 ∙ none_found other bs p.1

pub restores_line : (e : Edit) (l : List ℕ) → IsNew e → KeepsNoMark e l → restored_line (edited e l) ≡ l
restores_line Keep l n k = none_found l l k
restores_line LeaveOut l n k = mark_found (mark ++ l) l
restores_line (Put new) l n k = new_found (new ++ (32 ∷ 32 ∷ (mark ++ l))) new l (new_parts new n).1

put_together : (x y : List ℕ) (xs ys : List ℕ) → x ≡ y → xs ≡ ys → x ++ xs ≡ y ++ ys
put_together x y xs ys e f = rw (e, f) refl

restores_lines : (es : List Edit) (ls : List (List ℕ)) → AreNew es → KeepNoMark es ls → flat_map restored_line (edited_lines es ls) ≡ flat_map (λ l. l) ls
restores_lines [] [] n k = refl
restores_lines (e ∷ es) [] n k = refl
restores_lines [] (l ∷ ls) n k = put_together _ _ _ _ (restores_line Keep l tt k.0) (restores_lines [] ls tt k.1)
restores_lines (e ∷ es) (l ∷ ls) n k = put_together _ _ _ _ (restores_line e l n.0 k.0) (restores_lines es ls n.1 k.1)

pub adapted_restored : (es : List Edit) (text : List ℕ) → AreNew es → KeepNoMark es (whole_lines text) → restored (adapted es text) ≡ text
adapted_restored es text n k = ap (flat_map restored_line) (adapted_lines es text n) ∙ restores_lines es (whole_lines text) n k ∙ lines_joined text

-- where no line has a mark, none is kept that has one
unmarked_line : (e : Edit) (l : List ℕ) → has_mark l ≡ false → KeepsNoMark e l
unmarked_line Keep l u = u
unmarked_line LeaveOut l u = tt
unmarked_line (Put new) l u = tt

unmarked_lines : (es : List Edit) (ls : List (List ℕ)) → AreUnmarked ls → KeepNoMark es ls
unmarked_lines es [] u = tt
unmarked_lines [] (l ∷ ls) u = (u.0, unmarked_lines [] ls u.1)
unmarked_lines (e ∷ es) (l ∷ ls) u = (unmarked_line e l u.0, unmarked_lines es ls u.1)

pub unmarked_restored : (es : List Edit) (text : List ℕ) → AreNew es → AreUnmarked (whole_lines text) → restored (adapted es text) ≡ text
unmarked_restored es text n u = adapted_restored es text n (unmarked_lines es (whole_lines text) u)

pub restored_nil : restored [] ≡ []
restored_nil = rw whole_nil refl

pub restored_end : (out rest whole : List ℕ) → rest ≡ [] → out ++ restored rest ≡ whole → out ≡ whole
restored_end out rest whole e h = sym (append-nil out) ∙ rw (e, restored_nil) at h
