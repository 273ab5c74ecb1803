-- The lines of an adapted text.
use Rattle.std.proofs.Common.{◌≡◌, ℕ, Bool, true, false, eqb, List, [], ◌∷◌, ◌++◌, length, refl, ap, ◌∙◌, inl, inr, arith}
use Rattle.std.specs.Prelude.{◌⊎◌, not}
use Rattle.std.specs.List.{onto_first, flat_map, list_any}
use Rattle.std.proofs.lemmas.Bool.{and_parts, or_parts}
use Rattle.std.proofs.lemmas.List.{append-nil}
use Rattle.vcm_adapt.specs.declared.edit.Edit.{Edit}
use Rattle.vcm_adapt.specs.declared.edit.Edit.TheVariants.{Keep, LeaveOut, Put}
use Rattle.vcm_num.specs.Lines.{whole_lines}
use Rattle.vcm_adapt.specs.Marks.{mark, has_sign, is_new}
use Rattle.vcm_adapt.specs.Adapted.{edited, edited_lines, adapted}
use Rattle.vcm_adapt.specs.Laws.{IsNew, AreNew, AllKeep}
use Rattle.vcm_num.proofs.WholeLines.{whole_feed, whole_other, whole_nil}

-- a line with its line feed, which stands last alone
abbrev pub IsLine : List ℕ → Type 0
IsLine [] = ⊥
IsLine (b ∷ []) = eqb b 10 ≡ true
IsLine (b ∷ c ∷ bs) = (eqb b 10 ≡ false) × IsLine (c ∷ bs)

-- a last line without one
abbrev pub IsLast : List ℕ → Type 0
IsLast [] = ⊥
IsLast (b ∷ []) = eqb b 10 ≡ false
IsLast (b ∷ c ∷ bs) = (eqb b 10 ≡ false) × IsLast (c ∷ bs)

-- lines, of which the last one may lack its line feed
abbrev pub AreWhole : List (List ℕ) → Type 0
AreWhole [] = Unit {0}
AreWhole (l ∷ []) = IsLine l ⊎ IsLast l
AreWhole (l ∷ m ∷ ls) = IsLine l × AreWhole (m ∷ ls)

line_more : (b : ℕ) (l : List ℕ) → eqb b 10 ≡ false → IsLine l → IsLine (b ∷ l)
line_more b [] e h = absurd h
line_more b (c ∷ l) e h = (e, h)

last_more : (b : ℕ) (l : List ℕ) → eqb b 10 ≡ false → IsLast l → IsLast (b ∷ l)
last_more b [] e h = absurd h
last_more b (c ∷ l) e h = (e, h)

whole_more : (l : List ℕ) (ls : List (List ℕ)) → IsLine l → AreWhole ls → AreWhole (l ∷ ls)
whole_more l [] h w = inl h
whole_more l (m ∷ ls) h w = (h, w)

whole_onto : (b : ℕ) (ls : List (List ℕ)) → eqb b 10 ≡ false → AreWhole ls → AreWhole (onto_first b ls)
whole_onto b [] e w = inr e
whole_onto b (l ∷ []) e w = elim w [
  | inl h ↦ inl (line_more b l e h)
  | inr h ↦ inr (last_more b l e h)
]
whole_onto b (l ∷ m ∷ ls) e w = (line_more b l e w.0, w.1)

either : (P : List (List ℕ) → Type 0) (t : Bool) (x y z : List (List ℕ)) → (t ≡ true → z ≡ x) → (t ≡ false → z ≡ y) → P x → P y → P z
either P true x y z p q a b = rw (p refl) a
either P false x y z p q a b = rw (q refl) b

pub are_whole : (bs : List ℕ) → AreWhole (whole_lines bs)
are_whole [] = rw whole_nil tt
are_whole (b ∷ bs) = by_feed (eqb b 10) b bs refl (are_whole bs) where
  by_feed : (t : Bool) (b : ℕ) (bs : List ℕ) → eqb b 10 ≡ t → AreWhole (whole_lines bs) → AreWhole (whole_lines (b ∷ bs))
  by_feed true b bs e w = rw (whole_feed b bs e) (whole_more (b ∷ []) (whole_lines bs) e w)
  by_feed false b bs e w = rw (whole_other b bs e) (whole_onto b (whole_lines bs) e w)

-- the lines of a line and what stands behind it
line_first : (l rest : List ℕ) → IsLine l → whole_lines (l ++ rest) ≡ l ∷ whole_lines rest
line_first [] rest h = absurd h
line_first (b ∷ []) rest h = whole_feed b rest h
line_first (b ∷ c ∷ bs) rest h = whole_other b (c ∷ bs ++ rest) h.0 ∙ ap (onto_first b) (line_first (c ∷ bs) rest h.1)

last_alone : (l : List ℕ) → IsLast l → whole_lines l ≡ l ∷ []
last_alone [] h = absurd h
last_alone (b ∷ []) h = whole_other b [] h ∙ ap (onto_first b) whole_nil
last_alone (b ∷ c ∷ bs) h = whole_other b (c ∷ bs) h.0 ∙ ap (onto_first b) (last_alone (c ∷ bs) h.1)

pub joined : List (List ℕ) → List ℕ
joined ls = flat_map (λ l. l) ls

pub whole_again : (ls : List (List ℕ)) → AreWhole ls → whole_lines (flat_map (λ l. l) ls) ≡ ls
whole_again [] w = whole_nil
whole_again (l ∷ []) w = elim w [
  | inl h ↦ line_first l [] h ∙ ap (λ (x : List (List ℕ)). l ∷ x) whole_nil
  | inr h ↦ rw (append-nil l) (last_alone l h)
]
whole_again (l ∷ m ∷ ls) w = line_first l (flat_map (λ l. l) (m ∷ ls)) w.0 ∙ ap (λ (x : List (List ℕ)). l ∷ x) (whole_again (m ∷ ls) w.1)

-- the bytes of the lines are the text
onto_joined : (b : ℕ) (ls : List (List ℕ)) → flat_map (λ l. l) (onto_first b ls) ≡ b ∷ flat_map (λ l. l) ls
onto_joined b [] = refl
onto_joined b (l ∷ ls) = refl

pub lines_joined : (bs : List ℕ) → flat_map (λ l. l) (whole_lines bs) ≡ bs
lines_joined [] = rw whole_nil refl
lines_joined (b ∷ bs) = by_feed (eqb b 10) b bs refl (lines_joined bs) where
  by_feed : (t : Bool) (b : ℕ) (bs : List ℕ) → eqb b 10 ≡ t → flat_map (λ l. l) (whole_lines bs) ≡ bs → flat_map (λ l. l) (whole_lines (b ∷ bs)) ≡ b ∷ bs
  by_feed true b bs e w = rw (whole_feed b bs e) (ap (λ (x : List ℕ). b ∷ x) w)
  by_feed false b bs e w = rw (whole_other b bs e) (onto_joined b (whole_lines bs) ∙ ap (λ (x : List ℕ). b ∷ x) w)

-- bytes without a line feed in front of a line
line_behind : (new l : List ℕ) → list_any (λ b. eqb b 10) new ≡ false → IsLine l → IsLine (new ++ l)
line_behind [] l e h = h
line_behind (b ∷ new) l e h = let p = or_parts (eqb b 10) (list_any (λ b. eqb b 10) new) e in line_more b (new ++ l) p.0 (line_behind new l p.1 h)

last_behind : (new l : List ℕ) → list_any (λ b. eqb b 10) new ≡ false → IsLast l → IsLast (new ++ l)
last_behind [] l e h = h
last_behind (b ∷ new) l e h = let p = or_parts (eqb b 10) (list_any (λ b. eqb b 10) new) e in last_more b (new ++ l) p.0 (last_behind new l p.1 h)

negated : (b : Bool) → not b ≡ true → b ≡ false
negated true e = grind arith
negated false e = refl

pub new_parts : (new : List ℕ) → is_new new ≡ true → (list_any (λ b. eqb b 10) new ≡ false) × (has_sign new ≡ false)
new_parts new e = let p = and_parts _ _ e in (negated _ p.1, negated _ p.0)

edited_line : (e : Edit) (l : List ℕ) → IsNew e → IsLine l → IsLine (edited e l)
edited_line Keep l n h = h
edited_line LeaveOut l n h = line_behind mark l refl h
edited_line (Put new) l n h = line_behind new (32 ∷ 32 ∷ (mark ++ l)) (new_parts new n).0 (line_behind (32 ∷ 32 ∷ 36 ∷ 36 ∷ 45 ∷ 32 ∷ []) l refl h)

edited_last : (e : Edit) (l : List ℕ) → IsNew e → IsLast l → IsLast (edited e l)
edited_last Keep l n h = h
edited_last LeaveOut l n h = last_behind mark l refl h
edited_last (Put new) l n h = last_behind new (32 ∷ 32 ∷ (mark ++ l)) (new_parts new n).0 (last_behind (32 ∷ 32 ∷ 36 ∷ 36 ∷ 45 ∷ 32 ∷ []) l refl h)

pub edited_whole : (es : List Edit) (ls : List (List ℕ)) → AreNew es → AreWhole ls → AreWhole (edited_lines es ls)
edited_whole [] ls n w = w
edited_whole (e ∷ es) [] n w = tt
edited_whole (e ∷ []) (l ∷ []) n w = elim w [
  | inl h ↦ inl (edited_line e l n.0 h)
  | inr h ↦ inr (edited_last e l n.0 h)
]
edited_whole (e ∷ f ∷ es) (l ∷ []) n w = elim w [
  | inl h ↦ inl (edited_line e l n.0 h)
  | inr h ↦ inr (edited_last e l n.0 h)
]
edited_whole (e ∷ es) (l ∷ m ∷ ls) n w = whole_more (edited e l) (edited_lines es (m ∷ ls)) (edited_line e l n.0 w.0) (edited_whole es (m ∷ ls) n.1 w.1)

pub adapted_lines : (es : List Edit) (text : List ℕ) → AreNew es → whole_lines (adapted es text) ≡ edited_lines es (whole_lines text)
adapted_lines es text n = whole_again (edited_lines es (whole_lines text)) (edited_whole es (whole_lines text) n (are_whole text))

as_many : (es : List Edit) (ls : List (List ℕ)) → length (edited_lines es ls) ≡ length ls
as_many [] ls = refl
as_many (e ∷ es) [] = refl
as_many (e ∷ es) (l ∷ ls) = rw (as_many es ls) refl

pub adapted_count : (es : List Edit) (text : List ℕ) → AreNew es → length (whole_lines (adapted es text)) ≡ length (whole_lines text)
adapted_count es text n = ap length (adapted_lines es text n) ∙ as_many es (whole_lines text)

all_kept : (es : List Edit) (ls : List (List ℕ)) → AllKeep es → edited_lines es ls ≡ ls
all_kept [] ls k = refl
all_kept (e ∷ es) [] k = refl
all_kept (e ∷ es) (l ∷ ls) k = rw k.0 (ap (λ (x : List (List ℕ)). l ∷ x) (all_kept es ls k.1))

pub adapted_kept : (es : List Edit) (text : List ℕ) → AllKeep es → adapted es text ≡ text
adapted_kept es text k = rw (all_kept es (whole_lines text) k) (lines_joined text)
