-- Lists of blocks in a view, and of marks.
use Rattle.std.proofs.Common.{◌≡◌, ℕ, ℤ, ◌+◌, ◌<◌, Bool, true, List, [], ◌∷◌, ◌++◌, get_or, length, map, flat_map, drop, arith, append_assoc, ap, sym, ◌∙◌}
use Rattle.std.proofs.lemmas.Bool.{and_parts}
use Rattle.std.proofs.lemmas.List.{at_drop_more, drop_more}
use Rattle.std.specs.List.{list_all}
use Rattle.vcm_spec.specs.declared.workpiece.Block3.{Block3}
use Rattle.vcm_marks.specs.declared.mark.PlacedMark.{PlacedMark}
use Rattle.vcm_picture.specs.declared.shown.Face.{Face}
use Rattle.vcm_picture.specs.declared.shown.Seen.{Seen}
use Rattle.vcm_picture.specs.Sights.{Scope}
use Rattle.vcm_picture.specs.Names.{Naming, with_mark, with_all_touched}
use Rattle.vcm_picture.specs.Shown.{face_of, faces_from, rects_before, seen_of, shown_of}

-- one more is shown
pub seen_on : (unit : ℤ) (all rivals : List Face) (i : ℕ) (d : Face) (o n whole : List Seen) → i < length all
    → rects_before (get_or all i d) rivals ≡ rects_before (get_or all i d) all → n ≡ o ++ seen_of unit rivals (get_or all i d) ∷ []
    → o ++ map (seen_of unit all) (drop i all) ≡ whole → n ++ map (seen_of unit all) (drop (i + 1) all) ≡ whole
seen_on unit all rivals i d o n whole h r p w =
    let f = get_or all i d in
    let rest = map (seen_of unit all) (drop (i + 1) all) in
    let same : seen_of unit rivals f ≡ seen_of unit all f = ap (λ b. record { face = f; shown = shown_of b f unit }) r in
    rw p (append_assoc o (seen_of unit rivals f ∷ []) rest ∙ ap (λ y. o ++ (y ∷ rest)) same
    ∙ ap (λ l. o ++ l) (sym (at_drop_more (map (seen_of unit all)) all i d h)) ∙ w)

-- of the blocks in a view one more is listed
pub faces_on : (s : Scope) (bs : List Block3) (i n : ℕ) (d : Block3) (fs new whole : List Face) (f : Face) → i < length bs → n ≡ i
    → f ≡ face_of s (n + 1) (get_or bs i d) → new ≡ fs ++ f ∷ [] → fs ++ faces_from s (i + 1) (drop i bs) ≡ whole
    → new ++ faces_from s (i + 1 + 1) (drop (i + 1) bs) ≡ whole
faces_on s bs i n d fs new whole f h m e p w =
    rw (p, e, m) (append_assoc fs _ _ ∙ ap (λ l. fs ++ l) (sym (at_drop_more (faces_from s (i + 1)) bs i d h)) ∙ w)

next_test : {X : Type 0} (test : X → Bool) (d : X) (xs : List X) (i : ℕ) → i < length xs → list_all test (drop i xs) ≡ true
    → list_all test (drop (i + 1) xs) ≡ true
next_test test d xs i h k = let m = rw (drop_more xs i d h) at k in let two = and_parts _ _ m in two.1

-- what a test says of each it says of those behind the next
pub tests_on : {X : Type 0} (test : X → Bool) (xs : List X) (i : ℕ) → i < length xs → list_all test (drop i xs) ≡ true
    → list_all test (drop (i + 1) xs) ≡ true
tests_on test [] i h k = absurd (omega arith)
tests_on test (x ∷ xs) i h k = next_test test x (x ∷ xs) i h k

-- of the marks of a way one more is named
pub named_on : (s : Scope) (fs : List (List ℕ)) (marks : List PlacedMark) (i : ℕ) (d : PlacedMark) (n m whole : Naming) → i < length marks
    → m ≡ with_mark s fs (get_or marks i d).mark n → with_all_touched s fs (drop i marks) n ≡ whole → with_all_touched s fs (drop (i + 1) marks) m ≡ whole
named_on s fs marks i d n m whole h e w = rw e (sym (at_drop_more (λ ms. with_all_touched s fs ms n) marks i d h) ∙ w)

-- of what each of some things gives, what the next one gives is appended
pub given_on : {X A : Type 0} (f : A → List X) (xs : List A) (i : ℕ) (d : A) (o n whole : List X) → i < length xs → n ≡ o ++ f (get_or xs i d)
    → o ++ flat_map f (drop i xs) ≡ whole → n ++ flat_map f (drop (i + 1) xs) ≡ whole
given_on f xs i d o n whole h e w =
    rw e (append_assoc o (f (get_or xs i d)) (flat_map f (drop (i + 1) xs)) ∙ ap (λ l. o ++ l) (sym (at_drop_more (λ l. flat_map f l) xs i d h)) ∙ w)
