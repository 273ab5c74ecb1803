-- Lines of contacts that are written one by one.
use Rattle.std.proofs.Common.{◌≡◌, ℕ, zero, suc, ◌+◌, ◌<◌, ◌≤◌, List, [], ◌∷◌, ◌++◌, length, map, take, drop, refl, sym, ap, ◌∙◌, get_or, subst, arith}
use Rattle.std.specs.Prelude.{codes}
use Rattle.std.proofs.lemmas.List.{take_all}
use Rattle.vcm_naming.specs.Naming.{Line}
use Rattle.vcm_naming.specs.Pages.{Page, Adds, AddsFront}
use Rattle.vcm_naming.proofs.Pages.{adds_more, adds_front_first, adds_front_then}
use Rattle.vcm_contacts.specs.declared.contact.FoundContact.{FoundContact}
use Rattle.vcm_contacts.specs.Noted.{seen}
use Rattle.vcm_contacts.specs.Printed.{found_lines, all_lines, some_line, count_line}

-- the lines of these
abbrev pub lines_of : List FoundContact → List Line
lines_of cs = all_lines (map seen cs)

-- the lines of the first contacts, and one more
lines_more : (cs : List FoundContact) (i : ℕ) (d : FoundContact) → i < length cs → lines_of (take i cs) ++ found_lines (seen (get_or cs i d)) ≡ lines_of (take (i + 1) cs)
lines_more [] i d l = absurd (omega arith)
lines_more (x ∷ cs) zero d l = refl
lines_more (x ∷ cs) (suc i) d l =
    ap (λ ls. found_lines (seen x) ++ ls) (lines_more cs i d (omega arith)) ∙ ap (λ n. lines_of (take n (x ∷ cs))) (let e : suc (i + 1) ≡ suc i + 1 = omega arith in e)

-- the lines before the i-th, that one, and those after it
lines_cut : (cs : List FoundContact) (i : ℕ) (d : FoundContact) → i < length cs → lines_of (take i cs) ++ (found_lines (seen (get_or cs i d)) ++ lines_of (drop (i + 1) cs)) ≡ lines_of cs
lines_cut [] i d l = absurd (omega arith)
lines_cut (x ∷ cs) zero d l = refl
lines_cut (x ∷ cs) (suc i) d l =
    ap (λ n. found_lines (seen x) ++ (lines_of (take i cs) ++ (found_lines (seen (get_or cs i d)) ++ lines_of (drop n (x ∷ cs))))) (let e : suc i + 1 ≡ suc (i + 1) = omega arith in e)
    ∙ ap (λ ls. found_lines (seen x) ++ ls) (lines_cut cs i d (omega arith))

module _ (cs : List FoundContact) (i : ℕ) (a b : Page) (h : Adds a b (lines_of (take i cs))) where
  module _ (d : FoundContact) (l : i < length cs) (c : Page) where
    -- one more was written
    pub one_more : Adds b c (found_lines (seen (get_or cs i d))) → Adds a c (lines_of (take (i + 1) cs))
    one_more k = adds_more a b c _ _ _ (lines_more cs i d l) h k

    -- it could not be written to its end
    pub cut_off : AddsFront b c (found_lines (seen (get_or cs i d))) → AddsFront a c (lines_of cs)
    cut_off k =
        let rest = lines_of (drop (i + 1) cs) in
        adds_front_then a b c _ (found_lines (seen (get_or cs i d)) ++ rest) _ (lines_cut cs i d l) h (adds_front_first b c _ rest _ refl k)

  -- all were written
  pub all_written : length cs ≤ i → Adds a b (lines_of cs)
  all_written l = subst (λ xs. Adds a b (lines_of xs)) (take_all i cs l) h

-- the line of no contact
pub none_there : (cs : List FoundContact) → length cs ≡ 0 → count_line (map seen cs) ≡ codes "0 contacts\n"
none_there [] e = refl
none_there (c ∷ cs) e = absurd (omega (arith, e))

-- as many as are seen
as_many : (cs : List FoundContact) → length (map seen cs) ≡ length cs
as_many [] = refl
as_many (c ∷ cs) = ap suc (as_many cs)

-- the line of the others
pub some_there : (cs : List FoundContact) (f : FoundContact) (rest : List FoundContact) → cs ≡ f ∷ rest → count_line (map seen cs) ≡ some_line (length cs) f.contact.line
some_there cs f rest e = ap (λ l. count_line (map seen l)) e ∙ ap (λ n. some_line n f.contact.line) (as_many (f ∷ rest) ∙ ap length (sym e))
