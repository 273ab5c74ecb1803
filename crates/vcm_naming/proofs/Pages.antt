-- Lines that are written one after another, each name of a block once.
use Rattle.std.proofs.Common.{◌≡◌, ℕ, List, [], ◌∷◌, ◌++◌, Option, Result, Ok, Err, refl, sym, ap, ◌∙◌, append_assoc, subst}
use Rattle.std.specs.Prelude.{OnOk}
use Rattle.std.specs.Io.KnownBytes.{Appends}
use Rattle.std.proofs.lemmas.List.{append-nil}
use Rattle.vcm_num.specs.Written.{AppendsFront, Wrote}
use Rattle.vcm_num.proofs.KnownWrites.{appends_nothing, appends_more, front_first, front_then}
use Rattle.vcm_naming.specs.Naming.{Line, plain, name_below, left_below, named_text, names_left}
use Rattle.vcm_naming.specs.Pages.{Page, page, Adds, AddsFront, Added}

-- ---- lines one after another

pub text_more : (names : List (List ℕ)) (xs ys : List Line) → named_text names xs ++ named_text (names_left names xs) ys ≡ named_text names (xs ++ ys)
text_more names [] ys = refl
text_more names (x ∷ xs) ys =
    append_assoc x.text (name_below names x.block ++ named_text (left_below names x.block) xs) _
    ∙ ap (λ t. x.text ++ t) (append_assoc (name_below names x.block) (named_text (left_below names x.block) xs) _
    ∙ ap (λ t. name_below names x.block ++ t) (text_more (left_below names x.block) xs ys))

pub left_more : (names : List (List ℕ)) (xs ys : List Line) → names_left (names_left names xs) ys ≡ names_left names (xs ++ ys)
left_more names [] ys = refl
left_more names (x ∷ xs) ys = left_more (left_below names x.block) xs ys

-- ---- pages

pub adds_nothing : (p : Page) → Adds p p []
adds_nothing p = record { written = appends_nothing p.contents; left = refl }

pub adds_more : (a b c : Page) (xs ys zs : List Line) → xs ++ ys ≡ zs → Adds a b xs → Adds b c ys → Adds a c zs
adds_more a b c xs ys zs e h k =
    let rest : Appends b.contents c.contents (named_text (names_left a.names xs) ys) = subst (λ ns. Appends b.contents c.contents (named_text ns ys)) h.left k.written in
    record {
      written = appends_more a.contents b.contents c.contents _ _ _ (text_more a.names xs ys ∙ ap (named_text a.names) e) h.written rest;
      left = k.left ∙ ap (λ ns. names_left ns ys) h.left ∙ left_more a.names xs ys ∙ ap (names_left a.names) e;
    }

pub adds_front_first : (a b : Page) (xs ys zs : List Line) → xs ++ ys ≡ zs → AddsFront a b xs → AddsFront a b zs
adds_front_first a b xs ys zs e h = record { front = front_first a.contents b.contents _ _ _ (text_more a.names xs ys ∙ ap (named_text a.names) e) h.front }

pub adds_front_then : (a b c : Page) (xs ys zs : List Line) → xs ++ ys ≡ zs → Adds a b xs → AddsFront b c ys → AddsFront a c zs
adds_front_then a b c xs ys zs e h k = record {
  front = front_then a.contents b.contents c.contents _ _ _ (text_more a.names xs ys ∙ ap (named_text a.names) e) h.written
      (subst (λ ns. AppendsFront b.contents c.contents (named_text ns ys)) h.left k.front);
}

pub added_then : {A E : Type 0} (a b c : Page) (xs ys zs : List Line) (r : Result A E) → xs ++ ys ≡ zs → Adds a b xs → Added b c ys r → Added a c zs r
added_then a b c xs ys zs (Ok x) e h k = adds_more a b c xs ys zs e h k
added_then a b c xs ys zs (Err f) e h k = adds_front_then a b c xs ys zs e h k

-- what was added was written
pub added_text : {A E : Type 0} (a b : Page) (ls : List Line) (r : Result A E) → Added a b ls r → Wrote a.contents b.contents (named_text a.names ls) r
added_text a b ls (Ok x) h = h.written
added_text a b ls (Err f) h = h.front

-- ---- one line

module _ (l : Line) (names : List (List ℕ)) (a b : Option (List ℕ)) where
  one_line : l.text ++ name_below names l.block ≡ named_text names (l ∷ [])
  one_line = ap (λ t. l.text ++ t) (sym (append-nil (name_below names l.block)))

  -- its text couldn't be written to the end
  pub line_cut : (left : List (List ℕ)) → AppendsFront a b l.text → AddsFront (page a names) (page b left) (l ∷ [])
  line_cut left h = record { front = front_first a b _ _ _ one_line h }

  -- its text was written, and then the name of its block, if that was left
  pub line_added : {A E : Type 0} (left : List (List ℕ)) (c : Option (List ℕ)) (r : Result A E) → Appends a b l.text → Wrote b c (name_below names l.block) r
      → OnOk r (left ≡ left_below names l.block) → Added (page a names) (page c left) (l ∷ []) r
  line_added left c (Ok x) h k e = record { written = appends_more a b c _ _ _ one_line h k; left = e }
  line_added left c (Err f) h k e = record { front = front_then a b c _ _ _ one_line h k }

-- a line that names no block
pub plain_adds : (text : List ℕ) (names : List (List ℕ)) (a b : Option (List ℕ)) → Appends a b text → Adds (page a names) (page b names) (plain text ∷ [])
plain_adds text names a b h = record { written = subst (Appends a b) (sym (append-nil text)) h; left = refl }

pub plain_added : {A E : Type 0} (text : List ℕ) (names : List (List ℕ)) (a b : Option (List ℕ)) (r : Result A E) → Wrote a b text r
    → Added (page a names) (page b names) (plain text ∷ []) r
plain_added text names a b (Ok x) h = plain_adds text names a b h
plain_added text names a b (Err f) h = line_cut (plain text) names a b names h
