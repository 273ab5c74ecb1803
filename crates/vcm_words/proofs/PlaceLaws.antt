-- Places: what is read there is spelled so, and what is spelled so is read again; and so for all places of a statement.
use Rattle.std.proofs.Common.{◌≡◌, ℕ, zero, suc, Option, Some, sym, ◌∙◌, ◌<◌, ◌≤◌, ◌^◌, ◌==◌, ◌&&◌, nat_le, not, Bool, true, false, List, [], ◌∷◌, refl, ap, subst, arith, IsTrue}
use Rattle.std.specs.Prelude.{decimal}
use Rattle.std.proofs.lemmas.Bool.{and_parts}
use Rattle.vcm_spec.specs.declared.expression.Item.{Item}
use Rattle.vcm_spec.specs.declared.words.Quarters.{Quarters}
use Rattle.vcm_spec.specs.declared.words.Quarters.TheVariants as quarter
use Rattle.vcm_spec.specs.declared.words.FeatureWord.{FeatureWord}
use Rattle.vcm_spec.specs.declared.words.FeatureWord.TheVariants as feature_word
use Rattle.vcm_spec.specs.Words.{quarters_number, word_number}
use Rattle.vcm_code.specs.declared.version.Version.{Version}
use Rattle.vcm_code.specs.declared.word.Word.{Word}
use Rattle.vcm_code.specs.Words.{has_word, word_text}
use Rattle.vcm_fields.specs.inner.Fitting.{FitThree, FitsPlace}
use Rattle.vcm_fields.proofs.ItemParts.{in_range}
use Rattle.vcm_code.specs.Shape.{Place, Said, Filled, axes, directions, settings, sources, frame_axes, all_words, over_places, InPlaces}
use Rattle.vcm_code.specs.Shape as at
use Rattle.vcm_words.specs.Numbers.{number, counted, only_if}
use Rattle.vcm_words.specs.WordReaders.{◌>>=◌, Reader, Spelling}
use Rattle.vcm_words.specs.Operands.{single, number_text, number_at, axis_text, direction_text, setting_text, source_text, turn_text, quarters_of, part_of}
use Rattle.vcm_words.specs.Operands.{part_number, three, three_at, behind, spelling, place_words, filled_at, any_word_at, word_at}
use Rattle.vcm_words.proofs.Inverse.{Means, Reads, Ends, ends, bind_some, some_is, only_met, reads_as, reads_one, reads_both, reads_tested, ends_both}
use Rattle.vcm_words.proofs.NumberLaws.{means_number}
use Rattle.vcm_words.proofs.WordLaws.{means_marked}
use Rattle.vcm_words.proofs.TableLaws.{turned, Any, means_any, axis_row, direction_row, setting_row, source_row, turn_row, word_row}
use Rattle.vcm_words.proofs.ItemLaws.{reads_expression}
use Rattle.vcm_words.proofs.BranchLaws.{reads_branches}
use Rattle.vcm_words.proofs.TextLaws.{ends_text}

-- what is read in this way is spelled so, and what is spelled so is read again
abbrev pub Undo : {A : Type 0} → Spelling A → (A → Type 0) → Type 0
Undo s P = Reads (s.at true) s.words P

-- ---- single words

pub reads_number : (limit : ℕ) → limit ≤ 2 ^ 64 → Reads (number_at true limit) number_text (λ n. n < limit)
reads_number limit l = reads_one (means_number limit l)

reads_behind : (letter limit : ℕ) → (letter == 32) ≡ false → (letter == 10) ≡ false → limit ≤ 2 ^ 64 → Undo (behind letter limit) (λ n. n < limit)
reads_behind letter limit h g l = reads_one (means_marked letter h g (means_number limit l))

IsPart : ℕ → Type 0
IsPart n = (3 ≤ n) × (n ≤ 8)

means_part_number : Means (part_number true) decimal IsPart
unfolding IsPart
means_part_number = record {
  takes = λ w n e.
      let m = means_number 9 (omega arith) in
      let p = bind_some (number true 9 w) (λ k. only_if (counted true (nat_le 3 k)) k) n e in
      let g = only_met (nat_le 3 p.0) p.0 n p.2 in
      let t = m.takes w p.0 p.1 in
      let small : p.0 < 9 = t.1 in
      let large : nat_le 3 p.0 ≡ true = g.0 in
      let both = in_range 3 8 p.0 (grind arith) in
      subst (λ (k : ℕ). (w ≡ decimal k) × ((3 ≤ k) × (k ≤ 8))) g.1 (t.0, both);
  again = λ n h.
      let m = means_number 9 (omega arith) in
      let small : n < 9 = omega (arith, h.1) in
      let large : nat_le 3 n ≡ true = grind (arith, h.0) in
      rw (m.again n small, large) refl;
  words = λ n h. let m = means_number 9 (omega arith) in let small : n < 9 = grind arith in m.words n small;
}

-- numbers that stand for values
module _ {A : Type 0} {f : List ℕ → Option ℕ} {P : ℕ → Type 0} (m : Means f decimal P) (of : ℕ → A) (to : A → ℕ) (inside : (x : A) → P (to x))
    (again : (x : A) → of (to x) ≡ x) (there : (n : ℕ) → P n → to (of n) ≡ n) where
  means_by : Means (λ w. f w >>= λ n. Some (of n)) (λ x. decimal (to x)) Any
  unfolding Any
  means_by = record {
    takes = λ w x e.
        let p = bind_some (f w) (λ n. Some (of n)) x e in
        let t = m.takes w p.0 p.1 in
        (subst (λ y. w ≡ decimal (to y)) (some_is (of p.0) x p.2) (t.0 ∙ ap decimal (sym (there p.0 t.1))), tt);
    again = λ x h. rw (m.again (to x) (inside x)) (ap (λ y. Some y) (again x));
    words = λ x h. m.words (to x) (inside x);
  }

quarters_below : (q : Quarters) → quarters_number q < 4
quarters_below quarter.Zero = omega arith
quarters_below _ = omega arith

quarters_again : (q : Quarters) → quarters_of (quarters_number q) ≡ q
quarters_again quarter.Zero = refl
quarters_again _ = refl

quarters_there : (n : ℕ) → n < 4 → quarters_number (quarters_of n) ≡ n
quarters_there zero l = refl
quarters_there (suc zero) l = refl
quarters_there (suc (suc zero)) l = refl
quarters_there (suc (suc (suc zero))) l = refl
quarters_there (suc (suc (suc (suc n)))) l = absurd (omega (arith, l))

part_inside : (p : FeatureWord) → IsPart (word_number p)
unfolding IsPart
part_inside feature_word.X = (omega arith, omega arith)
part_inside _ = (omega arith, omega arith)

part_again : (p : FeatureWord) → part_of (word_number p) ≡ p
part_again feature_word.X = refl
part_again _ = refl

part_there : (n : ℕ) → IsPart n → word_number (part_of n) ≡ n
unfolding IsPart
part_there zero l = absurd (omega (arith, l.0))
part_there (suc zero) l = absurd (omega (arith, l.0))
part_there (suc (suc zero)) l = absurd (omega (arith, l.0))
part_there (suc (suc (suc zero))) l = refl
part_there (suc (suc (suc (suc zero)))) l = refl
part_there (suc (suc (suc (suc (suc zero))))) l = refl
part_there (suc (suc (suc (suc (suc (suc zero)))))) l = refl
part_there (suc (suc (suc (suc (suc (suc (suc zero))))))) l = refl
part_there (suc (suc (suc (suc (suc (suc (suc (suc zero)))))))) l = refl
part_there (suc (suc (suc (suc (suc (suc (suc (suc (suc n))))))))) l = absurd (omega (arith, l.1))

-- three expressions
FitsTriple : List Item × (List Item × List Item) → Type 0
FitsTriple t = FitThree t.0 t.1.0 t.1.1

reads_three : Reads (three_at true) three FitsTriple
unfolding three_at FitsTriple
reads_three = reads_as (reads_both reads_expression (reads_both reads_expression reads_expression)) FitsTriple
    (λ t h. ((h.0.0, h.1.0.0, h.1.1.0), (h.0.1, h.1.0.1, h.1.1.1))) (λ t h. ((h.0.0, h.1.0), ((h.0.1, h.1.1), (h.0.2, h.1.2))))

-- ---- places

-- a text takes all that is left
abbrev is_text : Place → Bool
is_text at.text = true
is_text _ = false

-- what is in range whatever its width, and what has its width whatever it is
module _ {A : Type 0} {a : Reader A} {s : A → List (List ℕ)} {P : A → Type 0} (r : Reads a s P) where
  ranged : Reads a s (λ x. P x × Unit {0})
  ranged = reads_as r (λ x. P x × Unit {0}) (λ x h. (h, tt)) (λ x h. h.0)

  wide : Reads a s (λ x. Unit {0} × P x)
  wide = reads_as r (λ x. Unit {0} × P x) (λ x h. (tt, h)) (λ x h. h.1)

reads_place : (p : Place) → is_text p ≡ false → Undo (spelling p) (FitsPlace p)
unfolding Any IsPart FitsTriple
reads_place (at.variable k) h = wide (reads_behind 86 (2 ^ 16) refl refl (omega arith))
reads_place at.feature h = wide (reads_behind 70 (2 ^ 16) refl refl (omega arith))
reads_place at.frame h = wide (reads_behind 68 (2 ^ 16) refl refl (omega arith))
reads_place at.pair h = ranged (reads_behind 76 32 refl refl (omega arith))
reads_place at.target h = wide (reads_behind 64 (2 ^ 32) refl refl (omega arith))
reads_place (at.items k) h = reads_expression
reads_place (at.three k) h = reads_three
reads_place at.assigned h =
    reads_as (reads_both (reads_behind 86 (2 ^ 16) refl refl (omega arith)) reads_expression) (FitsPlace at.assigned) (λ o h. (h.1.0, (h.0, h.1.1))) (λ o h. (h.1.0, (h.0, h.1.1)))
reads_place at.axis h = wide (reads_one (means_any axis_text axes axis_row))
reads_place at.direction h = wide (reads_one (means_any direction_text directions direction_row))
reads_place at.setting h = wide (reads_one (means_any setting_text settings setting_row))
reads_place at.source h = wide (reads_one (means_any source_text sources source_row))
reads_place at.turn h = wide (reads_one (means_any turn_text frame_axes turn_row))
reads_place at.quarters h = wide (reads_one (means_by (means_number 4 (omega arith)) quarters_of quarters_number quarters_below quarters_again quarters_there))
reads_place at.part h = wide (reads_one (means_by means_part_number part_of word_number part_inside part_again part_there))
reads_place at.text h = absurd cc
reads_place at.branches h = reads_branches

ends_place : (p : Place) → Ends ((spelling p).at true) (spelling p).words (FitsPlace p)
ends_place at.text = record { takes = λ ws x bare e. (let t = ends_text.takes ws x bare e in (t.0, (t.1, tt))); again = λ x h. ends_text.again x h.0; words = λ x h. ends_text.words x h.0 }
ends_place p = ends (reads_place p refl)

-- ---- places, one behind the other

-- a text stands behind all others
abbrev pub in_order : List Place → Bool
in_order [] = true
in_order (p ∷ []) = true
in_order (p ∷ q ∷ ps) = not (is_text p) && in_order (q ∷ ps)

pub ends_filled : (ps : List Place) → in_order ps ≡ true → Ends (filled_at true ps) (over_places place_words ps) (InPlaces FitsPlace ps)
ends_filled [] h = record {
  takes = λ ws x bare e. (ap (λ (y : Unit {0} × List (List ℕ)). y.1) (some_is (tt, ws) x e), tt);
  again = λ f g. refl;
  words = λ f g. tt;
}
ends_filled (p ∷ []) h = ends_place p
ends_filled (p ∷ q ∷ ps) h =
    let t = and_parts (not (is_text p)) (in_order (q ∷ ps)) h in
    ends_both (reads_place p (turned (is_text p) t.0)) (ends_filled (q ∷ ps) t.1)

-- ---- the words of statements

reads_any_word : Reads any_word_at (λ x. single (word_text x)) Any
reads_any_word = reads_one (means_any word_text all_words word_row)

-- a word that the version has
unfoldable pub Has : Version → Word → Type 0
Has version w = IsTrue (has_word version w)

pub reads_word : (version : Version) → Reads (word_at version) (λ x. single (word_text x)) (Has version)
unfolding Any Has
reads_word version = reads_tested reads_any_word (has_word version) (Has version) (λ w h e. e) (λ w h. (tt, h))
