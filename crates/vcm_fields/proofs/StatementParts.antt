-- Statements, read as they are spelled.
use Rattle.std.proofs.Common.{◌≡◌, ℕ, ◌<◌, ◌≤◌, ◌^◌, nat_lt, IsTrue, List, [], ◌∷◌, ◌++◌, Some, None, Ok, refl, sym, ap, subst, ◌∙◌, arith}
use Rattle.std.specs.Int.{w32}
use Rattle.vcm_num.specs.declared.axis.Axis.TheVariants.{PlusX}
use Rattle.vcm_num.specs.declared.number.Kind.TheVariants.{Int}
use Rattle.vcm_spec.specs.declared.words.Setting.TheVariants.{Approach}
use Rattle.vcm_spec.specs.declared.words.Source.TheVariants.{Nominal}
use Rattle.vcm_spec.specs.declared.words.FrameAxis.TheVariants as frame_axis
use Rattle.vcm_spec.specs.declared.words.Quarters.TheVariants as quarter
use Rattle.vcm_spec.specs.declared.words.FeatureWord.TheVariants as feature_word
use Rattle.vcm_spec.specs.Words.{axis_number, quarters_number, word_number}
use Rattle.vcm_code.specs.declared.version.Version.{Version}
use Rattle.vcm_fields.specs.declared.fault.ImageFault.TheVariants.{BadField}
use Rattle.vcm_code.specs.declared.word.Word.{Word}
use Rattle.vcm_code.specs.declared.word.Word.TheVariants as words
use Rattle.vcm_code.specs.Code.{Op, CodeStatement}
use Rattle.vcm_code.specs.Words.{word_of, has_word, word_byte}
use Rattle.vcm_code.specs.Shape.{Place, Filled, axes, directions, settings, sources, frame_axes, quarter_turns, feature_words, kinds, all_words, Form, form}
use Rattle.vcm_code.specs.Shape.{form_of, places_in, made_in, places, op_in, Parted, parted, word_in, put_together, taken_apart, over_places, over_parted}
use Rattle.vcm_code.specs.Shape.{InPlaces, InParted}
use Rattle.vcm_code.specs.Shape as at
use Rattle.vcm_fields.specs.inner.Fitting.{FitThree, FitsPlace, FitsOperation, FitsLine}
use Rattle.vcm_fields.specs.Spelling.{byte, long, three, axis_byte, direction_byte, setting_byte, source_byte, kind_byte, place, operands, line}
use Rattle.vcm_fields.specs.Readers.{Reader, both, via, number_at, byte_below_at, kind_at, any_word_at, word_at, three_at, place_at, filled_at, form_by, operands_by, operands_at, line_at}
use Rattle.vcm_fields.proofs.Inverse.{Takes, Reads, ok_is, reads_as, reads_both, via_takes, via_again, reads_via, reads_tested, reads_after}
use Rattle.vcm_fields.proofs.NumberInverse.{Found, reads_one_of, reads_byte, reads_short, reads_long}
use Rattle.vcm_fields.proofs.ItemParts.{reads_expression}
use Rattle.vcm_fields.proofs.BranchParts.{reads_branches}
use Rattle.vcm_fields.proofs.TextParts.{reads_text}
use Rattle.vcm_code.proofs.Shapes.{apart_made, together_apart}

-- ---- bytes that stand for a value

found_axis : Found axis_byte axes
found_axis PlusX rest = refl
found_axis _ rest = refl

found_direction : Found direction_byte directions
found_direction None rest = refl
found_direction (Some PlusX) rest = refl
found_direction (Some _) rest = refl

found_setting : Found setting_byte settings
found_setting Approach rest = refl
found_setting _ rest = refl

found_source : Found source_byte sources
found_source Nominal rest = refl
found_source _ rest = refl

found_turn : Found axis_number frame_axes
found_turn frame_axis.X rest = refl
found_turn _ rest = refl

found_quarters : Found quarters_number quarter_turns
found_quarters quarter.Zero rest = refl
found_quarters _ rest = refl

found_part : Found word_number feature_words
found_part feature_word.X rest = refl
found_part _ rest = refl

found_word : Found word_byte all_words
found_word words.EndFil rest = refl
found_word _ rest = refl

found_kind : Found kind_byte kinds
found_kind Int rest = refl
found_kind _ rest = refl

pub reads_kind : Reads kind_at (λ k. byte (kind_byte k)) (λ k. Unit {0})
unfolding kind_at
reads_kind = reads_one_of kind_byte kinds found_kind

-- a word that the version has
reads_word : (v : Version) → Reads (word_at v) (λ w. byte (word_byte w)) (λ w. IsTrue (has_word v w))
unfolding any_word_at
reads_word v = reads_tested (reads_one_of word_byte all_words found_word) BadField (has_word v) (λ w. IsTrue (has_word v w)) (λ w h e. e) (λ w h. (tt, h))

-- ---- places

reads_below : (limit : ℕ) → limit ≤ 256 → Reads (byte_below_at limit) byte (λ n. n < limit)
reads_below limit l = reads_tested reads_byte BadField (λ n. nat_lt n limit) (λ n. n < limit) (λ n lt e. grind arith) (λ n h. (omega (arith, h, l), grind arith))

pub reads_three : Reads three_at (λ t. three t.0 t.1.0 t.1.1) (λ t. FitThree t.0 t.1.0 t.1.1)
unfolding three_at
reads_three = reads_as (reads_both reads_expression (reads_both reads_expression reads_expression)) (λ t. three t.0 t.1.0 t.1.1) (λ t. FitThree t.0 t.1.0 t.1.1) (λ t. refl)
    (λ t h. ((h.0.0, h.1.0.0, h.1.1.0), (h.0.1, h.1.0.1, h.1.1.1))) (λ t h. ((h.0.0, h.1.0), ((h.0.1, h.1.1), (h.0.2, h.1.2))))

-- what is in range whatever its width, and what has its width whatever it is
module _ {A : Type 0} {a : Reader A} {spelled : A → List ℕ} {P : A → Type 0} (r : Reads a spelled P) where
  ranged : Reads a spelled (λ x. P x × Unit {0})
  ranged = reads_as r spelled (λ x. P x × Unit {0}) (λ x. refl) (λ x h. (h, tt)) (λ x h. h.0)

  wide : Reads a spelled (λ x. Unit {0} × P x)
  wide = reads_as r spelled (λ x. Unit {0} × P x) (λ x. refl) (λ x h. (tt, h)) (λ x h. h.1)

reads_place : (p : Place) → Reads (place_at p) (place p) (FitsPlace p)
reads_place (at.variable k) = wide reads_short
reads_place at.feature = wide reads_short
reads_place at.frame = wide reads_short
reads_place at.pair = ranged (reads_below 32 (omega arith))
reads_place at.target = wide reads_long
reads_place (at.items k) = reads_expression
reads_place (at.three k) = reads_three
reads_place at.assigned =
    reads_as (reads_both reads_short reads_expression) (place at.assigned) (FitsPlace at.assigned) (λ o. refl) (λ o h. (h.1.0, (h.0, h.1.1))) (λ o h. (h.1.0, (h.0, h.1.1)))
reads_place at.axis = wide (reads_one_of axis_byte axes found_axis)
reads_place at.direction = wide (reads_one_of direction_byte directions found_direction)
reads_place at.setting = wide (reads_one_of setting_byte settings found_setting)
reads_place at.source = wide (reads_one_of source_byte sources found_source)
reads_place at.turn = wide (reads_one_of axis_number frame_axes found_turn)
reads_place at.quarters = wide (reads_one_of quarters_number quarter_turns found_quarters)
reads_place at.part = wide (reads_one_of word_number feature_words found_part)
reads_place at.text = ranged reads_text
reads_place at.branches = reads_branches

reads_none : Reads (filled_at []) (over_places place []) (InPlaces FitsPlace [])
reads_none = record {
  takes = λ bytes x fits e. subst (λ (y : Unit {0} × List ℕ). Takes bytes [] y.1 × Unit {0}) (ok_is (tt, bytes) x e) (record { parts = refl; rest_fits = fits }, tt);
  again = λ x rest h. refl;
}

reads_filled : (ps : List Place) → Reads (filled_at ps) (over_places place ps) (InPlaces FitsPlace ps)
reads_filled [] = reads_none
reads_filled (p ∷ []) = reads_place p
reads_filled (p ∷ q ∷ ps) = reads_both (reads_place p) (reads_filled (q ∷ ps))

-- ---- statements

-- an operation of this word that fits
Of : Word → Op → Type 0
Of w o = (word_of o ≡ w) × FitsOperation o

-- a form is read place by place
form_is : (fm : Form) (bytes : List ℕ) → form_by place_at fm bytes ≡ via (made_in fm) (filled_at (places_in fm)) bytes
form_is (form ps make) bytes = refl

pub operands_are : (w : Word) (bytes : List ℕ) → operands_at w bytes ≡ via (op_in w) (filled_at (places w)) bytes
unfolding operands_by
operands_are w bytes = form_is (form_of w) bytes

made_fits : (w : Word) (f : Filled (places w)) → InPlaces FitsPlace (places w) f → Of w (op_in w f)
unfolding Of
made_fits w f h = (ap word_in (apart_made w f), subst (InParted FitsPlace) (sym (apart_made w f)) h)

parted_again : (p : Parted) (rest : List ℕ) → InParted FitsPlace p → operands_at (word_in p) (over_parted place p ++ rest) ≡ Ok (put_together p, rest)
parted_again (parted w f) rest h = operands_are w (over_places place (places w) f ++ rest) ∙ via_again (reads_filled (places w)) (op_in w) f rest h

reads_operands : (w : Word) → Reads (operands_at w) operands (Of w)
unfolding Of
reads_operands w = record {
  takes = λ bytes y fits e.
      via_takes (reads_filled (places w)) (op_in w) [] operands (Of w) (λ f h. ap (over_parted place) (apart_made w f)) (made_fits w) bytes y fits (sym (operands_are w bytes) ∙ e);
  again = λ o rest h.
      ap (λ (v : Word). operands_at v (operands o ++ rest)) (sym h.0) ∙ parted_again (taken_apart o) rest h.1 ∙ ap (λ (z : Op). Ok (z, rest)) (together_apart o);
}

reads_rest : (w : Word) → Reads {A = CodeStatement} (via (λ o. record { line = o.0; op = o.1 }) (both (number_at w32) (operands_at w)))
    (λ s. long s.line ++ operands s.op) (λ s. (word_of s.op ≡ w) × ((s.line < 2 ^ 32) × FitsOperation s.op))
unfolding Of
reads_rest w = reads_via (reads_both reads_long (reads_operands w)) (λ o. record { line = o.0; op = o.1 }) (λ s. (s.line, s.op))
    (λ s. long s.line ++ operands s.op) (λ s. (word_of s.op ≡ w) × ((s.line < 2 ^ 32) × FitsOperation s.op))
    (λ o h. refl) (λ o h. (h.1.0, (h.0, h.1.1))) (λ s h. (refl, refl, (h.1.0, (h.0, h.1.1))))

pub reads_line : (v : Version) → Reads (line_at v) line (FitsLine v)
unfolding line_at
reads_line v = reads_as (reads_after (reads_word v) (λ s. word_of s.op) reads_rest) line (FitsLine v)
    (λ s. refl) (λ s h. h) (λ s h. h)
