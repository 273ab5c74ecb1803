-- Each statement that a text is put as is on a line of the text.
use Rattle.std.proofs.Common.{◌≡◌, ℕ, Bool, true, false, nat_eq, List, [], ◌∷◌, length, drop, Option, Some, None, refl, arith}
use Rattle.std.specs.Prelude.{if◌then◌else◌, nat_lt}
use Rattle.std.specs.List.{list_all, list_any}
use Rattle.std.specs.Str.{bytes_eq}
use Rattle.std.proofs.lemmas.Bool.{and_parts, or_left, or_right}
use Rattle.vcm_num.specs.declared.limits.TheConstants.{DEEPEST_BLOCKS}
use Rattle.vcm_spec.specs.Program.{is_same_name}
use Rattle.vcm_events.specs.Events.{event_name, event_named}
use Rattle.vcm_events.specs.declared.event.Event.TheVariants.{Target}
use Rattle.vcm_events.specs.declared.spots.Spot.{Spot}
use Rattle.vcm_events.specs.declared.spots.Spot.TheVariants as spots
use Rattle.vcm_events.specs.Spots.{spot_named, slanted_name}
use Rattle.vcm_forms.specs.declared.statement.Coordinates.{Coordinates}
use Rattle.vcm_forms.specs.declared.statement.Form.{Form}
use Rattle.vcm_forms.specs.declared.statement.Form.TheVariants as form
use Rattle.vcm_forms.specs.declared.statement.Offset.{Offset}
use Rattle.vcm_macro.specs.declared.placed.Placed.{Placed}
use Rattle.vcm_program.specs.Titles.{index_of}
use Rattle.vcm_kept.specs.declared.effects.Effects.{Effects}
use Rattle.vcm_kept.specs.declared.reached.OpenBlock.{OpenBlock}
use Rattle.vcm_kept.specs.declared.text.Text.{Text}
use Rattle.vcm_kept.specs.Effects.{effects_of}
use Rattle.vcm_kept.specs.Exactly.{exact_form}
use Rattle.vcm_kept.specs.Late.{Made, made_by}
use Rattle.vcm_kept.specs.Places.{has_place, declares_kept, declares_slanted}
use Rattle.vcm_kept.specs.Guarding.{Reached, begun_in, loops_by, block, opened, first_block, effects_in, set_in, with_effects, closed, line_of, repeats_end, chooses_end, around, guards, with_known, makes_frame, reaches_spot, reaches_feature, reaches_shift, doubted, branched, is_aimed, reaches_form, reaches, guards_from, text_of, declares_carried, keeps_machine, opening, opens_polar, declares_first, opens_first, guarded}
use Rattle.vcm_kept.specs.Choices.{next_depth, inner_depth, choice_end, depths, declares_choice, declares_choices}
use Rattle.vcm_kept.specs.Datums.{declares_datums}
use Rattle.vcm_kept.specs.Laws.{ends_block, is_line_for, EachIsOnItsLine, is_line_in, AllAreOnLinesOfTheText}
use Rattle.vcm_kept.proofs.OnLines.{are_on, joined, each, cases_on, defaults_on, case_ends_on, moves_on, homes_on, declares_all_on, assigns_or_on, touches_or_on, measures_on, measured_on, configures_on, turns_in_on, recalls_at_on, queries_on, reports_at_on, closes_on, tests_on, chooses_on, repeats_on, loop_ends_on, ending_on, features_or_on, shifts_or_on, lates_on}

-- ---- one statement

module _ (test : ℕ → Bool) (line : ℕ) (h : test line ≡ true) where
  repeats_end_on : (e : ℕ) (b : Option OpenBlock) (is : List ℕ) → test (line_of line b) ≡ true → are_on test (repeats_end line e b is) ≡ true
  repeats_end_on e (Some b) is o = joined test _ _ (loop_ends_on test line h e b.index) (closes_on test b.line o b.effects (drop b.since is))
  repeats_end_on e None is o = rw h

  chooses_end_on : (e : ℕ) (f : Form) (b : Option OpenBlock) (is : List ℕ) → test (line_of line b) ≡ true → are_on test (chooses_end line e f b is) ≡ true
  chooses_end_on e f b is o = rw h (closes_on test (line_of line b) o (effects_in b) (set_in b is))

  guards_on : (text : Text) (r : Reached) (e : ℕ) (f : Form) → (ends_block f ≡ true → test (line_of line (first_block r.blocks)) ≡ true)
      → are_on test (guards text r line e f) ≡ true
  guards_on text r e (form.Declaration k names) o = joined test _ _ (declares_all_on test line h r.variables e k names) (rw h)
  guards_on text r e (form.Assignment t value) o = assigns_or_on test line h text (around r) e r.variables t value (event_named t.name)
  guards_on text r e (form.Move p) o = moves_on test line h text.steps e r.variables (is_aimed text r) r.within p
  guards_on text r e form.Home o = homes_on test line h text.from text.steps (is_aimed text r) r.within e
  guards_on text r e (form.Test c) o = tests_on test line h e r.variables c
  guards_on text r e form.TestEnd o = chooses_end_on e form.TestEnd (first_block r.blocks) r.assigned (o refl)
  guards_on text r e (form.Repeat rounds) o = repeats_on test line h e r.variables rounds (loops_by r.variables rounds)
  guards_on text r e form.RepeatEnd o = repeats_end_on e (first_block r.blocks) r.assigned (o refl)
  guards_on text r e (form.Choose c) o = chooses_on test line h text.several e (next_depth r.blocks) r.variables c
  guards_on text r e form.ChooseEnd o = chooses_end_on e (choice_end text.several) (first_block r.blocks) r.assigned (o refl)
  guards_on text r e (form.Feature l p d) o = features_or_on test line h text r e l p d (spot_named l)
  guards_on text r e (form.Measure l) o = measures_on test line h
  guards_on text r e (form.Touch p d) o = touches_or_on test line h text.halts text.steps e r.variables r.features p d r.measuring
  guards_on text r e form.MeasureEnd o = measured_on test line h text.datums r.features r.measuring
  guards_on text r e (form.Configure which value) o = configures_on test line h text.slants e r.variables which value
  guards_on text r e (form.Shift l os) o = shifts_or_on test line h text r e l os (is_same_name slanted_name l)
  guards_on text r e (form.Rotation l axis n) o = turns_in_on test line h text e r.frames l axis n
  guards_on text r e (form.Restore l) o = recalls_at_on test line h text.datums e l (index_of r.frames l)
  guards_on text r e (form.Query t side l word) o =
      queries_on test line h text.datums e r.variables r.features r.frames t side l word (event_named t.name)
  guards_on text r e (form.Report side l) o = reports_at_on test line h e side l (index_of r.features l)
  guards_on text r e (form.Case n) o = cases_on test line h text.several e (inner_depth r.blocks) n
  guards_on text r e form.Default o = defaults_on test line h text.several e (inner_depth r.blocks)
  guards_on text r e form.CaseEnd o = case_ends_on test line h text.several e
  guards_on text r e form.Ending o = ending_on test line h text.jumps e
  guards_on text r e _ o = rw h

line_itself : (n : ℕ) → nat_eq n n ≡ true
line_itself n = grind arith

-- ---- open blocks

-- whether these blocks were opened on lines that pass a test
abbrev open_on : (ℕ → Bool) → List OpenBlock → Bool
open_on test bs = list_all (λ b. test b.line) bs

module _ (test : ℕ → Bool) where
  either_open : (b : Bool) (r s : Reached) → open_on test r.blocks ≡ true → open_on test s.blocks ≡ true → open_on test (if b then r else s).blocks ≡ true
  either_open true r s f g = f
  either_open false r s f g = g

  with_effects_on : (e : Effects) (bs : List OpenBlock) → open_on test bs ≡ true → open_on test (with_effects e bs) ≡ true
  with_effects_on e [] o = refl
  with_effects_on e (b ∷ bs) o = o

  closed_on : (bs : List OpenBlock) → open_on test bs ≡ true → open_on test (closed bs) ≡ true
  closed_on [] o = refl
  closed_on (b ∷ bs) o = with_effects_on b.effects bs (and_parts (test b.line) (open_on test bs) o).1

  module _ (line : ℕ) (h : test line ≡ true) where
    first_on : (bs : List OpenBlock) → open_on test bs ≡ true → test (line_of line (first_block bs)) ≡ true
    first_on [] o = h
    first_on (b ∷ bs) o = (and_parts (test b.line) (open_on test bs) o).0

    opened_on : (index : Option ℕ) (depth : ℕ) (assigned : List ℕ) (bs : List OpenBlock) → open_on test bs ≡ true
        → open_on test (opened (block line index depth assigned) bs) ≡ true
    opened_on index depth assigned bs o = by (nat_lt (length bs) DEEPEST_BLOCKS)
      where
        by : (b : Bool) → open_on test (if b then block line index depth assigned ∷ bs else bs) ≡ true
        by true = rw h o
        by false = o

    reaches_spot_on : (r : Reached) (s : Spot) → open_on test r.blocks ≡ true → open_on test (reaches_spot r s).blocks ≡ true
    reaches_spot_on r spots.Target o = o
    reaches_spot_on r _ o = o

    reaches_feature_on : (r : Reached) (l : List ℕ) (p : Coordinates) (s : Option Spot) → open_on test r.blocks ≡ true
        → open_on test (reaches_feature r l p s).blocks ≡ true
    reaches_feature_on r l p None o = either_open (has_place r.variables p) (record r { features = with_known r.features l }) r o o
    reaches_feature_on r l p (Some s) o = reaches_spot_on r s o

    reaches_shift_on : (r : Reached) (l : List ℕ) (os : List Offset) (slanted : Bool) → open_on test r.blocks ≡ true
        → open_on test (reaches_shift r l os slanted).blocks ≡ true
    reaches_shift_on r l os true o = o
    reaches_shift_on r l os false o = either_open (makes_frame r.variables os) (record r { frames = with_known r.frames l }) r o o

    branched_on : (r : Reached) → open_on test r.blocks ≡ true → open_on test (branched r).blocks ≡ true
    branched_on r o = either_open (nat_lt r.since (length r.blocks)) r (doubted r) o o

    reaches_form_on : (r : Reached) (e : ℕ) (f : Form) → open_on test r.blocks ≡ true → open_on test (reaches_form r line e f).blocks ≡ true
    reaches_form_on r e (form.Declaration k names) o = o
    reaches_form_on r e (form.Test c) o = opened_on None (next_depth r.blocks) r.assigned r.blocks o
    reaches_form_on r e (form.Choose c) o = opened_on None (next_depth r.blocks) r.assigned r.blocks o
    reaches_form_on r e (form.Repeat rounds) o = opened_on (loops_by r.variables rounds) (next_depth r.blocks) r.assigned r.blocks o
    reaches_form_on r e form.TestEnd o = closed_on r.blocks o
    reaches_form_on r e form.ChooseEnd o = closed_on r.blocks o
    reaches_form_on r e form.RepeatEnd o = closed_on r.blocks o
    reaches_form_on r e form.Otherwise o = branched_on r o
    reaches_form_on r e (form.Case n) o = branched_on r o
    reaches_form_on r e form.CaseEnd o = branched_on r o
    reaches_form_on r e form.Default o = branched_on r o
    reaches_form_on r e (form.Assignment t value) o = either_open (bytes_eq t.name (event_name Target)) (record r { aiming = false }) r o o
    reaches_form_on r e (form.Feature l p d) o = reaches_feature_on r l p (spot_named l) o
    reaches_form_on r e (form.Shift l os) o = reaches_shift_on r l os (is_same_name slanted_name l) o
    reaches_form_on r e _ o = o

    reaches_on : (r : Reached) (e : ℕ) (f : Form) → open_on test r.blocks ≡ true → open_on test (reaches r line e f).blocks ≡ true
    reaches_on r e f o = with_effects_on (effects_of f) (reaches_form r line e f).blocks (reaches_form_on r e f o)

-- ---- the whole text

module _ (test : ℕ → Bool) where
  guards_from_on : (text : Text) (made : Made) (r : Reached) (ps : List Placed) → open_on test r.blocks ≡ true → list_all (λ p. test p.statement.line) ps ≡ true
      → are_on test (guards_from text made r ps) ≡ true
  guards_from_on text made r [] o all = refl
  guards_from_on text made r (p ∷ ps) o all =
      let line = p.statement.line in
      let f = exact_form r.variables p.statement.form in
      let its = and_parts (test line) (list_all (λ q. test q.statement.line) ps) all in
      joined test _ _
      (joined test _ _ (lates_on test line its.0 made r f) (guards_on test line its.0 text r p.expansion f (λ ends. first_on test line its.0 r.blocks o)))
      (guards_from_on text made (reaches r line p.expansion f) ps (reaches_on test line its.0 r p.expansion f o) its.1)

  module _ (h : test 1 ≡ true) where
    declares_carried_on : are_on test declares_carried ≡ true
    unfolding declares_carried
    declares_carried_on = rw h

    declares_kept_on : (spots : Bool) → are_on test (declares_kept spots) ≡ true
    unfolding declares_kept
    declares_kept_on true = rw h
    declares_kept_on false = refl

    declares_slanted_on : (slants : Bool) → are_on test (declares_slanted slants) ≡ true
    unfolding declares_slanted
    declares_slanted_on true = rw h
    declares_slanted_on false = refl

    declares_datums_on : (datums : Bool) → are_on test (declares_datums datums) ≡ true
    unfolding declares_datums
    declares_datums_on true = rw h
    declares_datums_on false = refl

    declares_choice_on : (i : ℕ) → are_on test (declares_choice i) ≡ true
    declares_choice_on i = rw h

    declares_choices_on : (several : Bool) → are_on test (declares_choices several) ≡ true
    unfolding declares_choices
    declares_choices_on true = each test declares_choice declares_choice_on depths
    declares_choices_on false = refl

    keeps_machine_on : (machine : Bool) → are_on test (keeps_machine machine) ≡ true
    unfolding keeps_machine
    keeps_machine_on true = rw h
    keeps_machine_on false = refl

    opening_on : are_on test opening ≡ true
    unfolding opening
    opening_on = rw h

    opens_polar_on : (polar : Bool) → are_on test (opens_polar polar) ≡ true
    unfolding opens_polar
    opens_polar_on true = rw h
    opens_polar_on false = refl

    declares_first_on : (text : Text) → are_on test (declares_first text) ≡ true
    unfolding declares_first
    declares_first_on text =
        joined test _ _ declares_carried_on (joined test _ _ (declares_kept_on text.spots) (joined test _ _ (declares_slanted_on text.slants)
        (joined test _ _ (declares_datums_on text.datums) (declares_choices_on text.several))))

    opens_first_on : (text : Text) → are_on test (opens_first text) ≡ true
    unfolding opens_first
    opens_first_on text = joined test _ _ (keeps_machine_on text.machine) (joined test _ _ opening_on (opens_polar_on text.polar))

    guarded_on : (ps : List Placed) → list_all (λ p. test p.statement.line) ps ≡ true → are_on test (guarded ps) ≡ true
    guarded_on ps all =
        let text = text_of ps in
        joined test _ _ (declares_first_on text) (joined test _ _ (opens_first_on text) (guards_from_on text (made_by ps) (begun_in text.cut) ps refl all))

-- ---- the laws

pub each_is_on_its_line : EachIsOnItsLine
each_is_on_its_line text r line e f =
    let b = first_block r.blocks in
    guards_on (is_line_for line f b) line (or_left _ _ (line_itself line)) text r e f
    (λ (ends : ends_block f ≡ true). or_right (nat_eq (line_of line b) line) _ (rw ends (line_itself (line_of line b))))

-- statements whose lines all pass a test do
each_passes : (test : ℕ → Bool) (ps : List Placed) → ((n : ℕ) → list_any (λ p. nat_eq n p.statement.line) ps ≡ true → test n ≡ true)
    → list_all (λ p. test p.statement.line) ps ≡ true
each_passes test [] h = refl
each_passes test (p ∷ ps) h =
    rw (h p.statement.line (or_left _ _ (line_itself p.statement.line))) (each_passes test ps (λ n a. h n (or_right (nat_eq n p.statement.line) _ a)))

pub all_are_on_lines : AllAreOnLinesOfTheText
all_are_on_lines ps = guarded_on (is_line_in ps) refl ps (each_passes (is_line_in ps) ps (λ n a. or_right (nat_eq n 1) _ a))
