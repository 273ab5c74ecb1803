-- Each line of a story is clear, and begins with a digit where it is one of the trace alone.
use Rattle.std.proofs.Common.{◌≡◌, ℕ, zero, suc, ◌+◌, pos, ◌==◌, Bool, true, false, List, [], ◌∷◌, ◌++◌, slice_get, unwrap_or, Option, Some, None, refl, sym, ap, ◌∙◌, subst, append_assoc, arith}
use Rattle.std.specs.Prelude.{length}
use Rattle.std.proofs.lemmas.List.{append-nil}
use Rattle.std.proofs.lemmas.List.Concat.{flat_map-append}
use Rattle.std.specs.Prelude.{flat_map, codes, decimal, nat_lt, if◌then◌else◌}
use Rattle.std.specs.Str.Lines.{lines}
use Rattle.vcm_num.specs.declared.axis.Axis.{Axis}
use Rattle.vcm_num.specs.declared.axis.Axis.TheVariants.{PlusX, PlusY, PlusZ}
use Rattle.vcm_num.specs.declared.number.Kind.{Kind}
use Rattle.vcm_num.specs.declared.number.Kind.TheVariants.{Int}
use Rattle.vcm_num.specs.declared.point.Point.{Point}
use Rattle.vcm_num.specs.Point.{coordinate}
use Rattle.vcm_num.specs.Texts.{thousandths}
use Rattle.vcm_spec.specs.declared.feature.Feature.{Feature}
use Rattle.vcm_spec.specs.declared.stop.Missing.{Missing}
use Rattle.vcm_spec.specs.declared.stop.Missing.TheVariants as missing
use Rattle.vcm_spec.specs.declared.stop.Stop.{Stop}
use Rattle.vcm_spec.specs.declared.stop.Stop.TheVariants.{Collision, Travel, Undefined}
use Rattle.vcm_spec.specs.declared.stop.StopPlace.{StopPlace}
use Rattle.vcm_spec.specs.declared.words.MovePhase.{MovePhase}
use Rattle.vcm_spec.specs.declared.words.MovePhase.TheVariants.{Move}
use Rattle.vcm_spec.specs.declared.words.Setting.{Setting}
use Rattle.vcm_spec.specs.declared.words.Setting.TheVariants.{Approach, Retract, Search, Depth}
use Rattle.vcm_spec.specs.declared.words.Source.{Source}
use Rattle.vcm_spec.specs.declared.words.Source.TheVariants.{Nominal, Actual}
use Rattle.vcm_spec.specs.Effect.{at_index}
use Rattle.vcm_spec.specs.Frame.{Frame, direction, to_machine}
use Rattle.vcm_spec.specs.Outcome.{Outcome, Gives, Stops, point_at}
use Rattle.vcm_spec.specs.Setup.{Tables, Variable}
use Rattle.vcm_spec.specs.Stepping.{unless_stopped}
use Rattle.vcm_spec.specs.Workpiece.{Workpiece}
use Rattle.vcm_spec.specs.World.{Settings, World}
use Rattle.vcm_forms.specs.declared.statement.Notice.{Notice}
use Rattle.vcm_forms.specs.declared.statement.Notice.TheVariants.{Mode}
use Rattle.vcm_forms.specs.Statements.{notice_word}
use Rattle.vcm_program.specs.declared.accepted.Noticed.{Noticed}
use Rattle.vcm_code.specs.declared.code.Code.{Code}
use Rattle.vcm_code.specs.declared.word.Word.{Word}
use Rattle.vcm_code.specs.declared.word.Word.TheVariants as words
use Rattle.vcm_code.specs.Code.{Op, CodeStatement}
use Rattle.vcm_code.specs.CodeTable.{CodeState, code_step}
use Rattle.vcm_code.specs.Ranges.{AllAreNames, IsInRange}
use Rattle.vcm_code.specs.Words.{word_of, word_text}
use Rattle.vcm_items.specs.Names.{AreNamed}
use Rattle.vcm_marks.specs.declared.mark.Going.{Going}
use Rattle.vcm_marks.specs.declared.mark.Going.TheVariants as going
use Rattle.vcm_marks.specs.declared.mark.Mark.{Mark}
use Rattle.vcm_marks.specs.declared.mark.Mark.TheVariants as marks
use Rattle.vcm_marks.specs.declared.mark.Leg.{Leg}
use Rattle.vcm_words.specs.Operands.{axis_text, setting_text}
use Rattle.vcm_words.specs.Rows.{kind_text}
use Rattle.vcm_report.specs.Printed.{in_a_row, name_at, phase_text, missing_text, stop_text, has_place, place_text, stopped_line, point_text}
use Rattle.vcm_steps.specs.Passages.{Passage, passage_at, passage_from, passages, setup_with, state_after, steps_taken}
use Rattle.vcm_trace.specs.declared.told.Told.{Told}
use Rattle.vcm_trace.specs.declared.told.Told.TheVariants as told
use Rattle.vcm_trace.specs.Lines.{heading, line_front, told_of, next_text, value_shown, bracketed, touched_at, setting_length, told_text, step_end}
use Rattle.vcm_trace.specs.Framed.{no_frames}
use Rattle.vcm_trace.specs.Traces.{trace_line, open_at, last_line, trace_text}
use Rattle.vcm_trace.proofs.FramedLemmas.{unframed}
use Rattle.vcm_way.specs.Ways.{step_marks}
use Rattle.vcm_story.specs.Laws.{StoriesAreClear, shown_line, StoriesTellSteps, StoriesTellTraces}
use Rattle.vcm_rows.specs.Rows.{point_then, point_row, points_row, told_entries}
use Rattle.vcm_rows.specs.Spelled.{spelled}
use Rattle.vcm_rows.specs.Opening.{block_row, tip_row, bounds_rows, part_rows, text_row, text_rows, lines_before, listing_row, statement_row, code_rows, notice_row, opening_rows}
use Rattle.vcm_rows.specs.Frames.{point_if, axes_end, frame_end}
use Rattle.vcm_rows.specs.Marks.{going_letters, is_at, piece_row, mark_row}
use Rattle.vcm_story.specs.State.{kind_of, variable_row, setting_row, setting_rows, there_row, feature_rows, place_row, state_rows}
use Rattle.vcm_story.specs.Steps.{way_rows, last_printed, change_row, change_rows, step_rows}
use Rattle.vcm_story.specs.Stories.{rows_from, passage_rows, story_text}
use Rattle.vcm_story.proofs.LineTexts.{Goes, two, Inner, inner, join, in_row, either, kept, goes_in, LineEnd, end, onto, end_either, Others, is_front}
use Rattle.vcm_story.proofs.LineTexts.{line, none, others, each_other, below, other_either}
use Rattle.vcm_story.proofs.InnerTexts as texts

-- ---- words

axis : (a : Axis) → Inner (axis_text a)
axis PlusX = inner refl
axis _ = inner refl

setting : (s : Setting) → Inner (setting_text s)
setting Approach = inner refl
setting _ = inner refl

kind : (k : Kind) → Inner (kind_text k)
kind Int = inner refl
kind _ = inner refl

phase : (m : MovePhase) → Inner (phase_text m)
phase Move = inner refl
phase _ = inner refl

word : (w : Word) → Inner (word_text w)
word words.EndFil = inner refl
word _ = inner refl

notice : (n : Notice) → Inner (notice_word n)
notice Mode = inner refl
notice _ = inner refl

going_front : (g : Going) → is_front (going_letters g) ≡ true
going_front going.Move = refl
going_front _ = refl

-- ---- what does not change

one_point : (letters : List ℕ) (p : Point) → is_front letters ≡ true → Others (point_row letters p)
one_point letters p h = line letters _ h (texts.point p (codes "\n" ∷ []) end)

two_points : (letters : List ℕ) (p q : Point) → is_front letters ≡ true → Others (points_row letters p q)
two_points letters p q h =
    line letters _ h (texts.point p (codes " " ∷ point_then q (codes "\n" ∷ [])) (onto (codes " ") _ (inner refl) (texts.point q (codes "\n" ∷ []) end)))

workpiece : (part : Workpiece) → Others (part_rows part)
workpiece part =
    let b = part.bounds in
    others (bounds_rows b) (flat_map block_row part.blocks)
    (others _ _ (two_points (codes "P ") b.low b.high refl) (others _ (tip_row b.tip) (one_point (codes "H ") b.home refl) (line (codes "T ") _ refl (onto _ _ (texts.number b.tip) end))))
    (each_other block_row part.blocks (λ block. two_points (codes "B ") block.low block.high refl))

text : (l : List ℕ) → Others (text_row l)
text l = line (codes "L ") _ refl (onto (spelled l) (codes "\n") (texts.spelled_text l) end)

listing : (is_listing : Bool) (tables : Tables) → Others (listing_row is_listing tables)
listing true tables = line (codes "I ") _ refl (onto _ _ (texts.number (lines_before tables)) end)
listing false tables = none

statement : (o : Option CodeStatement) → Others (statement_row o)
statement None = none
statement (Some s) = line (codes "C ") _ refl (onto _ _ (texts.number s.line) (onto (codes " ") _ (inner refl) (onto _ _ (word (word_of s.op)) end)))

noticed : (n : Noticed) → Others (notice_row n)
noticed n = line (codes "N ") _ refl (onto _ _ (texts.number n.line) (onto (codes " ") _ (inner refl) (onto _ _ (notice n.word) end)))

opening : (part : Workpiece) (c : Code) (shown : List ℕ) (is_listing : Bool) (notices : List Noticed) → Others (opening_rows part c shown is_listing notices)
opening part c shown is_listing notices =
    others (codes "vcm-view 1\n") _ (line (codes "vcm-view 1") (codes "\n") refl end) (others (part_rows part) _ (workpiece part)
    (others (text_rows shown) _ (each_other text_row (lines shown) text) (others (listing_row is_listing c.tables) _ (listing is_listing c.tables)
    (others (code_rows c) _ (below _ (length c.statements) (λ n. statement (slice_get c.statements n))) (each_other notice_row notices noticed)))))

-- ---- a state

point_there : (o : Outcome Point) → Inner (point_if o)
point_there (Gives p) = texts.point_alone p
point_there (Stops why) = inner refl

frame : (f : Frame) → LineEnd (frame_end f)
frame f =
    onto (point_if (point_at (to_machine f (λ k. pos 0)))) (axes_end f) (point_there (point_at (to_machine f (λ k. pos 0))))
    (onto (codes " ") _ (inner refl) (onto _ _ (axis (direction f.turn PlusX))
    (onto (codes " ") _ (inner refl) (onto _ _ (axis (direction f.turn PlusY))
    (onto (codes " ") _ (inner refl) (onto _ _ (axis (direction f.turn PlusZ)) end))))))

kind_there : (o : Option Variable) → Inner (kind_of o)
kind_there None = inner refl
kind_there (Some v) = in_row (codes " " ∷ kind_text v.kind ∷ codes " " ∷ []) (inner refl, (kind v.kind, (inner refl, tt)))

one_setting : (which : Setting) (n : ℕ) → Others (setting_row which n)
one_setting which n = line (codes "S ") _ refl (onto _ _ (setting which) (onto (codes " ") _ (inner refl) (onto _ _ (texts.length (pos n)) end)))

settings : (s : Settings) → Others (setting_rows s)
settings s =
    others _ _ (one_setting Approach s.approach) (others _ _ (one_setting Retract s.retract) (others _ _ (one_setting Search s.search) (one_setting Depth s.depth)))

module _ (tables : Tables) (variables : AreNamed tables.variables) (features : AllAreNames tables.features) (frames : AllAreNames tables.frames) where
  variable : (w : World) (i : ℕ) → Others (variable_row tables w i)
  variable w i =
      line (codes "V ") _ refl (onto _ _ (texts.named_there tables.variables variables i) (onto _ _ (kind_there (slice_get tables.variables i))
      (onto _ (codes "\n") (texts.value (slice_get tables.variables i) (unwrap_or (slice_get w.variables i) (pos 0))) end)))

  there : (source : Source) (i : ℕ) (o : Option Feature) → Others (there_row tables source i o)
  there source i None = none
  there source i (Some f) = line (codes "F ") _ refl (texts.feature tables features source i (Some f))

  place : (n : ℕ) (at : Point) → Others (place_row n at)
  place n at = line (codes "K ") _ refl (onto _ _ (texts.number n) (onto (codes " ") _ (inner refl) (texts.point at (codes "\n" ∷ []) end)))

  state : (n : ℕ) (w : World) → Others (state_rows tables n w)
  state n w =
      others _ _ (below (variable_row tables w) (told_entries (length tables.variables)) (variable w)) (others _ _ (settings w.settings)
      (others _ _ (below (feature_rows tables w) (told_entries (length tables.features)) (λ i. others _ _ (there Nominal i (at_index w.nominal i)) (there Actual i (at_index w.actual i))))
      (others (codes "D " ++ frame_end w.frame) _ (line (codes "D ") _ refl (frame w.frame)) (place n w.position))))

  -- ---- a step's line

  missing_there : (m : Missing) → Inner (missing_text tables m)
  missing_there (missing.Nominal i) = in_row (codes "F(" ∷ name_at tables.features i ∷ codes ")" ∷ []) (inner refl, (texts.at_index tables.features features i, (inner refl, tt)))
  missing_there (missing.Actual i) = in_row (codes "FA(" ∷ name_at tables.features i ∷ codes ")" ∷ []) (inner refl, (texts.at_index tables.features features i, (inner refl, tt)))
  missing_there (missing.Frame i) = in_row (codes "D(" ∷ name_at tables.frames i ∷ codes ")" ∷ []) (inner refl, (texts.at_index tables.frames frames i, (inner refl, tt)))

  why : (s : Stop) → Inner (stop_text tables s)
  why (Collision which hit) =
      in_row (codes "stop COLLISION " ∷ phase_text which ∷ codes " block " ∷ decimal hit.block ∷ codes " permille " ∷ decimal hit.permille ∷ [])
      (inner refl, (phase which, (inner refl, (texts.number hit.block, (inner refl, (texts.number hit.permille, tt))))))
  why (Travel which) = in_row (codes "stop TRAVEL " ∷ phase_text which ∷ []) (inner refl, (phase which, tt))
  why (Undefined what) = join (codes "stop UNDEFINED ") _ (inner refl) (missing_there what)
  why _ = inner refl

  stopped : (p : StopPlace) → LineEnd (stopped_line tables p)
  stopped p =
      onto (stop_text tables p.stop) (place_text p) (why p.stop)
      (end_either (has_place p.stop) (in_a_row (codes " at " ∷ decimal p.number ∷ codes " line " ∷ decimal p.line ∷ codes "\n" ∷ [])) (codes "\n")
      (onto (codes " at ") _ (inner refl) (onto _ _ (texts.number p.number) (onto (codes " line ") _ (inner refl) (onto _ _ (texts.number p.line) end)))) end)

  next_there : (n : ℕ) → Inner (next_text n)
  next_there n = in_row (codes "next " ∷ decimal n ∷ []) (inner refl, (texts.number n, tt))

  shown_value : (w : World) (v : ℕ) → Inner (value_shown tables w v)
  shown_value w v =
      join _ _ (texts.named_there tables.variables variables v) (join (codes "=") _ (inner refl) (texts.value (slice_get tables.variables v) (unwrap_or (slice_get w.variables v) (pos 0))))

  in_brackets : (front own : List ℕ) → Inner front → Inner own → Inner (bracketed front own)
  in_brackets front own p q = in_row (front ∷ own ∷ codes ")" ∷ []) (p, (q, (inner refl, tt)))

  touched : (o : Option Feature) → Inner (touched_at o)
  touched None = inner refl
  touched (Some f) =
      in_row (codes " " ∷ thousandths (coordinate f.at 0) ∷ codes " " ∷ thousandths (coordinate f.at 1) ∷ codes " " ∷ thousandths (coordinate f.at 2) ∷ [])
      (inner refl, (texts.length (coordinate f.at 0), (inner refl, (texts.length (coordinate f.at 1), (inner refl, (texts.length (coordinate f.at 2), tt))))))

  told_there : (w : World) (next : ℕ) (t : Told) → Inner (told_text tables w next t)
  told_there w next told.Moved = inner refl
  told_there w next (told.Value v) = shown_value w v
  told_there w next (told.Index v) = join _ _ (shown_value w v) (join (codes " ") _ (inner refl) (next_there next))
  told_there w next told.Next = next_there next
  told_there w next (told.Declared f) = in_brackets (codes "F(") _ (inner refl) (texts.at_index tables.features features f)
  told_there w next (told.Measured f) = join _ _ (in_brackets (codes "FA(") _ (inner refl) (texts.at_index tables.features features f)) (touched (at_index w.actual f))
  told_there w next (told.Length which) =
      in_row (setting_text which ∷ codes "=" ∷ thousandths (pos (setting_length w.settings which)) ∷ []) (setting which, (inner refl, (texts.length (pos (setting_length w.settings which)), tt)))
  told_there w next (told.Framed d) = in_brackets (codes "D(") _ (inner refl) (texts.at_index tables.frames frames d)
  told_there w next told.Printed = in_row (codes "output " ∷ decimal (length w.lines) ∷ []) (inner refl, (texts.number (length w.lines), tt))
  told_there w next told.Nothing = inner refl

  step_there : (w : World) (next : ℕ) (op : Op) (o : Option StopPlace) → LineEnd (step_end tables w next op o)
  step_there w next op (Some p) = stopped p
  step_there w next op None = onto _ (codes "\n") (told_there w next (told_of op)) end

  -- a line whose first field is a number stands there whole
  told_line : (count number at_line : ℕ) (own : List ℕ) (at : Point) (rest : List ℕ) → Inner own → LineEnd rest
      → Goes None (line_front count number at_line own at ++ rest) (line_front count number at_line own at ++ rest) None
  told_line count number at_line own at rest h e =
      let numbers = in_a_row (codes "," ∷ decimal number ∷ codes "," ∷ decimal at_line ∷ codes "," ∷ own ∷ codes "," ∷ []) in
      let place = point_text (codes ",") at ++ codes "," in
      let first : Inner numbers =
      in_row (codes "," ∷ decimal number ∷ codes "," ∷ decimal at_line ∷ codes "," ∷ own ∷ codes "," ∷ [])
      (inner refl, (texts.number number, (inner refl, (texts.number at_line, (inner refl, (h, (inner refl, tt))))))) in
      let after : Inner place =
      join (point_text (codes ",") at) (codes ",")
      (in_row (thousandths (coordinate at 0) ∷ codes "," ∷ thousandths (coordinate at 1) ∷ codes "," ∷ thousandths (coordinate at 2) ∷ [])
      (texts.length (coordinate at 0), (inner refl, (texts.length (coordinate at 1), (inner refl, (texts.length (coordinate at 2), tt)))))) (inner refl) in
      two (subst (λ l. Goes None l l (Some true)) (sym (append_assoc (decimal count) numbers place)) (texts.number_first count (join numbers place first after))) (e.goes true)

  traced : (p : Passage) → Goes None (trace_line tables p) (trace_line tables p) None
  traced p =
      told_line p.count p.number p.statement.line (word_text (word_of p.statement.op)) p.after.position _ (word (word_of p.statement.op)) (step_there p.after p.next p.statement.op p.after.stop)

  -- ---- what stands below it

  piece_there : (piece : Leg) → Others (piece_row piece)
  piece_there piece =
      let g = going_front piece.going in
      other_either (is_at piece.to piece.aim) _ _ (one_point (going_letters piece.going) piece.to g) (two_points (going_letters piece.going) piece.to piece.aim g)

  mark : (m : Mark) → Others (mark_row tables m)
  mark (marks.Goes piece) = piece_there piece
  mark (marks.Touches t) =
      line (codes "t ") _ refl (texts.point t.at (codes " " ∷ name_at tables.features t.feature ∷ codes "\n" ∷ [])
      (onto (codes " ") _ (inner refl) (onto _ _ (texts.at_index tables.features features t.feature) end)))
  mark (marks.Meets c) = line (codes "c ") _ refl (texts.point c.at (codes " " ∷ decimal c.block ∷ codes "\n" ∷ []) (onto (codes " ") _ (inner refl) (onto _ _ (texts.number c.block) end)))

  way : (o : Option StopPlace) (t : Told) (marks : List Mark) → Others (way_rows tables o t marks)
  way (Some p) t marks = each_other (mark_row tables) marks mark
  way None told.Moved marks = none
  way None _ marks = each_other (mark_row tables) marks mark

  change : (w : World) (t : Told) → Others (change_row tables w t)
  change w (told.Declared f) = line (codes "f ") _ refl (texts.feature tables features Nominal f (at_index w.nominal f))
  change w (told.Measured f) = line (codes "f ") _ refl (texts.feature tables features Actual f (at_index w.actual f))
  change w (told.Framed d) = line (codes "d ") _ refl (onto (name_at tables.frames d ++ codes " ") (frame_end w.frame) (join _ _ (texts.at_index tables.frames frames d) (inner refl)) (frame w.frame))
  change w told.Printed = line (codes "o ") _ refl (onto (spelled (last_printed w.lines)) (codes "\n") (texts.spelled_text (last_printed w.lines)) end)
  change w _ = none

  changes : (w : World) (o : Option StopPlace) (t : Told) → Others (change_rows tables w o t)
  changes w (Some p) t = none
  changes w None t = change w t

  -- ---- steps

  step : (marks : List Mark) (p : Passage) → Goes None (step_rows tables marks p) (trace_line tables p) None
  step marks p =
      let t = told_of p.statement.op in
      let below = others _ _ (way p.after.stop t marks) (changes p.after p.after.stop t) in
      subst (λ l. Goes None (step_rows tables marks p) l None) (append-nil (trace_line tables p)) (two (traced p) below.goes)

  from_on : (from : ℕ) (p : Passage) (rows : List ℕ) → Goes None rows (trace_line tables p) None → Goes None (rows_from from tables p rows) (shown_line tables from p) None
  from_on from p rows h = by (nat_lt p.count from) (p.count == from) refl refl
    where
      by : (before here : Bool) → nat_lt p.count from ≡ before → (p.count == from) ≡ here
          → Goes None (if before then [] else (if here then state_rows tables from p.after else rows)) (shown_line tables from p) None
      by true here b e = (let no : nat_lt from p.count ≡ false = grind (arith, b) in rw no none.goes)
      by false true b e = (let no : nat_lt from p.count ≡ false = grind (arith, e) in rw no (state from p.after).goes)
      by false false b e = (let after : nat_lt from p.count ≡ true = grind (arith, b, e) in rw after h)

  all_steps : (part : Workpiece) (from : ℕ) (ps : List Passage) → Goes None (flat_map (passage_rows part tables from) ps) (flat_map (shown_line tables from) ps) None
  all_steps part from [] = none.goes
  all_steps part from (p ∷ ps) = two (from_on from p (step_rows tables (step_marks part p) p) (step (step_marks part p) p)) (all_steps part from ps)

  open_there : (count : ℕ) (m : CodeState) (o : Option CodeStatement) → Goes None (open_at count m o) (open_at count m o) None
  open_there count m None = none.goes
  open_there count m (Some s) = told_line count m.next s.line [] m.world.position _ (inner refl)
      (onto (codes "no stop after ") _ (inner refl) (onto _ _ (texts.number count) (onto (codes " steps") (codes "\n") (inner refl) end)))

last_there : (c : Code) → IsInRange c → (count : ℕ) (m : CodeState) (o : Option StopPlace) → Goes None (last_line c count m o) (last_line c count m o) None
last_there c r count m (Some p) = none.goes
last_there c r count m None = open_there c.tables r.variables.1 r.features.1 r.frames.1 count m (slice_get c.statements m.next)

-- ---- whole stories

module _ (part : Workpiece) (c : Code) (shown : List ℕ) (is_listing : Bool) (notices : List Noticed) (from n : ℕ) (r : IsInRange c) where
  whole : Goes None (story_text part c shown is_listing notices from n)
      (flat_map (shown_line c.tables from) (passages part c n) ++ last_line c (steps_taken part c n) (state_after part c n) (state_after part c n).world.stop) None
  whole =
      let v = r.variables.1 in
      let f = r.features.1 in
      let d = r.frames.1 in
      let first = others _ _ (opening part c shown is_listing notices) (other_either (from == 0) _ [] (state c.tables v f d 0 (state_after part c 0).world) none) in
      two (two first.goes (all_steps c.tables v f d part from (passages part c n))) (last_there c r (steps_taken part c n) (state_after part c n) (state_after part c n).world.stop)

pub stories_clear : StoriesAreClear
stories_clear part c shown is_listing notices from n r = (whole part c shown is_listing notices from n r).clear

pub stories_tell_steps : StoriesTellSteps
stories_tell_steps part c shown is_listing notices from n r = (whole part c shown is_listing notices from n r).shown

-- ---- from the first step on

abbrev every_line : Tables → List Passage → Type 0
every_line tables ps = flat_map (shown_line tables 0) ps ≡ flat_map (trace_line tables) ps

every_two : (tables : Tables) (ps qs : List Passage) → every_line tables ps → every_line tables qs → every_line tables (ps ++ qs)
every_two tables [] qs p q = q
every_two tables (x ∷ ps) qs p q = flat_map-append (shown_line tables 0) (x ∷ ps) qs ∙ rw (p, q) (sym (flat_map-append (trace_line tables) (x ∷ ps) qs))

every_at : (tables : Tables) (k : ℕ) (m after : CodeState) (o : Option CodeStatement) → every_line tables (passage_at (suc k) m after o)
every_at tables k m after None = refl
every_at tables k m after (Some s) = (let counted : nat_lt 0 (suc k) ≡ true = grind arith in rw counted refl)

every_from : (part : Workpiece) (c : Code) (k : ℕ) (m : CodeState) → every_line c.tables (passage_from part c (suc k) m)
every_from part c k m = by m.world.stop
  where
    by : (stop : Option StopPlace) → every_line c.tables (unless_stopped stop [] (passage_at (suc k) m (code_step (setup_with part c) c.statements m) (slice_get c.statements m.next)))
    by (Some p) = refl
    by None = every_at c.tables k m (code_step (setup_with part c) c.statements m) (slice_get c.statements m.next)

every_passage : (part : Workpiece) (c : Code) (n : ℕ) → every_line c.tables (passages part c n)
every_passage part c zero = refl
every_passage part c (suc k) = every_two c.tables (passages part c k) (passage_from part c (suc k) (state_after part c k)) (every_passage part c k) (every_from part c k (state_after part c k))

pub stories_tell_all : StoriesTellTraces
stories_tell_all part c shown is_listing notices n r =
    let last = last_line c (steps_taken part c n) (state_after part c n) (state_after part c n).world.stop in
    let lines_are = stories_tell_steps part c shown is_listing notices 0 n r ∙ ap (λ l. l ++ last) (every_passage part c n) in
    ap (λ l. heading ++ l) lines_are ∙ sym (append_assoc heading (flat_map (trace_line c.tables) (passages part c n)) last)
    ∙ ap (λ l. (heading ++ l) ++ last) (sym (unframed (trace_line c.tables) (no_frames c.tables) (passages part c n)))
