-- What one statement is put as has the line that it is given: a lemma for each definition, named after it.
use Rattle.std.proofs.Common.{◌≡◌, ℕ, ℤ, pos, Bool, true, false, ◌&&◌, List, [], ◌∷◌, ◌++◌, length, Option, Some, None, Result, Ok, Err, refl, ap, ◌∙◌}
use Rattle.std.specs.Prelude.{if◌then◌else◌, nat_lt, slice_get, is_some}
use Rattle.std.specs.List.{list_all, list_any, flat_map}
use Rattle.std.proofs.lemmas.List.Folds.{list_all-append}
use Rattle.vcm_num.specs.declared.number.Kind.{Kind}
use Rattle.vcm_num.specs.declared.number.Kind.TheVariants as kinds
use Rattle.vcm_num.specs.declared.axis.Axis.{Axis}
use Rattle.vcm_num.specs.declared.limits.TheConstants.{MOST_NAMES}
use Rattle.vcm_spec.specs.declared.expression.BinaryOp.{BinaryOp}
use Rattle.vcm_spec.specs.declared.expression.BinaryOp.TheVariants.{Add, Sub, Compare}
use Rattle.vcm_spec.specs.declared.expression.Relation.TheVariants.{NotEqual}
use Rattle.vcm_spec.specs.declared.words.FrameAxis.{FrameAxis}
use Rattle.vcm_spec.specs.declared.words.Quarters.{Quarters}
use Rattle.vcm_spec.specs.declared.words.Setting.{Setting}
use Rattle.vcm_spec.specs.declared.words.Setting.TheVariants as settings
use Rattle.vcm_spec.specs.declared.words.Source.{Source as Side}
use Rattle.vcm_spec.specs.declared.words.FeatureWord.{FeatureWord}
use Rattle.vcm_spec.specs.Setup.{Variable, kinds_of}
use Rattle.vcm_items.specs.Names.{variable_of, is_named}
use Rattle.vcm_lines.specs.declared.fault.FaultCode.{FaultCode}
use Rattle.vcm_expr.specs.declared.expression.Piece.{Piece}
use Rattle.vcm_expr.specs.declared.expression.Piece.TheVariants.{Variable as Named}
use Rattle.vcm_expr.specs.declared.expression.Term.{Term}
use Rattle.vcm_expr.specs.declared.typing.Want.TheVariants as wants
use Rattle.vcm_expr.specs.Source.{Source, Plain, leaf_in, parts}
use Rattle.vcm_events.specs.declared.event.Event.{Event}
use Rattle.vcm_events.specs.declared.event.Event.TheVariants as events
use Rattle.vcm_events.specs.declared.spots.Spot.{Spot}
use Rattle.vcm_events.specs.declared.spots.Spot.TheVariants as spots
use Rattle.vcm_events.specs.Joined.{pair}
use Rattle.vcm_forms.specs.declared.statement.Coordinates.{Coordinates}
use Rattle.vcm_forms.specs.declared.statement.Offset.{Offset}
use Rattle.vcm_forms.specs.declared.statement.Rounds.{Rounds}
use Rattle.vcm_forms.specs.declared.statement.Target.{Target}
use Rattle.vcm_program.specs.Titles.{index_of, entered}
use Rattle.vcm_remarks.specs.declared.remark.Cause.{Cause}
use Rattle.vcm_remarks.specs.declared.remark.Cause.TheVariants as causes
use Rattle.vcm_templates.specs.declared.besides.Beside.{Beside}
use Rattle.vcm_templates.specs.declared.besides.Formula.{Formula}
use Rattle.vcm_templates.specs.declared.besides.Formula.TheVariants.{Nothing}
use Rattle.vcm_templates.specs.declared.carried.Carried.{Carried}
use Rattle.vcm_templates.specs.declared.carried.Carried.TheVariants as carried
use Rattle.vcm_templates.specs.declared.carried.TheConstants.{UNKNOWN_SENSOR}
use Rattle.vcm_templates.specs.declared.guarded.Guarded.{Guarded}
use Rattle.vcm_templates.specs.declared.lengths.Kept.{Kept}
use Rattle.vcm_templates.specs.declared.lengths.Kept.TheVariants as kept
use Rattle.vcm_templates.specs.declared.lengths.Length.TheVariants as lengths
use Rattle.vcm_templates.specs.declared.templates.TheConstants.{NEAR, FAR}
use Rattle.vcm_templates.specs.Besides.{carries_bounds, beside_of, at_most}
use Rattle.vcm_templates.specs.Carried.{carried_term, kept_place}
use Rattle.vcm_templates.specs.Expressions.{number, truth, both, has_form}
use Rattle.vcm_templates.specs.Templates.{asks_variable, asks_piece, asks_variables, asks_formula, asks_near, asks_within, asks_value, asks_all, is_carried, declares_bound, sets_bound, sets_near, goes, gone, untried_point, touched, lose_epoch, lose_places, lose_all, new_frame, saves_frame, frame_gone}
use Rattle.vcm_kept.specs.declared.effects.Effects.{Effects}
use Rattle.vcm_kept.specs.declared.text.Text.{Text}
use Rattle.vcm_kept.specs.Effects.{where_may, lose_motions, lose_modes, lose_tables, lose_scans, lose_units, lose_machine, lose_sensor, other_tip, lose_settings, lose_frames, lose_kept, lose_planes, lose_index, lose_state, lose_saved, lose_effects, lose_block}
use Rattle.vcm_events.specs.Datums.{are_origins}
use Rattle.vcm_kept.specs.declared.events.Around.{Around}
use Rattle.vcm_kept.specs.Choices.{chosen_by, chooses_known, chooses_nothing, opens_case, is_chosen, cases, defaults, adds_value, begins_case, case_ends}
use Rattle.vcm_kept.specs.Datums.{binds, unbinds, declares_bound_at, keeps_axes, recalls_axes, straightens, turns_axes, declares_axes, begins_origins, asks_origin, keeps_origin, originates}
use Rattle.vcm_kept.specs.Named.{drops_frame, drops_feature, remakes_feature, stores_frame, declares_stored, keeps_stored}
use Rattle.vcm_kept.specs.Late.{Made, is_late, is_late_variable, late_frame, late_feature, late_variable}
use Rattle.vcm_spec.specs.Program.{is_same_name}
use Rattle.vcm_events.specs.Events.{event_named}
use Rattle.vcm_events.specs.Spots.{spot_named, slanted_name}
use Rattle.vcm_forms.specs.declared.statement.Form.{Form}
use Rattle.vcm_forms.specs.declared.statement.Form.TheVariants as form
use Rattle.vcm_kept.specs.Exactly.{want_of}
use Rattle.vcm_kept.specs.Places.{has_place, motion_asks, point_asks, approach_asks, aimed, within, asks_place, asks_point, keeps_here, keeps_known, keeps, tracks, loses_track, goes_to, moves_known, moves, goes_home, homes, reaches_target, step_asks, step_place, steps_known, steps_to, steps_by, before, halt_asks, left_behind, approaches_known, approaches_by, approaches, halts_known, halts_by, halts, slants, keeps_setting}
use Rattle.vcm_kept.specs.Guarding.{Reached, with_variable, declares_variable, declares_one, declares_all, assigned_where, assigned_to, assigned_by, assigned, is_nothing, turns_machine, turns_state, changes_sensor, selects, unselected, is_selected, selects_number, selects_by, misses_probe, takes_probe, wants_points, recalls_machine, turns_polar, happens, assigns_or, is_nominal, point, point_goes, own_point, direction_asks, touches_declared, touches_itself, touches_at, touches, halts_along, touches_where, touches_or, measures, keeps_point, measured_index, counts_points, leaves_points, measured, nominal_where, direction_of, sets_direction, keeps_direction, features_at, declares_direction, declares_feature, feature_gone, features_in, features, carried_setting, setting_where, configures, declares_frame, made_where, found_in, has_shifts, asks_shifts, shifts_at, shifts_in, shifts, origins_at, origins_in, frames_by, queries, adds_number, begins_block, turns_at, turns_in, recalled_where, recalls_at, obtains_here, obtains_at, obtains_by, reports_at, closes, unknown_asks, tests, chooses, asks_increment, asks_rounds, repeats, loop_ends, ending, spots_by, features_or, direction_in, approaches_feature, slants_or, shifts_or, is_aimed, makes_frame, late_shift, late_place, late_touch, late_end, late_value, late_report, lates}

-- ---- lists

-- whether these statements are all on lines that pass a test
abbrev pub are_on : (ℕ → Bool) → List Guarded → Bool
are_on test gs = list_all (λ g. test g.placed.statement.line) gs

pub joined : (test : ℕ → Bool) (fs gs : List Guarded) → are_on test fs ≡ true → are_on test gs ≡ true → are_on test (fs ++ gs) ≡ true
joined test fs gs f g = list_all-append (λ x. test x.placed.statement.line) fs gs ∙ ap (λ b. b && are_on test gs) f ∙ g

pub either : (test : ℕ → Bool) (b : Bool) (fs gs : List Guarded) → are_on test fs ≡ true → are_on test gs ≡ true → are_on test (if b then fs else gs) ≡ true
either test true fs gs f g = f
either test false fs gs f g = g

pub each : (test : ℕ → Bool) {X : Type 0} (f : X → List Guarded) → ((x : X) → are_on test (f x) ≡ true) → (xs : List X) → are_on test (flat_map f xs) ≡ true
each test f h [] = refl
each test f h (x ∷ xs) = joined test (f x) (flat_map f xs) (h x) (each test f h xs)

pub where_may_on : (test : ℕ → Bool) (b : Bool) (gs : List Guarded) → are_on test gs ≡ true → are_on test (where_may b gs) ≡ true
where_may_on test true gs g = g
where_may_on test false gs g = refl

module _ (test : ℕ → Bool) (line : ℕ) (h : test line ≡ true) where
  -- ---- what is asked

  asks_variable_on : (i : Option ℕ) → are_on test (asks_variable line i) ≡ true
  asks_variable_on None = refl
  asks_variable_on (Some i) = rw h

  asks_piece_on : (vs : List Variable) (q : Piece) → are_on test (asks_piece line vs q) ≡ true
  asks_piece_on vs (Named name e) = asks_variable_on (variable_of vs e name)
  asks_piece_on vs _ = refl

  asks_variables_on : (vs : List Variable) (e : Source) → are_on test (asks_variables line vs e) ≡ true
  unfolding asks_variables
  asks_variables_on vs e = each test (asks_piece line vs) (asks_piece_on vs) (parts e)

  asks_formula_on : (f : Formula) → are_on test (asks_formula line f) ≡ true
  asks_formula_on Nothing = refl
  asks_formula_on _ = rw h

  asks_near_on : (n : ℤ) (b : Option Beside) → are_on test (asks_near line n b) ≡ true
  asks_near_on n None = rw h
  asks_near_on n (Some b) = joined test _ _ (asks_formula_on (at_most n b.bound)) (asks_formula_on b.asked)

  asks_within_on : (vs : List Variable) (n : ℤ) (e : Source) → are_on test (asks_within line vs n e) ≡ true
  unfolding asks_within
  asks_within_on vs n e = either test (carries_bounds vs) _ _ (asks_near_on n (beside_of vs e)) refl

  asks_value_on : (vs : List Variable) (n : ℤ) (e : Source) → are_on test (asks_value line vs n e) ≡ true
  asks_value_on vs n e = joined test _ _ (asks_variables_on vs e) (asks_within_on vs n e)

  asks_all_on : (vs : List Variable) (e : Source) → are_on test (asks_all line vs e) ≡ true
  unfolding asks_all
  asks_all_on vs e = asks_value_on vs NEAR e

  -- ---- bounds

  declares_bound_on : (bound : Bool) (i : ℕ) → are_on test (declares_bound line bound i) ≡ true
  unfolding declares_bound
  declares_bound_on true i = rw h
  declares_bound_on false i = refl

  sets_bound_on : (vs : List Variable) (k : Kind) (i : ℕ) (e : Source) → are_on test (sets_bound line vs k i e) ≡ true
  unfolding sets_bound
  sets_bound_on vs k i e = either test (is_carried vs k) _ _ (rw h) refl

  sets_near_on : (vs : List Variable) (k : Kind) (i : ℕ) → are_on test (sets_near line vs k i) ≡ true
  unfolding sets_near
  sets_near_on vs k i = either test (is_carried vs k) _ _ (rw h) refl

  -- ---- motions

  goes_on : are_on test (goes line) ≡ true
  unfolding goes
  goes_on = rw h

  gone_on : are_on test (gone line) ≡ true
  unfolding gone
  gone_on = rw h

  untried_point_on : are_on test (untried_point line) ≡ true
  unfolding untried_point
  untried_point_on = rw h

  touched_on : are_on test (touched line) ≡ true
  unfolding touched
  touched_on = rw h (joined test _ _ untried_point_on (rw h))

  -- ---- losses

  lose_epoch_on : are_on test (lose_epoch line) ≡ true
  unfolding lose_epoch
  lose_epoch_on = rw h

  lose_places_on : are_on test (lose_places line) ≡ true
  unfolding lose_places
  lose_places_on = rw h

  lose_all_on : are_on test (lose_all line) ≡ true
  unfolding lose_all
  lose_all_on = joined test _ _ lose_epoch_on lose_places_on

  lose_motions_on : are_on test (lose_motions line) ≡ true
  unfolding lose_motions
  lose_motions_on = rw h

  lose_modes_on : are_on test (lose_modes line) ≡ true
  unfolding lose_modes
  lose_modes_on = rw h

  lose_tables_on : are_on test (lose_tables line) ≡ true
  unfolding lose_tables
  lose_tables_on = rw h

  lose_scans_on : are_on test (lose_scans line) ≡ true
  unfolding lose_scans
  lose_scans_on = rw h

  lose_units_on : are_on test (lose_units line) ≡ true
  unfolding lose_units
  lose_units_on = rw h

  lose_machine_on : (e : Effects) → are_on test (lose_machine line e) ≡ true
  unfolding lose_machine
  lose_machine_on e =
      joined test _ _ (where_may_on test e.modes _ lose_modes_on) (joined test _ _ (where_may_on test e.tables _ lose_tables_on)
      (joined test _ _ (where_may_on test e.scans _ lose_scans_on) (where_may_on test e.units _ lose_units_on)))

  lose_sensor_on : are_on test (lose_sensor line) ≡ true
  unfolding lose_sensor
  lose_sensor_on = rw h

  other_tip_on : are_on test (other_tip line) ≡ true
  unfolding other_tip
  other_tip_on = rw h

  lose_settings_on : are_on test (lose_settings line) ≡ true
  unfolding lose_settings
  lose_settings_on = rw h

  lose_frames_on : are_on test (lose_frames line) ≡ true
  unfolding lose_frames
  lose_frames_on = rw h

  lose_kept_on : are_on test (lose_kept line) ≡ true
  unfolding lose_kept
  lose_kept_on = rw h

  lose_planes_on : are_on test (lose_planes line) ≡ true
  unfolding lose_planes
  lose_planes_on = rw h

  lose_index_on : (i : ℕ) → are_on test (lose_index line i) ≡ true
  lose_index_on i = rw h

  lose_state_on : (e : Effects) → are_on test (lose_state line e) ≡ true
  unfolding lose_state
  lose_state_on e =
      joined test _ _ (where_may_on test e.moves _ lose_motions_on) (joined test _ _ (lose_machine_on e)
      (joined test _ _ (where_may_on test e.selects _ lose_sensor_on) (joined test _ _ (where_may_on test e.tips _ other_tip_on) (where_may_on test e.settings _ lose_settings_on))))

  lose_saved_on : (e : Effects) → are_on test (lose_saved line e) ≡ true
  unfolding lose_saved
  lose_saved_on e =
      joined test _ _ (where_may_on test e.frames _ lose_frames_on) (joined test _ _ (where_may_on test e.features _ (rw h))
      (joined test _ _ (where_may_on test e.values _ (rw h)) (joined test _ _ (where_may_on test e.spots _ lose_kept_on) (where_may_on test e.planes _ lose_planes_on))))

  lose_effects_on : (e : Effects) (is : List ℕ) → are_on test (lose_effects line e is) ≡ true
  unfolding lose_effects
  lose_effects_on e is = joined test _ _ (lose_state_on e) (joined test _ _ (lose_saved_on e) (each test (lose_index line) lose_index_on is))

  lose_block_on : (e : Effects) (is : List ℕ) → are_on test (lose_block line e is) ≡ true
  lose_block_on e is = either test e.leaves _ _ (rw h) (either test e.all _ _ (joined test _ _ lose_all_on (rw h)) (lose_effects_on e is))

  -- ---- frames

  new_frame_on : are_on test (new_frame line) ≡ true
  unfolding new_frame
  new_frame_on = rw h

  saves_frame_on : (i : ℕ) → are_on test (saves_frame line i) ≡ true
  unfolding saves_frame
  saves_frame_on i = joined test _ _ new_frame_on (rw h)

  frame_gone_on : (i : Option ℕ) → are_on test (frame_gone line i) ≡ true
  unfolding frame_gone
  frame_gone_on None = rw h
  frame_gone_on (Some i) = rw h

  -- ---- places

  asks_place_on : (vs : List Variable) (p : Coordinates) → are_on test (asks_place line vs p) ≡ true
  unfolding asks_place
  asks_place_on vs p = joined test _ _ (asks_all_on vs p.x) (joined test _ _ (asks_all_on vs p.y) (asks_all_on vs p.z))

  asks_point_on : (vs : List Variable) (known : Source) (p : Coordinates) → are_on test (asks_point line vs known p) ≡ true
  unfolding asks_point
  asks_point_on vs known p = rw h (joined test _ _ (asks_place_on vs p) goes_on)

  keeps_here_on : (k : Kept) (p : Coordinates) → are_on test (keeps_here line k p) ≡ true
  unfolding keeps_here
  keeps_here_on k p = rw h

  keeps_known_on : (vs : List Variable) (k : Kept) (p : Coordinates) → are_on test (keeps_known line vs k p) ≡ true
  unfolding keeps_known
  keeps_known_on vs k p = rw h (joined test _ _ (asks_place_on vs p) (rw h (joined test _ _ (keeps_here_on k p) (rw h))))

  keeps_on : (vs : List Variable) (k : Kept) (p : Coordinates) → are_on test (keeps line vs k p) ≡ true
  keeps_on vs k p = either test (has_place vs p) _ _ (keeps_known_on vs k p) (rw h)

  tracks_on : (steps : Bool) (p : Coordinates) → are_on test (tracks steps line p) ≡ true
  tracks_on true p = keeps_here_on kept.Probe p
  tracks_on false p = refl

  loses_track_on : (steps : Bool) → are_on test (loses_track steps line) ≡ true
  loses_track_on true = rw h
  loses_track_on false = refl

  goes_to_on : (steps : Bool) (k : Kept) (known : Source) → are_on test (goes_to steps line k known) ≡ true
  unfolding goes_to
  goes_to_on steps k known = rw h (joined test _ _ goes_on (rw h (joined test _ _ (tracks_on steps (kept_place k)) gone_on)))

  moves_known_on : (steps : Bool) (e : ℕ) (vs : List Variable) (aiming measuring : Bool) (p : Coordinates) → are_on test (moves_known steps line e vs aiming measuring p) ≡ true
  unfolding moves_known
  moves_known_on steps e vs aiming measuring p =
      joined test _ _ (asks_point_on vs (within measuring (aimed aiming motion_asks)) p) (rw h (joined test _ _ (tracks_on steps p) gone_on))

  pub moves_on : (steps : Bool) (e : ℕ) (vs : List Variable) (aiming measuring : Bool) (p : Coordinates) → are_on test (moves steps line e vs aiming measuring p) ≡ true
  moves_on steps e vs aiming measuring p = either test (has_place vs p) _ _ (moves_known_on steps e vs aiming measuring p) (rw h)

  goes_home_on : (steps aiming measuring : Bool) (e : ℕ) → are_on test (goes_home steps aiming measuring line e) ≡ true
  unfolding goes_home
  goes_home_on steps aiming measuring e = rw h (joined test _ _ goes_on (rw h (joined test _ _ (loses_track_on steps) gone_on)))

  pub homes_on : (from steps aiming measuring : Bool) (e : ℕ) → are_on test (homes from steps aiming measuring line e) ≡ true
  homes_on false steps aiming measuring e = goes_home_on steps aiming measuring e
  homes_on true steps aiming measuring e =
      rw h (joined test _ _ (goes_home_on steps aiming measuring e) (rw h (joined test _ _ (goes_to_on steps kept.Home (within measuring (aimed aiming motion_asks))) (rw h))))

  reaches_target_on : (targets steps measuring : Bool) → are_on test (reaches_target targets steps measuring line) ≡ true
  reaches_target_on true steps measuring = goes_to_on steps kept.Target (within measuring (aimed true motion_asks))
  reaches_target_on false steps measuring = rw h

  steps_known_on : (aiming measuring : Bool) (vs : List Variable) (p q : Coordinates) → are_on test (steps_known aiming measuring line vs p q) ≡ true
  unfolding steps_known
  steps_known_on aiming measuring vs p q = joined test _ _ (asks_point_on vs (within measuring (aimed aiming step_asks)) p) (rw h (joined test _ _ (keeps_here_on kept.Probe q) gone_on))

  steps_to_on : (aiming measuring : Bool) (vs : List Variable) (p : Coordinates) (q : Option Coordinates) → are_on test (steps_to aiming measuring line vs p q) ≡ true
  steps_to_on aiming measuring vs p None = rw h
  steps_to_on aiming measuring vs p (Some q) = steps_known_on aiming measuring vs p q

  steps_by_on : (aiming measuring : Bool) (vs : List Variable) (op : BinaryOp) (p : Coordinates) → are_on test (steps_by aiming measuring line vs op p) ≡ true
  steps_by_on aiming measuring vs op p = either test (has_place vs p) _ _ (steps_to_on aiming measuring vs p (step_place op p)) (rw h)

  -- ---- points that are approached and left

  left_behind_on : (steps there : Bool) → are_on test (left_behind steps line there) ≡ true
  unfolding left_behind
  left_behind_on steps there = rw h (joined test _ _ (loses_track_on steps) (rw h (joined test _ _ untried_point_on (rw h))))

  approaches_known_on : (steps : Bool) (vs : List Variable) (known : Source) (p a r : Coordinates) → are_on test (approaches_known steps line vs known p a r) ≡ true
  unfolding approaches_known
  approaches_known_on steps vs known p a r = joined test _ _ (asks_point_on vs known p) (rw h (left_behind_on steps true))

  approaches_by_on : (steps : Bool) (vs : List Variable) (known : Source) (p : Coordinates) (a r : Option Coordinates)
      → are_on test (approaches_by steps line vs known p a r) ≡ true
  approaches_by_on steps vs known p (Some a) (Some r) = approaches_known_on steps vs known p a r
  approaches_by_on steps vs known p _ _ = untried_point_on

  approaches_on : (steps : Bool) (vs : List Variable) (known : Source) (p d : Coordinates) → are_on test (approaches steps line vs known p d) ≡ true
  approaches_on steps vs known p d =
      either test (has_place vs p) _ _ (approaches_by_on steps vs known p (before lengths.Approach p d) (before lengths.Retract p d)) untried_point_on

  halts_known_on : (steps : Bool) (vs : List Variable) (known : Source) (p a : Coordinates) → are_on test (halts_known steps line vs known p a) ≡ true
  unfolding halts_known
  halts_known_on steps vs known p a = joined test _ _ (asks_point_on vs known p) (rw h (left_behind_on steps false))

  halts_by_on : (steps : Bool) (vs : List Variable) (known : Source) (p : Coordinates) (a : Option Coordinates) → are_on test (halts_by steps line vs known p a) ≡ true
  halts_by_on steps vs known p (Some a) = halts_known_on steps vs known p a
  halts_by_on steps vs known p None = untried_point_on

  halts_on : (steps : Bool) (vs : List Variable) (known : Source) (p d : Coordinates) → are_on test (halts steps line vs known p d) ≡ true
  halts_on steps vs known p d = either test (has_place vs p) _ _ (halts_by_on steps vs known p (before lengths.Approach p d)) untried_point_on

  slants_on : (slanted steps : Bool) (vs : List Variable) (os : List Offset) → are_on test (slants slanted steps line vs os) ≡ true
  slants_on true steps vs (w ∷ []) = rw h
  slants_on true steps vs (x ∷ y ∷ z ∷ i ∷ j ∷ k ∷ []) =
      approaches_on steps vs approach_asks (record { x = x.length; y = y.length; z = z.length }) (record { x = i.length; y = j.length; z = k.length })
  slants_on _ steps vs _ = refl

  keeps_setting_on : (slanted : Bool) (which : Setting) (e : Source) → are_on test (keeps_setting slanted line which e) ≡ true
  keeps_setting_on true settings.Approach e = rw h
  keeps_setting_on true settings.Retract e = rw h
  keeps_setting_on _ _ e = refl

  -- ---- variables

  declares_variable_on : (bound : Bool) (i : ℕ) → are_on test (declares_variable line bound i) ≡ true
  unfolding declares_variable
  declares_variable_on bound i = rw h (declares_bound_on bound i)

  declares_one_on : (vs : List Variable) (e : ℕ) (k : Kind) (name : List ℕ) → are_on test (declares_one line vs e k name) ≡ true
  declares_one_on vs e k name =
      either test (nat_lt (length vs) MOST_NAMES) _ _ (either test (list_any (is_named e name) vs) _ _ refl (declares_variable_on (is_carried vs k) (length vs))) refl

  pub declares_all_on : (vs : List Variable) (e : ℕ) (k : Kind) (names : List (List ℕ)) → are_on test (declares_all line vs e k names) ≡ true
  declares_all_on vs e k [] = refl
  declares_all_on vs e k (name ∷ names) = joined test _ _ (declares_one_on vs e k name) (declares_all_on (with_variable vs e k name) e k names)

  assigned_where_on : (e : ℕ) (vs : List Variable) (t : Target) (k : Kind) (i : ℕ) (value : Source) → are_on test (assigned_where line e vs t k i value) ≡ true
  unfolding assigned_where
  assigned_where_on e vs t k i value = rw h (joined test _ _ (asks_value_on vs FAR value) (rw h (joined test _ _ (sets_bound_on vs k i value) (rw h))))

  assigned_to_on : (e : ℕ) (vs : List Variable) (t : Target) (value : Source) (i : ℕ) (k : Option Kind) → are_on test (assigned_to line e vs t value i k) ≡ true
  assigned_to_on e vs t value i None = refl
  assigned_to_on e vs t value i (Some k) = either test (has_form vs (want_of k) value) _ _ (assigned_where_on e vs t k i value) (rw h)

  assigned_by_on : (e : ℕ) (vs : List Variable) (t : Target) (value : Source) (i : Option ℕ) → are_on test (assigned_by line e vs t value i) ≡ true
  assigned_by_on e vs t value None = refl
  assigned_by_on e vs t value (Some i) = assigned_to_on e vs t value i (slice_get (kinds_of vs) i)

  assigned_on : (e : ℕ) (vs : List Variable) (t : Target) (value : Source) → are_on test (assigned line e vs t value) ≡ true
  assigned_on e vs t value = assigned_by_on e vs t value (variable_of vs t.expansion t.name)

  -- ---- events

  turns_machine_on : (c : Carried) (why : Cause) (nothing : Bool) → are_on test (turns_machine line c why nothing) ≡ true
  turns_machine_on c why true = rw h
  turns_machine_on c why false = rw h

  turns_state_on : (c : Carried) (why : Cause) (nothing : Bool) → are_on test (turns_state line c why nothing) ≡ true
  turns_state_on c why true = rw h
  turns_state_on c why false = rw h

  changes_sensor_on : (n : Source) → are_on test (changes_sensor line n) ≡ true
  unfolding changes_sensor
  changes_sensor_on n = rw h

  selects_on : (question n : Source) → are_on test (selects line question n) ≡ true
  unfolding selects
  selects_on question n = rw h (joined test _ _ (changes_sensor_on n) (rw h))

  unselected_on : are_on test (unselected line) ≡ true
  unselected_on = changes_sensor_on (Plain (number UNKNOWN_SENSOR))

  selects_number_on : (n : Option Term) → are_on test (selects_number line n) ≡ true
  selects_number_on None = refl
  selects_number_on (Some n) = selects_on (pair (Compare NotEqual) (carried_term carried.Sensor) n) (Plain n)

  selects_by_on : (e : ℕ) (n : Option Term) → are_on test (selects_by line e n) ≡ true
  selects_by_on e n = either test (is_selected e n) _ _ (selects_number_on n) unselected_on

  takes_probe_on : (steps missing : Bool) (n : Source) → are_on test (takes_probe steps line missing n) ≡ true
  unfolding misses_probe
  takes_probe_on steps true n = rw h
  takes_probe_on steps false n = joined test _ _ (loses_track_on steps) (rw h)

  wants_points_on : (vs : List Variable) (value : Source) → are_on test (wants_points line vs value) ≡ true
  unfolding wants_points
  wants_points_on vs value = rw h (either test (has_form vs wants.Int value) _ _ (rw h (joined test _ _ (asks_all_on vs value) (rw h))) (rw h))

  straightens_on : (datums : Bool) → are_on test (straightens datums line) ≡ true
  straightens_on true = rw h
  straightens_on false = refl

  recalls_machine_on : (own datums : Bool) → are_on test (recalls_machine own datums line) ≡ true
  unfolding recalls_machine
  recalls_machine_on true datums = rw h (joined test _ _ new_frame_on (straightens_on datums))
  recalls_machine_on false datums = rw h

  -- ---- datums and choices

  begins_origins_on : (datums : Bool) → are_on test (begins_origins datums line) ≡ true
  begins_origins_on true = rw h
  begins_origins_on false = refl

  binds_on : (i : Option ℕ) → are_on test (binds line i) ≡ true
  binds_on None = refl
  binds_on (Some i) = rw h

  unbinds_on : (datums : Bool) (i : ℕ) → are_on test (unbinds datums line i) ≡ true
  unbinds_on true i = rw h
  unbinds_on false i = refl

  declares_bound_at_on : (datums : Bool) (i : ℕ) → are_on test (declares_bound_at datums line i) ≡ true
  declares_bound_at_on true i = rw h
  declares_bound_at_on false i = refl

  keeps_axes_on : (datums : Bool) (i : ℕ) → are_on test (keeps_axes datums line i) ≡ true
  keeps_axes_on true i = rw h
  keeps_axes_on false i = refl

  recalls_axes_on : (datums : Bool) (i : ℕ) → are_on test (recalls_axes datums line i) ≡ true
  recalls_axes_on true i = rw h
  recalls_axes_on false i = refl

  turns_axes_on : (datums : Bool) → are_on test (turns_axes datums line) ≡ true
  turns_axes_on true = rw h
  turns_axes_on false = refl

  declares_axes_on : (datums : Bool) (i : ℕ) → are_on test (declares_axes datums line i) ≡ true
  declares_axes_on true i = rw h
  declares_axes_on false i = refl

  asks_origin_on : (e i : ℕ) (l : List ℕ) (word : FeatureWord) → are_on test (asks_origin line e i l word) ≡ true
  unfolding asks_origin
  asks_origin_on e i l word = rw h

  keeps_origin_on : (e : ℕ) (l : List ℕ) (word : FeatureWord) → are_on test (keeps_origin line e l word) ≡ true
  unfolding keeps_origin
  keeps_origin_on e l word = rw h

  originates_on : (e : ℕ) (l : List ℕ) (word : FeatureWord) (i : Option ℕ) → are_on test (originates line e l word i) ≡ true
  originates_on e l word None = rw h
  originates_on e l word (Some i) = joined test _ _ (asks_origin_on e i l word) (keeps_origin_on e l word)

  chosen_by_on : (i : ℕ) (value : Source) → are_on test (chosen_by line i value) ≡ true
  unfolding chosen_by
  chosen_by_on i value = rw h

  chooses_known_on : (several : Bool) (e i : ℕ) (value : Source) → are_on test (chooses_known several line e i value) ≡ true
  chooses_known_on true e i value = chosen_by_on i value
  chooses_known_on false e i value = rw h

  chooses_nothing_on : (several : Bool) (e : ℕ) → are_on test (chooses_nothing several line e ∷ []) ≡ true
  chooses_nothing_on true e = rw h
  chooses_nothing_on false e = rw h

  opens_case_on : (i : ℕ) (e : Source) → are_on test (opens_case line i e) ≡ true
  unfolding opens_case
  opens_case_on i e = rw h

  pub cases_on : (several : Bool) (e i : ℕ) (n : ℤ) → are_on test (cases several line e i n) ≡ true
  cases_on true e i n = opens_case_on i (is_chosen i (number n))
  cases_on false e i n = rw h

  pub defaults_on : (several : Bool) (e i : ℕ) → are_on test (defaults several line e i) ≡ true
  defaults_on true e i = opens_case_on i (truth true)
  defaults_on false e i = rw h

  adds_value_on : (i : ℕ) (t : Term) → are_on test (adds_value line i t) ≡ true
  unfolding adds_value
  adds_value_on i t = rw h

  adds_number_on : (i : ℕ) (t : Option Term) → are_on test (adds_number line i t) ≡ true
  adds_number_on i None = refl
  adds_number_on i (Some t) = adds_value_on i t

  begins_case_on : (i : ℕ) → are_on test (begins_case line i) ≡ true
  unfolding begins_case
  begins_case_on i = rw h

  begins_block_on : (several : Bool) (i : ℕ) → are_on test (begins_block several line i) ≡ true
  begins_block_on true i = begins_case_on i
  begins_block_on false i = refl

  pub case_ends_on : (several : Bool) (e : ℕ) → are_on test (case_ends several line e) ≡ true
  case_ends_on true e = rw h
  case_ends_on false e = rw h

  turns_polar_on : (polar : Bool) (c : Carried) (nothing : Bool) → are_on test (turns_polar polar line c nothing) ≡ true
  turns_polar_on true c nothing = turns_state_on c causes.Value nothing
  turns_polar_on false c nothing = refl

  happens_on : (text : Text) (around : Around) (e : ℕ) (vs : List Variable) (event : Event) (v : Source) → are_on test (happens text around line e vs event v) ≡ true
  happens_on text around e vs events.Mode v = turns_machine_on carried.Mode causes.Mode (is_nothing (leaf_in v))
  happens_on text around e vs events.Table v = turns_machine_on carried.Table causes.Table (is_nothing (leaf_in v))
  happens_on text around e vs events.Scanning v = turns_state_on carried.Scanning causes.Scanning (is_nothing (leaf_in v))
  happens_on text around e vs events.Unit v = turns_state_on carried.Unit causes.Unit (is_nothing (leaf_in v))
  happens_on text around e vs events.OwnPoints v = turns_state_on carried.OwnPoints causes.Mode (is_nothing (leaf_in v))
  happens_on text around e vs events.Approach v = turns_state_on carried.Approach causes.Setting (is_nothing (leaf_in v))
  happens_on text around e vs events.Search v = turns_state_on carried.Search causes.Setting (is_nothing (leaf_in v))
  happens_on text around e vs events.Retract v = turns_state_on carried.Retract causes.Setting (is_nothing (leaf_in v))
  happens_on text around e vs events.Clearance v = turns_state_on carried.Clearance causes.Setting (is_nothing (leaf_in v))
  happens_on text around e vs events.Compensation v = turns_state_on carried.Compensation causes.Setting (is_nothing (leaf_in v))
  happens_on text around e vs events.Qualification v = turns_state_on carried.Qualification causes.Setting (is_nothing (leaf_in v))
  happens_on text around e vs events.Target v = reaches_target_on text.spots text.steps around.measuring
  happens_on text around e vs events.UntriedPoint v = untried_point_on
  happens_on text around e vs events.Machine v = recalls_machine_on text.machine text.datums
  happens_on text around e vs events.Points v = wants_points_on vs v
  happens_on text around e vs events.Sensor v = selects_by_on e (leaf_in v)
  happens_on text around e vs events.Probe v = takes_probe_on text.steps (is_nothing (leaf_in v)) v
  happens_on text around e vs events.Angle v = turns_polar_on text.polar carried.Angle (is_nothing (leaf_in v))
  happens_on text around e vs events.Plane v = turns_polar_on text.polar carried.Plane (is_nothing (leaf_in v))
  happens_on text around e vs events.PolarPoint v = rw h (joined test _ _ untried_point_on (rw h))
  happens_on text around e vs events.Bind v = refl
  happens_on text around e vs events.Origins v = begins_origins_on text.datums
  happens_on text around e vs events.Origin v = refl
  happens_on text around e vs events.Width v = other_tip_on
  happens_on text around e vs events.Depth v = refl
  happens_on text around e vs events.CaseValue v = adds_number_on around.depth (leaf_in v)
  happens_on text around e vs events.CaseBegins v = begins_block_on text.several around.depth
  happens_on text around e vs events.All v = joined test _ _ lose_all_on (rw h)
  happens_on text around e vs _ v = rw h

  pub assigns_or_on : (text : Text) (around : Around) (e : ℕ) (vs : List Variable) (t : Target) (value : Source) (event : Option Event)
      → are_on test (assigns_or text around line e vs t value event) ≡ true
  assigns_or_on text around e vs t value None = assigned_on e vs t value
  assigns_or_on text around e vs t value (Some event) = happens_on text around e vs event value

  -- ---- points

  point_on : (e : ℕ) (l : List ℕ) (p : Coordinates) (d : Option Axis) → are_on test (point line e l p d) ≡ true
  unfolding point
  point_on e l p d = rw h

  point_goes_on : (steps : Bool) (e : ℕ) (l : List ℕ) (p : Coordinates) (d : Option Axis) → are_on test (point_goes steps line e l p d) ≡ true
  unfolding point_goes
  point_goes_on steps e l p d = joined test _ _ (point_on e l p d) (rw h (joined test _ _ (loses_track_on steps) touched_on))

  own_point_on : (steps : Bool) (e : ℕ) (l : List ℕ) (p : Coordinates) (d : Axis) → are_on test (own_point steps line e l p d) ≡ true
  unfolding own_point
  own_point_on steps e l p d = rw h (point_goes_on steps e l p (Some d))

  touches_declared_on : (steps : Bool) (e : ℕ) (vs : List Variable) (l : List ℕ) (i : ℕ) (p : Coordinates) (d : Option Axis)
      → are_on test (touches_declared steps line e vs l i p d) ≡ true
  unfolding touches_declared
  touches_declared_on steps e vs l i p d = joined test _ _ (asks_point_on vs (direction_asks i d) p) (point_goes_on steps e l p d)

  touches_itself_on : (steps : Bool) (e : ℕ) (vs : List Variable) (l : List ℕ) (p : Coordinates) (d : Option Axis)
      → are_on test (touches_itself steps line e vs l p d) ≡ true
  unfolding touches_itself
  touches_itself_on steps e vs l p None = untried_point_on
  touches_itself_on steps e vs l p (Some d) = joined test _ _ (asks_point_on vs point_asks p) (own_point_on steps e l p d)

  touches_at_on : (steps : Bool) (e : ℕ) (vs : List Variable) (l : List ℕ) (p : Coordinates) (d : Option Axis) (i : Option ℕ)
      → are_on test (touches_at steps line e vs l p d i) ≡ true
  touches_at_on steps e vs l p d None = touches_itself_on steps e vs l p d
  touches_at_on steps e vs l p d (Some i) = touches_declared_on steps e vs l i p d

  touches_on : (steps : Bool) (e : ℕ) (vs : List Variable) (fs : List (List ℕ)) (p : Coordinates) (d : Option Axis) (l : Option (List ℕ))
      → are_on test (touches steps line e vs fs p d l) ≡ true
  touches_on steps e vs fs p d None = untried_point_on
  touches_on steps e vs fs p d (Some l) = either test (has_place vs p) _ _ (touches_at_on steps e vs l p d (index_of fs l)) untried_point_on

  pub measures_on : are_on test (measures line) ≡ true
  unfolding measures
  measures_on = rw h

  keeps_point_on : (datums : Bool) (i : Option ℕ) → are_on test (keeps_point datums line i) ≡ true
  unfolding keeps_point
  keeps_point_on datums None = refl
  keeps_point_on datums (Some i) = rw h (unbinds_on datums i)

  counts_points_on : (l : Option (List ℕ)) → are_on test (counts_points line l) ≡ true
  unfolding counts_points
  counts_points_on None = refl
  counts_points_on (Some l) = rw h

  leaves_points_on : are_on test (leaves_points line) ≡ true
  unfolding leaves_points
  leaves_points_on = rw h

  pub measured_on : (datums : Bool) (fs : List (List ℕ)) (l : Option (List ℕ)) → are_on test (measured datums line fs l) ≡ true
  measured_on datums fs l = joined test _ _ (counts_points_on l) (joined test _ _ (keeps_point_on datums (measured_index fs l)) (joined test _ _ leaves_points_on (rw h)))

  -- ---- features

  nominal_where_on : (i : ℕ) → are_on test (nominal_where line i) ≡ true
  unfolding nominal_where
  nominal_where_on i = rw h

  sets_direction_on : (i : ℕ) (d : Coordinates) → are_on test (sets_direction line i d) ≡ true
  sets_direction_on i d = rw h

  keeps_direction_on : (pointed : Bool) (i : ℕ) (d : Axis) → are_on test (keeps_direction pointed line i d) ≡ true
  keeps_direction_on true i d = sets_direction_on i (direction_of d)
  keeps_direction_on false i d = refl

  features_at_on : (pointed : Bool) (e : ℕ) (vs : List Variable) (l : List ℕ) (p : Coordinates) (d : Axis) (i : ℕ)
      → are_on test (features_at pointed line e vs l p d i) ≡ true
  unfolding features_at
  features_at_on pointed e vs l p d i =
      rw h (joined test _ _ (asks_place_on vs p) (rw h (joined test _ _ (keeps_direction_on pointed i d) (nominal_where_on i))))

  declares_direction_on : (pointed : Bool) (i : ℕ) → are_on test (declares_direction pointed line i) ≡ true
  declares_direction_on true i = rw h
  declares_direction_on false i = refl

  declares_feature_on : (pointed datums : Bool) (i : ℕ) (was : Option ℕ) → are_on test (declares_feature pointed datums line i was) ≡ true
  declares_feature_on pointed datums i None = rw h (joined test _ _ (declares_direction_on pointed i) (declares_bound_at_on datums i))
  declares_feature_on pointed datums i (Some j) = refl

  feature_gone_on : (i : Option ℕ) → are_on test (feature_gone line i) ≡ true
  feature_gone_on None = refl
  feature_gone_on (Some i) = rw h

  features_in_on : (pointed datums : Bool) (e : ℕ) (vs : List Variable) (fs : List (List ℕ)) (l : List ℕ) (p : Coordinates) (d : Axis) (i : Result ℕ FaultCode)
      → are_on test (features_in pointed datums line e vs fs l p d i) ≡ true
  features_in_on pointed datums e vs fs l p d (Ok i) = joined test _ _ (declares_feature_on pointed datums i (index_of fs l)) (features_at_on pointed e vs l p d i)
  features_in_on pointed datums e vs fs l p d (Err c) = rw h

  features_on : (pointed datums : Bool) (e : ℕ) (vs : List Variable) (fs : List (List ℕ)) (l : List ℕ) (p : Coordinates) (d : Axis)
      → are_on test (features pointed datums line e vs fs l p d) ≡ true
  features_on pointed datums e vs fs l p d =
      either test (has_place vs p) _ _ (features_in_on pointed datums e vs fs l p d (entered fs l)) (feature_gone_on (index_of fs l))

  -- ---- settings

  setting_where_on : (c : Carried) → are_on test (setting_where line c) ≡ true
  unfolding setting_where
  setting_where_on c = rw h

  pub configures_on : (slanted : Bool) (e : ℕ) (vs : List Variable) (which : Setting) (value : Source) → are_on test (configures slanted line e vs which value) ≡ true
  configures_on slanted e vs which value =
      either test (has_form vs wants.Length value) _ _
      (rw h (joined test _ _ (asks_all_on vs value) (rw h (joined test _ _ (keeps_setting_on slanted which value) (setting_where_on (carried_setting which))))))
      (rw h)

  -- ---- frames of the text

  declares_stored_on : (saving : Bool) (i : ℕ) → are_on test (declares_stored saving line i) ≡ true
  declares_stored_on true i = rw h
  declares_stored_on false i = refl

  keeps_stored_on : (saving : Bool) (i : ℕ) → are_on test (keeps_stored saving line i) ≡ true
  keeps_stored_on true i = rw h
  keeps_stored_on false i = refl

  declares_frame_on : (text : Text) (i : ℕ) (was : Option ℕ) → are_on test (declares_frame text line i was) ≡ true
  declares_frame_on text i None = rw h (joined test _ _ (declares_stored_on text.saving i) (declares_axes_on text.datums i))
  declares_frame_on text i (Some j) = refl

  made_where_on : (text : Text) (i : ℕ) → are_on test (made_where text line i) ≡ true
  unfolding made_where
  made_where_on text i =
      joined test _ _ (saves_frame_on i) (joined test _ _ (keeps_stored_on text.saving i) (joined test _ _ (keeps_axes_on text.datums i)
      (rw h (joined test _ _ (frame_gone_on (Some i)) (rw h)))))

  asks_shifts_on : (vs : List Variable) (o : Offset) → are_on test (asks_shifts line vs o) ≡ true
  asks_shifts_on vs o = asks_all_on vs o.length

  shifts_at_on : (text : Text) (e : ℕ) (vs : List Variable) (l : List ℕ) (os : List Offset) (was i : Option ℕ) → are_on test (shifts_at text line e vs l os was i) ≡ true
  shifts_at_on text e vs l os was None = rw h
  shifts_at_on text e vs l os was (Some i) =
      joined test _ _ (declares_frame_on text i was)
      (rw h (joined test _ _ (each test (asks_shifts line vs) (asks_shifts_on vs) os) (rw h (made_where_on text i))))

  shifts_in_on : (text : Text) (e : ℕ) (vs : List Variable) (ds : List (List ℕ)) (l : List ℕ) (os : List Offset) → are_on test (shifts_in text line e vs ds l os) ≡ true
  shifts_in_on text e vs ds l os = shifts_at_on text e vs l os (index_of ds l) (found_in (entered ds l))

  shifts_on : (text : Text) (e : ℕ) (vs : List Variable) (ds : List (List ℕ)) (l : List ℕ) (os : List Offset) → are_on test (shifts text line e vs ds l os) ≡ true
  shifts_on text e vs ds l os = either test (has_shifts vs os) _ _ (shifts_in_on text e vs ds l os) (frame_gone_on (index_of ds l))

  origins_at_on : (text : Text) (e : ℕ) (l : List ℕ) (os : List Offset) (was i : Option ℕ) → are_on test (origins_at text line e l os was i) ≡ true
  origins_at_on text e l os was None = rw h
  origins_at_on text e l os was (Some i) = joined test _ _ (declares_frame_on text i was) (rw h (made_where_on text i))

  origins_in_on : (text : Text) (e : ℕ) (ds : List (List ℕ)) (l : List ℕ) (os : List Offset) → are_on test (origins_in text line e ds l os) ≡ true
  origins_in_on text e ds l os = origins_at_on text e l os (index_of ds l) (found_in (entered ds l))

  frames_by_on : (text : Text) (e : ℕ) (vs : List Variable) (ds : List (List ℕ)) (l : List ℕ) (os : List Offset) (origins : Bool)
      → are_on test (frames_by text line e vs ds l os origins) ≡ true
  frames_by_on text e vs ds l os true = origins_in_on text e ds l os
  frames_by_on text e vs ds l os false = shifts_on text e vs ds l os

  turns_at_on : (text : Text) (e : ℕ) (l : List ℕ) (axis : FrameAxis) (n : Quarters) (was i : Option ℕ)
      → are_on test (turns_at text line e l axis n was i) ≡ true
  turns_at_on text e l axis n was None = rw h
  turns_at_on text e l axis n was (Some i) =
      joined test _ _ (declares_frame_on text i was) (rw h (joined test _ _ (turns_axes_on text.datums) (made_where_on text i)))

  pub turns_in_on : (text : Text) (e : ℕ) (ds : List (List ℕ)) (l : List ℕ) (axis : FrameAxis) (n : Quarters)
      → are_on test (turns_in text line e ds l axis n) ≡ true
  turns_in_on text e ds l axis n = turns_at_on text e l axis n (index_of ds l) (found_in (entered ds l))

  recalled_where_on : (datums : Bool) (i : ℕ) → are_on test (recalled_where datums line i) ≡ true
  unfolding recalled_where
  recalled_where_on datums i = rw h (joined test _ _ (recalls_axes_on datums i) (rw h))

  pub recalls_at_on : (datums : Bool) (e : ℕ) (l : List ℕ) (i : Option ℕ) → are_on test (recalls_at datums line e l i) ≡ true
  recalls_at_on datums e l None = rw h
  recalls_at_on datums e l (Some i) = rw h (recalled_where_on datums i)

  -- ---- values of features

  obtains_here_on : (e : ℕ) (vs : List Variable) (t : Target) (side : Side) (l : List ℕ) (word : FeatureWord) (i j : ℕ)
      → are_on test (obtains_here line e vs t side l word i j) ≡ true
  unfolding obtains_here
  obtains_here_on e vs t side l word i j = rw h (joined test _ _ (sets_near_on vs kinds.Real i) (rw h))

  obtains_at_on : (e : ℕ) (vs : List Variable) (t : Target) (side : Side) (l : List ℕ) (word : FeatureWord) (i : ℕ) (k : Option Kind) (j : Option ℕ)
      → are_on test (obtains_at line e vs t side l word i k j) ≡ true
  obtains_at_on e vs t side l word i (Some kinds.Real) (Some j) = obtains_here_on e vs t side l word i j
  obtains_at_on e vs t side l word i (Some _) _ = rw h
  obtains_at_on e vs t side l word i None j = refl

  pub obtains_by_on : (e : ℕ) (vs : List Variable) (fs : List (List ℕ)) (t : Target) (side : Side) (l : List ℕ) (word : FeatureWord) (i : Option ℕ)
      → are_on test (obtains_by line e vs fs t side l word i) ≡ true
  obtains_by_on e vs fs t side l word None = refl
  obtains_by_on e vs fs t side l word (Some i) = obtains_at_on e vs t side l word i (slice_get (kinds_of vs) i) (index_of fs l)

  drops_frame_on : (i : Option ℕ) → are_on test (drops_frame line i) ≡ true
  drops_frame_on None = rw h
  drops_frame_on (Some i) = rw h

  drops_feature_on : (datums : Bool) (i : Option ℕ) → are_on test (drops_feature datums line i) ≡ true
  drops_feature_on datums None = rw h
  drops_feature_on datums (Some i) = rw h (unbinds_on datums i)

  remakes_feature_on : (datums : Bool) (i : Option ℕ) → are_on test (remakes_feature datums line i) ≡ true
  remakes_feature_on datums None = rw h
  remakes_feature_on datums (Some i) = rw h (unbinds_on datums i)

  stores_frame_on : (i : Option ℕ) → are_on test (stores_frame line i) ≡ true
  stores_frame_on None = rw h
  stores_frame_on (Some i) = rw h

  pub queries_on : (datums : Bool) (e : ℕ) (vs : List Variable) (fs ds : List (List ℕ)) (t : Target) (side : Side) (l : List ℕ) (word : FeatureWord) (event : Option Event)
      → are_on test (queries datums line e vs fs ds t side l word event) ≡ true
  queries_on datums e vs fs ds t side l word (Some events.Bind) = binds_on (index_of fs l)
  queries_on datums e vs fs ds t side l word (Some events.Origin) = originates_on e l word (index_of fs l)
  queries_on datums e vs fs ds t side l word (Some events.DropFeature) = drops_feature_on datums (index_of fs l)
  queries_on datums e vs fs ds t side l word (Some events.Remake) = remakes_feature_on datums (index_of fs l)
  queries_on datums e vs fs ds t side l word (Some events.DropFrame) = drops_frame_on (index_of ds l)
  queries_on datums e vs fs ds t side l word (Some events.StoreFrame) = stores_frame_on (index_of ds l)
  queries_on datums e vs fs ds t side l word _ = obtains_by_on e vs fs t side l word (variable_of vs t.expansion t.name)

  pub reports_at_on : (e : ℕ) (side : Side) (l : List ℕ) (i : Option ℕ) → are_on test (reports_at line e side l i) ≡ true
  reports_at_on e side l None = refl
  reports_at_on e side l (Some i) = rw h

  -- ---- blocks

  pub closes_on : (e : Effects) (is : List ℕ) → are_on test (closes line e is) ≡ true
  unfolding closes
  closes_on e is = rw h (joined test _ _ (lose_block_on e is) (rw h))

  unknown_asks_on : are_on test (unknown_asks line) ≡ true
  unfolding unknown_asks
  unknown_asks_on = rw h

  pub tests_on : (e : ℕ) (vs : List Variable) (c : Source) → are_on test (tests line e vs c) ≡ true
  tests_on e vs c =
      either test (has_form vs wants.Bool c) _ _ (rw h (joined test _ _ (asks_all_on vs c) (rw h))) (joined test _ _ unknown_asks_on (rw h))

  pub chooses_on : (several : Bool) (e i : ℕ) (vs : List Variable) (c : Source) → are_on test (chooses several line e i vs c) ≡ true
  chooses_on several e i vs c =
      either test (has_form vs wants.Int c) _ _ (rw h (joined test _ _ (asks_all_on vs c) (rw h (chooses_known_on several e i c))))
      (joined test _ _ unknown_asks_on (chooses_nothing_on several e))

  asks_increment_on : (vs : List Variable) (e : Option Source) → are_on test (asks_increment line vs e) ≡ true
  asks_increment_on vs None = refl
  asks_increment_on vs (Some e) = asks_all_on vs e

  asks_rounds_on : (vs : List Variable) (r : Rounds) → are_on test (asks_rounds line vs r) ≡ true
  unfolding asks_rounds
  asks_rounds_on vs r = rw h (joined test _ _ (asks_all_on vs r.initial) (joined test _ _ (asks_all_on vs r.limit) (asks_increment_on vs r.increment)))

  pub repeats_on : (e : ℕ) (vs : List Variable) (r : Rounds) (i : Option ℕ) → are_on test (repeats line e vs r i) ≡ true
  repeats_on e vs r (Some i) = joined test _ _ (asks_rounds_on vs r) (rw h)
  repeats_on e vs r None = joined test _ _ unknown_asks_on (rw h)

  pub loop_ends_on : (e : ℕ) (i : Option ℕ) → are_on test (loop_ends line e i) ≡ true
  loop_ends_on e (Some i) = rw h
  loop_ends_on e None = rw h

  pub ending_on : (jumps : Bool) (e : ℕ) → are_on test (ending jumps line e) ≡ true
  ending_on true e = rw h
  ending_on false e = rw h

  -- ---- places and points by their names

  spots_by_on : (aiming measuring : Bool) (vs : List Variable) (p : Coordinates) (s : Spot) → are_on test (spots_by aiming measuring line vs p s) ≡ true
  spots_by_on aiming measuring vs p spots.Home = joined test _ _ (keeps_on vs kept.Home p) (rw h)
  spots_by_on aiming measuring vs p spots.Target = keeps_on vs kept.Target p
  spots_by_on aiming measuring vs p spots.Step = steps_by_on aiming measuring vs Add p
  spots_by_on aiming measuring vs p spots.Back = steps_by_on aiming measuring vs Sub p

  pub features_or_on : (text : Text) (r : Reached) (e : ℕ) (l : List ℕ) (p : Coordinates) (d : Axis) (s : Option Spot)
      → are_on test (features_or text r line e l p d s) ≡ true
  features_or_on text r e l p d None = features_on text.pointed text.datums e r.variables r.features l p d
  features_or_on text r e l p d (Some s) = spots_by_on (is_aimed text r) r.within r.variables p s

  approaches_feature_on : (steps : Bool) (vs : List Variable) (p : Coordinates) (i : Option ℕ) → are_on test (approaches_feature steps line vs p i) ≡ true
  approaches_feature_on steps vs p None = untried_point_on
  approaches_feature_on steps vs p (Some i) = approaches_on steps vs (both approach_asks (is_nominal i)) p (direction_in i)

  halts_along_on : (steps : Bool) (vs : List Variable) (p : Coordinates) (d : Option Axis) (i : Option ℕ) → are_on test (halts_along steps line vs p d i) ≡ true
  halts_along_on steps vs p (Some d) i = halts_on steps vs halt_asks p (direction_of d)
  halts_along_on steps vs p None None = untried_point_on
  halts_along_on steps vs p None (Some i) = halts_on steps vs (both halt_asks (is_nominal i)) p (direction_in i)

  touches_where_on : (steps : Bool) (e : ℕ) (vs : List Variable) (fs : List (List ℕ)) (p : Coordinates) (d : Option Axis) (l : List ℕ)
      → are_on test (touches_where steps line e vs fs p d l) ≡ true
  unfolding touches_where
  touches_where_on steps e vs fs p d l =
      rw h (joined test _ _ (touches_on steps e vs fs p d (Some l)) (rw h (joined test _ _ (halts_along_on steps vs p d (index_of fs l)) (rw h))))

  pub touches_or_on : (halting steps : Bool) (e : ℕ) (vs : List Variable) (fs : List (List ℕ)) (p : Coordinates) (d : Option Axis) (l : Option (List ℕ))
      → are_on test (touches_or halting steps line e vs fs p d l) ≡ true
  touches_or_on true steps e vs fs p d (Some l) = touches_where_on steps e vs fs p d l
  touches_or_on true steps e vs fs p d None = touches_on steps e vs fs p d None
  touches_or_on false steps e vs fs p d l = touches_on steps e vs fs p d l

  slants_or_on : (text : Text) (vs : List Variable) (i : Option ℕ) (os : List Offset) → are_on test (slants_or text line vs i os) ≡ true
  slants_or_on text vs i (x ∷ y ∷ z ∷ []) = approaches_feature_on text.steps vs (record { x = x.length; y = y.length; z = z.length }) i
  slants_or_on text vs i os = slants_on text.slants text.steps vs os

  pub shifts_or_on : (text : Text) (r : Reached) (e : ℕ) (l : List ℕ) (os : List Offset) (slanted : Bool) → are_on test (shifts_or text r line e l os slanted) ≡ true
  shifts_or_on text r e l os true = slants_or_on text r.variables (measured_index r.features r.measuring) os
  shifts_or_on text r e l os false = frames_by_on text e r.variables r.frames l os (are_origins os)

  -- ---- what is made below in writing

  late_frame_on : (late : Bool) → are_on test (late_frame line late) ≡ true
  late_frame_on true = rw h
  late_frame_on false = refl

  late_feature_on : (late : Bool) → are_on test (late_feature line late) ≡ true
  late_feature_on true = rw h
  late_feature_on false = refl

  late_variable_on : (late : Bool) → are_on test (late_variable line late) ≡ true
  late_variable_on true = rw h
  late_variable_on false = refl

  late_report_on : (late : Bool) → are_on test (late_report line late) ≡ true
  late_report_on true = rw h
  late_report_on false = refl

  late_place_on : (made : Made) (r : Reached) (l : List ℕ) (p : Coordinates) (s : Option Spot) → are_on test (late_place made r line l p s) ≡ true
  late_place_on made r l p None = late_feature_on _
  late_place_on made r l p (Some s) = refl

  late_touch_on : (made : Made) (r : Reached) (l : Option (List ℕ)) → are_on test (late_touch made r line l) ≡ true
  late_touch_on made r None = refl
  late_touch_on made r (Some l) = late_feature_on (is_late r.features made.features l)

  late_end_on : (made : Made) (r : Reached) (l : Option (List ℕ)) → are_on test (late_end made r line l) ≡ true
  late_end_on made r None = late_feature_on true
  late_end_on made r (Some l) = late_feature_on (is_late r.features made.features l)

  late_value_on : (made : Made) (r : Reached) (t : Target) (event : Option Event) → are_on test (late_value made r line t event) ≡ true
  late_value_on made r t None = late_variable_on (is_late_variable r.variables made.variables t)
  late_value_on made r t (Some e) = refl

  pub lates_on : (made : Made) (r : Reached) (f : Form) → are_on test (lates made r line f) ≡ true
  lates_on made r (form.Shift l os) = late_frame_on _
  lates_on made r (form.Feature l p d) = late_place_on made r l p (spot_named l)
  lates_on made r (form.Touch p d) = late_touch_on made r r.measuring
  lates_on made r form.MeasureEnd = late_end_on made r r.measuring
  lates_on made r (form.Assignment t value) = late_value_on made r t (event_named t.name)
  lates_on made r (form.Query t side l word) = late_value_on made r t (event_named t.name)
  lates_on made r (form.Report side l) = late_report_on (is_late r.features made.features l)
  lates_on made r _ = refl
