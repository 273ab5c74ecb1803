-- Steps of a code beside two workpieces, and beside three that differ in the width of the tip.
use Rattle.std.proofs.Common.{◌≡◌, ℕ, ◌+◌, ◌<◌, ◌≤◌, ℤ, Option, Some, None, List, slice_get, refl, sym, ap, ◌∙◌, subst}
use Rattle.std.specs.Prelude.{length}
use Rattle.vcm_num.specs.declared.point.Point.{Point}
use Rattle.vcm_num.specs.Point.{coordinate}
use Rattle.vcm_spec.specs.declared.expression.Item.{Item}
use Rattle.vcm_spec.specs.declared.stop.StopPlace.{StopPlace}
use Rattle.vcm_spec.specs.Value.{items_value}
use Rattle.vcm_spec.specs.Simple.{Simple, evaluated}
use Rattle.vcm_spec.specs.declared.simple.Simple.TheVariants.{PtMeas}
use Rattle.vcm_spec.specs.Setup.{Setup, Tables, setup_of}
use Rattle.vcm_spec.specs.World.{World}
use Rattle.vcm_spec.specs.Workpiece.{Workpiece, IsValid}
use Rattle.vcm_spec.specs.Outcome.{Outcome, Gives, Stops, ◌>>=◌}
use Rattle.vcm_spec.specs.Effect.{effect, carried_out, value_in}
use Rattle.vcm_spec.specs.Stepping.{unless_stopped}
use Rattle.vcm_spec.proofs.Stops.{Keeps, carried_out_keeps}
use Rattle.vcm_code.specs.declared.pair.Pair.{Pair}
use Rattle.vcm_code.specs.Code.{Op, CodeStatement}
use Rattle.vcm_code.specs.declared.op.Op.TheVariants.{Plain, If, Else, EndIf, Do, EndDo, Label, JumpTo, Meas, EndMes, Select, Case, EndCas, DftCas, EndSel, EndFil}
use Rattle.vcm_code.specs.CodeTable.{CodeState, code_state, or_halt, do_op, fetched, code_step}
use Rattle.vcm_part.specs.Tip.{with_tip}
use Rattle.vcm_margin.specs.Alike.{measured_by, measured, IsAlike}
use Rattle.vcm_margin.specs.Laws.{NoneOrEnd, moved_to}
use Rattle.vcm_margin.proofs.Cubes.{LiesIn}
use Rattle.vcm_margin.proofs.Sound.{IsSound, Fine, effect_fine}
use Rattle.vcm_margin.proofs.Beside.{standing, measured_in, IsSame, effect_same}
use Rattle.vcm_margin.proofs.Between.{IsBetween, effect_between}
use Rattle.vcm_margin.proofs.Controlled.{with_rest, IsPlain, controlled}

-- the second state is the first but for the place of the probe
pub record StandsBeside (a b : CodeState) : Type 0 where
  pub is : b ≡ moved_to b.world.position a

pub beside_at : (a b : CodeState) (p : Point) → b ≡ moved_to p a → StandsBeside a b
beside_at a b p e = record { is = e ∙ ap (λ (q : Point). moved_to q a) (sym (ap (λ (m : CodeState). m.world.position) e)) }

-- the index that a statement measures is the same however it is kept
pub measured_plain : (what : Simple (List Item)) → measured_by (Plain what) ≡ measured_in what
measured_plain (PtMeas i x y z d) = refl
measured_plain _ = refl

-- an effect keeps the stop
effect_keeps : (su : Setup) (w : World) (what : Simple (List Item)) → Keeps w (effect items_value su w what)
unfolding effect
effect_keeps su w what = by (evaluated (value_in items_value w) what)
  where
    by : (o : Outcome (Simple ℤ)) → Keeps w (o >>= carried_out su w)
    by (Gives s) = carried_out_keeps su w s
    by (Stops why) = record { keeps = tt }

no_place : (p : StopPlace) (o : Option StopPlace) → o ≡ None → o ≡ Some p → ⊥
no_place p o e f = (let both : None ≡ Some p = sym e ∙ f in cc)

module _ (part other : Workpiece) (tables : Tables) (w : World) (p : Point) (n line : ℕ) (ps : List Pair) where
  abbrev go_on : World → CodeState
  go_on u = code_state u (n + 1) ps

  -- a statement of control
  pub control_at : (op : Op) → (IsPlain op → ⊥) → do_op (setup_of other tables) op line (standing p w) n ps ≡ moved_to p (do_op (setup_of part tables) op line w n ps)
  control_at op h =
      controlled (standing p w) w n line ps (setup_of part tables) (setup_of other tables) op h
      ∙ ap (moved_to p) (sym (controlled w w n line ps (setup_of part tables) (setup_of part tables) op h))

  control_beside : (op : Op) → (IsPlain op → ⊥) → StandsBeside (do_op (setup_of part tables) op line w n ps) (do_op (setup_of other tables) op line (standing p w) n ps)
  control_beside op h = beside_at _ _ p (control_at op h)

  -- where two effects leave the worlds alike, so does the step
  plain_beside : (which : Option ℕ) (o q : Outcome World) → IsSame which o q → Keeps w o → Keeps (standing p w) q → w.stop ≡ None
      → IsAlike which (or_halt o w n line ps go_on) (or_halt q (standing p w) n line ps go_on)
      → StandsBeside (or_halt o w n line ps go_on) (or_halt q (standing p w) n line ps go_on)
  plain_beside which (Gives u) (Gives v) s k l e a = record { is = ap go_on (s.same a.feature) }
  plain_beside which (Gives u) (Stops y) s k l e a = absurd (no_place _ u.stop (k.keeps ∙ e) a.stop)
  plain_beside which (Stops x) (Gives v) s k l e a = absurd (no_place _ v.stop (l.keeps ∙ e) (sym a.stop))
  plain_beside which (Stops x) (Stops y) s k l e a = record { is = ap (λ (o : Option StopPlace). code_state (record (standing p w) { stop = o }) n ps) (sym a.stop) }

  op_beside : (op : Op) → w.stop ≡ None
      → IsAlike (measured_by op) (do_op (setup_of part tables) op line w n ps) (do_op (setup_of other tables) op line (standing p w) n ps)
      → StandsBeside (do_op (setup_of part tables) op line w n ps) (do_op (setup_of other tables) op line (standing p w) n ps)
  op_beside (Plain what) e a =
      plain_beside (measured_in what) (effect items_value (setup_of part tables) w what) (effect items_value (setup_of other tables) (standing p w) what)
      (effect_same items_value part other tables p w what) (effect_keeps (setup_of part tables) w what) (effect_keeps (setup_of other tables) (standing p w) what) e
      (subst (λ which. IsAlike which (do_op (setup_of part tables) (Plain what) line w n ps) (do_op (setup_of other tables) (Plain what) line (standing p w) n ps)) (measured_plain what) a)
  op_beside (If test target) e a = control_beside (If test target) (λ x. x)
  op_beside (Else target) e a = control_beside (Else target) (λ x. x)
  op_beside EndIf e a = control_beside EndIf (λ x. x)
  op_beside (Do v q initial limit increment target) e a = control_beside (Do v q initial limit increment target) (λ x. x)
  op_beside (EndDo v q target) e a = control_beside (EndDo v q target) (λ x. x)
  op_beside Label e a = control_beside Label (λ x. x)
  op_beside (JumpTo target) e a = control_beside (JumpTo target) (λ x. x)
  op_beside (Meas feature) e a = control_beside (Meas feature) (λ x. x)
  op_beside EndMes e a = control_beside EndMes (λ x. x)
  op_beside (Select value branches target) e a = control_beside (Select value branches target) (λ x. x)
  op_beside Case e a = control_beside Case (λ x. x)
  op_beside (EndCas target) e a = control_beside (EndCas target) (λ x. x)
  op_beside DftCas e a = control_beside DftCas (λ x. x)
  op_beside EndSel e a = control_beside EndSel (λ x. x)
  op_beside EndFil e a = control_beside EndFil (λ x. x)

module _ (part other : Workpiece) (tables : Tables) (code : List CodeStatement) (m : CodeState) (p : Point) where
  -- a step leaves two states the same but for the place, where it goes alike
  pub step_beside : IsAlike (measured (slice_get code m.next)) (code_step (setup_of part tables) code m) (code_step (setup_of other tables) code (moved_to p m))
      → StandsBeside (code_step (setup_of part tables) code m) (code_step (setup_of other tables) code (moved_to p m))
  step_beside a = by m.world.stop refl a
    where
      next : (s : Option CodeStatement) → m.world.stop ≡ None
          → IsAlike (measured s) (fetched (setup_of part tables) s m.world m.next m.pairs) (fetched (setup_of other tables) s (standing p m.world) m.next m.pairs)
          → StandsBeside (fetched (setup_of part tables) s m.world m.next m.pairs) (fetched (setup_of other tables) s (standing p m.world) m.next m.pairs)
      next None e b = record { is = refl }
      next (Some s) e b = op_beside part other tables m.world p m.next s.line m.pairs s.op e b

      by : (o : Option StopPlace) → m.world.stop ≡ o
          → IsAlike (measured (slice_get code m.next)) (unless_stopped o m (fetched (setup_of part tables) (slice_get code m.next) m.world m.next m.pairs))
          (unless_stopped o (moved_to p m) (fetched (setup_of other tables) (slice_get code m.next) (standing p m.world) m.next m.pairs))
          → StandsBeside (unless_stopped o m (fetched (setup_of part tables) (slice_get code m.next) m.world m.next m.pairs))
          (unless_stopped o (moved_to p m) (fetched (setup_of other tables) (slice_get code m.next) (standing p m.world) m.next m.pairs))
      by (Some s) e b = record { is = refl }
      by None e b = next (slice_get code m.next) e b

-- ---- states stay sound

sound_rest : (n : ℕ) (r w : World) → IsSound n r → IsSound n (with_rest r w)
sound_rest n r w t = record { turns = record { current = t.turns.current; saved = t.turns.saved }; features = t.features }

module _ (count : ℕ) (su : Setup) (w : World) (n line : ℕ) (ps : List Pair) (t : IsSound count w) where
  pub record IsSoundState (m : CodeState) : Type 0 where
    pub sound : IsSound count m.world

  plain_sound : (o : Outcome World) → Fine count o → IsSoundState (or_halt o w n line ps (λ u. code_state u (n + 1) ps))
  plain_sound (Gives u) f = record { sound = f.fine }
  plain_sound (Stops why) f = record { sound = record { turns = record { current = t.turns.current; saved = t.turns.saved }; features = t.features } }

  control_sound : (op : Op) → (IsPlain op → ⊥) → IsSoundState (do_op su op line w n ps)
  control_sound op h =
      subst IsSoundState (sym (controlled w w n line ps su su op h)) (record { sound = sound_rest count w (do_op su op line w n ps).world t })

  op_sound : (op : Op) → IsSoundState (do_op su op line w n ps)
  op_sound (Plain what) = plain_sound (effect items_value su w what) (effect_fine items_value count su w what t)
  op_sound (If test target) = control_sound (If test target) (λ x. x)
  op_sound (Else target) = control_sound (Else target) (λ x. x)
  op_sound EndIf = control_sound EndIf (λ x. x)
  op_sound (Do v q initial limit increment target) = control_sound (Do v q initial limit increment target) (λ x. x)
  op_sound (EndDo v q target) = control_sound (EndDo v q target) (λ x. x)
  op_sound Label = control_sound Label (λ x. x)
  op_sound (JumpTo target) = control_sound (JumpTo target) (λ x. x)
  op_sound (Meas feature) = control_sound (Meas feature) (λ x. x)
  op_sound EndMes = control_sound EndMes (λ x. x)
  op_sound (Select value branches target) = control_sound (Select value branches target) (λ x. x)
  op_sound Case = control_sound Case (λ x. x)
  op_sound (EndCas target) = control_sound (EndCas target) (λ x. x)
  op_sound DftCas = control_sound DftCas (λ x. x)
  op_sound EndSel = control_sound EndSel (λ x. x)
  op_sound EndFil = control_sound EndFil (λ x. x)

pub step_sound : (count : ℕ) (su : Setup) (code : List CodeStatement) (m : CodeState) → IsSound count m.world → IsSound count (code_step su code m).world
step_sound count su code m t = by m.world.stop
  where
    next : (s : Option CodeStatement) → IsSound count (fetched su s m.world m.next m.pairs).world
    next None = t
    next (Some s) = (op_sound count su m.world m.next s.line m.pairs t s.op).sound

    by : (o : Option StopPlace) → IsSound count (unless_stopped o m (fetched su (slice_get code m.next) m.world m.next m.pairs)).world
    by (Some p) = t
    by None = next (slice_get code m.next)

-- ---- what may differ

-- with equal stops the next statement is the same; and where the first has no stop but the program's end, and the second has none, the first has none
pub record IsNear (a b : CodeState) : Type 0 where
  pub next : a.world.stop ≡ b.world.stop → a.next ≡ b.next
  pub stop : NoneOrEnd a.world.stop → b.world.stop ≡ None → a.world.stop ≡ None

module _ (part other : Workpiece) (tables : Tables) (w : World) (p : Point) (n line : ℕ) (ps : List Pair) where
  abbrev gone : World → CodeState
  gone u = code_state u (n + 1) ps

  abbrev pub here : Op → CodeState
  here op = do_op (setup_of part tables) op line w n ps

  abbrev pub there : Op → CodeState
  there op = do_op (setup_of other tables) op line (standing p w) n ps

  plain_near : (count : ℕ) (o q : Outcome World) → Fine count o → Keeps w o → Keeps (standing p w) q → w.stop ≡ None
      → IsNear (or_halt o w n line ps gone) (or_halt q (standing p w) n line ps gone)
  plain_near count (Gives u) (Gives v) f k l e = record { next = λ s. refl; stop = λ z s. k.keeps ∙ e }
  plain_near count (Gives u) (Stops y) f k l e = record { next = λ s. absurd (no_place _ u.stop (k.keeps ∙ e) s); stop = λ z s. k.keeps ∙ e }
  plain_near count (Stops x) (Gives v) f k l e = record { next = λ s. absurd (no_place _ v.stop (l.keeps ∙ e) (sym s)); stop = λ z s. absurd (f.fine z) }
  plain_near count (Stops x) (Stops y) f k l e = record { next = λ s. refl; stop = λ z s. absurd (f.fine z) }

  control_near : (op : Op) → (IsPlain op → ⊥) → IsNear (here op) (there op)
  control_near op h =
      let e : there op ≡ moved_to p (here op) = control_at part other tables w p n line ps op h in
      record {
        next = λ s. sym (ap (λ (m : CodeState). m.next) e);
        stop = λ z s. sym (ap (λ (m : CodeState). m.world.stop) e) ∙ s;
      }

  op_near : (op : Op) → IsSound (length tables.features) w → w.stop ≡ None → IsNear (here op) (there op)
  op_near (Plain what) t e =
      plain_near (length tables.features) (effect items_value (setup_of part tables) w what) (effect items_value (setup_of other tables) (standing p w) what)
      (effect_fine items_value (length tables.features) (setup_of part tables) w what t) (effect_keeps (setup_of part tables) w what) (effect_keeps (setup_of other tables) (standing p w) what) e
  op_near (If test target) t e = control_near (If test target) (λ x. x)
  op_near (Else target) t e = control_near (Else target) (λ x. x)
  op_near EndIf t e = control_near EndIf (λ x. x)
  op_near (Do v q initial limit increment target) t e = control_near (Do v q initial limit increment target) (λ x. x)
  op_near (EndDo v q target) t e = control_near (EndDo v q target) (λ x. x)
  op_near Label t e = control_near Label (λ x. x)
  op_near (JumpTo target) t e = control_near (JumpTo target) (λ x. x)
  op_near (Meas feature) t e = control_near (Meas feature) (λ x. x)
  op_near EndMes t e = control_near EndMes (λ x. x)
  op_near (Select value branches target) t e = control_near (Select value branches target) (λ x. x)
  op_near Case t e = control_near Case (λ x. x)
  op_near (EndCas target) t e = control_near (EndCas target) (λ x. x)
  op_near DftCas t e = control_near DftCas (λ x. x)
  op_near EndSel t e = control_near EndSel (λ x. x)
  op_near EndFil t e = control_near EndFil (λ x. x)

module _ (part other : Workpiece) (tables : Tables) (code : List CodeStatement) (m : CodeState) (p : Point) where
  -- so it is behind a step of two states that were the same but for the place
  pub step_near : IsSound (length tables.features) m.world → IsNear (code_step (setup_of part tables) code m) (code_step (setup_of other tables) code (moved_to p m))
  step_near t = by m.world.stop refl
    where
      same : (a : CodeState) → IsNear a (moved_to p a)
      same a = record { next = λ s. refl; stop = λ z s. s }

      next : (s : Option CodeStatement) → m.world.stop ≡ None
          → IsNear (fetched (setup_of part tables) s m.world m.next m.pairs) (fetched (setup_of other tables) s (standing p m.world) m.next m.pairs)
      next None e = same m
      next (Some s) e = op_near part other tables m.world p m.next s.line m.pairs s.op t e

      by : (o : Option StopPlace) → m.world.stop ≡ o
          → IsNear (unless_stopped o m (fetched (setup_of part tables) (slice_get code m.next) m.world m.next m.pairs))
          (unless_stopped o (moved_to p m) (fetched (setup_of other tables) (slice_get code m.next) (standing p m.world) m.next m.pairs))
      by (Some s) e = same m
      by None e = next (slice_get code m.next) e

-- ---- three states

-- the second state is the first but for the place of the probe, and there its tip lies in that of the third
pub record Follows (h i : ℕ) (a b c : CodeState) : Type 0 where
  pub first : b ≡ moved_to b.world.position a
  pub lies : LiesIn h (coordinate b.world.position) i (coordinate c.world.position)

follows_at : (h i : ℕ) (a b c : CodeState) (p q : Point) → b ≡ moved_to p a → c ≡ moved_to q a → LiesIn h (coordinate p) i (coordinate q) → Follows h i a b c
follows_at h i a b c p q e f l =
    subst (λ x. Follows h i a x c) (sym e) (subst (λ y. Follows h i a (moved_to p a) y) (sym f) (record { first = refl; lies = l }))

module _ (part : Workpiece) (tables : Tables) (h i : ℕ) (le : part.bounds.tip ≤ h) (more : h ≤ i) (valid : IsValid part) (vh : IsValid (with_tip h part)) (vi : IsValid (with_tip i part)) where
  abbrev narrow : Setup
  narrow = setup_of part tables

  abbrev middle : Setup
  middle = setup_of (with_tip h part) tables

  abbrev wide : Setup
  wide = setup_of (with_tip i part) tables

  abbrev count : ℕ
  count = length tables.features

  -- what a statement measures stands in the tables
  abbrev pub IsThere : Option ℕ → Type 0
  IsThere which = (j : ℕ) → which ≡ Some j → j < count

  module _ (w : World) (sound : IsSound count w) (back : 0 < w.settings.retract) (b c : Point) (l : LiesIn h (coordinate b) i (coordinate c)) (n line : ℕ) (ps : List Pair) where
    abbrev on : World → CodeState
    on u = code_state u (n + 1) ps

    plain_follows : (which : Option ℕ) (o p q : Outcome World) → IsBetween which h i o p q → Fine count o → Keeps w o → w.stop ≡ None
        → IsAlike which (or_halt o w n line ps on) (or_halt q (standing c w) n line ps on) → NoneOrEnd (or_halt o w n line ps on).world.stop
        → Follows h i (or_halt o w n line ps on) (or_halt p (standing b w) n line ps on) (or_halt q (standing c w) n line ps on)
    plain_follows which (Gives u) p (Gives v) t f k e a z =
        let r = t.between a.feature in
        subst (λ o. Follows h i (on u) (or_halt o (standing b w) n line ps on) (on v)) (sym r.is) (record { first = ap on r.same; lies = r.lies })
    plain_follows which (Gives u) p (Stops y) t f k e a z = absurd (no_place _ u.stop (k.keeps ∙ e) a.stop)
    plain_follows which (Stops x) p q t f k e a z = absurd (f.fine z)

    control_follows : (op : Op) → (IsPlain op → ⊥) → Follows h i (do_op narrow op line w n ps) (do_op middle op line (standing b w) n ps) (do_op wide op line (standing c w) n ps)
    control_follows op d =
        follows_at h i (do_op narrow op line w n ps) (do_op middle op line (standing b w) n ps) (do_op wide op line (standing c w) n ps) b c
        (control_at part (with_tip h part) tables w b n line ps op d) (control_at part (with_tip i part) tables w c n line ps op d) l

    op_follows : (op : Op) → w.stop ≡ None → IsThere (measured_by op) → IsAlike (measured_by op) (do_op narrow op line w n ps) (do_op wide op line (standing c w) n ps)
        → NoneOrEnd (do_op narrow op line w n ps).world.stop
        → Follows h i (do_op narrow op line w n ps) (do_op middle op line (standing b w) n ps) (do_op wide op line (standing c w) n ps)
    op_follows (Plain what) e t a z =
        plain_follows (measured_in what) (effect items_value narrow w what) (effect items_value middle (standing b w) what) (effect items_value wide (standing c w) what)
        (effect_between part tables part.bounds.tip h i le more valid vh vi count w sound back b c l items_value what (λ j f. t j (measured_plain what ∙ f)))
        (effect_fine items_value count narrow w what sound) (effect_keeps narrow w what) e
        (subst (λ which. IsAlike which (do_op narrow (Plain what) line w n ps) (do_op wide (Plain what) line (standing c w) n ps)) (measured_plain what) a) z
    op_follows (If test target) e t a z = control_follows (If test target) (λ x. x)
    op_follows (Else target) e t a z = control_follows (Else target) (λ x. x)
    op_follows EndIf e t a z = control_follows EndIf (λ x. x)
    op_follows (Do v q initial limit increment target) e t a z = control_follows (Do v q initial limit increment target) (λ x. x)
    op_follows (EndDo v q target) e t a z = control_follows (EndDo v q target) (λ x. x)
    op_follows Label e t a z = control_follows Label (λ x. x)
    op_follows (JumpTo target) e t a z = control_follows (JumpTo target) (λ x. x)
    op_follows (Meas feature) e t a z = control_follows (Meas feature) (λ x. x)
    op_follows EndMes e t a z = control_follows EndMes (λ x. x)
    op_follows (Select value branches target) e t a z = control_follows (Select value branches target) (λ x. x)
    op_follows Case e t a z = control_follows Case (λ x. x)
    op_follows (EndCas target) e t a z = control_follows (EndCas target) (λ x. x)
    op_follows DftCas e t a z = control_follows DftCas (λ x. x)
    op_follows EndSel e t a z = control_follows EndSel (λ x. x)
    op_follows EndFil e t a z = control_follows EndFil (λ x. x)

  -- a step keeps three states so, where it goes alike for the first and the third
  pub step_follows : (code : List CodeStatement) (m : CodeState) → IsSound count m.world → 0 < m.world.settings.retract → (b c : Point) → LiesIn h (coordinate b) i (coordinate c)
      → IsThere (measured (slice_get code m.next)) → IsAlike (measured (slice_get code m.next)) (code_step narrow code m) (code_step wide code (moved_to c m))
      → NoneOrEnd (code_step narrow code m).world.stop → Follows h i (code_step narrow code m) (code_step middle code (moved_to b m)) (code_step wide code (moved_to c m))
  step_follows code m sound back b c l t a z = by m.world.stop refl a z
    where
      next : (s : Option CodeStatement) → m.world.stop ≡ None → IsThere (measured s)
          → IsAlike (measured s) (fetched narrow s m.world m.next m.pairs) (fetched wide s (standing c m.world) m.next m.pairs)
          → NoneOrEnd (fetched narrow s m.world m.next m.pairs).world.stop
          → Follows h i (fetched narrow s m.world m.next m.pairs) (fetched middle s (standing b m.world) m.next m.pairs) (fetched wide s (standing c m.world) m.next m.pairs)
      next None e t a z = record { first = refl; lies = l }
      next (Some s) e t a z = op_follows m.world sound back b c l m.next s.line m.pairs s.op e t a z

      by : (o : Option StopPlace) → m.world.stop ≡ o
          → IsAlike (measured (slice_get code m.next)) (unless_stopped o m (fetched narrow (slice_get code m.next) m.world m.next m.pairs))
          (unless_stopped o (moved_to c m) (fetched wide (slice_get code m.next) (standing c m.world) m.next m.pairs))
          → NoneOrEnd (unless_stopped o m (fetched narrow (slice_get code m.next) m.world m.next m.pairs)).world.stop
          → Follows h i (unless_stopped o m (fetched narrow (slice_get code m.next) m.world m.next m.pairs))
          (unless_stopped o (moved_to b m) (fetched middle (slice_get code m.next) (standing b m.world) m.next m.pairs))
          (unless_stopped o (moved_to c m) (fetched wide (slice_get code m.next) (standing c m.world) m.next m.pairs))
      by (Some s) e a z = record { first = refl; lies = l }
      by None e a z = next (slice_get code m.next) e t a z
