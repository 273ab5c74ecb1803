-- Statements of control, and all statements of a code, beside two workpieces.
use Rattle.std.proofs.Common.{◌≡◌, ℕ, ◌+◌, ℤ, Bool, true, false, Option, Some, None, List, slice_get, refl, ap, ◌∙◌}
use Rattle.std.specs.Prelude.{slice_set, ◌+ℤ◌}
use Rattle.vcm_num.specs.Number.{checked}
use Rattle.vcm_spec.specs.declared.stop.Stop.TheVariants.{ZeroStep}
use Rattle.vcm_spec.specs.declared.expression.Item.{Item}
use Rattle.vcm_spec.specs.Value.{items_value}
use Rattle.vcm_spec.specs.Setup.{Setup}
use Rattle.vcm_spec.specs.World.{World, with_variable, stopped}
use Rattle.vcm_spec.specs.Outcome.{Outcome, Gives, Stops, ◌>>=◌, calculated}
use Rattle.vcm_spec.specs.Effect.{value_in}
use Rattle.vcm_spec.specs.Control.{variable, test_in, with_next_index, is_zero, is_past}
use Rattle.vcm_spec.specs.Table.{if_true}
use Rattle.vcm_code.specs.declared.pair.Pair.{Pair}
use Rattle.vcm_code.specs.Code.{Op}
use Rattle.vcm_code.specs.declared.op.Op.TheVariants.{Plain, If, Else, EndIf, Do, EndDo, Label, JumpTo, Meas, EndMes, Select, Case, EndCas, DftCas, EndSel, EndFil}
use Rattle.vcm_code.specs.CodeTable.{pair, CodeState, code_state, or_halt, turn, target_for, do_op}

-- a state with the variables and the stop of another one
abbrev pub with_rest : World → World → World
with_rest r w = record r { variables = w.variables; stop = w.stop }

-- a state of a code with another world, but for the variables and the stop
abbrev pub over : World → CodeState → CodeState
over r m = record m { world = with_rest r m.world }

-- a statement that isn't one of control
abbrev pub IsPlain : Op → Type 0
IsPlain (Plain what) = Unit {0}
IsPlain _ = ⊥

variable_rest : (r w : World) (v : ℕ) (x : ℤ) → with_variable (with_rest r w) v x ≡ with_rest r (with_variable w v x)
unfolding with_variable
variable_rest r w v x = refl

past_rest : (r w : World) (v : ℕ) (b c : ℤ) → is_past (with_rest r w) v b c ≡ is_past w v b c
unfolding is_past
past_rest r w v b c = refl

past_variable_rest : (r w : World) (v : ℕ) (x b c : ℤ) → is_past (with_variable (with_rest r w) v x) v b c ≡ is_past (with_variable w v x) v b c
past_variable_rest r w v x b c = ap (λ (u : World). is_past u v b c) (variable_rest r w v x) ∙ past_rest r (with_variable w v x) v b c

value_rest : (r w : World) (e : List Item) → value_in items_value (with_rest r w) e ≡ value_in items_value w e
unfolding value_in
value_rest r w e = refl

test_rest : (r w : World) (e : List Item) → test_in items_value (with_rest r w) e ≡ test_in items_value w e
unfolding test_in value_in
test_rest r w e = refl

-- what comes out, with another world but for the variables and the stop
abbrev rest_out : World → Outcome World → Outcome World
rest_out r (Gives w) = Gives (with_rest r w)
rest_out r (Stops why) = Stops why

index_rest : (r w : World) (v : ℕ) (increment : ℤ) → with_next_index (with_rest r w) v increment ≡ rest_out r (with_next_index w v increment)
unfolding with_next_index
index_rest r w v increment = by (calculated (checked (variable w v +ℤ increment)))
  where
    by : (o : Outcome ℤ) → (o >>= (λ z. Gives (with_variable (with_rest r w) v z))) ≡ rest_out r (o >>= (λ z. Gives (with_variable w v z)))
    by (Gives z) = ap (λ (u : World). Gives u) (variable_rest r w v z)
    by (Stops why) = refl

module _ (r w : World) (n line : ℕ) (ps : List Pair) where
  abbrev here : World
  here = with_rest r w

  if_rest : (t : Bool) (a b c d : CodeState) → a ≡ over r c → b ≡ over r d → if_true t a b ≡ over r (if_true t c d)
  if_rest true a b c d e f = e
  if_rest false a b c d e f = f

  halt_rest : {A : Type 0} (o : Outcome A) (f g : A → CodeState) → ((x : A) → f x ≡ over r (g x)) → or_halt o here n line ps f ≡ over r (or_halt o w n line ps g)
  halt_rest (Gives x) f g h = h x
  halt_rest (Stops why) f g h = refl

  abbrev turned : World → ℕ → Pair → ℕ → CodeState
  turned u v p target = if_true (is_past u v p.limit p.increment) (code_state u (n + 1) ps) (code_state u target ps)

  turned_rest : (u : World) (v : ℕ) (p : Pair) (target : ℕ) → turned (with_rest r u) v p target ≡ over r (turned u v p target)
  turned_rest u v p target =
      ap (λ (t : Bool). if_true t (code_state (with_rest r u) (n + 1) ps) (code_state (with_rest r u) target ps)) (past_rest r u v p.limit p.increment)
      ∙ if_rest (is_past u v p.limit p.increment) _ _ (code_state u (n + 1) ps) (code_state u target ps) refl refl

  next_rest : (o : Outcome World) (v : ℕ) (p : Pair) (target : ℕ)
      → or_halt (rest_out r o) here n line ps (λ u. turned u v p target) ≡ over r (or_halt o w n line ps (λ u. turned u v p target))
  next_rest (Gives u) v p target = turned_rest u v p target
  next_rest (Stops why) v p target = refl

  turn_rest : (o : Option Pair) (v target : ℕ) → turn o here n line v target ps ≡ over r (turn o w n line v target ps)
  turn_rest None v target = refl
  turn_rest (Some p) v target =
      if_rest (is_zero p.increment) _ _ (code_state (stopped w ZeroStep n line) n ps) (or_halt (with_next_index w v p.increment) w n line ps (λ u. turned u v p target)) refl
      (ap (λ (o : Outcome World). or_halt o here n line ps (λ u. turned u v p target)) (index_rest r w v p.increment) ∙ next_rest (with_next_index w v p.increment) v p target)

  abbrev entered : World → ℕ → ℕ → ℕ → ℤ → ℤ → ℤ → CodeState
  entered u v p target x y z =
      if_true (is_zero z) (code_state (stopped u ZeroStep n line) n ps)
      (if_true (is_past (with_variable u v x) v y z) (code_state (with_variable u v x) target (slice_set ps p (pair y z)))
      (code_state (with_variable u v x) (n + 1) (slice_set ps p (pair y z))))

  entered_rest : (v p target : ℕ) (x y z : ℤ) → entered here v p target x y z ≡ over r (entered w v p target x y z)
  entered_rest v p target x y z =
      if_rest (is_zero z) _ _ (code_state (stopped w ZeroStep n line) n ps)
      (if_true (is_past (with_variable w v x) v y z) (code_state (with_variable w v x) target (slice_set ps p (pair y z)))
      (code_state (with_variable w v x) (n + 1) (slice_set ps p (pair y z)))) refl
      (ap (λ (t : Bool). if_true t (code_state (with_variable here v x) target (slice_set ps p (pair y z))) (code_state (with_variable here v x) (n + 1) (slice_set ps p (pair y z))))
      (past_variable_rest r w v x y z)
      ∙ if_rest (is_past (with_variable w v x) v y z) _ _ (code_state (with_variable w v x) target (slice_set ps p (pair y z))) (code_state (with_variable w v x) (n + 1) (slice_set ps p (pair y z)))
      (ap (λ (u : World). code_state u target (slice_set ps p (pair y z))) (variable_rest r w v x))
      (ap (λ (u : World). code_state u (n + 1) (slice_set ps p (pair y z))) (variable_rest r w v x)))

  do_rest : (v p target : ℕ) (a b c : Outcome ℤ)
      → or_halt a here n line ps (λ x. or_halt b here n line ps (λ y. or_halt c here n line ps (λ z. entered here v p target x y z)))
      ≡ over r (or_halt a w n line ps (λ x. or_halt b w n line ps (λ y. or_halt c w n line ps (λ z. entered w v p target x y z))))
  do_rest v p target a b c =
      halt_rest a _ (λ x. or_halt b w n line ps (λ y. or_halt c w n line ps (λ z. entered w v p target x y z))) (λ x.
      halt_rest b _ (λ y. or_halt c w n line ps (λ z. entered w v p target x y z)) (λ y.
      halt_rest c _ (λ z. entered w v p target x y z) (λ z. entered_rest v p target x y z)))

  -- a statement of control sees and changes the variables and the stop alone
  pub controlled : (one other : Setup) (op : Op) → (IsPlain op → ⊥) → do_op other op line here n ps ≡ over r (do_op one op line w n ps)
  controlled one other (Plain what) h = absurd (h tt)
  controlled one other (If test target) h =
      ap (λ (o : Outcome Bool). or_halt o here n line ps (λ t. if_true t (code_state here (n + 1) ps) (code_state here target ps))) (test_rest r w test)
      ∙ halt_rest (test_in items_value w test) _ (λ t. if_true t (code_state w (n + 1) ps) (code_state w target ps))
      (λ t. if_rest t _ _ (code_state w (n + 1) ps) (code_state w target ps) refl refl)
  controlled one other (Else target) h = refl
  controlled one other EndIf h = refl
  controlled one other (Do v p initial limit increment target) h =
      (λ t. or_halt (value_rest r w initial t) here n line ps (λ x. or_halt (value_rest r w limit t) here n line ps (λ y.
      or_halt (value_rest r w increment t) here n line ps (λ z. entered here v p target x y z))))
      ∙ do_rest v p target (value_in items_value w initial) (value_in items_value w limit) (value_in items_value w increment)
  controlled one other (EndDo v p target) h = turn_rest (slice_get ps p) v target
  controlled one other Label h = refl
  controlled one other (JumpTo target) h = refl
  controlled one other (Meas feature) h = refl
  controlled one other EndMes h = refl
  controlled one other (Select value branches target) h =
      ap (λ (o : Outcome ℤ). or_halt o here n line ps (λ z. code_state here (target_for z branches target) ps)) (value_rest r w value)
      ∙ halt_rest (value_in items_value w value) _ (λ z. code_state w (target_for z branches target) ps) (λ z. refl)
  controlled one other Case h = refl
  controlled one other (EndCas target) h = refl
  controlled one other DftCas h = refl
  controlled one other EndSel h = refl
  controlled one other EndFil h = refl
