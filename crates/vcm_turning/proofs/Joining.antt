-- Each step begins where the one before it left the centre of the tip.
use Rattle.std.proofs.Common.{◌≡◌, ℕ, zero, suc, Bool, true, false, List, [], ◌∷◌, ◌++◌, slice_get, Option, Some, None, refl, sym, subst}
use Rattle.vcm_num.specs.declared.point.Point.{Point}
use Rattle.vcm_spec.specs.declared.stop.StopPlace.{StopPlace}
use Rattle.vcm_spec.specs.Stepping.{unless_stopped}
use Rattle.vcm_spec.specs.Workpiece.{Workpiece}
use Rattle.vcm_code.specs.Code.{CodeStatement}
use Rattle.vcm_code.specs.declared.code.Code.{Code}
use Rattle.vcm_code.specs.CodeTable.{CodeState}
use Rattle.vcm_probe_set.specs.Probes.{Probe}
use Rattle.vcm_turning.specs.declared.ended.NoProbe.{NoProbe}
use Rattle.vcm_turning.specs.Turning.{Turned, is_lost, put_behind, put_on, stepped, left, taken, by_loss, turn_at, unless_ended, turned_after}
use Rattle.vcm_turning.specs.Steps.{TurnedStep, step_between, steps_at, steps_from, turned_steps}
use Rattle.vcm_turning.specs.Laws.{stands_behind, on_behind, Join, WaysJoin}

module _ (ps : List Probe) where
  -- where the centre of the tip stands behind all of these steps, and which probe is on
  abbrev last_at : Point → List TurnedStep → Point
  last_at at [] = at
  last_at at (s ∷ ss) = last_at (stands_behind ps s.on s.put s.stood) ss

  abbrev last_on : Option ℕ → List TurnedStep → Option ℕ
  last_on on [] = on
  last_on on (s ∷ ss) = last_on (on_behind s.on s.put) ss

  -- steps that begin at a place lead to another
  record Leads (at : Point) (on : Option ℕ) (ss : List TurnedStep) (to : Turned) : Type 0 where
    join : Join ps at on ss
    place : last_at at ss ≡ to.state.world.position
    probe : last_on on ss ≡ to.on

  leads_on : (at : Point) (on : Option ℕ) (ss rs : List TurnedStep) (between to : Turned) → Leads at on ss between
      → Leads between.state.world.position between.on rs to → Leads at on (ss ++ rs) to
  leads_on at on [] rs between to h k =
      subst (λ p. Leads p on rs to) (sym h.place) (subst (λ o. Leads between.state.world.position o rs to) (sym h.probe) k)
  leads_on at on (s ∷ ss) rs between to h k =
      let j = h.join in
      let r : Leads (stands_behind ps s.on s.put s.stood) (on_behind s.on s.put) (ss ++ rs) to =
      leads_on (stands_behind ps s.on s.put s.stood) (on_behind s.on s.put) ss rs between to (record { join = j.2; place = h.place; probe = h.probe }) k in
      record { join = (j.0, j.1, r.join); place = r.place; probe = r.probe }

  -- with a probe put on
  put_at_place : (m : CodeState) (on put : Option ℕ) → stands_behind ps on put m.world.position ≡ (put_on ps m on put).state.world.position
  put_at_place m on None = refl
  put_at_place m on (Some i) = refl

  put_is_on : (m : CodeState) (on put : Option ℕ) → on_behind on put ≡ (put_on ps m on put).on
  put_is_on m on None = refl
  put_is_on m on (Some i) = refl

module _ (part : Workpiece) (ps : List Probe) (v : ℕ) (c : Code) where
  module _ (count : ℕ) (t : Turned) where
    abbrev LeadsTo : List TurnedStep → Turned → Type 0
    LeadsTo = Leads ps t.state.world.position t.on

    nothing : LeadsTo [] t
    nothing = record { join = tt; place = refl; probe = refl }

    by_lost : (s : CodeStatement) (b : Bool)
        → LeadsTo (by_loss b [] (step_between ps v count t s (stepped part ps c t) (taken part ps v c t) ∷ [])) (by_loss b (left v t s) (taken part ps v c t))
    by_lost s true = record { join = tt; place = refl; probe = refl }
    by_lost s false =
        let m = stepped part ps c t in
        record {
          join = (refl, refl, tt);
          place = put_at_place ps m t.on (put_behind ps v m t.on);
          probe = put_is_on ps m t.on (put_behind ps v m t.on);
        }

    at : (o : Option CodeStatement) → LeadsTo (steps_at part ps v c count t o) (turn_at part ps v c t o)
    at None = nothing
    at (Some s) = by_lost s (is_lost part.bounds.home ps v t s.op)

    running : (o : Option StopPlace) → LeadsTo (unless_stopped o [] (steps_at part ps v c count t (slice_get c.statements t.state.next)))
        (unless_stopped o t (turn_at part ps v c t (slice_get c.statements t.state.next)))
    running (Some p) = nothing
    running None = at (slice_get c.statements t.state.next)

    step_leads : (o : Option NoProbe) → LeadsTo (unless_ended o [] (unless_stopped t.state.world.stop [] (steps_at part ps v c count t (slice_get c.statements t.state.next))))
        (unless_ended o t (unless_stopped t.state.world.stop t (turn_at part ps v c t (slice_get c.statements t.state.next))))
    step_leads (Some e) = nothing
    step_leads None = running t.state.world.stop

  all_lead : (n : ℕ) → Leads ps part.bounds.home None (turned_steps part ps v c n) (turned_after part ps v c n)
  all_lead zero = record { join = tt; place = refl; probe = refl }
  all_lead (suc k) =
      leads_on ps part.bounds.home None (turned_steps part ps v c k) (steps_from part ps v c (suc k) (turned_after part ps v c k)) (turned_after part ps v c k)
      (turned_after part ps v c (suc k)) (all_lead k) (step_leads (suc k) (turned_after part ps v c k) (turned_after part ps v c k).ended)

pub ways_are_joined : WaysJoin
ways_are_joined part ps v c n = (all_lead part ps v c n).join
