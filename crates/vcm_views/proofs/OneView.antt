-- Two views of one input are one.
use Rattle.std.proofs.Common.{◌≡◌, ◌≢◌, ℕ, Bool, true, false, List, [], ◌∷◌, ◌++◌, Option, Some, None, refl, sym, ap, ◌∙◌, subst, arith}
use Rattle.std.specs.Prelude.{nat_eq}
use Rattle.std.proofs.lemmas.Bool.{eqb-true}
use Rattle.vcm_spec.specs.declared.stop.Stop.{Stop}
use Rattle.vcm_spec.specs.declared.stop.Stop.TheVariants.{Ended}
use Rattle.vcm_spec.specs.declared.stop.StopPlace.{StopPlace}
use Rattle.vcm_spec.specs.Workpiece.{Workpiece, IsValid}
use Rattle.vcm_spec.specs.Setup.{Tables}
use Rattle.vcm_spec.specs.World.{World}
use Rattle.vcm_code.specs.declared.code.Code.{Code}
use Rattle.vcm_code.specs.Valid as codes
use Rattle.vcm_machine.specs.declared.ran.End.TheVariants.{NoMemory}
use Rattle.vcm_machine.specs.declared.ran.Ran.{Ran}
use Rattle.vcm_machine.specs.Running.{Running, started}
use Rattle.vcm_machine.proofs.LawLemmas.{one_run}
use Rattle.vcm_state.specs.Held.{Held}
use Rattle.vcm_run.specs.Printed.{result_text}
use Rattle.vcm_margin.specs.Alike.{reached}
use Rattle.vcm_margin.specs.Laws.{NoneOrEnd, ComesThrough}
use Rattle.vcm_margin.specs.declared.difference.Margin.{Margin}
use Rattle.vcm_margin.specs.Printed.{margin_text}
use Rattle.vcm_margin.specs.Backtrace.{margin_backtrace}
use Rattle.vcm_margin.proofs.OneMargin.{one_margin}
use Rattle.vcm_way.specs.Following.{way_after}
use Rattle.vcm_cause.specs.Behind.{Behind, behind_run}
use Rattle.vcm_cause.specs.Watched.{seen}
use Rattle.vcm_backtrace.specs.Sources.{Sourced, IsSourced}
use Rattle.vcm_backtrace.specs.Calls.{calls_field}
use Rattle.vcm_trace.specs.Points.{point_rows}
use Rattle.vcm_why.specs.Reasons.{why_lines}
use Rattle.vcm_why.specs.Telling.{IsReason}
use Rattle.vcm_contacts.specs.Noted.{found_after}
use Rattle.vcm_contacts.specs.Printed.{contacts_text}
use Rattle.vcm_values.specs.Values.{values_text}
use Rattle.vcm_trace.specs.Rows.{RunRows}
use Rattle.vcm_job.specs.Jobs.{status_of}
use Rattle.vcm_job.proofs.OneView.{one_view}
use Rattle.vcm_views.specs.Views.{ArePointsOf, AreRows, TellsMargin, HasRunTo, picture_of, IsMarginOrResult, IsPicture, IsResultWith, IsWhyOf, AreContactsOf, contacts_status}
use Rattle.vcm_views.specs.Views.{asked_for, trace_view, points_view, margin_view, clearance_view, first_view, picture_view, why_view, contacts_view, values_view}
use Rattle.vcm_sheet.specs.Sayings.{Says}
use Rattle.vcm_views.specs.declared.sheets.Titles.{Titles}
use Rattle.vcm_views.specs.declared.untried.Untried.{Untried}
use Rattle.vcm_views.specs.Readings.{run_readings}
use Rattle.vcm_views.specs.Views.{sheet_said}
use Rattle.vcm_views.specs.Laws.{SheetsSayOne, ViewsAreOne}
use Rattle.vcm_views.proofs.ClearanceViews.{same_clearance}
use Rattle.vcm_views.proofs.FirstViews.{same_first}
use Rattle.vcm_views.proofs.OneSource.{one_source}

abbrev held : Tables → World → Held
held tables state = record { tables = tables; state = state }

-- ---- one view of a code

-- two runs that memory lets go on come to one state after as many steps
one_run_to : (part : Workpiece) (c : Code) (n : ℕ) (h k : Held) (x y : Ran) → HasRunTo part c n h x → HasRunTo part c n k y
    → x.end ≢ NoMemory → y.end ≢ NoMemory → (h ≡ k) × (x ≡ y)
one_run_to part c n h k x y a b p q =
    let same = one_run n (started part c) a.new b.new x y a.run b.run p q in
    let tables : h.tables ≡ k.tables = a.tables ∙ ap (λ m. m.code.tables) same.0 ∙ sym b.tables in
    let state : h.state ≡ k.state = a.state ∙ ap (λ m. m.state.world) same.0 ∙ sym b.state in
    let one : held h.tables h.state ≡ held k.tables k.state = ap (λ x. held x h.state) tables ∙ ap (held k.tables) state in
    (one, same.1)

-- a run that ends with status 0 came to the program's end
ended : (o : Option StopPlace) → status_of o ≡ 0 → NoneOrEnd o
ended None e = tt
ended (Some p) e = by p.stop e
  where
    by : (s : Stop) → (elim s as (λ x. ℕ) [ Ended ↦ 0 | _ ↦ 3 ]) ≡ 0 → s ≡ Ended
    by Ended f = refl
    by _ f = absurd (omega (arith, f))

came_through : (part : Workpiece) (c : Code) (n : ℕ) (h : Held) (x : Ran) → HasRunTo part c n h x → status_of h.state.stop ≡ 0 → ComesThrough part c x.done
came_through part c n h x r e =
    let state : h.state ≡ (reached part c x.done).world = r.state ∙ ap (λ (m : Running). m.state.world) r.run.new_is in
    subst (λ (w : World). NoneOrEnd w.stop) state (ended h.state.stop e)

-- the text of a margin, or of a result in its place
one_text : (program : Option (List ℕ)) (part : Workpiece) → IsValid part → (c : Code) → codes.IsValid c → (done : ℕ) (h : Held) (is_end : Bool) → (is_end ≡ true → ComesThrough part c done)
    → (text other : List ℕ) → TellsMargin is_end program part c h done text → TellsMargin is_end program part c h done other → text ≡ other
one_text program part valid c ok done h true comes text other x y =
    x.text_is ∙ ap (λ (m : Margin). margin_text h.tables m (margin_backtrace x.source part c m)) (one_margin part valid c ok done (comes refl) x.margin y.margin x.is_margin y.is_margin)
    ∙ ap (λ s. margin_text h.tables y.margin (margin_backtrace s part c y.margin)) (one_source program x.source y.source x.is_source y.is_source) ∙ sym y.text_is
one_text program part valid c ok done h false comes text other x y = x ∙ sym y

module _ (program : Option (List ℕ)) (part : Workpiece) (valid : IsValid part) (c : Code) (ok : codes.IsValid c) (n : ℕ) (text other : List ℕ) (status more : ℕ) where
  one_margin_told : IsMarginOrResult program part c n text status → IsMarginOrResult program part c n other more → (text ≡ other) × (status ≡ more)
  one_margin_told h k =
      let same = one_run_to part c n h.held k.held h.ran k.ran h.run k.run h.ample k.ample in
      let given : status ≡ more = h.status_is ∙ ap (λ (x : Held). status_of x.state.stop) same.0 ∙ sym k.status_is in
      let told : TellsMargin (nat_eq status 0) program part c h.held h.ran.done other =
      subst (λ (x : Held). TellsMargin (nat_eq status 0) program part c x h.ran.done other) (sym same.0)
      (subst (λ (r : Ran). TellsMargin (nat_eq status 0) program part c k.held r.done other) (sym same.1)
      (subst (λ s. TellsMargin (nat_eq s 0) program part c k.held k.ran.done other) (sym given) k.told)) in
      let comes : nat_eq status 0 ≡ true → ComesThrough part c h.ran.done =
      λ e. came_through part c n h.held h.ran h.run (sym h.status_is ∙ eqb-true status 0 e) in
      (one_text program part valid c ok h.ran.done h.held (nat_eq status 0) comes text other h.told told, given)

module _ (part : Workpiece) (c : Code) (n : ℕ) (text other : List ℕ) (status more : ℕ) where
  same_rows : (t : RunRows) → AreRows t part c n text status → AreRows t part c n other more → (text ≡ other) × (status ≡ more)
  same_rows t h k = (h.text_is ∙ sym k.text_is, h.status_is ∙ sym k.status_is)

  same_points : (is_machine : Bool) (program : Option (List ℕ)) → ArePointsOf is_machine program part c n text status → ArePointsOf is_machine program part c n other more
      → (text ≡ other) × (status ≡ more)
  same_points is_machine program h k =
      let one = one_source program h.source k.source h.is_source k.is_source in
      same_rows (point_rows is_machine (calls_field k.source)) (subst (λ s. AreRows (point_rows is_machine (calls_field s)) part c n text status) one h.rows) k.rows

  same_picture : (is_close : Bool) (untried : Untried) → IsPicture part c n is_close untried text status → IsPicture part c n is_close untried other more → (text ≡ other) × (status ≡ more)
  same_picture is_close untried h k =
      let same = one_run_to part c n h.held k.held h.ran k.ran h.run k.run h.ample k.ample in
      let drawn : picture_of part h.held h.ran.done (way_after part c h.ran.done) is_close untried ≡ picture_of part k.held k.ran.done (way_after part c k.ran.done) is_close untried =
      ap (λ x. picture_of part x h.ran.done (way_after part c h.ran.done) is_close untried) same.0 ∙ ap (λ (r : Ran). picture_of part k.held r.done (way_after part c r.done) is_close untried) same.1 in
      (h.text_is ∙ drawn ∙ sym k.text_is, h.status_is ∙ ap (λ (x : Held). status_of x.state.stop) same.0 ∙ sym k.status_is)

  same_values : (places : List ℕ) → IsResultWith places part c n text status → IsResultWith places part c n other more → (text ≡ other) × (status ≡ more)
  same_values places h k =
      let same = one_run_to part c n h.held k.held h.ran k.ran h.run k.run h.ample k.ample in
      let shown : result_text h.held h.ran.done ++ values_text h.held.tables h.held.state.variables places ≡ result_text k.held k.ran.done ++ values_text k.held.tables k.held.state.variables places =
      ap (λ (x : Held). result_text x h.ran.done ++ values_text x.tables x.state.variables places) same.0
      ∙ ap (λ (r : Ran). result_text k.held r.done ++ values_text k.held.tables k.held.state.variables places) same.1 in
      (h.text_is ∙ shown ∙ sym k.text_is, h.status_is ∙ ap (λ (x : Held). status_of x.state.stop) same.0 ∙ sym k.status_is)

  same_contacts : (names : List (List ℕ)) (program : Option (List ℕ)) → AreContactsOf names program part c n text status → AreContactsOf names program part c n other more
      → (text ≡ other) × (status ≡ more)
  same_contacts names program h k =
      let contacts : h.found ≡ k.found =
      h.are.found_are ∙ ap (λ s. found_after s part c n) (one_source program h.source k.source h.is_source k.is_source) ∙ sym k.are.found_are in
      let stop : h.stop ≡ k.stop = h.are.stop_is ∙ sym k.are.stop_is in (
        h.text_is ∙ ap (λ x. contacts_text names c.tables x h.stop n) contacts ∙ ap (λ s. contacts_text names c.tables k.found s n) stop ∙ sym k.text_is,
        h.status_is ∙ ap (λ x. contacts_status x h.stop) contacts ∙ ap (contacts_status k.found) stop ∙ sym k.status_is,
      )

module _ (names : List (List ℕ)) (program : Option (List ℕ)) (part : Workpiece) (c : Code) (n : ℕ) (text other : List ℕ) (stop left : Option StopPlace)
    (h : IsReason names program part c n stop (λ t. t ≡ text)) (k : IsReason names program part c n left (λ t. t ≡ other)) where
  same_run : (h.held ≡ k.held) × (h.number ≡ k.number) × (h.ran ≡ k.ran)
  same_run =
      let a = h.watched in
      let b = k.watched in
      let same = one_run n (started part c) a.new b.new h.ran k.ran a.has_run b.has_run h.ample k.ample in
      let tables : h.held.tables ≡ k.held.tables = a.tables ∙ sym b.tables in
      let state : h.held.state ≡ k.held.state = a.state ∙ ap (λ m. m.state.world) same.0 ∙ sym b.state in
      let number : h.number ≡ k.number = a.next_is ∙ ap (λ m. m.state.next) same.0 ∙ sym b.next_is in
      (ap (λ x. held x h.held.state) tables ∙ ap (held k.held.tables) state, number, same.1)

  same_behind : seen h.progress ≡ seen k.progress
  same_behind = h.watched.behind ∙ ap (λ (r : Ran). behind_run part c r.done) same_run.2 ∙ sym k.watched.behind

  same_traced : h.traced ≡ k.traced
  same_traced = one_source program h.traced k.traced h.is_traced k.is_traced

  same_why : (text ≡ other) × (stop ≡ left)
  same_why = (
    sym h.written
        ∙ ap (λ t. why_lines names t part c.statements h.held h.number (seen h.progress) h.ran.done) same_traced
        ∙ ap (λ x. why_lines names k.traced part c.statements x h.number (seen h.progress) h.ran.done) same_run.0
        ∙ ap (λ i. why_lines names k.traced part c.statements k.held i (seen h.progress) h.ran.done) same_run.1
        ∙ ap (λ (b : Behind). why_lines names k.traced part c.statements k.held k.number b h.ran.done) same_behind
        ∙ ap (λ (r : Ran). why_lines names k.traced part c.statements k.held k.number (seen k.progress) r.done) same_run.2
        ∙ k.written,
    h.stop_is ∙ ap (λ (x : Held). x.state.stop) same_run.0 ∙ sym k.stop_is,
  )

same_reason : (names : List (List ℕ)) (program : Option (List ℕ)) (part : Workpiece) (c : Code) (n : ℕ) (text other : List ℕ) (status more : ℕ)
    → IsWhyOf names program part c n text status → IsWhyOf names program part c n other more → (text ≡ other) × (status ≡ more)
same_reason names program part c n text other status more h k =
    let same = same_why names program part c n text other h.stop k.stop h.told k.told in
    (same.0, h.status_is ∙ ap status_of same.1 ∙ sym k.status_is)

-- ---- sheets

same_sheet : (t : Titles) (part : Workpiece) → SheetsSayOne t part
same_sheet t part c n text other status more h k =
    let same = one_run_to part c n h.held k.held h.ran k.ran h.run k.run h.ample k.ample in
    let way = λ (done : ℕ). way_after part c done in
    let all = λ (held : Held) (done : ℕ). sheet_said t part held done (way done) (run_readings part c n (way done)) in
    let told : Says (all k.held h.ran.done) text = subst (λ (x : Held). Says (all x h.ran.done) text) same.0 h.says in
    let says : Says (all k.held k.ran.done) text = subst (λ (r : Ran). Says (all k.held r.done) text) same.1 told in
    (all k.held k.ran.done, (says, k.says, h.status_is ∙ ap (λ (x : Held). status_of x.state.stop) same.0 ∙ sym k.status_is))

-- ---- the views

pub one_views : ViewsAreOne
one_views = record {
  traces = λ part. one_view trace_view part (λ p l c n t u s m ok h k. same_rows part c n t u s m _ h k);
  points = λ part is_machine. one_view (points_view is_machine) part (λ p l c n t u s m ok h k. same_points part c n t u s m is_machine p h k);
  margins = λ part valid. one_view margin_view part (λ p l c n t u s m ok h k. one_margin_told p part valid c ok n t u s m h k);
  clearances = λ part tells_calls names untried boxes valid are. one_view (clearance_view tells_calls names untried boxes) part
      (λ p l c n t u s m ok h k. same_clearance (asked_for tells_calls p) names untried part boxes c n valid are t u s m h k);
  firsts = λ part names boxes. one_view (first_view names boxes) part (λ p l c n t u s m ok h k. same_first names boxes p part c n t u s m h k);
  pictures = λ part is_close untried. one_view (picture_view is_close untried) part (λ p l c n t u s m ok h k. same_picture part c n t u s m is_close untried h k);
  reasons = λ part names. one_view (why_view names) part (λ p l c n t u s m ok h k. same_reason names p part c n t u s m h k);
  contacts = λ part names. one_view (contacts_view names) part (λ p l c n t u s m ok h k. same_contacts part c n t u s m names p h k);
  values = λ part places. one_view (values_view places) part (λ p l c n t u s m ok h k. same_values part c n t u s m places h k);
  sheets = λ part t. same_sheet t part;
}
