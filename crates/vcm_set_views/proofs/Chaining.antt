-- What was seen of the steps of a run.
use Rattle.std.proofs.Common.{◌≡◌, List, [], ◌∷◌, ◌++◌, refl, sym, ap, subst, ◌∙◌, append_assoc}
use Rattle.std.proofs.lemmas.List.{append-nil}
use Rattle.std.specs.Prelude.{ℕ, flat_map, map, Option, Result, Ok, Err, IfOk}
use Rattle.vcm_spec.specs.declared.stop.Stop.{Stop}
use Rattle.vcm_spec.specs.Workpiece.{Workpiece}
use Rattle.vcm_spec.specs.World.{World}
use Rattle.vcm_code.specs.Code.{CodeStatement}
use Rattle.vcm_way.specs.declared.step.Before.{Before}
use Rattle.vcm_way.specs.Steps.{IsBefore}
use Rattle.vcm_way.specs.Tasks.{marks_of}
use Rattle.vcm_way.specs.Ways.{reason}
use Rattle.vcm_way.proofs.Stepped.{marks_are}
use Rattle.vcm_turning.specs.declared.turn.Turn.{Turn}
use Rattle.vcm_turning.specs.Choosing.{part_by}
use Rattle.vcm_turning.specs.Following.{told_step}
use Rattle.vcm_set_clearance.proofs.Stepping.{same_home}
use Rattle.vcm_marks.specs.declared.mark.Mark.{Mark}
use Rattle.vcm_probe_set.specs.Probes.{Probe}
use Rattle.vcm_turning.specs.Steps.{TurnedStep, turned_marks}
use Rattle.vcm_cause.specs.Behind.{Behind}
use Rattle.vcm_marks.specs.declared.mark.PlacedMark.{PlacedMark}
use Rattle.vcm_way.specs.Ways.{Kept}
use Rattle.vcm_way.specs.Keeping.{StandsFor}
use Rattle.vcm_trace.specs.Framed.{Frames, FramedStep, framed_step, frames_with, framed}
use Rattle.vcm_set_views.specs.Drawn.{placed_turned}
use Rattle.vcm_set_views.specs.Chains.{Chain}
use Rattle.vcm_set_views.specs.Reasons.{one_behind, known_behind}

-- the marks of a task that is done are those of the step
pub marks_by : (part : Workpiece) (ps : List Probe) (b : Before) (s : CodeStatement) (w after : World) → IsBefore part.bounds.home w s b
    → (count number next : ℕ) (turn : Turn) (o : Option Stop) → o ≡ reason after.stop → (on : Option ℕ)
    → marks_of (part_by part ps on) b.position b.settings b.task o ≡ turned_marks part ps (told_step count number s w after next on turn)
marks_by part ps b s w after looked count number next turn o e on =
    let own = part_by part ps on in
    let own_looked : IsBefore own.bounds.home w s b = subst (λ h. IsBefore h w s b) (sym (same_home part ps on)) looked in
    ap (marks_of own b.position b.settings b.task) e ∙ marks_are own b s w after own_looked count number next

-- one step more
pub chain_more : {To : Type 0} → (one : To → To → TurnedStep → List Mark → Type 0) (part : Workpiece) (ps : List Probe) (from mid to : To) (ss : List TurnedStep) (s : TurnedStep)
    → Chain one part ps from mid ss → one mid to s (turned_marks part ps s) → Chain one part ps from to (ss ++ s ∷ [])
chain_more one part ps from mid to [] s h k = (to, subst (λ x. one x to s (turned_marks part ps s)) (sym h) k, refl)
chain_more one part ps from mid to (x ∷ ss) s h k = (h.0, h.1, chain_more one part ps h.0 mid to ss s h.2 k)

-- where each step adds a text, all texts were added
pub chain_texts : {To : Type 0} → (items : To → List ℕ) (text : TurnedStep → List Mark → List ℕ) (part : Workpiece) (ps : List Probe) (from to : To) (ss : List TurnedStep)
    → Chain (λ a b s marks. items b ≡ items a ++ text s marks) part ps from to ss → items to ≡ items from ++ flat_map (λ s. text s (turned_marks part ps s)) ss
chain_texts items text part ps from to [] h = ap items (sym h) ∙ sym (append-nil (items from))
chain_texts items text part ps from to (s ∷ ss) h =
    chain_texts items text part ps h.0 to ss h.2
    ∙ ap (λ l. l ++ flat_map (λ s. text s (turned_marks part ps s)) ss) h.1
    ∙ append_assoc (items from) (text s (turned_marks part ps s)) (flat_map (λ s. text s (turned_marks part ps s)) ss)

-- where each adds a row, by the frames in which features were declared before it, and keeps these, all rows were added
pub chain_rows : {To : Type 0} → (items : To → List ℕ) (frames : To → Frames) (row : FramedStep → List ℕ) (part : Workpiece) (ps : List Probe) (from to : To) (ss : List TurnedStep)
    → Chain (λ a b s marks. (items b ≡ items a ++ row (framed_step (frames a) s.passage)) × (frames b ≡ frames_with (frames a) s.passage)) part ps from to ss
    → items to ≡ items from ++ flat_map row (framed (frames from) (map (λ s. s.passage) ss))
chain_rows items frames row part ps from to [] h = ap items (sym h) ∙ sym (append-nil (items from))
chain_rows items frames row part ps from to (s ∷ ss) h =
    let rest = λ (fs : Frames). flat_map row (framed fs (map (λ (t : TurnedStep). t.passage) ss)) in
    let here = row (framed_step (frames from) s.passage) in
    chain_rows items frames row part ps h.0 to ss h.2
    ∙ ap (λ l. l ++ rest (frames h.0)) h.1.0
    ∙ ap (λ fs. (items from ++ here) ++ rest fs) h.1.1
    ∙ append_assoc (items from) here (rest (frames_with (frames from) s.passage))

-- where each adds marks to what stands for the way, it stands for all of it
pub chain_kept : (part : Workpiece) (ps : List Probe) (from to : Kept) (ss : List TurnedStep) (whole : List PlacedMark)
    → Chain (λ a b s marks. (w : List PlacedMark) → StandsFor a w → StandsFor b (w ++ placed_turned s marks)) part ps from to ss → StandsFor from whole
    → StandsFor to (whole ++ flat_map (λ s. placed_turned s (turned_marks part ps s)) ss)
chain_kept part ps from to [] whole h k = subst (StandsFor to) (sym (append-nil whole)) (subst (λ x. StandsFor x whole) h k)
chain_kept part ps from to (s ∷ ss) whole h k =
    let here = placed_turned s (turned_marks part ps s) in
    subst (StandsFor to) (append_assoc whole here (flat_map (λ s. placed_turned s (turned_marks part ps s)) ss))
    (chain_kept part ps h.0 to ss (whole ++ here) h.2 (h.1 whole k))

-- where each tells what is known behind it, it is known behind all
pub chain_known : {To : Type 0} → (known : To → Behind) (part : Workpiece) (ps : List Probe) (from to : To) (ss : List TurnedStep)
    → Chain (λ a b s marks. known b ≡ one_behind (known a) s marks) part ps from to ss → known to ≡ known_behind part ps (known from) ss
chain_known known part ps from to [] h = ap known (sym h)
chain_known known part ps from to (s ∷ ss) h =
    chain_known known part ps h.0 to ss h.2 ∙ ap (λ b. known_behind part ps b ss) h.1

-- what is known of an answer, if there is one, gives another
pub if_ok_then : {A B : Type 0} (r : Result A B) (P Q : A → Type 0) → ((x : A) → P x → Q x) → IfOk r P → IfOk r Q
if_ok_then (Ok x) P Q f h = f x h
if_ok_then (Err e) P Q f h = h
