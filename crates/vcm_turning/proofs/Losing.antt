-- Whether a statement is lost, as the code asks it.
use Rattle.std.proofs.Common.{◌≡◌, ℕ, ℤ, Bool, List, sym, ap, ◌∙◌}
use Rattle.std.specs.Prelude.{◌&&◌, not}
use Rattle.vcm_num.specs.declared.point.Point.{Point}
use Rattle.vcm_code.specs.Code.{Op}
use Rattle.vcm_way.specs.declared.task.Task.{Task}
use Rattle.vcm_way.specs.Tasks.{task_of}
use Rattle.vcm_probe_set.specs.Probes.{Probe}
use Rattle.vcm_turning.specs.Choosing.{value_of, is_held}
use Rattle.vcm_turning.specs.Turning.{Turned, is_motion, is_lost}

pub lost_is : (home : Point) (ps : List Probe) (v : ℕ) (t : Turned) (op : Op) (task : Task) (value : ℤ) (qs : List Probe) (r b : Bool)
    → task ≡ task_of home t.state.world op → value ≡ value_of t.state.world v → qs ≡ ps → r ≡ (is_motion task && not (is_held qs t.on value)) → r ≡ b
    → is_lost home ps v t op ≡ b
lost_is home ps v t op task value qs r b e f g h k =
    ap (λ (x : Task). is_motion x && not (is_held ps t.on (value_of t.state.world v))) (sym e)
    ∙ ap (λ (z : ℤ). is_motion task && not (is_held ps t.on z)) (sym f)
    ∙ ap (λ (q : List Probe). is_motion task && not (is_held q t.on value)) (sym g)
    ∙ sym h ∙ k
