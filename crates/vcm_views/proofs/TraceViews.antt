-- Runs that are told row by row, as views.
use Rattle.std.specs.Prelude.{ℕ, Bool, List, Option}
use Rattle.std.proofs.Common.{◌≡◌, refl, ap, ◌∙◌, subst}
use Rattle.vcm_spec.specs.declared.stop.StopPlace.{StopPlace}
use Rattle.vcm_spec.specs.Workpiece.{Workpiece}
use Rattle.vcm_program.specs.declared.accepted.Noticed.{Noticed}
use Rattle.vcm_code.specs.declared.code.Code.{Code}
use Rattle.vcm_job.specs.Jobs.{status_of}
use Rattle.vcm_job.specs.Views.{RunView, IsViewed, IsCutShort}
use Rattle.vcm_steps.specs.Passages.{state_after}
use Rattle.vcm_steps.specs.declared.fault.Unfinished.{Unfinished}
use Rattle.vcm_steps.specs.declared.fault.Unfinished.TheVariants as faults
use Rattle.vcm_trace.specs.Rows.{RunRows, rows_text, IsWritten, IsHalted, IsNotWritten}
use Rattle.vcm_trace.specs.Points.{point_rows}
use Rattle.vcm_backtrace.specs.Sources.{Sourced, IsSourced}
use Rattle.vcm_backtrace.specs.Calls.{calls_field}
use Rattle.vcm_views.specs.Views.{AreRows, points_view}
use Rattle.vcm_views.specs.inner.Cuts.{cut_short}

-- what is told row by row, as a view
abbrev pub rows_view : RunRows → RunView
rows_view t = record { tells = λ program notices. AreRows t; halted = λ program. IsHalted t }

module _ (t : RunRows) (program : Option (List ℕ)) (notices : List Noticed) (w part : Workpiece) (same : w ≡ part) (c : Code) (n : ℕ) (old new : Option (List ℕ)) where
  pub rows_viewed : (status : ℕ) (stop : Option StopPlace) → IsWritten t w c n stop old new → status ≡ status_of stop
      → IsViewed (rows_view t) program notices part c n status old new
  rows_viewed status stop h s =
      subst (λ p. IsViewed (rows_view t) program notices p c n status old new) same
      (record { text = rows_text t w c n; tells = record { text_is = refl; status_is = s ∙ ap status_of h.stop_is }; written = h.written })

  rows_cut : (f : Unfinished) → IsNotWritten t w c n f old new → IsCutShort (rows_view t) program notices w c n (cut_short f) old new
  rows_cut faults.NoMemory h = h
  rows_cut (faults.Memory done) h = h
  rows_cut (faults.Write done) h = record {
    text = rows_text t w c n;
    status = status_of (state_after w c n).world.stop;
    tells = record { text_is = refl; status_is = refl };
    front = h.front;
  }

  pub rows_cut_short : (f : Unfinished) → IsNotWritten t w c n f old new → IsCutShort (rows_view t) program notices part c n (cut_short f) old new
  rows_cut_short f h = subst (λ p. IsCutShort (rows_view t) program notices p c n (cut_short f) old new) same (rows_cut f h)

-- the rows of points with this source, as a view
module _ (is_machine : Bool) (source : Option Sourced) (program : Option (List ℕ)) (is : IsSourced program source) (notices : List Noticed) (w part : Workpiece) (same : w ≡ part) (c : Code)
    (n : ℕ) (old new : Option (List ℕ)) where
  abbrev rows : RunRows
  rows = point_rows is_machine (calls_field source)

  of_points : (status : ℕ) → IsViewed (rows_view rows) program notices part c n status old new → IsViewed (points_view is_machine) program notices part c n status old new
  of_points status v = record { text = v.text; tells = record { source = source; is_source = is; rows = v.tells }; written = v.written }

  pub points_viewed : (status : ℕ) (stop : Option StopPlace) → IsWritten rows w c n stop old new → status ≡ status_of stop
      → IsViewed (points_view is_machine) program notices part c n status old new
  points_viewed status stop h s = of_points status (rows_viewed rows program notices w part same c n old new status stop h s)

  of_cut : (f : Unfinished) → IsCutShort (rows_view rows) program notices part c n (cut_short f) old new → IsCutShort (points_view is_machine) program notices part c n (cut_short f) old new
  of_cut faults.NoMemory h = h
  of_cut (faults.Memory done) h = record { source = source; is_source = is; halted = h }
  of_cut (faults.Write done) h = record { text = h.text; status = h.status; tells = record { source = source; is_source = is; rows = h.tells }; front = h.front }

  pub points_cut_short : (f : Unfinished) → IsNotWritten rows w c n f old new → IsCutShort (points_view is_machine) program notices part c n (cut_short f) old new
  points_cut_short f h = of_cut f (rows_cut_short rows program notices w part same c n old new f h)
