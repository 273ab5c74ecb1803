-- The steps of a run, each with the frames in which features were declared.
use Rattle.std.specs.Prelude.{ℕ, nat_lt, if◌then◌else◌, List, [], ◌∷◌, length, replicate, slice_set, Option, Some, None}
use Rattle.vcm_spec.specs.declared.stop.StopPlace.{StopPlace}
use Rattle.vcm_spec.specs.Frame.{Frame}
use Rattle.vcm_spec.specs.Setup.{Tables}
use Rattle.vcm_spec.specs.World.{World}
use Rattle.vcm_steps.specs.Passages.{Passage}
use Rattle.vcm_trace.specs.declared.told.Told.{Told}
use Rattle.vcm_trace.specs.declared.told.Told.TheVariants as told
use Rattle.vcm_trace.specs.Lines.{told_of}

-- the frames in which features were declared, by their indexes: of each that of its last FEAT
abbrev pub Frames : Type 0
Frames = List (Option Frame)

-- something is put at a place of a list, if the list has that place
abbrev pub put_at : {A : Type 0} → List A → ℕ → A → List A
put_at xs i x = if nat_lt i (length xs) then slice_set xs i x else xs

-- before the first step
abbrev pub no_frames : Tables → Frames
no_frames tables = replicate (length tables.features) None

-- with a statement that tells this, in the state behind it: a FEAT is carried out in the current frame
abbrev pub frames_told : Frames → World → Told → Frames
frames_told fs w (told.Declared f) = put_at fs f (Some w.frame)
frames_told fs w _ = fs

-- with a statement that came to this stop, if it came to one
abbrev pub frames_after : Frames → World → Option StopPlace → Told → Frames
frames_after fs w (Some place) t = fs
frames_after fs w None t = frames_told fs w t

-- with a step
abbrev pub frames_with : Frames → Passage → Frames
frames_with fs p = frames_after fs p.after p.after.stop (told_of p.statement.op)

-- behind these steps
abbrev pub frames_behind : Frames → List Passage → Frames
frames_behind fs [] = fs
frames_behind fs (p ∷ ps) = frames_behind (frames_with fs p) ps

-- a step, with the frames in which features were declared before it
pub record FramedStep : Type 0 where
  pub frames : Frames
  pub passage : Passage

abbrev pub framed_step : Frames → Passage → FramedStep
framed_step fs p = record { frames = fs; passage = p }

-- these steps, each with those frames
abbrev pub framed : Frames → List Passage → List FramedStep
framed fs [] = []
framed fs (p ∷ ps) = framed_step fs p ∷ framed (frames_with fs p) ps
