-- The frames that the statements of a text make or recall by their names.
use Rattle.std.specs.Prelude.{ℕ, nat_eq, if◌then◌else◌, List, [], ◌∷◌, Option, Some, None}
use Rattle.vcm_untried.specs.declared.frames.NamedFrame.{NamedFrame}

-- the frame that the statement on a line names, if it names one
abbrev pub frame_at : List NamedFrame → ℕ → Option NamedFrame
frame_at [] line = None
frame_at (f ∷ fs) line = if nat_eq f.line line then Some f else frame_at fs line
