-- What a step leaves where it was done.
use Rattle.std.specs.Prelude.{Bool, true, false, Option, Some, None}

-- this, where it was done
abbrev pub where_done : {A : Type 0} → Bool → A → Option A
where_done true s = Some s
where_done false s = None
