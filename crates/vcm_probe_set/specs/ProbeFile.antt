-- What the bytes of a probe file of several probes give: the probes, or the first refusal.
use Rattle.std.specs.Prelude.{◌≡◌, ℕ, ◌+◌, ℤ, pos, List, [], ◌∷◌, ◌++◌, length, Option, Some, None, Result, Ok, Err}
use Rattle.std.specs.Prelude.{Bool, true, false, ◌&&◌, not, nat_lt, int_le, unsigned_abs, is_some, codes, if◌then◌else◌}
use Rattle.std.specs.Option.{option_and_then}
use Rattle.std.specs.Str.{is_utf8}
use Rattle.toml.specs.Data.{Data, Items, no_items, item, Members, get_member, as_str, as_integer, as_array, as_table}
use Rattle.toml.specs.Parse.{parse_document}
use Rattle.vcm_num.specs.declared.point.Point.{Point}
use Rattle.vcm_num.specs.Point.{coordinate, is_below, is_near}
use Rattle.vcm_num.specs.declared.limits.TheConstants.{WIDEST_TIP}
use Rattle.vcm_spec.specs.declared.workpiece.Block3.{Block3}
use Rattle.vcm_spec.specs.Results.{◌>>=◌}
use Rattle.vcm_part.specs.PartFile.{point_of, are_tables, count}
use Rattle.vcm_boxes.specs.declared.boxes.ProbeBox.{ProbeBox}
use Rattle.vcm_boxes.specs.Boxes.{is_corner}
use Rattle.vcm_boxes.specs.BoxFile.{unknown_key}
use Rattle.vcm_boxes.specs.Labels.{label_of}
use Rattle.vcm_probe_set.specs.declared.place.BoxOwner.{BoxOwner}
use Rattle.vcm_probe_set.specs.declared.place.BoxOwner.TheVariants.{OfProbe, OfSwing}
use Rattle.vcm_probe_set.specs.declared.place.Place.{Place}
use Rattle.vcm_probe_set.specs.declared.place.Place.TheVariants.{File, InTravel, InProbe, InBox}
use Rattle.vcm_probe_set.specs.declared.place.Key.{Key}
use Rattle.vcm_probe_set.specs.declared.place.Key.TheVariants as key
use Rattle.vcm_probe_set.specs.declared.fault.Refusal.{Refusal}
use Rattle.vcm_probe_set.specs.declared.fault.Refusal.TheVariants.{NotToml, UnknownKey, BadKey, OutOfRange, LowAboveHigh, TooManyBoxes, DuplicateName}
use Rattle.vcm_probe_set.specs.declared.fault.Refusal.TheVariants.{TooManyProbes, DuplicateNumber}
use Rattle.vcm_probe_set.specs.declared.fault.ProbeSetFault.{ProbeSetFault}
use Rattle.vcm_probe_set.specs.declared.fault.ProbeSetFault.TheVariants.{NoMemory, Refused}
use Rattle.vcm_probe_set.specs.Names.{probe_name_of, variable_of}
use Rattle.vcm_probe_set.specs.Places.{key_word, file_keys, travel_keys, probe_keys, box_keys}
use Rattle.vcm_probe_set.specs.Bodies.{Body, bodies_of}
use Rattle.vcm_probe_set.specs.Probes.{Probe, Probes, is_name_taken, is_number_taken, have_one_pose}

-- what is read at a place, unless there is a key that isn't known
abbrev pub unless_unknown : {X : Type 0} → Place → Option (List ℕ) → Result X Refusal → Result X Refusal
unless_unknown place None read = read
unless_unknown place (Some word) read = Err (UnknownKey place (label_of 32 word))

-- what a key has to be there as, else the refusal
abbrev pub wanted : {X : Type 0} → Place → Key → Option X → Result X Refusal
wanted place k None = Err (BadKey place k)
wanted place k (Some x) = Ok x

-- what is in range, else the refusal
abbrev pub in_range : {X : Type 0} → Place → Key → Bool → X → Result X Refusal
in_range place k true x = Ok x
in_range place k false x = Err (OutOfRange place k)

-- the point at a key
unfoldable pub point_at : Place → Key → Members → Result Point Refusal
point_at place k t = wanted place k (option_and_then point_of (get_member (key_word k) t))

-- a corner, or a pivot: at most ten metres from the centre of the tip
unfoldable pub corner_at : Place → Key → Members → Result Point Refusal
corner_at place k t = point_at place k t >>= λ p. in_range place k (is_corner p) p

-- a limit of the pivot: at most a kilometre from 0
unfoldable pub limit_at : Key → Members → Result Point Refusal
limit_at k t = point_at InTravel k t >>= λ p. in_range InTravel k (is_near p) p

-- ---- boxes

-- the name of a box: a label of at most 16 bytes
unfoldable pub box_name_at : Place → Members → Result (List ℕ) Refusal
box_name_at place t = wanted place key.Name (option_and_then (λ d. option_and_then (label_of 16) (as_str d)) (get_member (key_word key.Name) t))

-- a box between corners, unless the low one is above the other
abbrev pub box_between : Place → List ℕ → Point → Point → Result ProbeBox Refusal
box_between place name low high =
    if is_below (coordinate low) (coordinate high) then Ok (record { name = name; block = record { low = low; high = high } })
    else Err (LowAboveHigh place)

-- the box of a table
abbrev pub box_in : Place → Members → Result ProbeBox Refusal
box_in place t = unless_unknown place (unknown_key box_keys t) (do
  name ← box_name_at place t
  low ← corner_at place key.Low t
  high ← corner_at place key.High t
  box_between place name low high)

-- that no boxes are there: those of a probe stand at its key `box`, those of the swing at the file's key `swing`
abbrev pub no_boxes : BoxOwner → Refusal
no_boxes (OfProbe n) = BadKey (InProbe n) key.Boxes
no_boxes OfSwing = BadKey File key.Swing

-- the box of a value, which is a table
abbrev pub box_by : BoxOwner → ℕ → Option Members → Result ProbeBox Refusal
box_by owner number None = Err (no_boxes owner)
box_by owner number (Some t) = box_in (InBox owner number) t

-- the box of a value, which comes behind those above
unfoldable pub box_of : BoxOwner → List ProbeBox → Data → Result ProbeBox Refusal
box_of owner above d = box_by owner (length above + 1) (as_table d)

-- those above, and what the items behind them are read as, each beside all above it
unfoldable pub rows_behind : {X : Type 0} → (List X → Data → Result X Refusal) → List X → Items → Result (List X) Refusal
rows_behind read above no_items = Ok above
rows_behind read above (item d ds) = read above d >>= λ x. rows_behind read (above ++ x ∷ []) ds

-- what an array of 1 to 64 tables is read as, else that there is none, or that there are too many
abbrev pub of_rows : {X : Type 0} → Refusal → Refusal → (Items → Result X Refusal) → Items → Result X Refusal
of_rows none many read rows =
    if not (are_tables rows) then Err none
    else if nat_lt 64 (count rows) then Err many
    else if nat_lt 0 (count rows) then read rows
    else Err none

-- the bodies of the boxes of some rows
abbrev pub bodies_read : BoxOwner → Items → Result (List Body) Refusal
bodies_read owner rows = rows_behind (box_of owner) [] rows >>= λ bs. Ok (bodies_of bs)

-- those of an array of tables
abbrev pub bodies_of_rows : BoxOwner → Items → Result (List Body) Refusal
bodies_of_rows owner rows = of_rows (no_boxes owner) (TooManyBoxes owner) (bodies_read owner) rows

-- those of an array, if there is one
abbrev pub bodies_of_array : BoxOwner → Option Items → Result (List Body) Refusal
bodies_of_array owner None = Err (no_boxes owner)
bodies_of_array owner (Some rows) = bodies_of_rows owner rows

-- ---- probes

-- the name of the probe of this place
unfoldable pub probe_name_at : Place → Members → Result (List ℕ) Refusal
probe_name_at place t = wanted place key.Name (option_and_then (λ d. option_and_then probe_name_of (as_str d)) (get_member (key_word key.Name) t))

-- its number: from 1 to 999,999
unfoldable pub number_at : Place → Members → Result ℕ Refusal
number_at place t =
    wanted place key.Number (option_and_then as_integer (get_member (key_word key.Number) t))
    >>= λ z. in_range place key.Number (int_le (pos 1) z && int_le z (pos 999999)) (unsigned_abs z)

-- half the width of its tip: from 0 to 50,000
abbrev pub tip_of : Place → Option ℤ → Result (Option ℕ) Refusal
tip_of place given = wanted place key.Tip given >>= λ z. in_range place key.Tip (int_le (pos 0) z && int_le z (pos WIDEST_TIP)) (Some (unsigned_abs z))

-- that of a value, which may be left out
abbrev pub tip_by : Place → Option Data → Result (Option ℕ) Refusal
tip_by place None = Ok None
tip_by place (Some d) = tip_of place (as_integer d)

unfoldable pub tip_at : Place → Members → Result (Option ℕ) Refusal
tip_at place t = tip_by place (get_member (key_word key.Tip) t)

-- the name of its pose, which may be left out
abbrev pub pose_by : Place → Option Data → Result (Option (List ℕ)) Refusal
pose_by place None = Ok None
pose_by place (Some d) = wanted place key.Pose (option_and_then (label_of 16) (as_str d)) >>= λ pose. Ok (Some pose)

unfoldable pub pose_at : Place → Members → Result (Option (List ℕ)) Refusal
pose_at place t = pose_by place (get_member (key_word key.Pose) t)

-- the bodies of the probe of this number
unfoldable pub bodies_at : ℕ → Members → Result (List Body) Refusal
bodies_at number t = bodies_of_array (OfProbe number) (option_and_then as_array (get_member (key_word key.Boxes) t))

-- a probe, unless one above has its name or its number
abbrev pub unless_twice : List Probe → ℕ → Probe → Result Probe Refusal
unless_twice above n p =
    if is_name_taken p.name above then Err (DuplicateName n)
    else if is_number_taken p.number above then Err (DuplicateNumber n)
    else Ok p

-- the probe of a table, which comes behind those above and is number `n` of the file
abbrev pub probe_in : List Probe → ℕ → Members → Result Probe Refusal
probe_in above n t = unless_unknown (InProbe n) (unknown_key probe_keys t) (do
  name ← probe_name_at (InProbe n) t
  number ← number_at (InProbe n) t
  tip ← tip_at (InProbe n) t
  pivot ← corner_at (InProbe n) key.Pivot t
  pose ← pose_at (InProbe n) t
  bodies ← bodies_at n t
  unless_twice above n (record { name = name; number = number; tip = tip; pivot = pivot; pose = pose; bodies = bodies }))

-- the probe of a value, which is a table
abbrev pub probe_by : List Probe → Option Members → Result Probe Refusal
probe_by above None = Err (BadKey File key.Probe)
probe_by above (Some t) = probe_in above (length above + 1) t

unfoldable pub probe_of : List Probe → Data → Result Probe Refusal
probe_of above d = probe_by above (as_table d)

-- the probes of an array of tables
abbrev pub probes_of_rows : Items → Result (List Probe) Refusal
probes_of_rows rows = of_rows (BadKey File key.Probe) TooManyProbes (rows_behind probe_of []) rows

-- those of an array, if there is one
abbrev pub probes_of_array : Option Items → Result (List Probe) Refusal
probes_of_array None = Err (BadKey File key.Probe)
probes_of_array (Some rows) = probes_of_rows rows

unfoldable pub probes_at : Members → Result (List Probe) Refusal
probes_at t = probes_of_array (option_and_then as_array (get_member (key_word key.Probe) t))

-- ---- the file

-- the variable that chooses a probe: PROBE where none is given
abbrev pub variable_by : Option Data → Result (List ℕ) Refusal
variable_by None = Ok (codes "PROBE")
variable_by (Some d) = wanted File key.Variable (option_and_then variable_of (as_str d))

unfoldable pub variable_at : Members → Result (List ℕ) Refusal
variable_at t = variable_by (get_member (key_word key.Variable) t)

-- limits of the pivot between corners, unless the low one is above the other
abbrev pub travel_between : Point → Point → Result (Option Block3) Refusal
travel_between low high =
    if is_below (coordinate low) (coordinate high) then Ok (Some (record { low = low; high = high })) else Err (LowAboveHigh InTravel)

-- the limits of the pivot that a table gives
abbrev pub travel_in : Option Members → Result (Option Block3) Refusal
travel_in None = Err (BadKey File key.Travel)
travel_in (Some t) = unless_unknown InTravel (unknown_key travel_keys t) (do
  low ← limit_at key.Low t
  high ← limit_at key.High t
  travel_between low high)

-- those of a value, which may be left out
abbrev pub travel_by : Option Data → Result (Option Block3) Refusal
travel_by None = Ok None
travel_by (Some d) = travel_in (as_table d)

unfoldable pub travel_at : Members → Result (Option Block3) Refusal
travel_at t = travel_by (get_member (key_word key.Travel) t)

-- the bodies of the swing, which may be left out where all probes have one pose
abbrev pub swing_by : List Probe → Option Data → Result (List Body) Refusal
swing_by probes None = if have_one_pose probes then Ok [] else Err (BadKey File key.Swing)
swing_by probes (Some d) = bodies_of_array OfSwing (as_array d)

unfoldable pub swing_at : List Probe → Members → Result (List Body) Refusal
swing_at probes t = swing_by probes (get_member (key_word key.Swing) t)

-- the probes of the table of a file
unfoldable pub set_of_table : Members → Result Probes Refusal
set_of_table t = unless_unknown File (unknown_key file_keys t) (do
  variable ← variable_at t
  travel ← travel_at t
  probes ← probes_at t
  swing ← swing_at probes t
  Ok (record { variable = variable; travel = travel; probes = probes; swing = swing }))

-- those of the table that a text denotes, if it denotes one
abbrev pub set_of_document : Option Members → Result Probes Refusal
set_of_document None = Err NotToml
set_of_document (Some t) = set_of_table t

-- those of the bytes, which are to be the UTF-8 of a TOML text
unfoldable pub set_of : List ℕ → Result Probes Refusal
set_of bytes = if is_utf8 bytes then set_of_document (parse_document bytes) else Err NotToml

-- what reading these bytes may answer: the probes or the refusal that they give, or that a growth of memory was refused
abbrev pub AreProbesRead : List ℕ → Result Probes ProbeSetFault → Type 0
AreProbesRead bytes (Ok probes) = set_of bytes ≡ Ok probes
AreProbesRead bytes (Err NoMemory) = Unit {0}
AreProbesRead bytes (Err (Refused r)) = set_of bytes ≡ Err r

-- ---- which of both

-- whether a table has the key `probe`
abbrev pub has_probes : Option Members → Bool
has_probes None = false
has_probes (Some t) = is_some (get_member (key_word key.Probe) t)

-- whether bytes are a probe file of several probes: a TOML text with the key `probe`
unfoldable pub is_of_several : List ℕ → Bool
is_of_several bytes = is_utf8 bytes && has_probes (parse_document bytes)
