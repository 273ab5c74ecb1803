-- What the bytes of a description give: what hangs on the head and the probes of it, or the first refusal.
use Rattle.std.specs.Prelude.{◌≡◌, ℕ, ◌+◌, ℤ, pos, negsuc, List, [], ◌∷◌, ◌++◌, length, Option, Some, None, Result, Ok, Err}
use Rattle.std.specs.Prelude.{Bool, not, ◌&&◌, ◌||◌, ◌==◌, ⊤, nat_lt, int_le, int_lt, int_rem, codes, if◌then◌else◌}
use Rattle.std.specs.Ordering.{int_eq}
use Rattle.std.specs.List.{list_any, position}
use Rattle.std.specs.Option.{option_and_then}
use Rattle.std.specs.Str.{is_utf8, bytes_eq}
use Rattle.toml.specs.Data.{Data, Items, no_items, item, Members, no_members, member, get_member, as_str, as_integer, as_array, as_table}
use Rattle.toml.specs.Parse.{parse_document}
use Rattle.vcm_num.specs.declared.point.Point.{Point}
use Rattle.vcm_num.specs.Point.{coordinate}
use Rattle.vcm_spec.specs.Results.{◌>>=◌}
use Rattle.vcm_part.specs.PartFile.{point_of, are_tables, count}
use Rattle.vcm_hardware.specs.declared.description.Place.{Place}
use Rattle.vcm_hardware.specs.declared.description.StillBox.{StillBox}
use Rattle.vcm_hardware.specs.declared.description.Cylinder.{Cylinder}
use Rattle.vcm_hardware.specs.declared.description.Ball.{Ball}
use Rattle.vcm_hardware.specs.declared.description.Choice.{Choice}
use Rattle.vcm_hardware.specs.declared.fault.HardwareKey.{HardwareKey}
use Rattle.vcm_hardware.specs.declared.fault.HardwareKey.TheVariants as keys
use Rattle.vcm_hardware.specs.declared.fault.Where.{Where}
use Rattle.vcm_hardware.specs.declared.fault.Where.TheVariants as stand
use Rattle.vcm_hardware.specs.declared.fault.Refusal.{Refusal}
use Rattle.vcm_hardware.specs.declared.fault.Refusal.TheVariants.{NotToml, BadKey, OutOfRange, NotAlongAxis, TooManyBoxes, UnknownKey, DuplicateName, UnknownTip, NotAStep, LowAboveHigh, TooMany, DuplicateNumber}
use Rattle.vcm_hardware.specs.declared.fault.HardwareFault.{HardwareFault}
use Rattle.vcm_hardware.specs.declared.fault.HardwareFault.TheVariants.{NoMemory, Refused}
use Rattle.vcm_hardware.specs.Names.{label_of, is_probe_name, is_variable}
use Rattle.vcm_hardware.specs.Keys.{key_word, file_keys, head_keys, part_keys, tip_keys, probe_keys}
use Rattle.vcm_hardware.specs.Described.{Hanging, Described}
use Rattle.vcm_hardware.specs.Boxes.{box_count}

-- the first key of a table that isn't one of these
abbrev pub unknown_key : List (List ℕ) → Members → Option (List ℕ)
unknown_key known no_members = None
unknown_key known (member key d ms) = if list_any (λ k. bytes_eq k key) known then unknown_key known ms else Some key

-- a value that was found, else the refusal
abbrev pub or_refused : {X : Type 0} → Refusal → Option X → Result X Refusal
or_refused r None = Err r
or_refused r (Some x) = Ok x

-- a refusal where this holds
abbrev pub refused_if : Bool → Refusal → Result ⊤ Refusal
refused_if b r = if b then Err r else Ok tt

-- no other keys than these
abbrev pub unless_unknown : Where → Option (List ℕ) → Result ⊤ Refusal
unless_unknown place None = Ok tt
unless_unknown place (Some key) = Err (UnknownKey place (label_of 32 key))

abbrev pub only : List (List ℕ) → Members → Where → Result ⊤ Refusal
only known t place = unless_unknown place (unknown_key known t)

-- the text at a key
unfoldable pub text_at : Members → Where → HardwareKey → Result (List ℕ) Refusal
text_at t place k = or_refused (BadKey place k) (option_and_then as_str (get_member (key_word k) t))

-- the label at `name`, and the name of a probe
unfoldable pub name_at : Members → Where → Result (List ℕ) Refusal
name_at t place = text_at t place keys.Name >>= λ text. or_refused (BadKey place keys.Name) (label_of 16 text)

unfoldable pub probe_name_at : Members → Where → Result (List ℕ) Refusal
probe_name_at t place = do
  text ← text_at t place keys.Name
  if is_probe_name text then Ok text else Err (BadKey place keys.Name)

-- a whole number between these
abbrev pub number_between : Option ℤ → Where → HardwareKey → ℤ → ℤ → Result ℤ Refusal
number_between None place k least most = Err (BadKey place k)
number_between (Some z) place k least most = if int_lt z least || int_lt most z then Err (OutOfRange place k) else Ok z

unfoldable pub number_of : Data → Where → HardwareKey → ℤ → ℤ → Result ℤ Refusal
number_of d place k least most = number_between (as_integer d) place k least most

-- the one at a key, and this one where the key is missing
abbrev pub number_in : Option Data → Where → HardwareKey → ℤ → ℤ → Result ℤ Refusal
number_in None place k least most = Err (BadKey place k)
number_in (Some d) place k least most = number_of d place k least most

unfoldable pub number_at : Members → Where → HardwareKey → ℤ → ℤ → Result ℤ Refusal
number_at t place k least most = number_in (get_member (key_word k) t) place k least most

abbrev pub number_or_in : Option Data → Where → HardwareKey → ℤ → ℤ → ℤ → Result ℤ Refusal
number_or_in None place k least most missing = Ok missing
number_or_in (Some d) place k least most missing = number_of d place k least most

unfoldable pub number_or : Members → Where → HardwareKey → ℤ → ℤ → ℤ → Result ℤ Refusal
number_or t place k least most missing = number_or_in (get_member (key_word k) t) place k least most missing

-- whether a coordinate is at most a metre from 0
abbrev pub is_close : ℤ → Bool
is_close z = int_le (negsuc 999999) z && int_le z (pos 1000000)

-- the place of a point, if it is close
abbrev pub close_place : ℤ → ℤ → ℤ → Option Place
close_place x y z = if is_close x && is_close y && is_close z then Some (record { x = x; y = y; z = z }) else None

abbrev pub place_of : Point → Option Place
place_of p = close_place (coordinate p 0) (coordinate p 1) (coordinate p 2)

-- that of a point that may not be there
abbrev pub place_in : Option Point → Where → HardwareKey → Result Place Refusal
place_in None place k = Err (BadKey place k)
place_in (Some p) place k = or_refused (OutOfRange place k) (place_of p)

unfoldable pub place_at : Members → Where → HardwareKey → Result Place Refusal
place_at t place k = place_in (option_and_then point_of (get_member (key_word k) t)) place k

-- an angle in thousandths of a degree: a multiple of 7500
unfoldable pub angle_of : Data → Where → HardwareKey → Result ℤ Refusal
angle_of d place k = do
  z ← number_of d place k (negsuc 179999) (pos 180000)
  if int_eq (int_rem z (pos 7500)) (pos 0) then Ok z else Err (NotAStep place k)

abbrev pub angle_in : Option Data → Where → HardwareKey → Result ℤ Refusal
angle_in None place k = Err (BadKey place k)
angle_in (Some d) place k = angle_of d place k

unfoldable pub angle_at : Members → Where → HardwareKey → Result ℤ Refusal
angle_at t place k = angle_in (get_member (key_word k) t) place k

-- by how much B is mounted otherwise: 0 unless it says so
abbrev pub turn_in : Option Data → Result ℤ Refusal
turn_in None = Ok (pos 0)
turn_in (Some d) = angle_of d stand.Top keys.Turn

unfoldable pub turn_at : Members → Result ℤ Refusal
turn_at t = turn_in (get_member (codes "turn") t)

-- the name of the variable, if it says one
abbrev pub variable_of : Option (List ℕ) → Result (Option (List ℕ)) Refusal
variable_of None = Err (BadKey stand.Top keys.Variable)
variable_of (Some text) = if is_variable text then Ok (Some text) else Err (BadKey stand.Top keys.Variable)

abbrev pub variable_in : Option Data → Result (Option (List ℕ)) Refusal
variable_in None = Ok None
variable_in (Some d) = variable_of (as_str d)

unfoldable pub variable_at : Members → Result (Option (List ℕ)) Refusal
variable_at t = variable_in (get_member (codes "variable") t)

-- whether no coordinate of the low corner is above the high one's
abbrev pub is_below : Place → Place → Bool
is_below low high = int_le low.x high.x && int_le low.y high.y && int_le low.z high.z

-- whether two places differ on just one axis
abbrev pub one_of_three : Bool → Bool → Bool → Bool
one_of_three x y z = (not x && y && z) || (x && not y && z) || (x && y && not z)

abbrev pub differs_once : Place → Place → Bool
differs_once p q = one_of_three (int_eq p.x q.x) (int_eq p.y q.y) (int_eq p.z q.z)

-- box `number` that stands still
unfoldable pub head_in : ℕ → Members → Result StillBox Refusal
head_in number t = do
  checked ← only head_keys t (stand.Head number)
  name ← name_at t (stand.Head number)
  low ← place_at t (stand.Head number) keys.Low
  high ← place_at t (stand.Head number) keys.High
  if is_below low high then Ok (record { name = name; low = low; high = high }) else Err (LowAboveHigh number)

-- part `number`, where parts have this step unless they say another one
unfoldable pub part_in : ℤ → ℕ → Members → Result Cylinder Refusal
part_in step number t = do
  checked ← only part_keys t (stand.Part number)
  name ← name_at t (stand.Part number)
  from ← place_at t (stand.Part number) keys.From
  to ← place_at t (stand.Part number) keys.To
  along ← refused_if (not (differs_once from to)) (NotAlongAxis number)
  diameter ← number_at t (stand.Part number) keys.Diameter (pos 0) (pos 1000000)
  own ← number_or t (stand.Part number) keys.Step (pos 100) (pos 1000000) step
  Ok (record { name = name; from = from; to = to; diameter = diameter; step = own })

-- whether a ball has the name
abbrev pub is_ball_taken : List ℕ → List Ball → Bool
is_ball_taken name above = list_any (λ b. bytes_eq b.name name) above

-- the ball behind those above
unfoldable pub ball_in : List Ball → ℕ → Members → Result Ball Refusal
ball_in above number t = do
  checked ← only tip_keys t (stand.Tip number)
  name ← name_at t (stand.Tip number)
  place ← place_at t (stand.Tip number) keys.At
  diameter ← number_at t (stand.Tip number) keys.Diameter (pos 0) (pos 100000)
  if is_ball_taken name above then Err (DuplicateName (stand.Tip number)) else Ok (record { name = name; at = place; diameter = diameter })

-- whether a probe has the name, or the number
abbrev pub is_name_taken : List ℕ → List Choice → Bool
is_name_taken name above = list_any (λ c. bytes_eq c.name name) above

abbrev pub is_number_taken : ℤ → List Choice → Bool
is_number_taken number above = list_any (λ c. int_eq c.number number) above

-- the place of the ball with this name
abbrev pub place_of_tip : List ℕ → List Ball → Option ℕ
place_of_tip name balls = position (λ b. bytes_eq b.name name) balls

-- a probe, if it has at most 64 boxes
abbrev pub fitting : Hanging → ℕ → Choice → Result Choice Refusal
fitting h number choice = if nat_lt 64 (box_count h choice) then Err (TooManyBoxes number (box_count h choice)) else Ok choice

-- the probe behind those above
unfoldable pub choice_in : Hanging → List Choice → ℕ → Members → Result Choice Refusal
choice_in h above number t = do
  checked ← only probe_keys t (stand.Probe number)
  name ← probe_name_at t (stand.Probe number)
  own ← number_or t (stand.Probe number) keys.Number (pos 1) (pos 999999) (pos number)
  tip ← text_at t (stand.Probe number) keys.Tip
  a ← angle_at t (stand.Probe number) keys.A
  b ← angle_at t (stand.Probe number) keys.B
  other ← refused_if (is_name_taken name above) (DuplicateName (stand.Probe number))
  new ← refused_if (is_number_taken own above) (DuplicateNumber number)
  ball ← or_refused (UnknownTip number) (place_of_tip tip h.balls)
  fitting h number (record { name = name; number = own; tip = ball; a = a; b = b })

-- the rows of an array of tables, from the least to the most of them
abbrev pub rows_of_array : Option Items → HardwareKey → ℕ → ℕ → Result Items Refusal
rows_of_array None k least most = Err (BadKey stand.Top k)
rows_of_array (Some rows) k least most =
    if not (are_tables rows) then Err (BadKey stand.Top k)
    else if nat_lt (count rows) least then Err (BadKey stand.Top k)
    else if nat_lt most (count rows) then Err (TooMany k)
    else Ok rows

unfoldable pub rows_of : Data → HardwareKey → ℕ → ℕ → Result Items Refusal
rows_of d k least most = rows_of_array (as_array d) k least most

-- those at a key; none where there is no such key, and there needn't be
abbrev pub rows_in : Option Data → HardwareKey → ℕ → ℕ → Result Items Refusal
rows_in None k least most = if least == 0 then Ok no_items else Err (BadKey stand.Top k)
rows_in (Some d) k least most = rows_of d k least most

unfoldable pub rows_at : Members → HardwareKey → ℕ → ℕ → Result Items Refusal
rows_at t k least most = rows_in (get_member (key_word k) t) k least most

-- each row is a table
abbrev pub by_table : {X : Type 0} → HardwareKey → (Members → Result X Refusal) → Option Members → Result X Refusal
by_table k read None = Err (BadKey stand.Top k)
by_table k read (Some t) = read t

unfoldable pub head_of : List StillBox → Data → Result StillBox Refusal
head_of above d = by_table keys.Head (head_in (length above + 1)) (as_table d)

unfoldable pub part_of : ℤ → List Cylinder → Data → Result Cylinder Refusal
part_of step above d = by_table keys.Part (part_in step (length above + 1)) (as_table d)

unfoldable pub ball_of : List Ball → Data → Result Ball Refusal
ball_of above d = by_table keys.Tip (ball_in above (length above + 1)) (as_table d)

unfoldable pub choice_of : Hanging → List Choice → Data → Result Choice Refusal
choice_of h above d = by_table keys.Probe (choice_in h above (length above + 1)) (as_table d)

-- what the rows give one after another, each read behind those above
unfoldable pub all_behind : {X : Type 0} → (List X → Data → Result X Refusal) → List X → Items → Result (List X) Refusal
all_behind read above no_items = Ok above
all_behind read above (item d ds) = read above d >>= λ x. all_behind read (above ++ x ∷ []) ds

-- what hangs on the head
unfoldable pub hanging_of : ℤ → ℤ → Members → Result Hanging Refusal
hanging_of step turn t = do
  head_rows ← rows_at t keys.Head 0 32
  heads ← all_behind head_of [] head_rows
  part_rows ← rows_at t keys.Part 1 32
  parts ← all_behind (part_of step) [] part_rows
  tip_rows ← rows_at t keys.Tip 1 32
  balls ← all_behind ball_of [] tip_rows
  Ok (record { turn = turn; heads = heads; parts = parts; balls = balls })

-- the description of a table
unfoldable pub described_of_table : Members → Result Described Refusal
described_of_table t = do
  checked ← only file_keys t stand.Top
  step ← number_at t stand.Top keys.Step (pos 100) (pos 1000000)
  turn ← turn_at t
  variable ← variable_at t
  hanging ← hanging_of step turn t
  rows ← rows_at t keys.Probe 1 64
  choices ← all_behind (choice_of hanging) [] rows
  Ok (record { variable = variable; hanging = hanging; choices = choices })

-- that of the table that a text denotes, if it denotes one
abbrev pub described_of_document : Option Members → Result Described Refusal
described_of_document None = Err NotToml
described_of_document (Some t) = described_of_table t

-- the description of the bytes, which are to be the UTF-8 of a TOML text
unfoldable pub described_of : List ℕ → Result Described Refusal
described_of bytes = if is_utf8 bytes then described_of_document (parse_document bytes) else Err NotToml

-- what reading these bytes may answer: the description or the refusal that they give, or that a growth of memory was refused
abbrev pub IsRead : List ℕ → Result Described HardwareFault → Type 0
IsRead bytes (Ok d) = described_of bytes ≡ Ok d
IsRead bytes (Err NoMemory) = Unit {0}
IsRead bytes (Err (Refused r)) = described_of bytes ≡ Err r
