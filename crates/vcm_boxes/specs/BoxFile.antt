-- What the bytes of a probe file give: boxes, or the first refusal.
use Rattle.std.specs.Prelude.{◌≡◌, ℕ, suc, zero, ◌+◌, List, [], ◌∷◌, ◌++◌, length, Option, Some, None, Result, Ok, Err}
use Rattle.std.specs.Prelude.{Bool, not, nat_lt, codes, if◌then◌else◌}
use Rattle.std.specs.List.{list_any}
use Rattle.std.specs.Option.{option_and_then}
use Rattle.std.specs.Str.{is_utf8, bytes_eq}
use Rattle.toml.specs.Data.{Data, Items, no_items, item, Members, no_members, member, get_member, as_str, as_array, as_table}
use Rattle.toml.specs.Parse.{parse_document}
use Rattle.vcm_num.specs.declared.point.Point.{Point}
use Rattle.vcm_num.specs.Point.{coordinate, is_below}
use Rattle.vcm_spec.specs.Results.{◌>>=◌}
use Rattle.vcm_part.specs.PartFile.{point_of, are_tables, count}
use Rattle.vcm_boxes.specs.declared.boxes.ProbeBox.{ProbeBox}
use Rattle.vcm_boxes.specs.declared.fault.BoxKey.{BoxKey}
use Rattle.vcm_boxes.specs.declared.fault.BoxKey.TheVariants.{Name, Low, High}
use Rattle.vcm_boxes.specs.declared.fault.Refusal.{Refusal}
use Rattle.vcm_boxes.specs.declared.fault.Refusal.TheVariants.{NotToml, UnknownKey, NoBoxes, TooManyBoxes, UnknownBoxKey, BadKey, OutOfRange, LowAboveHigh}
use Rattle.vcm_boxes.specs.declared.fault.Refusal.TheVariants.{DuplicateName}
use Rattle.vcm_boxes.specs.declared.fault.BoxesFault.{BoxesFault}
use Rattle.vcm_boxes.specs.declared.fault.BoxesFault.TheVariants.{NoMemory, Refused}
use Rattle.vcm_boxes.specs.Labels.{label_of}
use Rattle.vcm_boxes.specs.Keys.{key_word, file_keys, box_keys}
use Rattle.vcm_boxes.specs.Boxes.{is_corner, is_taken}

-- the first key of a table that isn't one of these
abbrev pub unknown_key : List (List ℕ) → Members → Option (List ℕ)
unknown_key known no_members = None
unknown_key known (member key d ms) = if list_any (λ k. bytes_eq k key) known then unknown_key known ms else Some key

-- what is read, unless there is a key that isn't known
abbrev pub unless_unknown : {X : Type 0} → (Option (List ℕ) → Refusal) → Option (List ℕ) → Result X Refusal → Result X Refusal
unless_unknown refusal None read = read
unless_unknown refusal (Some key) read = Err (refusal (label_of 32 key))

-- the name of a box, a label of at most 16 bytes, else the refusal
abbrev pub given_name : ℕ → Option (List ℕ) → Result (List ℕ) Refusal
given_name number None = Err (BadKey number Name)
given_name number (Some name) = Ok name

-- that of a table
unfoldable pub name_at : ℕ → Members → Result (List ℕ) Refusal
name_at number t = given_name number (option_and_then (λ d. option_and_then (label_of 16) (as_str d)) (get_member (key_word Name) t))

-- a corner, if there is one and it is in range, else the refusal
abbrev pub near_corner : ℕ → BoxKey → Option Point → Result Point Refusal
near_corner number key None = Err (BadKey number key)
near_corner number key (Some p) = if is_corner p then Ok p else Err (OutOfRange number key)

-- that at a key of a table
unfoldable pub corner_at : ℕ → BoxKey → Members → Result Point Refusal
corner_at number key t = near_corner number key (option_and_then point_of (get_member (key_word key) t))

-- the box of these, unless a corner is above the other, or a box above has the name
abbrev pub box_between : List ProbeBox → ℕ → List ℕ → Point → Point → Result ProbeBox Refusal
box_between above number name low high =
    if not (is_below (coordinate low) (coordinate high)) then Err (LowAboveHigh number)
    else if is_taken name above then Err (DuplicateName number)
    else Ok (record { name = name; block = record { low = low; high = high } })

-- the box of a table, which comes behind those above
abbrev pub box_in : List ProbeBox → ℕ → Members → Result ProbeBox Refusal
box_in above number t = unless_unknown (UnknownBoxKey number) (unknown_key box_keys t) (do
  name ← name_at number t
  low ← corner_at number Low t
  high ← corner_at number High t
  box_between above number name low high)

-- the box of a value, which is a table
abbrev pub box_by : List ProbeBox → Option Members → Result ProbeBox Refusal
box_by above None = Err NoBoxes
box_by above (Some t) = box_in above (length above + 1) t

unfoldable pub box_of : List ProbeBox → Data → Result ProbeBox Refusal
box_of above d = box_by above (as_table d)

-- those above, and the boxes of the items behind them
unfoldable pub boxes_behind : List ProbeBox → Items → Result (List ProbeBox) Refusal
boxes_behind above no_items = Ok above
boxes_behind above (item d ds) = box_of above d >>= λ b. boxes_behind (above ++ b ∷ []) ds

-- the boxes of an array of tables, if there are 1 to 16
abbrev pub boxes_of_rows : Items → Result (List ProbeBox) Refusal
boxes_of_rows rows =
    if not (are_tables rows) then Err NoBoxes
    else if nat_lt 16 (count rows) then Err TooManyBoxes
    else if nat_lt 0 (count rows) then boxes_behind [] rows
    else Err NoBoxes

-- those of an array, if there is one
abbrev pub boxes_of_array : Option Items → Result (List ProbeBox) Refusal
boxes_of_array None = Err NoBoxes
boxes_of_array (Some rows) = boxes_of_rows rows

-- the boxes of a table
unfoldable pub boxes_of_table : Members → Result (List ProbeBox) Refusal
boxes_of_table t = unless_unknown UnknownKey (unknown_key file_keys t) (boxes_of_array (option_and_then as_array (get_member (codes "box") t)))

-- the boxes of the table that a text denotes, if it denotes one
abbrev pub boxes_of_document : Option Members → Result (List ProbeBox) Refusal
boxes_of_document None = Err NotToml
boxes_of_document (Some t) = boxes_of_table t

-- the boxes of the bytes, which are to be the UTF-8 of a TOML text
unfoldable pub boxes_of : List ℕ → Result (List ProbeBox) Refusal
boxes_of bytes = if is_utf8 bytes then boxes_of_document (parse_document bytes) else Err NotToml

-- what reading these bytes may answer: the boxes or the refusal that they give, or that a growth of memory was refused
abbrev pub AreBoxesRead : List ℕ → Result (List ProbeBox) BoxesFault → Type 0
AreBoxesRead bytes (Ok boxes) = boxes_of bytes ≡ Ok boxes
AreBoxesRead bytes (Err NoMemory) = Unit {0}
AreBoxesRead bytes (Err (Refused r)) = boxes_of bytes ≡ Err r
