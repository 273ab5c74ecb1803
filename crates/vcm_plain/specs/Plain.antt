-- A text with its lengths as whole micrometres.
use Rattle.std.specs.Prelude.{ℕ, suc, is_some, codes, ◌==◌, Bool, true, false, not, ◌&&◌, ◌||◌, nat_eq, nat_lt, if◌then◌else◌, List, [], ◌∷◌, ◌++◌, map}
use Rattle.std.specs.List.{list_all, filter}
use Rattle.std.specs.Str.{bytes_eq}
use Rattle.vcm_num.specs.Words.{look_up}
use Rattle.vcm_lines.specs.Bytes.{upper}
use Rattle.vcm_heads.specs.Heads.{found_or}
use Rattle.vcm_functions.specs.Folded.{folded}
use Rattle.vcm_plain.specs.declared.unit.Unit.{Unit}
use Rattle.vcm_plain.specs.declared.unit.Unit.TheVariants.{Millimetre}
use Rattle.vcm_plain.specs.declared.unit.Lengths.{Lengths}
use Rattle.vcm_plain.specs.declared.lone.Lone.{Lone}
use Rattle.vcm_plain.specs.declared.plain.Mode.{Mode}
use Rattle.vcm_plain.specs.declared.plain.Mode.TheVariants as mode
use Rattle.vcm_plain.specs.declared.plain.Kind.{Kind}
use Rattle.vcm_plain.specs.declared.plain.Kind.TheVariants as kind
use Rattle.vcm_plain.specs.declared.plain.Place.{Place}
use Rattle.vcm_plain.specs.Numbers.{unread, lone_from, is_lone, is_space, rounded, component, written_or}
use Rattle.vcm_plain.specs.Units.{micrometres, factor, unit_named, is_same_unit}
use Rattle.vcm_plain.specs.Fine.{exact_text}

-- ---- where the reading of a text stands

-- what is read: the place, the bytes that are open (of the head, or of a field), and those that are written
pub record Reading : Type 0 where
  pub place : Place
  pub field : List ℕ
  pub out : List ℕ

-- a statement begins, in this unit
abbrev pub start : Unit → Place
start u = record { mode = mode.Head; kind = kind.Other; first = true; numbers = 0; broken = false; unit = u }

-- ---- heads

-- the word that bytes are: without blanks, in upper case
abbrev pub word_of : List ℕ → List ℕ
word_of bs = map upper (filter (λ b. not (is_space b)) bs)

-- what a statement's numbers are, by its major word
abbrev pub kind_of : List ℕ → Kind
kind_of word = found_or kind.Other (look_up
    ((codes "GOTO", kind.Places)
    ∷ (codes "PTMEAS", kind.Places)
    ∷ (codes "FEAT", kind.Places)
    ∷ (codes "GOTARG", kind.Places)
    ∷ (codes "FROM", kind.Places)
    ∷ (codes "TRANS", kind.Lengths)
    ∷ (codes "SNSET", kind.Lengths)
    ∷ (codes "SNSDEF", kind.Sensor)
    ∷ (codes "UNITS", kind.Units)
    ∷ (codes "ASSIGN", kind.Values)
    ∷ (codes "IF", kind.Values)
    ∷ (codes "DO", kind.Values)
    ∷ (codes "SELECT", kind.Values)
    ∷ (codes "CALL", kind.Values)
    ∷ []) word)

-- whether a text's lengths are micrometres as they are, rounded at most
abbrev pub is_plain_unit : Unit → Bool
is_plain_unit u = is_same_unit u Millimetre

-- a major word: in another unit than the language's the values of features aren't its own, so OBTAIN gives none
abbrev pub head_out : Unit → List ℕ → List ℕ
head_out u bs = if not (is_plain_unit u) && bytes_eq (word_of bs) (codes "OBTAIN") then codes "ASSIGN" else bs

-- ---- fields

-- whether a word says of what kind a place or a shift is
abbrev pub is_kind_word : List ℕ → Bool
is_kind_word word = found_or false (look_up
    ((codes "CART", true)
    ∷ (codes "POL", true)
    ∷ (codes "INCR", true)
    ∷ (codes "POINT", true)
    ∷ (codes "PLANE", true)
    ∷ (codes "XORIG", true)
    ∷ (codes "YORIG", true)
    ∷ (codes "ZORIG", true)
    ∷ []) word)

-- whether a word says which setting it is
abbrev pub is_setting_word : List ℕ → Bool
is_setting_word word = found_or false (look_up
    ((codes "APPRCH", true)
    ∷ (codes "RETRCT", true)
    ∷ (codes "SEARCH", true)
    ∷ (codes "DEPTH", true)
    ∷ (codes "CLRSRF", true)
    ∷ (codes "OFF", true)
    ∷ []) word)

-- whether a word is one of fields that are no lengths
abbrev pub is_kept : List ℕ → Bool
is_kept word = is_kind_word word || is_setting_word word

-- whether a field is such a word
abbrev pub is_kept_word : List ℕ → Bool
is_kept_word bs = is_kept (word_of bs)

-- a piece of a field that is broken in two: in another unit than the language's it is put as something that isn't known
abbrev pub other_field : Unit → List ℕ → List ℕ
other_field u bs = if is_plain_unit u || is_kept_word bs then bs else 42 ∷ bs

-- an expression in the language's forms: functions in forms without them, and then numbers with more than three decimals as quotients
abbrev pub plain_expression : List ℕ → List ℕ
plain_expression bs = exact_text (folded bs)

-- an expression of lengths in this unit, as one of millimetres
abbrev pub converted : Unit → List ℕ → List ℕ
converted u bs = 40 ∷ plain_expression bs ++ 41 ∷ factor u

-- a field that is an expression, or a word
abbrev pub expression_field : Unit → List ℕ → List ℕ
expression_field u bs = if is_plain_unit u then plain_expression bs else if is_kept_word bs then bs else converted u bs

-- a field of values, in any unit; one that is broken in two stays
abbrev pub value_field : Bool → List ℕ → List ℕ
value_field broken bs = if broken then bs else plain_expression bs

-- whether one of a statement's numbers, behind so many of them, is of a direction: those behind the first three of a place, or behind the first of a step
abbrev pub is_direction : Kind → ℕ → Bool
is_direction kind.Places n = not (nat_lt n 3)
is_direction kind.Polar n = not (nat_lt n 3)
is_direction kind.Step n = not (nat_eq n 0)
is_direction k n = false

-- whether one of a statement's numbers, behind so many of them, is an angle: the second of a polar place
abbrev pub is_angle : Kind → ℕ → Bool
is_angle kind.Polar n = nat_eq n 1
is_angle k n = false

-- the unit that it has: neither a direction nor an angle has that of lengths
abbrev pub unit_of : Kind → ℕ → Unit → Unit
unit_of k n u = if is_direction k n || is_angle k n then Millimetre else u

-- a number in whole micrometres, or in thousandths
abbrev pub size_at : Unit → Kind → ℕ → Lone → ℕ
size_at u k n l = if is_direction k n then component l else rounded (micrometres u) l

-- a field that is a number: an angle stays, and in the language's unit what has three decimals at most
abbrev pub number_field : Unit → Kind → ℕ → List ℕ → Lone → List ℕ
number_field u k n bs l = if is_angle k n || (is_plain_unit u && not l.fine) then bs else written_or bs l.negative (size_at u k n l)

-- a field of lengths
abbrev pub length_field : Unit → Kind → ℕ → List ℕ → Lone → List ℕ
length_field u k n bs l = if is_lone l then number_field u k n bs l else expression_field (unit_of k n u) bs

-- a field of a sensor's definition, of which the width of its tip alone is looked at: in another unit than the language's all its numbers are put as lengths
abbrev pub sensor_field : Bool → Unit → ℕ → List ℕ → List ℕ
sensor_field broken u n bs =
    if is_plain_unit u || (broken || not (is_lone (lone_from unread bs))) then bs else number_field u kind.Sensor n bs (lone_from unread bs)

-- the first field of UNITS, the word of a unit
abbrev pub is_unit_field : Place → List ℕ → Bool
is_unit_field p bs = (p.first && not p.broken) && is_some (unit_named (word_of bs))

-- it is put as the language's unit, where lengths are converted
abbrev pub units_field : Bool → Place → List ℕ → List ℕ
units_field several p bs = if (several || not (is_plain_unit p.unit)) && is_unit_field p bs then codes "MM" else bs

-- a field of a statement of some kind
abbrev pub field_by : Bool → Kind → Place → List ℕ → List ℕ
field_by several kind.Other p bs = bs
field_by several kind.Units p bs = units_field several p bs
field_by several kind.Values p bs = value_field p.broken bs
field_by several kind.Sensor p bs = sensor_field p.broken p.unit p.numbers bs
field_by several k p bs = if p.broken then other_field p.unit bs else length_field p.unit k p.numbers bs (lone_from unread bs)

-- the field that is open, as it is written
abbrev pub field_out : Bool → Place → List ℕ → List ℕ
field_out several p bs = field_by several p.kind p bs

-- whether a statement is UNITS
abbrev pub is_units : Kind → Bool
is_units kind.Units = true
is_units k = false

-- the unit behind a field: where a text has several, the first field of UNITS sets it
abbrev pub unit_behind : Bool → Place → List ℕ → Unit
unit_behind several p bs =
    if several && (is_units p.kind && (p.first && not p.broken)) then found_or p.unit (unit_named (word_of bs)) else p.unit

-- behind a word as many numbers as before it stand above, and behind any other field one more, of which the first three count
abbrev pub counted : Bool → ℕ → ℕ
counted true n = n
counted false n = if nat_lt n 3 then suc n else n

-- whether a field is this word
abbrev pub is_word : List ℕ → List ℕ → Bool
is_word word bs = bytes_eq (word_of bs) word

-- what a statement's numbers are behind a field
abbrev pub kind_behind : Kind → List ℕ → Kind
kind_behind kind.Places bs = if is_word (codes "POL") bs then kind.Polar else if is_word (codes "INCR") bs then kind.Step else kind.Places
kind_behind k bs = k

-- the next field
abbrev pub next_field : Bool → Place → List ℕ → Place
next_field several p bs =
    record p { kind = kind_behind p.kind bs; first = false; numbers = counted (is_kept_word bs) p.numbers; broken = false; unit = unit_behind several p bs }

-- whether a field has nothing but blanks
abbrev pub is_blank_field : List ℕ → Bool
is_blank_field bs = list_all is_space bs

-- ---- each byte

-- the reading goes on with an open field, and nothing written
abbrev pub onto : Reading → Mode → ℕ → Reading
onto r m b = record { place = record r.place { mode = m }; field = r.field ++ b ∷ []; out = r.out }

-- the reading goes on with these bytes written, and no open field
abbrev pub wrote : Reading → Place → List ℕ → Reading
wrote r p bs = record { place = p; field = []; out = r.out ++ bs }

-- in a head
abbrev pub head_behind : Reading → ℕ → Reading
head_behind r b =
    if b == 47 then wrote r (record (start r.place.unit) { mode = mode.Fields; kind = kind_of (word_of r.field) }) (head_out r.place.unit r.field ++ 47 ∷ [])
    else if b == 36 then record r { place = record r.place { mode = mode.HeadDollar } }
    else if b == 39 then wrote r (record r.place { mode = mode.HeadText }) (r.field ++ 39 ∷ [])
    else if b == 10 then wrote r (start r.place.unit) (r.field ++ 10 ∷ [])
    else if b == 61 || (b == 40 || (b == 41 || b == 44)) then wrote r r.place (r.field ++ b ∷ [])
    else onto r mode.Head b

-- behind a dollar, in a head
abbrev pub head_dollar_behind : Reading → ℕ → Reading
head_dollar_behind r b =
    if b == 36 then wrote r (record r.place { mode = mode.Comment }) (r.field ++ 36 ∷ 36 ∷ [])
    else if b == 10 then wrote r (record r.place { mode = mode.Head }) (r.field ++ 36 ∷ 10 ∷ [])
    else wrote r (record r.place { mode = mode.HeadBroken }) (r.field ++ 36 ∷ b ∷ [])

-- in fields
abbrev pub fields_behind : Bool → Reading → ℕ → Reading
fields_behind several r b =
    if b == 44 then wrote r (next_field several r.place r.field) (field_out several r.place r.field ++ 44 ∷ [])
    else if b == 10 then wrote r (start (unit_behind several r.place r.field)) (field_out several r.place r.field ++ 10 ∷ [])
    else if b == 36 then record r { place = record r.place { mode = mode.FieldsDollar } }
    else if b == 39 then onto r mode.FieldText b
    else onto r mode.Fields b

-- a field that goes on in the line below
abbrev pub broken_place : Reading → Mode → Place
broken_place r m = record r.place { mode = m; broken = r.place.broken || not (is_blank_field r.field) }

-- and as it is written: as a field that is no number
abbrev pub broken_out : Bool → Reading → List ℕ
broken_out several r = if is_blank_field r.field then r.field else field_by several r.place.kind (record r.place { broken = true }) r.field

-- behind a dollar, in fields
abbrev pub fields_dollar_behind : Bool → Reading → ℕ → Reading
fields_dollar_behind several r b =
    if b == 36 then wrote r (record r.place { mode = mode.Comment; unit = unit_behind several r.place r.field }) (field_out several r.place r.field ++ 36 ∷ 36 ∷ [])
    else if b == 10 then wrote r (broken_place r mode.Fields) (broken_out several r ++ 36 ∷ 10 ∷ [])
    else wrote r (broken_place r mode.FieldsBroken) (broken_out several r ++ 36 ∷ b ∷ [])

-- in a text of a head, in a comment, and between a dollar and the end of its line
abbrev pub text_behind : Reading → ℕ → Reading
text_behind r b =
    if b == 39 then wrote r (record r.place { mode = mode.Head }) (39 ∷ [])
    else if b == 10 then wrote r (start r.place.unit) (10 ∷ [])
    else wrote r r.place (b ∷ [])

abbrev pub comment_behind : Reading → ℕ → Reading
comment_behind r b = if b == 10 then wrote r (start r.place.unit) (10 ∷ []) else wrote r r.place (b ∷ [])

abbrev pub broken_behind : Mode → Reading → ℕ → Reading
broken_behind m r b = if b == 10 then wrote r (record r.place { mode = m }) (10 ∷ []) else wrote r r.place (b ∷ [])

-- in a text of a field
abbrev pub field_text_behind : Reading → ℕ → Reading
field_text_behind r b =
    if b == 39 then onto r mode.Fields b
    else if b == 10 then wrote r (start r.place.unit) (r.field ++ 10 ∷ [])
    else onto r mode.FieldText b

-- one more byte
abbrev pub read_behind : Bool → Mode → Reading → ℕ → Reading
read_behind several mode.Head r b = head_behind r b
read_behind several mode.HeadDollar r b = head_dollar_behind r b
read_behind several mode.HeadText r b = text_behind r b
read_behind several mode.HeadBroken r b = broken_behind mode.Head r b
read_behind several mode.Fields r b = fields_behind several r b
read_behind several mode.FieldsDollar r b = fields_dollar_behind several r b
read_behind several mode.FieldText r b = field_text_behind r b
read_behind several mode.FieldsBroken r b = broken_behind mode.Fields r b
read_behind several mode.Comment r b = comment_behind r b

-- all bytes
abbrev pub read_from : Bool → Reading → List ℕ → Reading
read_from several r [] = r
read_from several r (b ∷ bs) = read_from several (read_behind several r.place.mode r b) bs

-- nothing is read, in this unit
abbrev pub nothing_read : Unit → Reading
nothing_read u = record { place = start u; field = []; out = [] }

-- what is open at the end, as it is written
abbrev pub last_out : Bool → Mode → Place → List ℕ → List ℕ
last_out several mode.Fields p bs = field_out several p bs
last_out several mode.HeadDollar p bs = bs ++ 36 ∷ []
last_out several mode.FieldsDollar p bs = bs ++ 36 ∷ []
last_out several m p bs = bs

-- all that is written
abbrev pub written_out : Bool → Reading → List ℕ
written_out several r = r.out ++ last_out several r.place.mode r.place r.field

-- a text with its lengths, which are read in this way, as whole micrometres
abbrev pub plain : Lengths → List ℕ → List ℕ
plain l text = written_out l.several (read_from l.several (nothing_read l.unit) text)
