-- Lines as commands.
use Rattle.std.specs.Prelude.{ℕ, ◌==◌, nat_le, nat_lt, Bool, false, not, ◌&&◌, ◌||◌, List, [], ◌∷◌, length, take, drop, map, codes, Option}
use Rattle.std.specs.Prelude.{Some, None, Result, Ok, Err, if◌then◌else◌}
use Rattle.std.specs.List.{list_all, prefix_len}
use Rattle.std.specs.Char.{is_ascii_digit, is_ascii_alphabetic, is_ascii_alphanumeric}
use Rattle.vcm_num.specs.Literals.{number_after}
use Rattle.vcm_num.specs.Words.{look_up}
use Rattle.vcm_lines.specs.Bytes.{upper}
use Rattle.vcm_console.specs.declared.command.VariableRef.{VariableRef}
use Rattle.vcm_console.specs.declared.command.Command.{Command}
use Rattle.vcm_console.specs.declared.command.Command.TheVariants as c
use Rattle.vcm_console.specs.declared.reply.CommandRefusal.{CommandRefusal}
use Rattle.vcm_console.specs.declared.reply.CommandRefusal.TheVariants.{UnknownCommand, CountOutOfRange}
use Rattle.vcm_console.specs.declared.reply.Reply.{Reply}
use Rattle.vcm_console.specs.declared.reply.Reply.TheVariants.{Refused}
use Rattle.vcm_num.specs.declared.limits.TheConstants.{LONGEST_NAME}

-- the bytes from the first on that is no blank
abbrev pub unblanked : List ℕ → List ℕ
unblanked bs = drop (prefix_len (λ b. b == 32) bs) bs

-- the first word of a line: its bytes from the first that is no blank up to the next blank
abbrev pub first_word : List ℕ → List ℕ
first_word bs = take (prefix_len (λ b. not (b == 32)) (unblanked bs)) (unblanked bs)

-- what follows the first word
abbrev pub behind_word : List ℕ → List ℕ
behind_word bs = drop (prefix_len (λ b. not (b == 32)) (unblanked bs)) (unblanked bs)

-- a number of one to ten digits
abbrev pub number_of : List ℕ → Result ℕ CommandRefusal
number_of w = if nat_lt 0 (length w) && nat_le (length w) 10 && list_all is_ascii_digit w then Ok (number_after 0 w) else Err UnknownCommand

-- a number that may be absent
abbrev pub optional_number : List ℕ → Result (Option ℕ) CommandRefusal
optional_number [] = Ok None
optional_number (b ∷ bs) = elim (number_of (b ∷ bs)) [ Ok n ↦ Ok (Some n) | Err e ↦ Err e ]

-- a number as a count, which is from 1 to 1,000,000
abbrev pub counted : ℕ → Result ℕ CommandRefusal
counted n = if nat_lt 0 n && nat_le n 1000000 then Ok n else Err CountOutOfRange

-- a count, from its argument; the number `absent` stands for no argument
abbrev pub count_of : ℕ → List ℕ → Result ℕ CommandRefusal
count_of absent [] = counted absent
count_of absent (b ∷ bs) = elim (number_of (b ∷ bs)) [ Ok n ↦ counted n | Err e ↦ Err e ]

-- the bytes of names
abbrev pub may_stand_in_name : ℕ → Bool
may_stand_in_name b = is_ascii_alphanumeric b || (b == 95)

-- a name of a feature: one to sixteen letters, digits and underscores, raised to upper case
abbrev pub feature_name_of : List ℕ → Result (List ℕ) CommandRefusal
feature_name_of w =
    if nat_lt 0 (length w) && nat_le (length w) LONGEST_NAME && list_all may_stand_in_name w then Ok (map upper w) else Err UnknownCommand

-- whether a name begins with a letter
abbrev pub begins_with_letter : List ℕ → Bool
begins_with_letter [] = false
begins_with_letter (b ∷ bs) = is_ascii_alphabetic b

-- a name of a variable: that of a feature, but begun with a letter
abbrev pub variable_name_of : List ℕ → Result (List ℕ) CommandRefusal
variable_name_of w = if begins_with_letter w then feature_name_of w else Err UnknownCommand

-- a number sign and an expansion's number, or nothing, which is outside macros
abbrev pub expansion_of : List ℕ → Result ℕ CommandRefusal
expansion_of [] = Ok 0
expansion_of (sign ∷ digits) = number_of digits

-- how long a variable's name is: up to the number sign, or to the end
abbrev pub name_len : List ℕ → ℕ
name_len w = prefix_len (λ b. not (b == 35)) w

-- a variable's name, and behind a number sign the expansion that it belongs to
abbrev pub wanted_of : List ℕ → Result VariableRef CommandRefusal
wanted_of w = elim (variable_name_of (take (name_len w) w)) [
  | Ok name ↦ elim (expansion_of (drop (name_len w) w)) [ Ok n ↦ Ok (record { name = name; expansion = n }) | Err e ↦ Err e ]
  | Err e ↦ Err e
]

-- the command made of its argument, or why the argument is refused
abbrev pub with : {A : Type 0} → (A → Command) → Result A CommandRefusal → Result Command CommandRefusal
with made (Ok x) = Ok (made x)
with made (Err e) = Err e

-- a command without an argument
abbrev pub alone : Command → List ℕ → Result Command CommandRefusal
alone what [] = Ok what
alone what (b ∷ bs) = Err UnknownCommand

-- the words of commands, each with what its argument, which is empty where there is none, makes of it
abbrev pub command_words : List (List ℕ × (List ℕ → Result Command CommandRefusal))
command_words =
    (codes "break", λ a. with c.Break (number_of a))
    ∷ (codes "clear", λ a. with c.Clear (number_of a))
    ∷ (codes "line", λ a. with c.Line (number_of a))
    ∷ (codes "step", λ a. with c.Step (count_of 1 a))
    ∷ (codes "run", λ a. with c.Run (count_of 1000000 a))
    ∷ (codes "watch", λ a. with c.Watch (wanted_of a))
    ∷ (codes "unwatch", λ a. with c.Unwatch (wanted_of a))
    ∷ (codes "where", alone c.Where)
    ∷ (codes "show", λ a. with c.Show (wanted_of a))
    ∷ (codes "feat", λ a. with c.Feat (feature_name_of a))
    ∷ (codes "list", λ a. with c.List (optional_number a))
    ∷ (codes "out", λ a. with c.Out (count_of 10 a))
    ∷ (codes "back", λ a. with c.Back (count_of 1 a))
    ∷ (codes "reverse", alone c.Reverse)
    ∷ (codes "quit", alone c.Quit)
    ∷ []

-- the command of a word and its argument
abbrev pub command_of_words : List ℕ → List ℕ → Result Command CommandRefusal
command_of_words w a = elim (look_up command_words w) [ Some made ↦ made a | None ↦ Err UnknownCommand ]

-- a command, or the reply that refuses it
abbrev pub replied : Result Command CommandRefusal → Result Command Reply
replied (Ok what) = Ok what
replied (Err e) = Err (Refused e)

-- whether a line has at most two words
abbrev pub has_at_most_two_words : List ℕ → Bool
has_at_most_two_words line = nat_lt (length (first_word (behind_word (behind_word line)))) 1

-- the command that a line spells, or why it is refused
abbrev pub command_or_refusal : List ℕ → Result Command CommandRefusal
command_or_refusal line =
    if nat_le (length line) 256 && has_at_most_two_words line
    then command_of_words (first_word line) (first_word (behind_word line))
    else Err UnknownCommand

-- the same, with the reply that refuses it
abbrev pub command_of : List ℕ → Result Command Reply
command_of line = replied (command_or_refusal line)

-- how many steps a command may add
abbrev pub steps_of : Command → ℕ
steps_of (c.Step k) = k
steps_of (c.Run k) = k
steps_of _ = 0
