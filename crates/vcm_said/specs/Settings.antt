-- What SNSET says, pair by pair.
use Rattle.std.specs.Prelude.{ℕ, zero, suc, codes, ◌||◌, ◌&&◌, Bool, true, false, if◌then◌else◌, List, [], ◌∷◌, ◌++◌, Option, Some, None, Result, Ok, Err}
use Rattle.std.specs.Str.{bytes_eq}
use Rattle.vcm_num.specs.Words.{look_up}
use Rattle.vcm_spec.specs.declared.words.Setting.{Setting}
use Rattle.vcm_spec.specs.declared.words.Setting.TheVariants.{Approach, Search, Retract, Depth}
use Rattle.vcm_items.specs.NameBytes.{is_variable_name}
use Rattle.vcm_lines.specs.declared.fault.FaultCode.{FaultCode}
use Rattle.vcm_lines.specs.declared.phrase.Cutter.TheVariants.{AtComma}
use Rattle.vcm_lines.specs.Lexemes.{Lexeme, Run, Star}
use Rattle.vcm_lines.specs.Cuts.{before, after}
use Rattle.vcm_expr.specs.Source.{Source}
use Rattle.vcm_expr.specs.Parsing.{expr_of}
use Rattle.vcm_forms.specs.declared.statement.Form.{Form}
use Rattle.vcm_forms.specs.declared.statement.Form.TheVariants.{Configure}
use Rattle.vcm_events.specs.declared.event.Event.TheVariants as events
use Rattle.vcm_events.specs.Events.{lost, gained}
use Rattle.vcm_events.specs.Unknown.{unknown}
use Rattle.vcm_said.specs.declared.settings.Word.{Word}
use Rattle.vcm_said.specs.declared.settings.Word.TheVariants as words
use Rattle.vcm_said.specs.declared.settings.TheConstants.{MOST_FIELDS}

-- the words of SNSET: three that are followed, those that are about points of the machine's own, and the clearance surface
abbrev pub word_named : List ℕ → Option Word
word_named word = look_up
    ((codes "APPRCH", words.Approach)
    ∷ (codes "RETRCT", words.Retract)
    ∷ (codes "SEARCH", words.Search)
    ∷ (codes "CLRSRF", words.Clearance)
    ∷ (codes "DEPTH", words.Own)
    ∷ (codes "VA", words.Own)
    ∷ (codes "VF", words.Own)
    ∷ (codes "VL", words.Own)
    ∷ (codes "VR", words.Own)
    ∷ (codes "FOCUSY", words.Own)
    ∷ (codes "FOCUSN", words.Own)
    ∷ (codes "MINCON", words.Own)
    ∷ []) word

-- a word that is known, or else another word, or none, as a number is
abbrev pub word_or : Bool → Option Word → Word
word_or is_word (Some w) = w
word_or true None = words.Other
word_or false None = words.Value

-- the word that a field is: one that is known, one that isn't, or none
abbrev pub word_of : List ℕ → Word
word_of word = word_or (is_variable_name word) (word_named word)

-- the same of the words of a field: what stands in a title is a value; in another unit than millimetres another word has a star in front
abbrev pub field_word : List Lexeme → Word
field_word (Run w ∷ []) = word_of w
field_word (Star ∷ Run w ∷ []) = word_of w
field_word ws = words.Value

-- all distances, and whether there is a clearance surface, aren't known
abbrev pub all_lost : List Form
all_lost = lost events.Approach ∷ lost events.Search ∷ lost events.Retract ∷ lost events.Clearance ∷ []

-- an expression that was read, or else one whose value isn't known
abbrev pub value_or : Result Source FaultCode → Source
value_or (Ok e) = e
value_or (Err c) = unknown

-- a setting with the field behind its word; without one it isn't known
abbrev pub set_to : Setting → Option (List Lexeme) → List Form
set_to which None = Configure which unknown ∷ []
set_to which (Some ws) = Configure which (value_or (expr_of (before AtComma ws))) ∷ []

-- whether a field is OFF
abbrev pub is_off_word : List Lexeme → Bool
is_off_word (Run w ∷ []) = bytes_eq w (codes "OFF")
is_off_word ws = false

-- the same of the first of fields, if there are
abbrev pub is_off : Option (List Lexeme) → Bool
is_off None = false
is_off (Some ws) = is_off_word (before AtComma ws)

-- what a word says, with the fields behind it
abbrev pub word_said : Word → Option (List Lexeme) → List Form
word_said words.Approach rest = set_to Approach rest
word_said words.Retract rest = set_to Retract rest
word_said words.Search rest = set_to Search rest
word_said words.Clearance rest = if is_off rest then gained events.Clearance ∷ [] else lost events.Clearance ∷ []
word_said words.Own rest = gained events.Depth ∷ []
word_said words.Other rest = all_lost
word_said words.Value rest = []

-- whether the field behind a word belongs to it
abbrev pub takes_value : Word → Bool
takes_value words.Approach = true
takes_value words.Retract = true
takes_value words.Search = true
takes_value words.Clearance = true
takes_value w = false

-- the fields behind the first one, if there are
abbrev pub behind : Option (List Lexeme) → Option (List Lexeme)
behind None = None
behind (Some ws) = after AtComma ws

-- the fields behind a word and its value
abbrev pub behind_word : Word → Option (List Lexeme) → Option (List Lexeme)
behind_word w rest = if takes_value w then behind rest else rest

-- what the first of fields says, a word that may have a value behind it
abbrev pub pair_said : List Lexeme → List Form
pair_said ws = word_said (field_word (before AtComma ws)) (after AtComma ws)

-- the fields behind it
abbrev pub behind_pair : List Lexeme → Option (List Lexeme)
behind_pair ws = behind_word (field_word (before AtComma ws)) (after AtComma ws)

-- what fields say, one pair behind the other; of more than these nothing is known
unfoldable pub pairs_said : ℕ → Option (List Lexeme) → List Form
pairs_said n None = []
pairs_said zero (Some ws) = all_lost
pairs_said (suc n) (Some ws) = pair_said ws ++ pairs_said n (behind_pair ws)

-- what the fields of SNSET say; without fields nothing is known
abbrev pub settings_by : Option (List Lexeme) → List Form
settings_by None = all_lost
settings_by (Some ws) = pairs_said MOST_FIELDS (Some ws)
