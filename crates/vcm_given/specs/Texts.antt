-- Answers that are texts.
use Rattle.std.specs.Prelude.{ℕ, pos, nat_le, if◌then◌else◌, List, [], ◌∷◌, ◌++◌, Option, Some, None}
use Rattle.std.specs.List.{flat_map}
use Rattle.vcm_lines.specs.declared.logical.Logical.{Logical}
use Rattle.vcm_heads.specs.Steps.{◌>>=◌}
use Rattle.vcm_compared.specs.declared.texts.Held.{Held}
use Rattle.vcm_compared.specs.declared.texts.Texts.{Texts}
use Rattle.vcm_compared.specs.declared.texts.TheConstants.{MOST_TEXTS}
use Rattle.vcm_compared.specs.Texts.{held_named, number_for}
use Rattle.vcm_compared.specs.Counted.{counted}
use Rattle.vcm_given.specs.declared.choices.Value.{Value}
use Rattle.vcm_given.specs.declared.choices.Value.TheVariants as value
use Rattle.vcm_given.specs.declared.choices.Answer.{Answer}

-- the text that a value is
abbrev pub text_in : Value → List (List ℕ)
text_in (value.Text x) = x ∷ []
text_in v = []

-- the texts that are given
abbrev pub given_texts : List Answer → List (List ℕ)
given_texts answers = flat_map (λ a. text_in a.value) answers

-- the number of a text, as a value
abbrev pub numbered : ℕ → Option Value
numbered n = if nat_le n MOST_TEXTS then Some (value.Int (pos n)) else None

-- the value of a variable that is counted: a text has its number, and anything else is no value for it
abbrev pub counted_value : Texts → Held → Value → Option Value
counted_value t h (value.Text x) = number_for t h.most x >>= numbered
counted_value t h v = None

-- the value of any other variable: a text is none for it
abbrev pub other_value : Value → Option Value
other_value (value.Text x) = None
other_value v = Some v

-- the value of a variable
abbrev pub value_for : Texts → Option Held → Value → Option Value
value_for t None v = other_value v
value_for t (Some h) v = counted_value t h v

-- an answer with this value
abbrev pub answered_by : List ℕ → Option Value → List Answer
answered_by name None = []
answered_by name (Some v) = record { variable = name; value = v } ∷ []

-- an answer, with the number of its text; none where it doesn't fit its variable
abbrev pub fitting : Texts → Answer → List Answer
fitting t a = answered_by a.variable (value_for t (held_named a.variable t.held) a.value)

-- the answers that fit their variables
abbrev pub fitting_answers : List Answer → List Logical → List Answer
fitting_answers answers ls = flat_map (fitting (counted (given_texts answers) ls)) answers
