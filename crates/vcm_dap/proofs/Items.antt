-- Items of requests, and the lines that they ask for.
use Rattle.std.proofs.Common.{◌≡◌, ℕ, ◌≤◌, Bool, true, false, List, [], ◌∷◌, ◌++◌, length, drop, refl, sym, ap, ◌∙◌}
use Rattle.std.specs.Prelude.{Option, Some, None, option_map, ok_or, MatchOption}
use Rattle.std.specs.Str.Parse.{ParsesUnsigned}
use Rattle.std.proofs.lemmas.List.{append-nil, drop_all}
use Rattle.json.specs.Json.{Json, no_items, item}
use Rattle.json.specs.Find.{as_number}
use Rattle.json.specs.Value.{items_view}
use Rattle.json.specs.declared.value.Value.{Value}
use Rattle.vcm_dap.specs.Asked.{has_condition, line_value, line_in, IsNumber, AsksFor, AskLines}
use Rattle.vcm_dap.specs.Laws.{LinesAreOne}

-- no item is left
pub lines_all : {A : Type 0} (f : Bool) (vs : List (Value A)) (i : ℕ) (asked : List (Option ℕ)) → length vs ≤ i
    → ((rest : List (Option ℕ)) → AskLines f (items_view (drop i vs)) rest → AskLines f (items_view vs) (asked ++ rest)) → AskLines f (items_view vs) asked
lines_all f vs i asked l h = rw (← append-nil asked) (h [] (rw (drop_all i vs l) tt))

-- a text is one number
text_once : (text : List ℕ) (a b : Option ℕ) → ParsesUnsigned {E = List ℕ} 64 10 text (ok_or a text) → ParsesUnsigned {E = List ℕ} 64 10 text (ok_or b text) → a ≡ b
text_once text None None h k = refl
text_once text None (Some y) h k = absurd (h k.0)
text_once text (Some x) None h k = absurd (k h.0)
text_once text (Some x) (Some y) h k = ap (λ n. Some n) (h.1 ∙ sym k.1)

-- a value is one number
number_once : (value : Json) (a b : Option ℕ) → IsNumber value a → IsNumber value b → a ≡ b
number_once value a b = by (as_number value)
  where
    Is : Option (List ℕ) → Option ℕ → Type 0
    Is told number = MatchOption told (number ≡ None) (λ text. ParsesUnsigned {E = List ℕ} 64 10 text (ok_or number text))

    by : (told : Option (List ℕ)) → Is told a → Is told b → a ≡ b
    by None h k = h ∙ sym k
    by (Some text) h k = text_once text a b h k

-- an item asks for one line
line_once : (f is_more : Bool) (value : Json) (a b : Option ℕ) → AsksFor f is_more value a → AsksFor f is_more value b → a ≡ b
line_once f true value a b h k = h ∙ sym k
line_once f false value a b h k = h.2 ∙ ap (λ n. option_map (line_in f) n) (number_once value h.0 k.0 h.1 k.1) ∙ sym k.2

-- items ask for one list of lines
pub lines_once : LinesAreOne
lines_once f no_items [] [] h k = refl
lines_once f no_items [] (b ∷ others) h k = absurd k
lines_once f no_items (a ∷ asked) others h k = absurd h
lines_once f (item j js) [] others h k = absurd h
lines_once f (item j js) (a ∷ asked) [] h k = absurd k
lines_once f (item j js) (a ∷ asked) (b ∷ others) h k =
    both (line_once f (has_condition j) (line_value j) a b h.0 k.0) (lines_once f js asked others h.1 k.1)
  where
    both : a ≡ b → asked ≡ others → a ∷ asked ≡ b ∷ others
    both e es = rw (e, es) refl
