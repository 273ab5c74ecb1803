-- The parts of a statement, and the fields of what stands behind its word.
use Rattle.std.specs.Prelude.{ℕ, ◌+◌, ◌-◌, ◌==◌, ◌&&◌, ◌||◌, not, nat_eq, nat_le, Bool, false, List, [], ◌∷◌, length, map, min, take, drop, if◌then◌else◌, Option, Some, None, unwrap_or}
use Rattle.std.specs.List.{onto_first, position, take_while, starts_with, ends_with}
use Rattle.std.specs.Option.{option_and_then}
use Rattle.vcm_num.specs.Words.{look_up}
use Rattle.vcm_lines.specs.Bytes.{is_run}
use Rattle.vcm_sentences.specs.declared.parts.Parts.{Parts}
use Rattle.vcm_sentences.specs.declared.words.MajorWord.{MajorWord}
use Rattle.vcm_sentences.specs.declared.words.MajorWord.TheVariants.{Other}
use Rattle.vcm_sentences.specs.declared.words.TheConstants.{WORDS}

-- the parts of a statement, each of them empty where it isn't there
pub record Parted : Type 0 where
  pub kind : List ℕ
  pub title : List ℕ
  pub spelled : List ℕ
  pub word : MajorWord
  pub rest : List ℕ

-- the word that bytes spell
abbrev pub word_in : List ℕ → MajorWord
word_in bytes = unwrap_or (look_up (map (λ row. (row.0.now, row.1)) WORDS.now) bytes) Other

-- the name at the front: letters, digits and underscores
abbrev pub name_in : List ℕ → List ℕ
name_in bytes = take_while is_run bytes

-- what stands behind it
abbrev pub behind_name : List ℕ → List ℕ
behind_name bytes = drop (length (name_in bytes)) bytes

-- what stands behind a slash, if one stands in front
abbrev pub behind_slash : List ℕ → List ℕ
behind_slash [] = []
behind_slash (b ∷ bs) = if b == 47 then bs else b ∷ bs

-- the parts of a word and what stands behind its slash, behind this kind and this title
abbrev pub worded : List ℕ → List ℕ → List ℕ → Parted
worded kind title body = record {
  kind = kind;
  title = title;
  spelled = name_in body;
  word = word_in (name_in body);
  rest = behind_slash (behind_name body);
}

-- the parts behind `KIND(TITLE)`: a word behind an equals sign, or nothing at all where there is no kind
abbrev pub behind_title : List ℕ → List ℕ → List ℕ → Option Parted
behind_title kind title [] = if length kind == 0 then Some (worded kind title []) else None
behind_title kind title (b ∷ bs) = if b == 61 then Some (worded kind title bs) else None

-- the parts behind `KIND(`, the place of the first closing parenthesis being given
abbrev pub titled_at : List ℕ → List ℕ → Option ℕ → Option Parted
titled_at kind behind None = None
titled_at kind behind (Some n) = behind_title kind (take n behind) (drop (n + 1) behind)

-- the parts behind a name: `=WORD/REST` or `(TITLE)=WORD/REST`
abbrev pub parts_behind : List ℕ → List ℕ → Option Parted
parts_behind name [] = None
parts_behind name (b ∷ bs) =
    if b == 61 then Some (worded [] name bs)
    else if b == 40 then titled_at name bs (position (λ c. c == 41) bs)
    else None

-- the parts of a statement: `KIND(TITLE)=WORD/REST`, `TITLE=WORD/REST` or `(TITLE)`, and else `WORD/REST`
abbrev pub parts_in : List ℕ → Parted
parts_in bytes = unwrap_or (parts_behind (name_in bytes) (behind_name bytes)) (worded [] [] bytes)

-- the parts that the code gives
abbrev pub seen : Parts → Parted
seen p = record { kind = p.kind.now; title = p.title.now; spelled = p.spelled.now; word = p.word; rest = p.rest.now }

-- where a byte stands: in a text or not, and in how many parentheses, of which no more than 4,294,967,295 are counted
pub record Place : Type 0 where
  pub is_quoted : Bool
  pub depth : ℕ

-- outside of all
abbrev pub outside : Place
outside = record { is_quoted = false; depth = 0 }

-- the place behind a byte
abbrev pub passed : Place → ℕ → Place
passed p b =
    if b == 39 then record { is_quoted = not p.is_quoted; depth = p.depth }
    else if p.is_quoted then p
    else if b == 40 then record { is_quoted = false; depth = min (p.depth + 1) 4294967295 }
    else if b == 41 then record { is_quoted = false; depth = p.depth - 1 }
    else p

-- a field ends with this byte: a comma in no text and in no parentheses
abbrev pub ends_field : Place → ℕ → Bool
ends_field p b = b == 44 && not p.is_quoted && p.depth == 0

-- the fields of what is left, the first of which is at this place
abbrev pub fields_from : Place → List ℕ → List (List ℕ)
fields_from p [] = [] ∷ []
fields_from p (b ∷ bs) = if ends_field p b then [] ∷ fields_from (passed p b) bs else onto_first b (fields_from (passed p b) bs)

-- the fields of what stands behind a word
abbrev pub fields_in : List ℕ → List (List ℕ)
fields_in rest = fields_from outside rest

-- the bytes from one place to before another, nothing where there are no such places
abbrev pub piece : List ℕ → ℕ → ℕ → List ℕ
piece bytes from to = if nat_le from to && nat_le to (length bytes) then take (to - from) (drop from bytes) else []

-- what stands behind bytes that stand in front
abbrev pub behind_front : List ℕ → List ℕ → Option (List ℕ)
behind_front front bytes = if starts_with nat_eq bytes front then Some (drop (length front) bytes) else None

-- what stands in front of a parenthesis at the end
abbrev pub before_close : List ℕ → Option (List ℕ)
before_close bytes = if ends_with nat_eq bytes (41 ∷ []) then Some (take (length bytes - 1) bytes) else None

-- what stands between these bytes in front and a parenthesis at the end, if both are there
abbrev pub enclosed : List ℕ → List ℕ → Option (List ℕ)
enclosed bytes front = option_and_then before_close (behind_front front bytes)

-- a name stands right in front of a parenthesis, a star in front of another, or a text begins; `last` is the byte in front of these
abbrev pub has_function_behind : ℕ → List ℕ → Bool
has_function_behind last [] = false
has_function_behind last (b ∷ bs) = ((b == 40 && is_run last) || b == 39 || (b == 42 && last == 42)) || has_function_behind b bs

-- so it is with all bytes
abbrev pub has_function : List ℕ → Bool
has_function bytes = has_function_behind 32 bytes
