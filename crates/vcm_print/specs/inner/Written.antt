-- The bytes of a listing, as they are written: a blank in front of each word.
use Rattle.std.specs.Prelude.{ℕ, List, [], ◌∷◌, ◌++◌, flat_map, codes, decimal}
use Rattle.vcm_num.specs.declared.number.Kind.{Kind}
use Rattle.vcm_spec.specs.declared.expression.Item.{Item}
use Rattle.vcm_code.specs.declared.branch.Branch.{Branch}
use Rattle.vcm_code.specs.declared.version.Version.{Version}
use Rattle.vcm_code.specs.declared.version.Version.TheVariants.{One, Two}
use Rattle.vcm_code.specs.Code.{CodeStatement}
use Rattle.vcm_code.specs.Shape.{Place, Said, over_operands}
use Rattle.vcm_code.specs.Shape as at
use Rattle.vcm_spec.specs.Words.{quarters_number, word_number}
use Rattle.vcm_code.specs.Words.{word_of, word_text}
use Rattle.vcm_words.specs.Branches.{branch_text}
use Rattle.vcm_words.specs.Items.{item_text}
use Rattle.vcm_words.specs.Operands.{axis_text, direction_text, setting_text, source_text, turn_text}
use Rattle.vcm_words.specs.Rows.{ListRow, text_of, numbered, kind_text}

-- items behind the first one, with a blank in front of each
abbrev pub more_items : List Item → List ℕ
more_items items = flat_map (λ i. 32 ∷ item_text i) items

-- an expression with a blank in front of it
abbrev pub items_bytes : List Item → List ℕ
items_bytes [] = codes " []"
items_bytes (i ∷ is) = (codes " [" ++ item_text i) ++ (more_items is ++ codes "]")

-- three expressions, with a blank in front of each
abbrev pub three_bytes : List Item → List Item → List Item → List ℕ
three_bytes x y z = items_bytes x ++ (items_bytes y ++ items_bytes z)

-- branches behind the first one, with a blank in front of each
abbrev pub more_branches : List Branch → List ℕ
more_branches bs = flat_map (λ b. 32 ∷ branch_text b) bs

-- branches between braces, with a blank in front of them
abbrev pub branches_bytes : List Branch → List ℕ
branches_bytes [] = codes " {}"
branches_bytes (b ∷ bs) = (codes " {" ++ branch_text b) ++ (more_branches bs ++ codes "}")

-- the index of a variable and an expression, with a blank in front of each
abbrev pub assigned_bytes : ℕ → List Item → List ℕ
assigned_bytes v e = (32 ∷ 86 ∷ decimal v) ++ items_bytes e

-- what stands in a place, with a blank in front of each of its words
unfoldable pub place_bytes : (p : Place) → Said p → List ℕ
place_bytes (at.variable k) n = 32 ∷ 86 ∷ decimal n
place_bytes at.feature n = 32 ∷ 70 ∷ decimal n
place_bytes at.frame n = 32 ∷ 68 ∷ decimal n
place_bytes at.pair n = 32 ∷ 76 ∷ decimal n
place_bytes at.target n = 32 ∷ 64 ∷ decimal n
place_bytes (at.items k) e = items_bytes e
place_bytes (at.three k) t = three_bytes t.0 t.1.0 t.1.1
place_bytes at.assigned o = assigned_bytes o.0 o.1
place_bytes at.axis d = 32 ∷ axis_text d
place_bytes at.direction d = 32 ∷ direction_text d
place_bytes at.setting which = 32 ∷ setting_text which
place_bytes at.source which = 32 ∷ source_text which
place_bytes at.turn axis = 32 ∷ turn_text axis
place_bytes at.quarters n = 32 ∷ decimal (quarters_number n)
place_bytes at.part n = 32 ∷ decimal (word_number n)
place_bytes at.text bs = codes " '" ++ (bs ++ codes "'")
place_bytes at.branches bs = branches_bytes bs

-- the number of a statement, its source line, and its word
abbrev pub head_bytes : ℕ → CodeStatement → List ℕ
head_bytes n s = decimal n ++ (32 ∷ decimal s.line ++ (32 ∷ word_text (word_of s.op)))

-- a statement's line and its end
abbrev pub statement_bytes : ℕ → CodeStatement → List ℕ
statement_bytes n s = head_bytes n s ++ (over_operands place_bytes s.op ++ codes "\n")

-- a variable's line and its end
abbrev pub variable_bytes : ℕ → Kind → List ℕ → ℕ → List ℕ
variable_bytes n kind name expansion =
    codes "VAR " ++ (decimal n ++ (32 ∷ kind_text kind ++ (32 ∷ name ++ (32 ∷ decimal expansion ++ codes "\n"))))

-- a line of a heading, an index and a name, and its end
abbrev pub name_bytes : List ℕ → ℕ → List ℕ → List ℕ
name_bytes heading n name = heading ++ (decimal n ++ (32 ∷ name ++ codes "\n"))

-- the first line and its end
abbrev pub heading : Version → List ℕ
heading One = codes "VCM-LISTING 1\n"
heading Two = codes "VCM-LISTING 2\n"

-- lines of the listing and their ends, each with its index, the first one being n
abbrev pub lines : {A : Type 0} → (ℕ → A → ListRow) → ℕ → List A → List ℕ
lines f n xs = text_of (numbered f n xs)
