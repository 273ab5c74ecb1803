-- What the bytes of a triangle mesh (STL) give: its triangles, or the first refusal.
use Rattle.std.specs.Prelude.{◌≡◌, ℕ, zero, suc, ◌+◌, ◌*◌, ◌==◌, ◌||◌, ◌&&◌, Bool, not, nat_le, nat_lt, codes, if◌then◌else◌}
use Rattle.std.specs.Prelude.{List, [], ◌∷◌, ◌++◌, length, take, drop, Option, Some, None, Result, Ok, Err}
use Rattle.std.specs.List.{take_while}
use Rattle.std.specs.Str.{bytes_eq}
use Rattle.std.specs.Str.Lines.{lines}
use Rattle.vcm_num.specs.Words.{look_up}
use Rattle.vcm_num.specs.declared.point.Point.{Point}
use Rattle.vcm_num.specs.Point.{point}
use Rattle.vcm_spec.specs.Results.{◌>>=◌}
use Rattle.vcm_mesh.specs.declared.triangle.Triangle.{Triangle}
use Rattle.vcm_mesh.specs.declared.placing.Placing.{Placing}
use Rattle.vcm_mesh.specs.declared.fault.Misread.{Misread}
use Rattle.vcm_mesh.specs.declared.fault.Misread.TheVariants.{NotANumber, TooFar}
use Rattle.vcm_mesh.specs.declared.fault.Refusal.{Refusal}
use Rattle.vcm_mesh.specs.declared.fault.Refusal.TheVariants.{NotStl, BadLength, BadText, NoNumber, OutOfRange, NoTriangles, TooManyTriangles, TooLong}
use Rattle.vcm_mesh.specs.declared.fault.MeshFault.{MeshFault}
use Rattle.vcm_mesh.specs.declared.fault.MeshFault.TheVariants.{NoMemory, Refused}
use Rattle.vcm_mesh.specs.declared.text.Keyword.{Keyword}
use Rattle.vcm_mesh.specs.declared.text.Keyword.TheVariants.{Solid, EndSolid, Facet, Outer, Vertex, EndLoop, EndFacet}
use Rattle.vcm_mesh.specs.declared.text.Place.{Place}
use Rattle.vcm_mesh.specs.declared.text.Place.TheVariants.{Outside, InSolid, InFacet, InLoop, OneCorner, TwoCorners, ThreeCorners, LoopDone}
use Rattle.vcm_mesh.specs.Lengths.{scale_of, word_at, float_of, decimal_of}
use Rattle.vcm_mesh.specs.Placings.{placed}

-- the triangle of these corners
abbrev pub triangle : Point → Point → Point → Triangle
triangle a b c = record { a = a; b = b; c = c }

-- what is told of a triangle that can't be read
abbrev pub told : ℕ → Misread → Refusal
told number NotANumber = NoNumber number
told number TooFar = OutOfRange number

-- what was read of a triangle, or what is told of it
abbrev pub of_triangle : {A : Type 0} → ℕ → Result A Misread → Result A Refusal
of_triangle number (Ok x) = Ok x
of_triangle number (Err e) = Err (told number e)

-- ---- binary files: 80 bytes, how many triangles, and 50 bytes of each, three numbers of a normal before those of its corners

-- the corner whose three numbers begin at a place
unfoldable pub corner_at : Placing → List ℕ → ℕ → Result Point Misread
corner_at p bytes at = do
  x ← float_of (scale_of p.unit) (word_at bytes at)
  y ← float_of (scale_of p.unit) (word_at bytes (at + 4))
  z ← float_of (scale_of p.unit) (word_at bytes (at + 8))
  placed p (point x y z)

-- the triangle whose bytes begin at a place
unfoldable pub facet_at : Placing → List ℕ → ℕ → Result Triangle Misread
facet_at p bytes at = do
  a ← corner_at p bytes (at + 12)
  b ← corner_at p bytes (at + 24)
  c ← corner_at p bytes (at + 36)
  Ok (triangle a b c)

-- the triangles above, and so many more from a place on, the first of which has a number
unfoldable pub facets_behind : Placing → List ℕ → List Triangle → (count : ℕ) → (number : ℕ) → Result (List Triangle) Refusal
facets_behind p bytes above zero number = Ok above
facets_behind p bytes above (suc n) number =
    of_triangle number (facet_at p bytes (34 + 50 * number)) >>= λ t. facets_behind p bytes (above ++ t ∷ []) n (number + 1)

-- how many triangles a binary file says it has
abbrev pub count_of : List ℕ → ℕ
count_of bytes = word_at bytes 80

-- whether it is as long as it says
abbrev pub is_binary : List ℕ → Bool
is_binary bytes = nat_le 84 (length bytes) && (length bytes == 84 + 50 * count_of bytes)

-- the triangles of a binary file
abbrev pub binary_mesh : Placing → List ℕ → Result (List Triangle) Refusal
binary_mesh p bytes =
    if count_of bytes == 0 then Err NoTriangles
    else if nat_lt 1000000 (count_of bytes) then Err TooManyTriangles
    else facets_behind p bytes [] (count_of bytes) 1

-- ---- texts, line by line

-- whether a byte stands between words
abbrev pub is_space : ℕ → Bool
is_space b = (b == 32) || (nat_le 9 b && nat_le b 13)

-- whether it doesn't
abbrev pub is_dark : ℕ → Bool
is_dark b = not (is_space b)

-- how many bytes in front pass a test
abbrev pub run_len : (ℕ → Bool) → List ℕ → ℕ
run_len p text = length (take_while p text)

-- a text from its first word on
abbrev pub from_word : List ℕ → List ℕ
from_word text = drop (run_len is_space text) text

-- the first word, which is empty where there is none
abbrev pub first_word : List ℕ → List ℕ
first_word text = take (run_len is_dark (from_word text)) (from_word text)

-- what stands after it
abbrev pub behind_word : List ℕ → List ℕ
behind_word text = drop (run_len is_dark (from_word text)) (from_word text)

-- the words that begin lines, in small letters or in capitals
abbrev pub keywords : List (List ℕ × Keyword)
keywords =
    (codes "vertex", Vertex) ∷ (codes "facet", Facet) ∷ (codes "outer", Outer) ∷ (codes "endloop", EndLoop) ∷ (codes "endfacet", EndFacet)
    ∷ (codes "solid", Solid) ∷ (codes "endsolid", EndSolid) ∷ (codes "VERTEX", Vertex) ∷ (codes "FACET", Facet) ∷ (codes "OUTER", Outer)
    ∷ (codes "ENDLOOP", EndLoop) ∷ (codes "ENDFACET", EndFacet) ∷ (codes "SOLID", Solid) ∷ (codes "ENDSOLID", EndSolid) ∷ []

-- the corner of three words
abbrev pub corner_of : Placing → List ℕ → List ℕ → List ℕ → Result Point Misread
corner_of p u v w = do
  x ← decimal_of (scale_of p.unit) u
  y ← decimal_of (scale_of p.unit) v
  z ← decimal_of (scale_of p.unit) w
  placed p (point x y z)

-- whether there are three words, and no more
abbrev pub has_three_words : List ℕ → Bool
has_three_words text =
    nat_lt 0 (length (first_word (behind_word (behind_word text)))) && (length (first_word (behind_word (behind_word (behind_word text)))) == 0)

-- the corner that a line has after its first word, in line `line`; the triangle has a number
abbrev pub vertex_of : Placing → ℕ → ℕ → List ℕ → Result Point Refusal
vertex_of p line number text =
    if has_three_words text
    then of_triangle number (corner_of p (first_word text) (first_word (behind_word text)) (first_word (behind_word (behind_word text))))
    else Err (BadText line)

-- where a text is after a line that begins with a keyword, the rest of the line being given
unfoldable pub next_place : Placing → ℕ → ℕ → Place → Keyword → List ℕ → Result Place Refusal
next_place p line number Outside Solid rest = Ok InSolid
next_place p line number InSolid EndSolid rest = Ok Outside
next_place p line number InSolid Facet rest = Ok InFacet
next_place p line number InFacet Outer rest = Ok InLoop
next_place p line number InLoop Vertex rest = vertex_of p line number rest >>= λ a. Ok (OneCorner a)
next_place p line number (OneCorner a) Vertex rest = vertex_of p line number rest >>= λ b. Ok (TwoCorners a b)
next_place p line number (TwoCorners a b) Vertex rest = vertex_of p line number rest >>= λ c. Ok (ThreeCorners (triangle a b c))
next_place p line number (ThreeCorners t) EndLoop rest = Ok (LoopDone t)
next_place p line number (LoopDone t) EndFacet rest = Ok InSolid
next_place p line number place keyword rest = Err (BadText line)

-- the triangle that a facet adds where it ends
abbrev pub added : Place → Keyword → List Triangle
added (LoopDone t) EndFacet = t ∷ []
added place keyword = []

-- what was read of a text: its triangles, and where it is
pub record Read : Type 0 where
  pub triangles : List Triangle
  pub place : Place

-- what is read after a line with a keyword, if there is one more triangle at most
abbrev pub read_known : Placing → ℕ → Read → Option Keyword → List ℕ → Result Read Refusal
read_known p line r None rest = Err (BadText line)
read_known p line r (Some keyword) rest =
    next_place p line (length r.triangles + 1) r.place keyword rest >>= λ place.
    if nat_lt 1000000 (length (r.triangles ++ added r.place keyword)) then Err TooManyTriangles
    else Ok (record { triangles = r.triangles ++ added r.place keyword; place = place })

-- what is read after a line; one without a word says nothing
unfoldable pub read_line : Placing → ℕ → Read → List ℕ → Result Read Refusal
read_line p line r text =
    if length (first_word text) == 0 then Ok r else read_known p line r (look_up keywords (first_word text)) (behind_word text)

-- what is read at the end, the line after the last one being given: it has to stand outside of solids, and there are triangles
abbrev pub read_end : ℕ → List Triangle → Place → Result (List Triangle) Refusal
read_end line [] Outside = Err NoTriangles
read_end line (t ∷ ts) Outside = Ok (t ∷ ts)
read_end line ts place = Err (BadText line)

-- what is read of lines
unfoldable pub read_lines : Placing → (line : ℕ) → Read → List (List ℕ) → Result (List Triangle) Refusal
read_lines p line r [] = read_end line r.triangles r.place
read_lines p line r (text ∷ texts) = read_line p line r text >>= λ s. read_lines p (line + 1) s texts

-- the triangles of a text, which has at most 50,000,084 bytes
abbrev pub text_mesh : Placing → List ℕ → Result (List Triangle) Refusal
text_mesh p bytes =
    if nat_lt 50000084 (length bytes) then Err TooLong else read_lines p 1 (record { triangles = []; place = Outside }) (lines bytes)

-- whether a file is a text: its first word begins with `solid`
abbrev pub is_text : List ℕ → Bool
is_text bytes = bytes_eq (take 5 (from_word bytes)) (codes "solid") || bytes_eq (take 5 (from_word bytes)) (codes "SOLID")

-- ---- files

-- the triangles of a file, or the first refusal
unfoldable pub mesh_of : Placing → List ℕ → Result (List Triangle) Refusal
mesh_of p bytes =
    if is_binary bytes then binary_mesh p bytes
    else if is_text bytes then text_mesh p bytes
    else if nat_le 84 (length bytes) then Err (BadLength (count_of bytes) (length bytes))
    else Err NotStl

-- the definition refuses so, or memory ran out
abbrev pub Fails : {Y : Type 0} → MeshFault → Result Y Refusal → Type 0
Fails NoMemory read = Unit {0}
Fails (Refused r) read = read ≡ Err r

-- what was read, seen by view, is what the definition gives; or it is refused as the definition refuses it, or memory ran out
abbrev pub Gives : {X Y : Type 0} → (X → Y) → Result X MeshFault → Result Y Refusal → Type 0
Gives view (Ok x) read = read ≡ Ok (view x)
Gives view (Err e) read = Fails e read
