-- What the laws say of segments and statements.
use Rattle.std.specs.Prelude.{◌≡◌, ℕ, ◌==◌, Bool, true, false, List, [], ◌∷◌, ◌++◌}
use Rattle.std.specs.List.{list_any}
use Rattle.vcm_lines.specs.Segments.{Segment, Plain, Quoted, Open, Comment}

-- the bytes that the segments are cut from
abbrev pub spelled : List Segment → List ℕ
spelled [] = []
spelled (Plain b ∷ ps) = b ∷ spelled ps
spelled (Quoted t ∷ ps) = 39 ∷ t ++ 39 ∷ spelled ps
spelled (Open t ∷ ps) = 39 ∷ t ++ spelled ps
spelled (Comment t ∷ ps) = 36 ∷ 36 ∷ t ++ spelled ps

-- the segments begin with a dollar, their own or a comment's
abbrev pub begins_dollar : List Segment → Bool
begins_dollar [] = false
begins_dollar (Plain b ∷ ps) = b == 36
begins_dollar (Quoted t ∷ ps) = false
begins_dollar (Open t ∷ ps) = false
begins_dollar (Comment t ∷ ps) = true

-- a text has no apostrophe, a byte outside is none, two dollars outside are a comment, and what isn't closed stands last
abbrev pub AreSegments : List Segment → Type 0
AreSegments [] = Unit {0}
AreSegments (Plain b ∷ ps) = (b ≡ 39 → ⊥) × (b ≡ 36 → begins_dollar ps ≡ false) × AreSegments ps
AreSegments (Quoted t ∷ ps) = (list_any (λ b. b == 39) t ≡ false) × AreSegments ps
AreSegments (Open t ∷ ps) = (list_any (λ b. b == 39) t ≡ false) × (ps ≡ [])
AreSegments (Comment t ∷ ps) = ps ≡ []
