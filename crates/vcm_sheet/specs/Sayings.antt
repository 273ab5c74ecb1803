-- What the texts of a sheet say, and how its bytes say it.
use Rattle.std.specs.Prelude.{◌≡◌, ℕ, suc, ℤ, nat_eq, Bool, true, false, ◌&&◌, List, [], ◌∷◌, ◌++◌, codes}
use Rattle.std.specs.Fmt.{signed_decimal}
use Rattle.std.specs.List.{list_any}
use Rattle.vcm_svg.specs.declared.rect.Spot.{Spot}
use Rattle.vcm_svg.specs.Pieces.{joined}

-- what is said once: a title; a text of these words, at any place; one at this place of its view; or what a picture says in these bytes
pub data Saying : Type 0 where
  Title : List ℕ → Saying
  Words : List ℕ → Saying
  WordsAt : Spot → List ℕ → Saying
  Pictured : List ℕ → Saying

-- ---- bytes that say nothing

-- whether the first of some bytes is this one
abbrev pub begins_with : ℕ → List ℕ → Bool
begins_with b [] = false
begins_with b (c ∷ cs) = nat_eq c b

-- one more, if there is one
abbrev pub one_more_if : Bool → ℕ → ℕ
one_more_if true n = suc n
one_more_if false n = n

-- how often bytes have `<t`, with which the tags of texts and of titles begin
abbrev pub openings : List ℕ → ℕ
openings [] = 0
openings (b ∷ bs) = one_more_if (nat_eq b 60 && begins_with 116 bs) (openings bs)

-- bytes in which no text and no title begins, whatever follows them
pub record IsMute (bytes : List ℕ) : Type 0 where
  pub opens_none : (rest : List ℕ) → openings (bytes ++ rest) ≡ openings rest

-- ---- bytes that say something

-- bytes that end no tag
abbrev pub AreInTag : List ℕ → Type 0
AreInTag bytes = list_any (λ b. nat_eq b 62) bytes ≡ false

-- the tag of a text of this size at a place, with these attributes
abbrev pub text_tag : Spot → ℤ → List ℕ → List ℕ
text_tag at size attributes =
    joined (codes "<text transform=\"matrix(" ∷ signed_decimal size ∷ codes " 0 0 " ∷ signed_decimal size ∷ codes " " ∷ signed_decimal at.x
    ∷ codes " " ∷ signed_decimal at.y ∷ codes ")\"" ∷ attributes ∷ codes ">" ∷ [])

-- a text of these words with such a tag
unfoldable pub text_with : Spot → ℤ → List ℕ → List ℕ → List ℕ
text_with at size attributes words = text_tag at size attributes ++ (words ++ codes "</text>\n")

-- a text of these words at a place, of any size and with any attributes
pub record IsText (at : Spot) (words bytes : List ℕ) : Type 0 where
  pub size : ℤ
  pub attributes : List ℕ
  pub in_tag : AreInTag attributes
  pub bytes_are : bytes ≡ text_with at size attributes words

-- a text of these words at some place
pub record IsSomeText (words bytes : List ℕ) : Type 0 where
  pub at : Spot
  pub is_text : IsText at words bytes

-- bytes that are one saying
abbrev pub IsSaid : Saying → List ℕ → Type 0
IsSaid (Title words) bytes = bytes ≡ codes "<title>" ++ (words ++ codes "</title>\n")
IsSaid (Words words) bytes = IsSomeText words bytes
IsSaid (WordsAt at words) bytes = IsText at words bytes
IsSaid (Pictured shapes) bytes = bytes ≡ shapes

-- bytes that say nothing, then some that say something, and then something else
pub record SaysFirst (First Rest : List ℕ → Type 0) (bytes : List ℕ) : Type 0 where
  pub gap : List ℕ
  pub first : List ℕ
  pub rest : List ℕ
  pub mute : IsMute gap
  pub says_first : First first
  pub says_rest : Rest rest
  pub bytes_are : bytes ≡ gap ++ (first ++ rest)

-- bytes that say all of this, in this order, and nothing else
abbrev pub Says : List Saying → List ℕ → Type 0
Says [] bytes = IsMute bytes
Says (s ∷ ss) bytes = SaysFirst (IsSaid s) (Says ss) bytes

-- what was appended says this and nothing else
pub record Adds (said : List Saying) (old new : List ℕ) : Type 0 where
  pub more : List ℕ
  pub says : Says said more
  pub new_is : new ≡ old ++ more

-- a text of these words, one after another
abbrev pub say : List (List ℕ) → Saying
say words = Words (joined words)
