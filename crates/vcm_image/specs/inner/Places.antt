-- Where the variables, names and statements of an image begin.
use Rattle.std.specs.Prelude.{◌≡◌, ℕ, zero, suc, ◌+◌, ◌<◌, ◌≤◌, ◌++◌, List, [], ◌∷◌, length, get_or, drop, Result, Ok, Err}
use Rattle.vcm_spec.specs.Results.{◌>>=◌}
use Rattle.vcm_code.specs.declared.version.Version.{Version}
use Rattle.vcm_code.specs.declared.version.Version.TheVariants.{One}
use Rattle.vcm_code.specs.declared.code.Code.{Code}
use Rattle.vcm_fields.specs.declared.fault.ImageFault.{ImageFault}
use Rattle.vcm_fields.specs.Readers.{Reader, times, entry_at, name_at, line_at}
use Rattle.vcm_image.specs.Whole.{FitsImage, code_at}
use Rattle.vcm_image.specs.Opened.{Opened, begun_at, next_at, rest_at}

-- a code of nothing
abbrev pub no_code : Code
no_code = record { version = One; tables = record { variables = []; features = []; frames = [] }; statements = [] }

-- the code that the bytes spell, or an empty one
abbrev pub code_or_none : Result Code ImageFault → Code
code_or_none (Ok c) = c
code_or_none (Err e) = no_code

-- the code of an image
abbrev pub code_in : List ℕ → Code
code_in bytes = code_or_none (code_at bytes)

-- these bytes stand at the end of the whole
abbrev pub IsEnd : List ℕ → List ℕ → Type 0
IsEnd whole bytes = (front : List ℕ) × (whole ≡ front ++ bytes)

-- where each of these values begins
abbrev pub Begin : {A : Type 0} → Reader A → List ℕ → List ℕ → List A → Type 0
Begin a whole [] [] = Unit {0}
Begin a whole [] (x ∷ xs) = ⊥
Begin a whole (o ∷ os) [] = ⊥
Begin a whole (o ∷ os) (x ∷ xs) = ((o ≤ length whole) × ((rest : List ℕ) × (a (drop o whole) ≡ Ok (x, rest)))) × Begin a whole os xs

-- the values that were read, where each of them begins, and the bytes after them
pub record Table {A : Type 0} (a : Reader A) (count : ℕ) (whole bytes starts rest : List ℕ) : Type 0 where
  pub values : List A
  pub is : times a count bytes ≡ Ok (values, rest)
  pub begin : Begin a whole starts values
  pub end : IsEnd whole rest

-- the bytes spell a code of this version, whose variables, names and statements begin at these places
pub record Indexed (bytes : List ℕ) (version : Version) (variables features frames statements : List ℕ) : Type 0 where
  pub is : code_at bytes ≡ Ok (code_in bytes)
  pub fits : FitsImage (code_in bytes)
  pub version_is : version ≡ (code_in bytes).version
  pub variables_begin : Begin entry_at bytes variables (code_in bytes).tables.variables
  pub features_begin : Begin name_at bytes features (code_in bytes).tables.features
  pub frames_begin : Begin name_at bytes frames (code_in bytes).tables.frames
  pub statements_begin : Begin (line_at version) bytes statements (code_in bytes).statements

-- reading the header, the names and so many statements
abbrev pub opened_at : ℕ → List ℕ → Result Opened ImageFault
opened_at zero bytes = begun_at bytes
opened_at (suc n) bytes = opened_at n bytes >>= λ o. next_at o >>= λ x. Ok x.1

-- what is read, or nothing
abbrev pub opened_or_none : Result Opened ImageFault → Opened
opened_or_none (Ok o) = o
opened_or_none (Err e) = record { code = no_code; left = 0; rest = [] }

-- an image of which so many statements are read
abbrev pub opened_in : ℕ → List ℕ → Opened
opened_in n bytes = opened_or_none (opened_at n bytes)

-- o is what is read of the bytes: its names and the first statements of so many begin at these places, and the rest of the bytes stands behind them
pub record OpensAs (o : Opened) (bytes : List ℕ) (version : Version) (variables features frames statements : List ℕ) (count : ℕ) (rest : List ℕ) : Type 0 where
  pub is : opened_at (length statements) bytes ≡ Ok o
  pub whole : code_at bytes ≡ rest_at o
  pub version_is : version ≡ o.code.version
  pub left_is : length statements + o.left ≡ count
  pub rest_is : rest ≡ o.rest
  pub end : IsEnd bytes o.rest
  pub fits : (i : ℕ) → get_or bytes i 0 < 256
  pub variables_begin : Begin entry_at bytes variables o.code.tables.variables
  pub features_begin : Begin name_at bytes features o.code.tables.features
  pub frames_begin : Begin name_at bytes frames o.code.tables.frames
  pub statements_begin : Begin (line_at version) bytes statements o.code.statements

-- the same of what the bytes spell up to there
abbrev pub Opens : List ℕ → Version → List ℕ → List ℕ → List ℕ → List ℕ → ℕ → List ℕ → Type 0
Opens bytes version variables features frames statements count rest =
    OpensAs (opened_in (length statements) bytes) bytes version variables features frames statements count rest
