-- What the reading of a listing may answer.
use Rattle.std.specs.Prelude.{◌≡◌, ◌⊎◌, ◌-◌, ℕ, List, length, Result, Ok, Err}
use Rattle.vcm_code.specs.declared.code.Code.{Code}
use Rattle.vcm_code.specs.Valid.{IsValid}
use Rattle.vcm_words.specs.declared.fault.ListCode.TheVariants.{NoMemory, NotValid}
use Rattle.vcm_words.specs.declared.fault.ListFault.{ListFault}
use Rattle.vcm_words.specs.Cutting.{split}
use Rattle.vcm_words.specs.Listing.{code_listed, told}

-- want of memory, told at line 0
abbrev pub IsWant : ListFault → Type 0
IsWant f = (f.code ≡ NoMemory) × (f.line ≡ 0)

-- what was returned is what the definition gives, or want of memory
abbrev pub GivesOrWants : Result Code ListFault → Result Code ListFault → Type 0
GivesOrWants (Ok c) read = read ≡ Ok c
GivesOrWants (Err f) read = IsWant f ⊎ (read ≡ Err f)

-- the number of the last line: how many ends of lines there are
abbrev pub last_line : List ℕ → ℕ
last_line bytes = length (split 10 bytes) - 1

-- what the reading of these bytes refuses: the first line with a fault, or at the last line a code that is not valid
abbrev pub ListingFault : List ℕ → ListFault → Type 0
ListingFault bytes f =
    (code_listed bytes ≡ Err f) ⊎ ((c : Code) × (code_listed bytes ≡ Ok c) × (¬ IsValid c)
    × (f ≡ told (last_line bytes) NotValid))

-- bytes are refused so, or memory ran out
abbrev pub FaultOrWant : List ℕ → ListFault → Type 0
FaultOrWant bytes f = IsWant f ⊎ ListingFault bytes f
