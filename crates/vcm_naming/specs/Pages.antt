-- What a writer took of lines, each name of a block once.
use Rattle.std.specs.Prelude.{◌≡◌, ℕ, List, Option, Result, Ok, Err}
use Rattle.std.specs.Io.KnownBytes.{Appends}
use Rattle.vcm_num.specs.Written.{AppendsFront}
use Rattle.vcm_naming.specs.Naming.{Line, named_text, names_left}

-- what a writer holds, and the names that are left
pub record Page : Type 0 where
  pub contents : Option (List ℕ)
  pub names : List (List ℕ)

-- the page of these
abbrev pub page : Option (List ℕ) → List (List ℕ) → Page
page contents names = record { contents = contents; names = names }

-- these lines were written with the names of their blocks and nothing else; the names that are left now are those that these lines leave
pub record Adds (old new : Page) (lines : List Line) : Type 0 where
  pub written : Appends old.contents new.contents (named_text old.names lines)
  pub left : new.names ≡ names_left old.names lines

-- a front of that was written that is not all
pub record AddsFront (old new : Page) (lines : List Line) : Type 0 where
  pub front : AppendsFront old.contents new.contents (named_text old.names lines)

-- a call wrote all of these lines with the names of their blocks, or failed and wrote a front of that which is not all
abbrev pub Added : {A E : Type 0} → Page → Page → List Line → Result A E → Type 0
Added old new lines (Ok done) = Adds old new lines
Added old new lines (Err e) = AddsFront old new lines
