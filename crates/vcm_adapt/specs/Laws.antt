-- What the laws ask of edits.
use Rattle.std.specs.Prelude.{◌≡◌, ℕ, true, false, List, [], ◌∷◌}
use Rattle.vcm_adapt.specs.declared.edit.Edit.{Edit}
use Rattle.vcm_adapt.specs.declared.edit.Edit.TheVariants.{Keep, Put}
use Rattle.vcm_adapt.specs.Marks.{has_mark, is_new}

-- what is put may stand for a line
abbrev pub IsNew : Edit → Type 0
IsNew (Put new) = is_new new ≡ true
IsNew _ = Unit {0}

-- so it is with each of these
abbrev pub AreNew : List Edit → Type 0
AreNew [] = Unit {0}
AreNew (e ∷ es) = IsNew e × AreNew es

-- an edit that keeps a line keeps none with a mark
abbrev pub KeepsNoMark : Edit → List ℕ → Type 0
KeepsNoMark Keep line = has_mark line ≡ false
KeepsNoMark _ line = Unit {0}

-- so it is with each line; the lines behind the last edit are kept
abbrev pub KeepNoMark : List Edit → List (List ℕ) → Type 0
KeepNoMark es [] = Unit {0}
KeepNoMark [] (l ∷ ls) = KeepsNoMark Keep l × KeepNoMark [] ls
KeepNoMark (e ∷ es) (l ∷ ls) = KeepsNoMark e l × KeepNoMark es ls

-- all of them keep
abbrev pub AllKeep : List Edit → Type 0
AllKeep [] = Unit {0}
AllKeep (e ∷ es) = (e ≡ Keep) × AllKeep es

-- no line has a mark
abbrev pub AreUnmarked : List (List ℕ) → Type 0
AreUnmarked [] = Unit {0}
AreUnmarked (l ∷ ls) = (has_mark l ≡ false) × AreUnmarked ls
