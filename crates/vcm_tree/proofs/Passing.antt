-- The walk over statements that are given up one by one: what was there at the start is what is walked.
use Rattle.std.proofs.Common.{◌≡◌, List, [], ◌∷◌, Option, subst}
use Rattle.vcm_lines.specs.declared.fault.SourceFault.{SourceFault}
use Rattle.vcm_lines.specs.Fault.{NoMemoryOr}
use Rattle.vcm_spec.specs.Phase.{FirstFault}
use Rattle.vcm_macro.specs.declared.placed.Placed.{Placed}
use Rattle.vcm_program.specs.Telling.{ToldAt}
use Rattle.vcm_tree.specs.declared.selection.Selection.{Selection}
use Rattle.vcm_tree.specs.declared.taking.Progress.{Progress}
use Rattle.vcm_tree.specs.Resolving.{resolved_here, BreaksNames, names_line}
use Rattle.vcm_tree.specs.inner.Taking.{behind_with}
use Rattle.vcm_tree.specs.inner.Walking.{IsWalked}
use Rattle.vcm_tree.proofs.Walking.{walk_told}

pub told_of_all : (items all : List Placed) (p : Progress) (waits : Option Selection) (s : Placed) (rest : List Placed) (f : SourceFault) → items ≡ all
    → IsWalked items p waits (s ∷ rest) → NoMemoryOr (ToldAt s.statement.line (resolved_here (behind_with p waits) s)) f → NoMemoryOr (λ f. FirstFault BreaksNames names_line all f.code f.line) f
told_of_all items all p waits s rest f same w t = subst (λ (l : List Placed). NoMemoryOr (λ f. FirstFault BreaksNames names_line l f.code f.line) f) same (walk_told items p waits s rest f w t)

pub walked_all : (items all rest : List Placed) (p : Progress) (waits : Option Selection) → items ≡ all → rest ≡ [] → IsWalked items p waits rest → IsWalked all p waits []
walked_all items all rest p waits same none w = subst (λ (l : List Placed). IsWalked l p waits []) same (subst (λ (l : List Placed). IsWalked items p waits l) none w)
