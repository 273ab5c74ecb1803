-- What is read of a program after some of its statements.
use Rattle.std.specs.Prelude.{◌≡◌, ℕ, List, ◌++◌, take, drop, Option}
use Rattle.vcm_spec.specs.Phase.{IsCleanBelow}
use Rattle.vcm_macro.specs.declared.placed.Placed.{Placed}
use Rattle.vcm_tree.specs.declared.selection.Selection.{Selection}
use Rattle.vcm_tree.specs.declared.taking.Progress.{Progress}
use Rattle.vcm_tree.specs.Resolving.{behind_all, start, sentences_from, BreaksNames}
use Rattle.vcm_tree.specs.inner.Growing.{growing, written}
use Rattle.vcm_tree.specs.inner.Taking.{behind_with}

-- so many statements are read, a SELECT waits for its next block or not, and these are left
pub record IsWalked (all : List Placed) (p : Progress) (waits : Option Selection) (rest : List Placed) : Type 0 where
  pub place : ℕ
  pub left : drop place all ≡ rest
  pub clean : IsCleanBelow BreaksNames all place
  pub behind : behind_with p waits ≡ behind_all start (take place all)
  pub writes : sentences_from start all ≡ written (growing p.builder waits) ++ sentences_from (behind_with p waits) rest
