-- The labels of the blocks of a SELECT, one block after another.
use Rattle.std.proofs.Common.{◌≡◌, ℕ, ◌+◌, ◌<◌, List, ◌++◌, length, drop, get_or, Option, sym, ap, subst, append_assoc, arith}
use Rattle.vcm_spec.specs.Program.{Block, sizes, case_sizes}
use Rattle.vcm_nodes.specs.Nodes.{cases_of}
use Rattle.vcm_nodes.proofs.CaseSteps.{Case, cases_next}
use Rattle.vcm_asm.specs.inner.Once.{Once}
use Rattle.vcm_asm.specs.Assembled.{Mark, marks, case_marks}
use Rattle.vcm_asm.proofs.Numbering.{once_front}

module _ (items : List Case) (o : Option (ℕ × Block × ℕ)) (i : ℕ) (c : Case) (l : i < length items) (e : c ≡ get_or items i c) where
  -- the statements of one block are among those that are left
  pub fewer : case_sizes (cases_of (drop i items) o) ≡ sizes c.2 + 2 + case_sizes (cases_of (drop (i + 1) items) o)
  fewer = (let same = ap case_sizes (cases_next items o i c l e) in omega arith)

  -- labels that stand once in the blocks that are left do so in the first of them
  pub marks_once : (ms : List Mark) (n : ℕ) → Once (ms ++ case_marks (cases_of (drop i items) o) n) → Once (ms ++ marks c.2 (n + 1))
  marks_once ms n h =
      let others = case_marks (cases_of (drop (i + 1) items) o) (n + 1 + sizes c.2 + 1) in
      once_front (ms ++ marks c.2 (n + 1)) others
      (subst Once (sym (append_assoc ms (marks c.2 (n + 1)) others)) (subst (λ cs. Once (ms ++ case_marks cs n)) (cases_next items o i c l e) h))
