-- The fields of a whole program's code are in the ranges of an image.
use Rattle.std.proofs.Common.{ℕ, suc, ◌+◌, ◌≤◌, List, [], ◌∷◌, ◌++◌, length, arith}
use Rattle.vcm_spec.specs.Setup.{Tables}
use Rattle.vcm_spec.specs.Fitting.{NodeFits, BlockFits, CasesFit}
use Rattle.vcm_spec.specs.Program.{Label as Name, Node, Block, Cases, simple, label, jump, choice, choice_else, do_loop, meas, select, ending, done, then}
use Rattle.vcm_spec.specs.Program.{no_more, one_case, default, size, sizes, case_sizes}
use Rattle.vcm_code.specs.Code.{CodeStatement}
use Rattle.vcm_code.specs.Ranges.{AllInRange}
use Rattle.vcm_asm.specs.inner.Spelled.{NodeKeeps, BlockKeeps, CasesKeep}
use Rattle.vcm_asm.specs.inner.Depth.{NodeDeep, Deep, CasesDeep}
use Rattle.vcm_asm.proofs.SimpleCode.{short, simple_range}
use Rattle.vcm_asm.specs.Assembled.{node_code, block_code, case_code, branches_of}

range_join : (a b : List CodeStatement) → AllInRange a → AllInRange b → AllInRange (a ++ b)
range_join [] b h k = k
range_join (x ∷ a) b h k = (h.0, range_join a b h.1 k)

module _ (tables : Tables) where
  -- a SELECT has no more branches than statements
  few_branches : (cs : Cases) (base : ℕ) → length (branches_of cs base) ≤ case_sizes cs
  few_branches no_more base = omega arith
  few_branches (one_case line v b close rest) base = omega (arith, few_branches rest (base + 1 + sizes b + 1))
  few_branches (default line b close) base = omega arith

  module _ (to : Name → ℕ) where
    mutual
      node_range : (n : Node) (d base : ℕ) → size n ≤ 20000 → NodeFits tables n → NodeKeeps n → NodeDeep n d → AllInRange (node_code to n d base)
      node_range (simple line what) d base few h m deep = (simple_range tables what h m, tt)
      node_range (label line l) d base few h m deep = (tt, tt)
      node_range (jump line l) d base few h m deep = (tt, tt)
      node_range (choice line test first close) d base few h m deep =
          ((short tables test _ h.0 m.0, tt), range_join (block_code to first d (base + 1)) _ (block_range first d (base + 1) (omega (arith, few)) h.1 m.1 deep) (tt, tt))
      node_range (choice_else line test first mid second close) d base few h m deep = (
        (short tables test _ h.0 m.0, tt),
        range_join (block_code to first d (base + 1)) _ (block_range first d (base + 1) (omega (arith, few)) h.1 m.1 deep.0)
            (tt, range_join (block_code to second d (base + 1 + sizes first + 1)) _ (block_range second d (base + 1 + sizes first + 1) (omega (arith, few)) h.2 m.2 deep.1) (tt, tt)),
      )
      node_range (do_loop line v a b c body close) d base few h m deep = (
        (tt, (deep.0, ((short tables a _ h.1 m.0, short tables b _ h.2 m.1, short tables c _ h.3 m.2), tt))),
        range_join (block_code to body (suc d) (base + 1)) _ (block_range body (suc d) (base + 1) (omega (arith, few)) h.4 m.3 deep.1) ((tt, (deep.0, tt)), tt),
      )
      node_range (meas line feature body close) d base few h m deep =
          (tt, range_join (block_code to body d (base + 1)) _ (block_range body d (base + 1) (omega (arith, few)) h.1 m deep) (tt, tt))
      node_range (select line value cases close) d base few h m deep = (
        (short tables value _ h.0 m.0, (omega (arith, few, few_branches cases (base + 1)), tt)),
        range_join (case_code to cases d (base + 1) (base + 1 + case_sizes cases + 1)) _ (cases_range cases d (base + 1) (base + 1 + case_sizes cases + 1) (omega (arith, few)) h.1 m.1 deep) (tt, tt),
      )
      node_range (ending line) d base few h m deep = (tt, tt)

      pub block_range : (b : Block) (d base : ℕ) → sizes b ≤ 20000 → BlockFits tables b → BlockKeeps b → Deep b d → AllInRange (block_code to b d base)
      block_range done d base few h m deep = tt
      block_range (then n b) d base few h m deep =
          range_join (node_code to n d base) _ (node_range n d base (omega (arith, few)) h.0 m.0 deep.0) (block_range b d (base + size n) (omega (arith, few)) h.1 m.1 deep.1)

      cases_range : (cs : Cases) (d base behind : ℕ) → case_sizes cs ≤ 20000 → CasesFit tables cs → CasesKeep cs → CasesDeep cs d → AllInRange (case_code to cs d base behind)
      cases_range no_more d base behind few h m deep = tt
      cases_range (one_case line v b close rest) d base behind few h m deep = (
        tt,
        range_join (block_code to b d (base + 1)) _ (block_range b d (base + 1) (omega (arith, few)) h.0 m.0 deep.0)
            (tt, cases_range rest d (base + 1 + sizes b + 1) behind (omega (arith, few)) h.1 m.1 deep.1),
      )
      cases_range (default line b close) d base behind few h m deep =
          (tt, range_join (block_code to b d (base + 1)) _ (block_range b d (base + 1) (omega (arith, few)) h m deep) (tt, tt))
