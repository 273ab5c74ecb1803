-- How deep the loops of a program nest.
use Rattle.std.specs.Prelude.{ℕ, suc, ◌<◌}
use Rattle.vcm_spec.specs.Program.{Node, Block, Cases, simple, label, jump, choice, choice_else, do_loop, meas, select, ending, done, then, no_more, one_case}
use Rattle.vcm_spec.specs.Program.{default}
use Rattle.vcm_num.specs.declared.limits.TheConstants.{DEEPEST_BLOCKS}

-- where d DO stand around a node, a block, or the blocks of a SELECT, at most 32 stand around each of its statements
abbrev mutual
  pub NodeDeep : Node → ℕ → Type 0
  NodeDeep (simple line what) d = Unit {0}
  NodeDeep (label line l) d = Unit {0}
  NodeDeep (jump line l) d = Unit {0}
  NodeDeep (choice line test first close) d = Deep first d
  NodeDeep (choice_else line test first mid second close) d = Deep first d × Deep second d
  NodeDeep (do_loop line v initial limit increment body close) d = (d < DEEPEST_BLOCKS) × Deep body (suc d)
  NodeDeep (meas line feature body close) d = Deep body d
  NodeDeep (select line value cases close) d = CasesDeep cases d
  NodeDeep (ending line) d = Unit {0}

  pub Deep : Block → ℕ → Type 0
  Deep done d = Unit {0}
  Deep (then n b) d = NodeDeep n d × Deep b d

  pub CasesDeep : Cases → ℕ → Type 0
  CasesDeep no_more d = Unit {0}
  CasesDeep (one_case line value block close rest) d = Deep block d × CasesDeep rest d
  CasesDeep (default line block close) d = Deep block d
