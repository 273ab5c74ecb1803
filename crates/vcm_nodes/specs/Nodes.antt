-- The nodes of an accepted program as those of the structured program.
use Rattle.std.specs.Prelude.{ℕ, ℤ, List, [], ◌∷◌, Option, Some, None}
use Rattle.vcm_spec.specs.Expression.{Tree}
use Rattle.vcm_spec.specs.Program.{Node, Block, Cases, simple, label, jump, choice, choice_else, do_loop, meas, select, ending, done, then}
use Rattle.vcm_spec.specs.Program.{no_more, one_case, default}
use Rattle.vcm_nodes.specs.declared.node.Node.{Node as Kept}
use Rattle.vcm_nodes.specs.declared.node.Node.TheVariants as kept

-- a choice with a second block or without
abbrev pub choice_by : ℕ → Tree → Block → Option (ℕ × Block) → ℕ → Node
choice_by line test first None close = choice line test first close
choice_by line test first (Some p) close = choice_else line test first p.0 p.1 close

-- the block of DFTCAS, if there is one, as the last of those of a SELECT
abbrev pub default_by : Option (ℕ × Block × ℕ) → Cases
default_by None = no_more
default_by (Some p) = default p.0 p.1 p.2

-- the blocks of a SELECT: those of CASE, each with its line, its value and the line of its ENDCAS, and that of DFTCAS
abbrev pub cases_of : List (ℕ × ℤ × Block × ℕ) → Option (ℕ × Block × ℕ) → Cases
cases_of [] other = default_by other
cases_of (c ∷ cs) other = one_case c.0 c.1 c.2 c.3 (cases_of cs other)

-- the block of DFTCAS among those of a SELECT, if there is one
abbrev pub other_of : Cases → Option (ℕ × Block × ℕ)
other_of no_more = None
other_of (one_case line value block close rest) = other_of rest
other_of (default line block close) = Some (line, block, close)

-- a node
abbrev pub node_of : Kept → Node
node_of (kept.Simple line what) = simple line what
node_of (kept.Label line l) = label line l
node_of (kept.Jump line l) = jump line l
node_of (kept.Choice line test first other close) = choice_by line test first other close
node_of (kept.Repeat line v initial limit increment body close) = do_loop line v initial limit increment body close
node_of (kept.Measure line f body close) = meas line f body close
node_of (kept.Select line value cases close) = select line value cases close
node_of (kept.Ending line) = ending line

-- a list of nodes
abbrev pub block_of : List Kept → Block
block_of [] = done
block_of (n ∷ ns) = then (node_of n) (block_of ns)

-- a block with one node more at its end
abbrev pub with_last : Block → Node → Block
with_last done n = then n done
with_last (then m b) n = then m (with_last b n)

-- the blocks of a SELECT with one CASE more, behind the others
abbrev pub with_case : Cases → ℕ → ℤ → Block → ℕ → Cases
with_case no_more l v b c = one_case l v b c no_more
with_case (one_case line value block close rest) l v b c = one_case line value block close (with_case rest l v b c)
with_case (default line block close) l v b c = one_case l v b c (default line block close)

-- the blocks of a SELECT with this one of DFTCAS at the end
abbrev pub with_default : Cases → ℕ → Block → ℕ → Cases
with_default no_more l b c = default l b c
with_default (one_case line value block close rest) l b c = one_case line value block close (with_default rest l b c)
with_default (default line block close) l b c = default l b c
