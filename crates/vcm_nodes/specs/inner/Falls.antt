-- A block in a node has fewer statements than the block of that node.
use Rattle.std.specs.Prelude.{◌≤◌, ◌≡◌, ◌+◌, ℕ, ℤ, List, [], ◌∷◌, ◌++◌, Option, Some, None, refl}
use Rattle.std.proofs.Common.{arith, ap}
use denote.Param.Weighed.{most}
use Rattle.vcm_spec.specs.Program.{Block, then, one_case, size, sizes, case_sizes}
use Rattle.vcm_nodes.specs.Nodes.{node_of, block_of, cases_of, other_of, with_last, with_case, with_default}
use Rattle.vcm_nodes.specs.declared.node.Node.{Node}
use Rattle.vcm_nodes.specs.declared.node.Node.TheVariants.{Simple, Label, Jump, Choice, Repeat, Measure, Select, Ending}
use Rattle.vcm_nodes.specs.declared.node.Block.TheDeep.{deep-Node}
use Rattle.vcm_nodes.specs.declared.node.Block.TheShapes.{weighed-Cases-cases-at-4, weighed-Cases-other}

-- the deepest block in a node is no larger than the node
pub node_falls : (n : Node) → deep-Node n ≤ size (node_of n)
node_falls (Simple line what) = omega arith
node_falls (Label line l) = omega arith
node_falls (Jump line l) = omega arith
node_falls (Choice line test first None close) = omega arith
node_falls (Choice line test first (Some p) close) = omega arith
node_falls (Repeat line v a b c body close) = omega arith
node_falls (Measure line f body close) = omega arith
node_falls (Select line v cases close) = omega arith
node_falls (Ending line) = omega arith

-- the deepest block in a list of nodes is no larger than the list
pub block_falls : (ns : List Node) → most deep-Node ns ≤ sizes (block_of ns)
block_falls [] = omega arith
block_falls (n ∷ ns) = omega (arith, node_falls n, block_falls ns)

-- one node more at the end of the list is one more at the end of the block
pub block_push : (ns : List Node) (n : Node) → block_of (ns ++ n ∷ []) ≡ with_last (block_of ns) (node_of n)
block_push [] n = refl
block_push (m ∷ ns) n = ap (λ t. then (node_of m) t) (block_push ns n)

-- the deepest block of a CASE is no larger than the blocks of its SELECT, and neither is that of DFTCAS
pub cases_fall : (cs : List (ℕ × ℤ × Block × ℕ)) (o : Option (ℕ × Block × ℕ))
    → most (λ c. weighed-Cases-cases-at-4.weight Block (λ b. sizes b + 1) c) cs ≤ case_sizes (cases_of cs o)
cases_fall [] o = omega arith
cases_fall (c ∷ cs) o = omega (arith, cases_fall cs o)

pub default_falls : (cs : List (ℕ × ℤ × Block × ℕ)) (o : Option (ℕ × Block × ℕ))
    → weighed-Cases-other.weight Block (λ b. sizes b + 1) o ≤ case_sizes (cases_of cs o)
default_falls [] None = omega arith
default_falls [] (Some p) = omega arith
default_falls (c ∷ cs) o = omega (arith, default_falls cs o)

-- one CASE more at the end of the list is one more behind the others
pub cases_push : (cs : List (ℕ × ℤ × Block × ℕ)) (o : Option (ℕ × Block × ℕ)) (l : ℕ) (v : ℤ) (b : Block) (c : ℕ)
    → cases_of (cs ++ (l, v, b, c) ∷ []) o ≡ with_case (cases_of cs o) l v b c
cases_push [] None l v b c = refl
cases_push [] (Some p) l v b c = refl
cases_push (x ∷ cs) o l v b c = ap (λ t. one_case x.0 x.1 x.2 x.3 t) (cases_push cs o l v b c)

-- the block of DFTCAS at the end
pub cases_default : (cs : List (ℕ × ℤ × Block × ℕ)) (o : Option (ℕ × Block × ℕ)) (l : ℕ) (b : Block) (c : ℕ)
    → cases_of cs (Some (l, b, c)) ≡ with_default (cases_of cs o) l b c
cases_default [] None l b c = refl
cases_default [] (Some p) l b c = refl
cases_default (x ∷ cs) o l b c = ap (λ t. one_case x.0 x.1 x.2 x.3 t) (cases_default cs o l b c)

-- DFTCAS among the blocks
pub other_is : (cs : List (ℕ × ℤ × Block × ℕ)) (o : Option (ℕ × Block × ℕ)) → other_of (cases_of cs o) ≡ o
other_is [] None = refl
other_is [] (Some p) = refl
other_is (c ∷ cs) o = other_is cs o
