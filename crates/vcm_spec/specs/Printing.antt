-- Which statements make an output line, and so take memory.
use Rattle.std.specs.Prelude.{Bool, true, false, Option, Some, None, List, [], ◌∷◌}
use Rattle.vcm_spec.specs.Simple.{Simple}
use Rattle.vcm_spec.specs.declared.simple.Simple.TheVariants.{Output, Text}
use Rattle.vcm_spec.specs.Program.{Node, simple, node_at}
use Rattle.vcm_spec.specs.Table.{Entry, Rest, Closes, Loop}

-- whether a simple statement makes an output line
abbrev pub prints : {E : Type 0} → Simple E → Bool
prints (Output source i) = true
prints (Text bytes) = true
prints _ = false

-- whether a node makes an output line, and so takes memory
abbrev pub takes_memory : Option Node → Bool
takes_memory (Some (simple line what)) = prints what
takes_memory _ = false

-- the node that comes first, where the first entry is the rest of a block; it is asked of entries whose front was taken
abbrev pub next_node : List Entry → Option Node
next_node [] = None
next_node (Rest b base i ∷ es) = node_at b i
next_node (Closes n ∷ es) = None
next_node (Loop at v b close limit increment ∷ es) = None
