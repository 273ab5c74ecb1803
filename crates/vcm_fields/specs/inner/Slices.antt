-- What slices of an image mean.
use Rattle.std.specs.Prelude.{◌≡◌, ℕ, List, [], Result, Ok, Err}
use Rattle.vcm_spec.specs.declared.expression.Item.{Item}
use Rattle.vcm_fields.specs.declared.fault.ImageFault.{ImageFault}
use Rattle.vcm_code.specs.declared.branch.Branch.{Branch}
use Rattle.vcm_fields.specs.Readers.{times, item_at, branch_at}

-- what was read, or nothing
abbrev pub read_or_nil : {A : Type 0} → Result (List A × List ℕ) ImageFault → List A
read_or_nil (Ok x) = x.0
read_or_nil (Err e) = []

-- the items that so many items' bytes spell
abbrev pub items_in : ℕ → List ℕ → List Item
items_in count bytes = read_or_nil (times item_at count bytes)

-- the bytes spell so many items, and no more
abbrev pub AreItems : ℕ → List ℕ → Type 0
AreItems count bytes = times item_at count bytes ≡ Ok (items_in count bytes, [])

-- the branches that so many branches' bytes spell
abbrev pub branches_in : ℕ → List ℕ → List Branch
branches_in count bytes = read_or_nil (times branch_at count bytes)

-- the bytes spell so many branches, and no more
abbrev pub AreBranches : ℕ → List ℕ → Type 0
AreBranches count bytes = times branch_at count bytes ≡ Ok (branches_in count bytes, [])
