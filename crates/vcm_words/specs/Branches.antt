-- The branches of a SELECT in a listing: their values and targets between braces.
use Rattle.std.specs.Prelude.{ℕ, ◌^◌, nat_le, Bool, List, [], ◌∷◌, ◌++◌, length, Option, Some, None, decimal, codes}
use Rattle.std.specs.Fmt.{signed_decimal}
use Rattle.std.specs.Str.{bytes_eq}
use Rattle.vcm_code.specs.declared.branch.Branch.{Branch}
use Rattle.vcm_words.specs.Cutting.{split, joined}
use Rattle.vcm_words.specs.Numbers.{number, signed, counted, only_if}
use Rattle.vcm_words.specs.WordReaders.{◌>>=◌, Reader, one, or_else, tested}
use Rattle.vcm_words.specs.Enclosed.{closed, opened, between}
use Rattle.vcm_num.specs.declared.limits.TheConstants.{MOST_BRANCHES}

-- a branch: its value and its target, 1@3
abbrev pub branch_text : Branch → List ℕ
branch_text b = signed_decimal b.value ++ 64 ∷ decimal b.target

-- the branches' words: {1@3 3@6}, or {} without branches
abbrev pub branches : List Branch → List (List ℕ)
branches bs = opened 123 (closed 125 branch_text bs)

-- the first part, and all behind the mark that ends it, if there is one
abbrev pub halves : ℕ → List (List ℕ) → Option (List ℕ × List ℕ)
halves mark (w ∷ v ∷ ws) = Some (w, joined mark (v ∷ ws))
halves mark ws = None

-- the branch that a word is: its value before the first @, its target behind it
unfoldable pub branch_in : Bool → List ℕ → Option Branch
branch_in exact w =
    halves 64 (split 64 w) >>= λ p. signed exact p.0 >>= λ z. number exact (2 ^ 32) p.1 >>= λ n. Some (record { value = z; target = n })

-- no branches: {}
abbrev pub none_at : Reader (List Branch)
none_at = one (λ w. only_if (bytes_eq w (codes "{}")) [])

-- 1 to 20,000 branches between braces
unfoldable pub braced_at : Bool → Reader (List Branch)
braced_at exact = tested (λ bs. counted exact (nat_le (length bs) MOST_BRANCHES)) (between 123 125 (branch_in exact))

-- branches: none, or some between braces
unfoldable pub branches_at : Bool → Reader (List Branch)
branches_at exact ws = or_else (none_at ws) (braced_at exact ws)
