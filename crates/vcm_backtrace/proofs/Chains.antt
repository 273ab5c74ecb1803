-- The CALLs of a chain, written one after another.
use Rattle.std.proofs.Common.{◌≡◌, ℕ, zero, suc, ◌-◌, Bool, true, false, List, [], ◌∷◌, ◌++◌, Option, Some, None, slice_get, refl, ap, ◌∙◌}
use Rattle.std.specs.Prelude.{flat_map, filter, map, unwrap_or, nat_eq, if◌then◌else◌}
use Rattle.vcm_forms.specs.Statements.{is_counted}
use Rattle.vcm_forms.specs.declared.statement.Statement.{Statement}
use Rattle.vcm_calls.specs.declared.called.Called.{Called}
use Rattle.vcm_macro.specs.declared.placed.Placed.{Placed}
use Rattle.vcm_macro.specs.Rules.{kept}
use Rattle.vcm_macro.specs.Walk.{walk}
use Rattle.vcm_calls.specs.Carried.{carried_out}
use Rattle.vcm_calls.specs.Chains.{expansion_if, expansion_of, expansions, line_then, chain_before, chain, chain_of}
use Rattle.vcm_backtrace.specs.Calls.{call_line, line_if, depth_before, call_if, number_if, first_after, numbers_in}

module _ (text : List ℕ) (ss : List Statement) where
  -- the CALL at a place, and then those before it
  one_if : (b : Bool) (line depth : ℕ) (on : ℕ → List ℕ)
      → flat_map (call_line text ss) (if b then line ∷ on (depth - 1) else on depth)
      ≡ call_if text ss (if b then Some line else None) ++ flat_map (call_line text ss) (on (depth_before (if b then Some line else None) depth))
  one_if true line depth on = refl
  one_if false line depth on = refl

  one_then : (o : Option Called) (depth : ℕ) (on : ℕ → List ℕ)
      → flat_map (call_line text ss) (line_then o depth on) ≡ call_if text ss (line_if o depth) ++ flat_map (call_line text ss) (on (depth_before (line_if o depth) depth))
  one_then None depth on = refl
  one_then (Some c) depth on = one_if (nat_eq c.depth depth) c.line depth on

  pub chain_turn : (calls : List Called) (i j depth : ℕ) → i ≡ suc j
      → flat_map (call_line text ss) (chain_before calls i depth)
      ≡ call_if text ss (line_if (slice_get calls j) depth)
      ++ flat_map (call_line text ss) (chain_before calls j (depth_before (line_if (slice_get calls j) depth) depth))
  chain_turn calls i j depth e =
      ap (λ k. flat_map (call_line text ss) (chain_before calls k depth)) e ∙ one_then (slice_get calls j) depth (chain_before calls j)

-- the line of the CALL at a place, and then those before it
number_one_if : (b first : Bool) (line depth : ℕ) (on : ℕ → List ℕ)
    → numbers_in first (if b then line ∷ on (depth - 1) else on depth)
    ≡ number_if first (if b then Some line else None)
    ++ numbers_in (first_after first (if b then Some line else None)) (on (depth_before (if b then Some line else None) depth))
number_one_if true first line depth on = refl
number_one_if false first line depth on = refl

number_one : (o : Option Called) (first : Bool) (depth : ℕ) (on : ℕ → List ℕ)
    → numbers_in first (line_then o depth on)
    ≡ number_if first (line_if o depth) ++ numbers_in (first_after first (line_if o depth)) (on (depth_before (line_if o depth) depth))
number_one None first depth on = refl
number_one (Some c) first depth on = number_one_if (nat_eq c.depth depth) first c.line depth on

pub number_turn : (calls : List Called) (first : Bool) (i j depth : ℕ) → i ≡ suc j
    → numbers_in first (chain_before calls i depth)
    ≡ number_if first (line_if (slice_get calls j) depth)
    ++ numbers_in (first_after first (line_if (slice_get calls j) depth)) (chain_before calls j (depth_before (line_if (slice_get calls j) depth) depth))
number_turn calls first i j depth e = ap (λ k. numbers_in first (chain_before calls k depth)) e ∙ number_one (slice_get calls j) first depth (chain_before calls j)

-- the expansion of a numbered statement, by its place among all
pub expansion_is : (all : List Placed) (number : ℕ) → unwrap_or (slice_get (expansions all) number) 0 ≡ expansion_of all number
expansion_is all number = there (filter (λ p. is_counted p.statement.form) all) number
  where
    there : (ps : List Placed) (i : ℕ) → unwrap_or (slice_get (map (λ p. p.expansion) ps) i) 0 ≡ expansion_if (slice_get ps i)
    there [] i = refl
    there (p ∷ ps) zero = refl
    there (p ∷ ps) (suc i) = there ps i

-- the chain of a statement, by the CALLs of a program and the expansions of its statements
pub chain_is : (ss : List Statement) (calls : List Called) (numbers : List ℕ) (number : ℕ) → calls ≡ carried_out ss → numbers ≡ expansions (kept (walk ss))
    → chain calls (unwrap_or (slice_get numbers number) 0) ≡ chain_of ss number
chain_is ss calls numbers number e f =
    ap (λ (l : List Called). chain l (unwrap_or (slice_get numbers number) 0)) e ∙ ap (λ (l : List ℕ). chain (carried_out ss) (unwrap_or (slice_get l number) 0)) f
    ∙ ap (chain (carried_out ss)) (expansion_is (kept (walk ss)) number)
