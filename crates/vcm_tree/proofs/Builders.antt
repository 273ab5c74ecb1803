-- The blocks of a builder: the innermost one is the last.
use Rattle.std.proofs.Common.{◌≡◌, ℕ, suc, ◌≤◌, ◌<◌, Bool, true, false, List, [], ◌∷◌, ◌++◌, length, Ok, Err, refl, sym, ap, ◌∙◌, arith, nat_lt}
use Rattle.std.specs.Prelude.{ℤ, reverse, None, Some}
use Rattle.std.proofs.lemmas.List.{length-reverse}
use Rattle.vcm_lines.specs.declared.fault.FaultCode.TheVariants.{Unbalanced}
use Rattle.vcm_spec.specs.Program.{Block, Cases, no_more, one_case, default}
use Rattle.vcm_nodes.specs.Nodes.{cases_of, other_of, with_case, with_default}
use Rattle.vcm_nodes.specs.inner.Falls.{cases_push, cases_default}
use Rattle.vcm_tree.specs.declared.builder.Head.{Head}
use Rattle.vcm_tree.specs.declared.builder.Head.TheVariants.{First, Second, Body, Measuring, Case}
use Rattle.vcm_tree.specs.declared.builder.Open.{Open}
use Rattle.vcm_tree.specs.Blocks.{Opened, depth, room, room_by, ended}
use Rattle.vcm_tree.specs.inner.Closing.{Closed, closed_of}
use Rattle.vcm_tree.specs.inner.Growing.{opened_by, kinds_of}

-- ---- how many are open

deeper : (h : Head) (bs : List Opened) → depth (opened_by h ++ bs) ≡ suc (depth bs)
deeper (First from t) bs = refl
deeper (Second from t f mid) bs = refl
deeper (Body from v x y z) bs = refl
deeper (Measuring from f) bs = refl
deeper (Case from v cs at' z) bs = refl

depth_is : (os : List Open) → depth (kinds_of os) ≡ length os
depth_is [] = refl
depth_is (o ∷ os) = (let a = deeper o.head (kinds_of os) in let b = depth_is os in omega (arith, a, b))

room_true : (b : Bool) → b ≡ true → room_by b ≡ Ok tt
room_true true e = refl
room_true false e = absurd cc

room_false : (b : Bool) → b ≡ false → room_by b ≡ Err Unbalanced
room_false false e = refl
room_false true e = absurd cc

pub has_room : (os : List Open) → length os < 32 → room (kinds_of (reverse os)) ≡ Ok tt
has_room os l = room_true (nat_lt (depth (kinds_of (reverse os))) 32) (let e = depth_is (reverse os) in let n = length-reverse os in grind (arith, e, n))

pub no_room : (os : List Open) → 32 ≤ length os → room (kinds_of (reverse os)) ≡ Err Unbalanced
no_room os l = room_false (nat_lt (depth (kinds_of (reverse os))) 32) (let e = depth_is (reverse os) in let n = length-reverse os in grind (arith, e, n))

-- ENDFIL where a block is open
pub end_fails : (os : List Open) → 0 < length os → ended (kinds_of (reverse os)) ≡ Err Unbalanced
end_fails os l = by (reverse os) (length-reverse os)
  where
    some : (h : Head) (bs : List Opened) → ended (opened_by h ++ bs) ≡ Err Unbalanced
    some (First from t) bs = refl
    some (Second from t f mid) bs = refl
    some (Body from v x y z) bs = refl
    some (Measuring from f) bs = refl
    some (Case from v cs at' z) bs = refl

    by : (rs : List Open) → length rs ≡ length os → ended (kinds_of rs) ≡ Err Unbalanced
    by [] e = absurd (omega (arith, l, e))
    by (o ∷ rs) e = some o.head (kinds_of rs)

-- ---- the blocks of CASE

closed_again : (cs : Cases) → other_of cs ≡ None → cases_of (closed_of cs) None ≡ cs
closed_again no_more e = refl
closed_again (one_case line v b close rest) e = ap (one_case line v b close) (closed_again rest e)
closed_again (default line b close) e = absurd cc

closed_back : (cs : List Closed) → closed_of (cases_of cs None) ≡ cs
closed_back [] = refl
closed_back (c ∷ cs) = ap (λ l. (c.0, c.1, c.2, c.3) ∷ l) (closed_back cs)

other_back : (cs : List Closed) → other_of (cases_of cs None) ≡ None
other_back [] = refl
other_back (c ∷ cs) = other_back cs

module _ (cs : Cases) (e : other_of cs ≡ None) (line : ℕ) (b : Block) (close : ℕ) where
  with_more : (v : ℤ) → with_case cs line v b close ≡ cases_of (closed_of cs ++ (line, v, b, close) ∷ []) None
  with_more v = ap (λ x. with_case x line v b close) (sym (closed_again cs e)) ∙ sym (cases_push (closed_of cs) None line v b close)

  pub closed_more : (v : ℤ) → closed_of (with_case cs line v b close) ≡ closed_of cs ++ (line, v, b, close) ∷ []
  closed_more v = ap closed_of (with_more v) ∙ closed_back (closed_of cs ++ (line, v, b, close) ∷ [])

  pub other_more : (v : ℤ) → other_of (with_case cs line v b close) ≡ None
  other_more v = ap other_of (with_more v) ∙ other_back (closed_of cs ++ (line, v, b, close) ∷ [])

  pub defaulted : with_default cs line b close ≡ cases_of (closed_of cs) (Some (line, b, close))
  defaulted = ap (λ x. with_default x line b close) (sym (closed_again cs e)) ∙ sym (cases_default (closed_of cs) None line b close)

pub closed_whole : (cs : Cases) → other_of cs ≡ None → cs ≡ cases_of (closed_of cs) None
closed_whole cs e = sym (closed_again cs e)
