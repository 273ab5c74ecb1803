-- The block that a SELECT chooses, and where its code goes for it.
use Rattle.std.proofs.Common.{◌≡◌, ℕ, ◌+◌, List, ◌∷◌, ◌++◌, Option, Some, None, Bool, true, false, refl, subst, arith}
use Rattle.std.specs.Prelude.{ℤ, slice_get}
use Rattle.std.specs.Ordering.{int_eq}
use Rattle.vcm_spec.specs.Setup.{Setup}
use Rattle.vcm_spec.specs.Program.{Label as Name, Block, Cases, no_more, one_case, default, sizes, case_sizes, this_or, chosen}
use Rattle.vcm_spec.specs.Table.{if_true}
use Rattle.vcm_spec.specs.Whole.{CasesJump}
use Rattle.vcm_code.specs.declared.op.Op.TheVariants.{EndCas}
use Rattle.vcm_code.specs.Code.{CodeStatement, statement}
use Rattle.vcm_code.specs.CodeTable.{target_for}
use Rattle.vcm_asm.specs.inner.Depth.{CasesDeep}
use Rattle.vcm_asm.specs.Assembled.{marks, case_marks, block_code, case_code, branches_of, last_target}
use Rattle.vcm_asm.proofs.Place.{HasAt, has_front, has_back, block_length, Marked, marked_front, marked_back}
use Rattle.vcm_asm.proofs.Remainder.{Placed as PlacedIn}

module _ (setup : Setup) (code : List CodeStatement) (to : Name → ℕ) (d : ℕ) where
  abbrev Placed : ℕ → Block → List Block → Type 0
  Placed base b around = PlacedIn setup code to d base b around

  -- the blocks of a SELECT that are assembled and accepted, within `d` loops, in front of the statement `behind`
  pub record CasesPlaced (base behind : ℕ) (around : List Block) (cs : Cases) : Type 0 where
    pub has : HasAt code base (case_code to cs d base behind)
    pub jumps : CasesJump cs around
    pub marked : Marked to (case_marks cs base)
    pub deep : CasesDeep cs d

  -- the block stands at its place, where the code goes, and its ENDCAS goes behind the SELECT
  pub record IsBlock (behind : ℕ) (around : List Block) (b : Block) (first goes : ℕ) : Type 0 where
    pub target : goes ≡ first
    pub placed : Placed first b around
    pub line : ℕ
    pub closing : slice_get code (first + sizes b) ≡ Some (statement line (EndCas behind))

  -- so of the block that is chosen; where there is none, the code goes behind the last block, to ENDSEL
  abbrev pub IsSelected : ℕ → ℕ → List Block → ℕ → Option (Block × ℕ) → ℕ → Type 0
  IsSelected base behind around length None target = target ≡ base + length
  IsSelected base behind around length (Some p) target = IsBlock behind around p.0 p.1 target

  tail_at : (b : Block) (pc : ℕ) (rest : List CodeStatement) → HasAt code pc (block_code to b d pc ++ rest) → HasAt code (pc + sizes b) rest
  tail_at b pc rest h = subst (λ k. HasAt code (pc + k) rest) (block_length to b d pc) (has_back code pc (block_code to b d pc) rest h)

  module _ (behind : ℕ) (around : List Block) (z : ℤ) where
    -- the choice among the rest is that among all
    further : (line : ℕ) (v : ℤ) (b : Block) (close : ℕ) (rest : Cases) (base : ℕ) (o : Option (Block × ℕ)) (target : ℕ)
        → IsSelected (base + 1 + sizes b + 1) behind around (case_sizes rest) o target → IsSelected base behind around (case_sizes (one_case line v b close rest)) o target
    further line v b close rest base None target h = omega (arith, h)
    further line v b close rest base (Some p) target h = h

    pub selected_is : (cs : Cases) (base : ℕ) → CasesPlaced base behind around cs
        → IsSelected base behind around (case_sizes cs) (chosen z cs base) (target_for z (branches_of cs base) (last_target cs base))
    selected_is no_more base h = omega arith
    selected_is (one_case line v b close rest) base h = by (int_eq z v) (selected_is rest (base + 1 + sizes b + 1) others)
      where
        closing : HasAt code (base + 1 + sizes b) (statement close (EndCas behind) ∷ case_code to rest d (base + 1 + sizes b + 1) behind)
        closing = tail_at b (base + 1) _ h.has.1

        others : CasesPlaced (base + 1 + sizes b + 1) behind around rest
        others = record { has = closing.1; jumps = h.jumps.1; marked = marked_back to (marks b (base + 1)) _ h.marked; deep = h.deep.1 }

        here : Placed (base + 1) b around
        here = record { has = has_front code (base + 1) (block_code to b d (base + 1)) _ h.has.1; jumps = h.jumps.0; marked = marked_front to (marks b (base + 1)) _ h.marked; deep = h.deep.0 }

        by : (t : Bool) → IsSelected (base + 1 + sizes b + 1) behind around (case_sizes rest) (chosen z rest (base + 1 + sizes b + 1))
            (target_for z (branches_of rest (base + 1 + sizes b + 1)) (last_target rest (base + 1 + sizes b + 1)))
            → IsSelected base behind around (case_sizes (one_case line v b close rest)) (this_or t (b, base + 1) (chosen z rest (base + 1 + sizes b + 1)))
            (if_true t (base + 1) (target_for z (branches_of rest (base + 1 + sizes b + 1)) (last_target rest (base + 1 + sizes b + 1))))
        by true k = record { target = refl; placed = here; line = close; closing = closing.0 }
        by false k = further line v b close rest base _ _ k
    selected_is (default line b close) base h = record {
      target = refl;
      placed = record { has = has_front code (base + 1) (block_code to b d (base + 1)) _ h.has.1; jumps = h.jumps; marked = h.marked; deep = h.deep };
      line = close;
      closing = (tail_at b (base + 1) _ h.has.1).0;
    }
