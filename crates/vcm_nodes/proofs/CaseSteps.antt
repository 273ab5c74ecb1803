-- The blocks of a SELECT, one by one: how many statements they have, and their jumps.
use Rattle.std.proofs.Common.{◌≡◌, ℕ, zero, suc, ◌+◌, ◌<◌, ◌≤◌, List, [], ◌∷◌, ◌++◌, length, drop, get_or, Option, Some, sym, ap, ◌∙◌, subst, append_assoc, inl, inr, arith}
use Rattle.std.specs.Prelude.{ℤ}
use Rattle.std.proofs.lemmas.List.{drop_more, drop_all}
use Rattle.vcm_lines.specs.declared.fault.SourceFault.{SourceFault}
use Rattle.vcm_lines.specs.Fault.{NoMemoryOr}
use Rattle.vcm_spec.specs.Program.{Label, Block, Cases, no_more, one_case, default, sizes, case_sizes}
use Rattle.vcm_nodes.specs.Nodes.{default_by, cases_of, other_of}
use Rattle.vcm_nodes.specs.Jumps.{Jump, own_labels, jumps_in, jumps_among}
use Rattle.vcm_nodes.specs.inner.Judging.{AllReach, IsFirst}
use Rattle.vcm_nodes.proofs.Jumping.{all_append, first_front, first_behind}

-- a CASE with its line, its value, its block and the line of its ENDCAS
abbrev pub Case : Type 0
Case = ℕ × ℤ × Block × ℕ

-- the blocks from one on are that one and those behind it
pub cases_next : (cs : List Case) (o : Option (ℕ × Block × ℕ)) (i : ℕ) (c : Case) → i < length cs → c ≡ get_or cs i c
    → cases_of (drop i cs) o ≡ one_case c.0 c.1 c.2 c.3 (cases_of (drop (i + 1) cs) o)
cases_next cs o i c l e = ap (λ xs. cases_of xs o) (drop_more cs i c l ∙ ap (λ (x : Case). x ∷ drop (i + 1) cs) (sym e))

-- behind the last one there is the block of DFTCAS, if there is one
pub cases_end : (cs : List Case) (o : Option (ℕ × Block × ℕ)) (i : ℕ) → length cs ≤ i → cases_of (drop i cs) o ≡ default_by o
cases_end cs o i le = ap (λ xs. cases_of xs o) (drop_all i cs le)

-- a block of a SELECT has fewer statements than all of them
pub case_falls : (cs : List Case) (o : Option (ℕ × Block × ℕ)) (i : ℕ) (c : Case) → i < length cs → c ≡ get_or cs i c → sizes c.2 < case_sizes (cases_of cs o)
case_falls [] o i c l e = absurd (omega arith)
case_falls (x ∷ cs) o zero c l e = (let same : sizes c.2 ≡ sizes x.2 = ap (λ (y : Case). sizes y.2) e in omega arith)
case_falls (x ∷ cs) o (suc i) c l e = (let h = case_falls cs o i c (omega arith) e in omega arith)

pub default_falls : (cs : Cases) (d : ℕ × Block × ℕ) → Some d ≡ other_of cs → sizes d.1 < case_sizes cs
default_falls no_more d e = absurd cc
default_falls (one_case line v b close rest) d e = (let h = default_falls rest d e in omega arith)
default_falls (default line b close) d e = (let same : d ≡ (line, b, close) = cc in let h : sizes d.1 ≡ sizes b = ap (λ (y : ℕ × Block × ℕ). sizes y.1) same in omega arith)

-- the blocks before the rest are judged
pub record AreJudged (all reach : List Label) (cs rest : Cases) : Type 0 where
  pub before : List Jump
  pub reached : AllReach all before
  pub cut : jumps_among cs reach ≡ before ++ jumps_among rest reach

module _ (all reach : List Label) (cs : Cases) where
  judged_one : (line : ℕ) (v : ℤ) (b : Block) (close : ℕ) (rest : Cases) → AreJudged all reach cs (one_case line v b close rest)
      → AllReach all (jumps_in b (reach ++ own_labels b)) → AreJudged all reach cs rest
  judged_one line v b close rest j h = record {
    before = j.before ++ jumps_in b (reach ++ own_labels b);
    reached = all_append all j.before (jumps_in b (reach ++ own_labels b)) j.reached h;
    cut = j.cut ∙ sym (append_assoc j.before (jumps_in b (reach ++ own_labels b)) (jumps_among rest reach));
  }

  told_one : (line : ℕ) (v : ℤ) (b : Block) (close : ℕ) (rest : Cases) (f : SourceFault) → AreJudged all reach cs (one_case line v b close rest)
      → NoMemoryOr (IsFirst all (jumps_in b (reach ++ own_labels b))) f → NoMemoryOr (IsFirst all (jumps_among cs reach)) f
  told_one line v b close rest f j (inl e) = inl e
  told_one line v b close rest f j (inr p) =
      inr (subst (λ js. IsFirst all js f) (sym j.cut)
      (first_behind all j.before (jumps_in b (reach ++ own_labels b) ++ jumps_among rest reach) f j.reached
      (first_front all (jumps_in b (reach ++ own_labels b)) (jumps_among rest reach) f p)))

  -- a step of the loop, and the fault that it finds
  pub judged_case : (now : List Label) (items : List Case) (o : Option (ℕ × Block × ℕ)) (i : ℕ) (c : Case) → i < length items → c ≡ get_or items i c → now ≡ reach
      → AreJudged all reach cs (cases_of (drop i items) o) → AllReach all (jumps_in c.2 (now ++ own_labels c.2)) → AreJudged all reach cs (cases_of (drop (i + 1) items) o)
  judged_case now items o i c l e same j h =
      judged_one c.0 c.1 c.2 c.3 (cases_of (drop (i + 1) items) o) (subst (AreJudged all reach cs) (cases_next items o i c l e) j)
      (subst (λ r. AllReach all (jumps_in c.2 (r ++ own_labels c.2))) same h)

  pub told_case : (now : List Label) (items : List Case) (o : Option (ℕ × Block × ℕ)) (i : ℕ) (c : Case) (f : SourceFault) → i < length items → c ≡ get_or items i c → now ≡ reach
      → AreJudged all reach cs (cases_of (drop i items) o) → NoMemoryOr (IsFirst all (jumps_in c.2 (now ++ own_labels c.2))) f → NoMemoryOr (IsFirst all (jumps_among cs reach)) f
  told_case now items o i c f l e same j h =
      told_one c.0 c.1 c.2 c.3 (cases_of (drop (i + 1) items) o) f (subst (AreJudged all reach cs) (cases_next items o i c l e) j)
      (subst (λ r. NoMemoryOr (IsFirst all (jumps_in c.2 (r ++ own_labels c.2))) f) same h)

  module _ (now : List Label) (items : List Case) (o : Option (ℕ × Block × ℕ)) (i : ℕ) (d : ℕ × Block × ℕ) (le : length items ≤ i) (e : Some d ≡ o) (same : now ≡ reach)
      (j : AreJudged all reach cs (cases_of (drop i items) o)) where
    last : AreJudged all reach cs (default d.0 d.1 d.2)
    last = subst (AreJudged all reach cs) (cases_end items o i le ∙ ap default_by (sym e)) j

    -- the block of DFTCAS is left
    pub judged_default : AllReach all (jumps_in d.1 (now ++ own_labels d.1)) → AllReach all (jumps_among cs reach)
    judged_default h =
        subst (AllReach all) (sym last.cut)
        (all_append all last.before (jumps_in d.1 (reach ++ own_labels d.1)) last.reached (subst (λ r. AllReach all (jumps_in d.1 (r ++ own_labels d.1))) same h))

    pub told_default : (f : SourceFault) → NoMemoryOr (IsFirst all (jumps_in d.1 (now ++ own_labels d.1))) f → NoMemoryOr (IsFirst all (jumps_among cs reach)) f
    told_default f (inl g) = inl g
    told_default f (inr p) =
        inr (subst (λ js. IsFirst all js f) (sym last.cut)
        (first_behind all last.before (jumps_in d.1 (reach ++ own_labels d.1)) f last.reached (subst (λ r. IsFirst all (jumps_in d.1 (r ++ own_labels d.1)) f) same p)))
