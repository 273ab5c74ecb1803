-- A statement in a block, and one where a SELECT is open and none of its blocks.
use Rattle.std.proofs.Common.{◌≡◌, ℕ, false, ◌&&◌, List, [], ◌∷◌, ◌++◌, Err, refl, ap, ◌∙◌}
use Rattle.std.specs.Prelude.{reverse}
use Rattle.vcm_lines.specs.declared.fault.FaultCode.TheVariants.{Unbalanced}
use Rattle.vcm_forms.specs.declared.statement.Form.{Form}
use Rattle.vcm_tree.specs.declared.builder.Head.{Head}
use Rattle.vcm_tree.specs.declared.builder.Head.TheVariants.{First, Second, Body, Measuring, Case}
use Rattle.vcm_tree.specs.declared.builder.Open.{Open}
use Rattle.vcm_tree.specs.declared.taking.Progress.{Progress}
use Rattle.vcm_tree.specs.Sentences.{Step}
use Rattle.vcm_tree.specs.Blocks.{Opened, InSelect, case_begun, select_ended, is_choosing}
use Rattle.vcm_tree.specs.Resolving.{stated, is_measuring, is_barred, is_in_block, unless_barred, unless_choosing, resolved}
use Rattle.vcm_tree.specs.inner.Growing.{opened_by, kinds_of, blocks_of}
use Rattle.vcm_tree.specs.inner.Taking.{behind_of}

-- ---- in a block

in_block : (os : List Open) → is_choosing (kinds_of os) ≡ false
in_block [] = refl
in_block (o ∷ os) = by o.head
  where
    by : (h : Head) → is_choosing (opened_by h ++ kinds_of os) ≡ false
    by (First from t) = refl
    by (Second from t f mid) = refl
    by (Body from v x y z) = refl
    by (Measuring from f) = refl
    by (Case from v cs at' z) = refl

case_fails_by : (bs : List Opened) (s : Step) → is_choosing bs ≡ false → case_begun bs s ≡ Err Unbalanced
case_fails_by (InSelect t ∷ bs) s e = absurd cc
case_fails_by _ s e = refl

select_end_fails_by : (bs : List Opened) → is_choosing bs ≡ false → select_ended bs ≡ Err Unbalanced
select_end_fails_by (InSelect t ∷ bs) e = absurd cc
select_end_fails_by _ e = refl

-- CASE, DFTCAS and ENDSEL don't stand there
pub case_fails : (r : Progress) (s : Step) → case_begun (blocks_of r.builder) s ≡ Err Unbalanced
case_fails r s = case_fails_by (blocks_of r.builder) s (in_block (reverse r.builder.opens.items))

pub select_end_fails : (r : Progress) → select_ended (blocks_of r.builder) ≡ Err Unbalanced
select_end_fails r = select_end_fails_by (blocks_of r.builder) (in_block (reverse r.builder.opens.items))

pub placed_is : (r : Progress) (ex : ℕ) (form : Form) → (is_measuring (blocks_of r.builder) && is_barred form) ≡ false → resolved (behind_of r) ex form ≡ stated (behind_of r) ex form
placed_is r ex form e =
    ap (λ t. unless_barred t (unless_choosing (is_choosing (blocks_of r.builder) && is_in_block form) (stated (behind_of r) ex form))) e
    ∙ ap (λ t. unless_choosing (t && is_in_block form) (stated (behind_of r) ex form)) (in_block (reverse r.builder.opens.items))
