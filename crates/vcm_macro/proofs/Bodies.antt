-- The statements of a body, one behind the other.
use Rattle.std.proofs.Common.{◌≡◌, ℕ, ◌+◌, ◌<◌, List, [], ◌∷◌, ◌++◌, length, drop, refl, sym, ap, ◌∙◌, get_or}
use Rattle.std.proofs.lemmas.List.{append_assoc}
use Rattle.vcm_lines.specs.declared.fault.SourceFault.{SourceFault}
use Rattle.std.specs.Prelude.{map}
use Rattle.vcm_lines.specs.Fault.{NoMemoryOr}
use Rattle.vcm_forms.specs.declared.statement.Statement.{Statement}
use Rattle.vcm_forms.specs.declared.statement.Argument.{Argument}
use Rattle.vcm_forms.specs.declared.statement.Form.{Form}
use Rattle.vcm_forms.specs.declared.statement.Form.TheVariants.{Call}
use Rattle.vcm_substitution.specs.Substitution.{Scope, put_form, put_argument}
use Rattle.vcm_macro.specs.Walk.{Visit, Stands, Caller, behind, statement_in, body_in}
use Rattle.vcm_macro.specs.inner.Expanding.{Done, TellsFirst, Walked, stands}
use Rattle.vcm_macro.proofs.Lists.{drop_here}
use Rattle.vcm_macro.proofs.Walks.{walked_more, told_front, told_more}
use Rattle.vcm_macro.proofs.Calling.{or_memory}

-- so many of the statements are done
pub record IsDone (call : Caller) (sc : Scope) (depth : ℕ) (all : List Statement) (i : ℕ) (start now : Done) : Type 0 where
  pub ps : List Visit
  pub walked : Walked start now ps
  pub is : body_in call sc depth start.calls all ≡ ps ++ body_in call sc depth now.calls (drop i all)

-- what is left begins with the next one
next_is : (call : Caller) (sc : Scope) (depth done i : ℕ) (all : List Statement) (s : Statement) → i < length all → s ≡ get_or all i s
    → body_in call sc depth done (drop i all) ≡ behind (statement_in call sc depth done s.line s.form) done (λ n. body_in call sc depth n (drop (i + 1) all))
next_is call sc depth done i all s lt e = ap (λ (l : List Statement). body_in call sc depth done l) (drop_here all i s lt e)

pub done_more : (call : Caller) (sc : Scope) (depth : ℕ) (all : List Statement) (i : ℕ) (start now next : Done) (s : Statement) → IsDone call sc depth all i start now
    → i < length all → s ≡ get_or all i s → Walked now next (statement_in call sc depth now.calls s.line s.form) → IsDone call sc depth all (i + 1) start next
done_more call sc depth all i start now next s d lt e w =
    let qs = statement_in call sc depth now.calls s.line s.form in
    record {
      ps = d.ps ++ qs;
      walked = walked_more start now next d.ps qs d.walked w;
      is = d.is ∙ ap (λ (l : List Visit). d.ps ++ l) (next_is call sc depth now.calls i all s lt e ∙ ap (λ (n : ℕ). qs ++ body_in call sc depth n (drop (i + 1) all)) (sym w.calls))
          ∙ sym (append_assoc d.ps qs (body_in call sc depth next.calls (drop (i + 1) all)));
    }

pub done_told : (call : Caller) (sc : Scope) (depth : ℕ) (all : List Statement) (i : ℕ) (start now : Done) (s : Statement) (f : SourceFault) → IsDone call sc depth all i start now
    → i < length all → s ≡ get_or all i s → TellsFirst now.count (statement_in call sc depth now.calls s.line s.form) f
    → TellsFirst start.count (body_in call sc depth start.calls all) f
done_told call sc depth all i start now s f d lt e t =
    let rest = told_front now.count (statement_in call sc depth now.calls s.line s.form) _ f t in
    rw d.is (told_more start now d.ps _ f d.walked (rw (next_is call sc depth now.calls i all s lt e) rest))

-- ---- the two kinds of statements

-- one that is no CALL
pub stood : (call : Caller) (sc : Scope) (depth done : ℕ) (line : ℕ) (form : Form) → ((name : List ℕ) (bs : List Argument) → form ≡ Call name bs → ⊥)
    → statement_in call sc depth done line form ≡ Stands sc.expansion (record { line = line; form = put_form sc form }) ∷ []
stood call sc depth done line (Call name bs) other = absurd (other name bs refl)
stood call sc depth done line _ other = refl

pub stood_more : (call : Caller) (sc : Scope) (depth : ℕ) (all : List Statement) (i : ℕ) (start now next : Done) (s : Statement) → IsDone call sc depth all i start now
    → i < length all → s ≡ get_or all i s → ((name : List ℕ) (bs : List Argument) → s.form ≡ Call name bs → ⊥) → Walked now next (stands sc s ∷ []) → IsDone call sc depth all (i + 1) start next
stood_more call sc depth all i start now next s d lt e other w =
    done_more call sc depth all i start now next s d lt e (rw (stood call sc depth now.calls s.line s.form other) w)

pub stood_told : (call : Caller) (sc : Scope) (depth : ℕ) (all : List Statement) (i : ℕ) (start now : Done) (s : Statement) (f : SourceFault) → IsDone call sc depth all i start now
    → i < length all → s ≡ get_or all i s → ((name : List ℕ) (bs : List Argument) → s.form ≡ Call name bs → ⊥) → NoMemoryOr (TellsFirst now.count (stands sc s ∷ [])) f
    → NoMemoryOr (TellsFirst start.count (body_in call sc depth start.calls all)) f
stood_told call sc depth all i start now s f d lt e other t =
    or_memory (TellsFirst now.count (stands sc s ∷ [])) (TellsFirst start.count (body_in call sc depth start.calls all)) f
    (λ w. done_told call sc depth all i start now s f d lt e (rw (stood call sc depth now.calls s.line s.form other) w)) t

-- a CALL
pub called_more : (call : Caller) (sc : Scope) (depth : ℕ) (all : List Statement) (i : ℕ) (start now next : Done) (s : Statement) (name : List ℕ)
    (bs written : List Argument) → IsDone call sc depth all i start now
    → i < length all → s ≡ get_or all i s → s.form ≡ Call name bs → written ≡ bs
    → Walked now next (call s.line depth now.calls name (map (put_argument sc) written)) → IsDone call sc depth all (i + 1) start next
called_more call sc depth all i start now next s name bs written d lt e is same w =
    done_more call sc depth all i start now next s d lt e (rw is (rw same at w))

pub called_told : (call : Caller) (sc : Scope) (depth : ℕ) (all : List Statement) (i : ℕ) (start now : Done) (s : Statement) (name : List ℕ)
    (bs written : List Argument) (f : SourceFault) → IsDone call sc depth all i start now
    → i < length all → s ≡ get_or all i s → s.form ≡ Call name bs → written ≡ bs → NoMemoryOr (TellsFirst now.count (call s.line depth now.calls name (map (put_argument sc) written))) f
    → NoMemoryOr (TellsFirst start.count (body_in call sc depth start.calls all)) f
called_told call sc depth all i start now s name bs written f d lt e is same t =
    or_memory (TellsFirst now.count (call s.line depth now.calls name (map (put_argument sc) written))) (TellsFirst start.count (body_in call sc depth start.calls all)) f
    (λ w. done_told call sc depth all i start now s f d lt e (rw is (rw same at w))) t
