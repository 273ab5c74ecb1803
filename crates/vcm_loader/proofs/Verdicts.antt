-- What is found of statements that are read and judged one after the other.
use Rattle.std.proofs.Common.{◌≡◌, ℕ, ◌+◌, ◌<◌, ◌≤◌, ◌==◌, List, [], ◌∷◌, ◌++◌, length, Bool, false, Result, Ok, Err, refl, sym, ap, ◌∙◌, subst, arith}
use Rattle.std.specs.Prelude.{flat_map, OnOk, IfErr}
use Rattle.std.proofs.lemmas.List.{flat_map_more, length-append}
use Rattle.vcm_spec.specs.Setup.{Tables}
use Rattle.vcm_code.specs.declared.code.Code.{Code}
use Rattle.vcm_code.specs.Code.{Op, CodeStatement}
use Rattle.vcm_code.specs.Copies.{listed}
use Rattle.vcm_code.specs.Deciding.{Tells}
use Rattle.vcm_code.specs.Valid.{IsLast, Ends, IsValid}
use Rattle.vcm_code.specs.Checks.{Check, Counts, counts_of, AllHold, op_checks, checks}
use Rattle.vcm_code.proofs.Checked.{hold_append}
use Rattle.vcm_fields.specs.declared.fault.ImageFault.{ImageFault}
use Rattle.vcm_fields.specs.declared.fault.ImageFault.TheVariants.{NoMemory, Trailing}
use Rattle.vcm_fields.specs.Readers.{Fails}
use Rattle.vcm_fields.proofs.Inverse.{IsBytes, guard_met}
use Rattle.vcm_image.specs.Whole.{FitsImage, spelling, ended, code_at}
use Rattle.vcm_image.specs.Opened.{Opened, begun_at, next_at, rest_at}
use Rattle.vcm_image.proofs.Tables.{fails_so, fails_from}
use Rattle.vcm_image.proofs.Wholes.{code_takes}
use Rattle.vcm_image.proofs.Openings.{further, next_fails, begun_fails, begun_whole, end_same}
use Rattle.vcm_loader.specs.Loading.{FirstFailedCheck, RefusesCode, LoadFault}
use Rattle.vcm_loader.specs.inner.Judging.{IsVerdict}
use Rattle.vcm_loader.proofs.Judgements.{first_later}
use Rattle.vcm_loader.proofs.Holding.{textless}
use Rattle.vcm_loader.proofs.Lines.{of_line}

-- ---- one statement more

-- where nothing is found of those before
pub found_next : {X : Type 0} (cs : List Check) (t : Counts) (o : Op) (r : Result X ImageFault) → AllHold cs → OnOk r (AllHold (op_checks t (listed (λ e. e) (λ b. []) (λ b. b) o)))
    → IfErr r (λ e. FirstFailedCheck (op_checks t (listed (λ e. e) (λ b. []) (λ b. b) o)) e) → IsVerdict (cs ++ op_checks t o) r
found_next cs t o (Ok x) h ok err = hold_append cs (op_checks t o) h (subst AllHold (textless t o) ok)
found_next cs t o (Err e) h ok err = first_later cs (op_checks t o) e h (subst (λ ds. FirstFailedCheck ds e) (textless t o) err)

-- it is the last one that ends them
ends_last : (ss : List CodeStatement) (s : CodeStatement) → Ends (ss ++ s ∷ []) ≡ IsLast s.op
ends_last [] s = refl
ends_last (x ∷ []) s = refl
ends_last (x ∷ y ∷ ss) s = ends_last (y ∷ ss) s

-- ---- all statements

-- what is found where so many of all statements are read
pub record Judging {X : Type 0} (t : Counts) (whole o : Opened) (counter : ℕ) (verdict : Result X ImageFault) (ends : Bool) : Type 0 where
  pub tables : o.code.tables ≡ whole.code.tables
  pub counted : length o.code.statements ≡ counter
  pub left : counter + o.left ≡ t.statements
  pub rest : rest_at whole ≡ rest_at o
  pub found : IsVerdict (flat_map (of_line t) o.code.statements) verdict
  pub ended_so : Tells ends (Ends o.code.statements)

pub judging : {X : Type 0} (t : Counts) (o : Opened) (x : X) → o.code.statements ≡ [] → t.statements ≡ length o.code.statements + o.left → Judging t o o 0 (Ok x) false
judging t o x none n = record {
  tables = refl;
  counted = ap length none;
  left = (let l = ap length none in omega (arith, l, n));
  rest = refl;
  found = subst (λ ss. AllHold (flat_map (of_line t) ss)) (sym none) tt;
  ended_so = record { so = λ e. absurd cc; only = λ e. absurd (subst Ends none e) };
}

module _ {X : Type 0} (t : Counts) (whole o : Opened) (counter : ℕ) (verdict : Result X ImageFault) (ends : Bool) (j : Judging t whole o counter verdict ends) where
  pub judging_left : counter < t.statements → 0 < o.left
  judging_left lt = omega (arith, j.left)

  pub judging_fails : (f : ImageFault) → counter < t.statements → Fails f (next_at o) → Fails f (rest_at whole)
  judging_fails f lt h = fails_from f (rest_at o) (rest_at whole) (next_fails o f (judging_left lt) h) (λ e. j.rest ∙ e)

  pub judging_more : (s : CodeStatement) (o' : Opened) (verdict' : Result X ImageFault) (ends' : Bool) → counter < t.statements → next_at o ≡ Ok (s, o')
      → ((cs : List Check) → IsVerdict cs verdict → IsVerdict (cs ++ op_checks t s.op) verdict') → Tells ends' (IsLast s.op) → Judging t whole o' (counter + 1) verdict' ends'
  judging_more s o' verdict' ends' lt e found last =
      let f = further o s o' (judging_left lt) e in
      let longer : length o'.code.statements ≡ length o.code.statements + 1 = ap length f.statements ∙ length-append o.code.statements (s ∷ []) in
      record {
        tables = f.tables ∙ j.tables;
        counted = omega (arith, longer, j.counted);
        left = omega (arith, f.left, j.left);
        rest = j.rest ∙ f.whole;
        found = subst (λ cs. IsVerdict cs verdict') (flat_map_more (of_line t) [] o.code.statements s ∙ ap (flat_map (of_line t)) (sym f.statements))
            (found (flat_map (of_line t) o.code.statements) j.found);
        ended_so = subst (Tells ends') (sym (ap Ends f.statements ∙ ends_last o.code.statements s)) last;
      }

  module _ (le : t.statements ≤ counter) where
    pub judging_done : o.left ≡ 0
    judging_done = omega (arith, j.left)

    -- they are all checks of the code
    pub judging_found : t ≡ counts_of whole.code.tables t.statements → IsVerdict (checks o.code) verdict
    judging_found same =
        let count : t.statements ≡ length o.code.statements = omega (arith, j.left, j.counted, le) in
        let path : t ≡ counts_of o.code.tables (length o.code.statements) = same ∙ ap (λ (ts : Tables). counts_of ts t.statements) (sym j.tables) ∙ ap (counts_of o.code.tables) count in
        subst (λ (u : Counts). IsVerdict (flat_map (of_line u) o.code.statements) verdict) path j.found

-- ---- what is told

-- what reading refuses is told
pub load_fails : (e : ImageFault) (read : Result Code ImageFault) → Fails e read → LoadFault read e
load_fails NoMemory read h = tt
load_fails _ (Ok c) h = absurd cc
load_fails _ (Err f) h = cc

-- and what a code is refused for
pub load_refuses : (e : ImageFault) (read : Result Code ImageFault) (c : Code) → read ≡ Ok c → RefusesCode c e → LoadFault read e
load_refuses NoMemory read c r h = tt
load_refuses _ read c r h = rw r h

-- an image that is read to its end
module _ (bytes : List ℕ) (o o' : Opened) (b : begun_at bytes ≡ Ok o) (r : rest_at o ≡ rest_at o') (left : o'.left ≡ 0) where
  end_is : code_at bytes ≡ ended (o'.code, o'.rest)
  end_is = begun_whole bytes o b ∙ r ∙ end_same o' left

  pub end_fails : (e : ImageFault) → ended (o'.code, o'.rest) ≡ Err e → LoadFault (code_at bytes) e
  end_fails e h = load_fails e (code_at bytes) (fails_so e (code_at bytes) (end_is ∙ h))

  module _ (c : Code) (h : ended (o'.code, o'.rest) ≡ Ok c) where
    pub same_code : o'.code ≡ c
    same_code = (guard_met (length o'.rest == 0) Trailing o'.code c h).1

    pub end_refuses : (e : ImageFault) → RefusesCode o'.code e → LoadFault (code_at bytes) e
    end_refuses e f = load_refuses e (code_at bytes) c (end_is ∙ h) (subst (λ (d : Code). RefusesCode d e) same_code f)

    pub end_valid : IsBytes bytes → IsValid o'.code → FitsImage c × (IsValid c × (bytes ≡ spelling c))
    end_valid fits v = let t = code_takes bytes c fits (end_is ∙ h) in (t.0, (subst IsValid same_code v, t.1))

pub begin_fails : (bytes : List ℕ) (e : ImageFault) → Fails e (begun_at bytes) → LoadFault (code_at bytes) e
begin_fails bytes e h = load_fails e (code_at bytes) (begun_fails bytes e h)

pub rest_fails : (bytes : List ℕ) (o : Opened) (e : ImageFault) → begun_at bytes ≡ Ok o → Fails e (rest_at o) → LoadFault (code_at bytes) e
rest_fails bytes o e b h = load_fails e (code_at bytes) (fails_from e (rest_at o) (code_at bytes) h (λ f. begun_whole bytes o b ∙ f))
