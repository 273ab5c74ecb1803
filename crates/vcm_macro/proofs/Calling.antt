-- A CALL: where it is refused, and what it carries out.
use Rattle.std.proofs.Common.{◌≡◌, ℕ, suc, ◌+◌, true, false, ◌||◌, List, [], ◌∷◌, take, Option, Some, None, refl, sym, ◌∙◌, inl, inr, arith, get_or}
use Rattle.std.specs.Prelude.{reverse, nat_lt, Result, Ok, Err, OnOk, IfErr}
use Rattle.std.specs.List.{slice_get}
use Rattle.std.proofs.lemmas.List.{append-nil}
use Rattle.std.proofs.lemmas.Option.{slice_get_read}
use Rattle.vcm_lines.specs.declared.fault.SourceFault.{SourceFault}
use Rattle.vcm_lines.specs.declared.fault.FaultCode.TheVariants.{UnknownName, TooLong}
use Rattle.vcm_lines.specs.Fault.{NoMemoryOr}
use Rattle.vcm_forms.specs.declared.statement.Argument.{Argument}
use Rattle.vcm_forms.specs.declared.statement.Statement.{Statement}
use Rattle.vcm_substitution.specs.Substitution.{Scope}
use Rattle.vcm_macro.specs.Walk.{Defined, Calls, call_in, body_in}
use Rattle.vcm_macro.specs.Rules.{is_full, called_codes}
use Rattle.vcm_macro.specs.inner.Expanding.{Done, IsFine, TellsLeftmost, TellsFirst, Walked, found, call_by, IsFoundAt}
use Rattle.vcm_macro.proofs.Walks.{walked_more, told_more}
use Rattle.vcm_macro.proofs.Finding.{call_found}

-- too deep, or too much before it
pub call_too_long : (ms : List Defined) (line depth done n : ℕ) (name : List ℕ) (bs : List Argument) → (nat_lt 16 depth || is_full n) ≡ true
    → TellsFirst n (call_in ms line depth done name bs) (record { code = TooLong; line = line })
call_too_long ms line depth done n name bs e = rw (call_found ms line depth done name bs) (by (found ms name))
  where
    by : (o : Option (Defined × List Defined)) → TellsFirst n (call_by o line depth done bs) (record { code = TooLong; line = line })
    by None = inl (rw e refl, refl)
    by (Some p) = inl (rw e refl, refl)

-- no macro of this name
pub call_unknown : (ms : List Defined) (line depth done n : ℕ) (name : List ℕ) (bs : List Argument) → (nat_lt 16 depth || is_full n) ≡ false → found ms name ≡ None
    → TellsFirst n (call_in ms line depth done name bs) (record { code = UnknownName; line = line })
call_unknown ms line depth done n name bs room e =
    rw (call_found ms line depth done name bs, e) (inl (rw room refl, refl))

-- the macro at the place where one is found
same_macro : (ms : List Defined) (i : ℕ) (m n : Defined) → slice_get ms i ≡ Some m → slice_get ms i ≡ Some n → m ≡ n
same_macro ms i m n e f = let both : Some m ≡ Some n = sym e ∙ f in cc

-- what a CALL of the macro found is
call_is : (ms : List Defined) (name : List ℕ) (i : ℕ) (m : Defined) (line depth done : ℕ) (bs : List Argument) → IsFoundAt ms name i → m ≡ get_or ms i m
    → call_in (reverse ms) line depth done name bs ≡ Calls line depth (Some m) bs
    ∷ body_in (call_in (reverse (take i ms))) (record { parameters = m.parameters; arguments = bs; expansion = suc done }) (suc depth) (suc done) m.body
call_is ms name i m line depth done bs f e =
    let g = slice_get_read ms _ i m refl f.within e in
    let s : f.macro ≡ m = same_macro ms i f.macro m f.is g in
    call_found (reverse ms) line depth done name bs ∙ rw (f.found, s) refl

-- its arguments are refused
pub call_refused : (ms : List Defined) (name : List ℕ) (i : ℕ) (m : Defined) (line depth done n : ℕ) (bs : List Argument) (f : SourceFault) → IsFoundAt ms name i → m ≡ get_or ms i m
    → (nat_lt 16 depth || is_full n) ≡ false → NoMemoryOr (TellsLeftmost line (called_codes (Some m) bs)) f → NoMemoryOr (TellsFirst n (call_in (reverse ms) line depth done name bs)) f
call_refused ms name i m line depth done n bs f a e room (inl none) = inl none
call_refused ms name i m line depth done n bs f a e room (inr t) = inr (rw (call_is ms name i m line depth done bs a e) (inl (rw room t)))

-- nothing is wrong with it
pub call_fine : (n line depth : ℕ) (m : Defined) (bs : List Argument) → (nat_lt 16 depth || is_full n) ≡ false → called_codes (Some m) bs ≡ [] → IsFine n (Calls line depth (Some m) bs)
call_fine n line depth m bs room fine = rw room fine

-- the CALL alone
entered_is : (start : Done) (line depth : ℕ) (m : Defined) (bs : List Argument) → IsFine start.count (Calls line depth (Some m) bs)
    → Walked start (record { placed = start.placed; count = suc start.count; calls = suc start.calls }) (Calls line depth (Some m) bs ∷ [])
entered_is start line depth m bs fine = record { fine = (fine, tt); placed = sym (append-nil start.placed); count = omega arith; calls = omega arith }

-- it is carried out
pub call_carried : (ms : List Defined) (name : List ℕ) (i : ℕ) (m : Defined) (line depth : ℕ) (bs : List Argument) (start entered next : Done) (sc : Scope) (ss : List Statement)
    → IsFoundAt ms name i → m ≡ get_or ms i m → IsFine start.count (Calls line depth (Some m) bs)
    → entered ≡ record { placed = start.placed; count = suc start.count; calls = suc start.calls }
    → sc ≡ record { parameters = m.parameters; arguments = bs; expansion = entered.calls }
    → ss ≡ m.body
    → Walked entered next (body_in (call_in (reverse (take i ms))) sc (depth + 1) entered.calls ss)
    → Walked start next (call_in (reverse ms) line depth start.calls name bs)
call_carried ms name i m line depth bs start entered next sc ss a e fine counted scope same w =
    let d : depth + 1 ≡ suc depth = omega arith in
    rw (call_is ms name i m line depth start.calls bs a e)
    (walked_more start (record { placed = start.placed; count = suc start.count; calls = suc start.calls }) next (Calls line depth (Some m) bs ∷ []) _ (entered_is start line depth m bs fine)
    (rw (same, scope, counted, d) at w))

-- what follows where it isn't want of memory
pub or_memory : (P Q : SourceFault → Type 0) (f : SourceFault) → (P f → Q f) → NoMemoryOr P f → NoMemoryOr Q f
or_memory P Q f go (inl e) = inl e
or_memory P Q f go (inr p) = inr (go p)

-- or refused in its body
call_told_so : (ms : List Defined) (name : List ℕ) (i : ℕ) (m : Defined) (line depth : ℕ) (bs : List Argument) (start entered : Done) (sc : Scope) (ss : List Statement) (f : SourceFault)
    → IsFoundAt ms name i → m ≡ get_or ms i m → IsFine start.count (Calls line depth (Some m) bs)
    → entered ≡ record { placed = start.placed; count = suc start.count; calls = suc start.calls }
    → sc ≡ record { parameters = m.parameters; arguments = bs; expansion = entered.calls }
    → ss ≡ m.body
    → TellsFirst entered.count (body_in (call_in (reverse (take i ms))) sc (depth + 1) entered.calls ss) f
    → TellsFirst start.count (call_in (reverse ms) line depth start.calls name bs) f
call_told_so ms name i m line depth bs start entered sc ss f a e fine counted scope same t =
    let d : depth + 1 ≡ suc depth = omega arith in
    rw (call_is ms name i m line depth start.calls bs a e)
    (told_more start (record { placed = start.placed; count = suc start.count; calls = suc start.calls }) (Calls line depth (Some m) bs ∷ []) _ f (entered_is start line depth m bs fine)
    (rw (same, scope, counted, d) at t))

pub call_told : {A : Type 0} (r : Result A SourceFault) (ms : List Defined) (name : List ℕ) (i : ℕ) (m : Defined) (line depth : ℕ) (bs : List Argument)
    (start entered : Done) (sc : Scope) (ss : List Statement)
    → IsFoundAt ms name i → m ≡ get_or ms i m → IsFine start.count (Calls line depth (Some m) bs)
    → entered ≡ record { placed = start.placed; count = suc start.count; calls = suc start.calls }
    → sc ≡ record { parameters = m.parameters; arguments = bs; expansion = entered.calls }
    → ss ≡ m.body
    → IfErr r (NoMemoryOr (TellsFirst entered.count (body_in (call_in (reverse (take i ms))) sc (depth + 1) entered.calls ss)))
    → IfErr r (NoMemoryOr (TellsFirst start.count (call_in (reverse ms) line depth start.calls name bs)))
call_told (Ok x) ms name i m line depth bs start entered sc ss a e fine counted scope same t = tt
call_told (Err f) ms name i m line depth bs start entered sc ss a e fine counted scope same t =
    or_memory (TellsFirst entered.count (body_in (call_in (reverse (take i ms))) sc (depth + 1) entered.calls ss)) (TellsFirst start.count (call_in (reverse ms) line depth start.calls name bs)) f
    (λ w. call_told_so ms name i m line depth bs start entered sc ss f a e fine counted scope same w) t

-- what follows where there is a value
pub on_ok : {T E P Q : Type 0} (r : Result T E) → (P → Q) → OnOk r P → OnOk r Q
on_ok (Ok x) f p = f p
on_ok (Err e) f p = p
