-- The statements of the text, one by one.
use Rattle.std.proofs.Common.{◌≡◌, ℕ, ◌+◌, Bool, true, false, ◌||◌, List, [], ◌∷◌, ◌++◌, Option, Some, None, refl, sym, ap, ◌∙◌, subst, arith, inl, inr}
use Rattle.std.specs.Prelude.{if◌then◌else◌, reverse, map, is_some, MatchOption, Result, Ok, Err, OnOk, IfErr}
use Rattle.std.specs.List.{list_any}
use Rattle.std.proofs.lemmas.List.{append_assoc, append-nil, reverse-append}
use Rattle.vcm_lines.specs.Fault.{NoMemoryOr}
use Rattle.vcm_lines.specs.declared.fault.FaultCode.TheVariants.{DuplicateName, Unbalanced}
use Rattle.vcm_lines.specs.declared.fault.SourceFault.{SourceFault}
use Rattle.vcm_forms.specs.declared.statement.Parameter.{Parameter}
use Rattle.vcm_forms.specs.declared.statement.Argument.{Argument}
use Rattle.vcm_forms.specs.declared.statement.Form.{Form}
use Rattle.vcm_forms.specs.declared.statement.Form.TheVariants.{Macro, MacroEnd, Call}
use Rattle.vcm_forms.specs.declared.statement.Statement.{Statement}
use Rattle.vcm_substitution.specs.Substitution.{is_same, outside, put_argument}
use Rattle.vcm_macro.specs.declared.text.Reading.{Reading}
use Rattle.vcm_macro.specs.Walk.{Defined, Visit, Opens, Inside, Stands, calls_in, call_in, waits_behind, text_from, walk_from, with_statement}
use Rattle.vcm_macro.specs.Rules.{codes_at, has_twins, is_taken}
use Rattle.vcm_macro.specs.inner.Expanding.{Done, TellsLeftmost, TellsFirst, Walked, found, IsFoundAt, is_macro_end}
use Rattle.vcm_macro.specs.inner.Reading.{nothing, walk_of, IsRead, TellsRead, IsReadTo}
use Rattle.vcm_macro.proofs.Walks.{walked_more, told_front, told_more}

-- ---- MACRO

pub macro_begins : (old new : Reading) (line : ℕ) (name : List ℕ) (ps : List Parameter) → old.current ≡ None → is_taken (reverse old.macros.items) (Macro name ps) ≡ false
    → new.macros.items ≡ old.macros.items → new.current ≡ Some (record { name = name; parameters = ps; body = [] }) → new.waits ≡ old.waits → new.done ≡ old.done
    → IsRead old (record { line = line; form = Macro name ps }) new
macro_begins old new line name ps shut free macros current waits done = record {
  places = Opens (reverse old.macros.items) (record { line = line; form = Macro name ps }) ∷ [];
  walked = rw done (record { fine = (rw free refl, tt); placed = sym (append-nil old.done.placed); count = omega arith; calls = omega arith });
  is = λ ss. rw (macros, current, waits, done, shut) refl;
}

pub macro_taken : (old : Reading) (line : ℕ) (name : List ℕ) (ps : List Parameter) → old.current ≡ None → is_taken (reverse old.macros.items) (Macro name ps) ≡ true
    → TellsRead old (record { line = line; form = Macro name ps }) (record { code = DuplicateName; line = line })
macro_taken old line name ps shut taken ss = rw shut (inl (rw taken refl, refl))

-- ---- CALL

-- the places of the text that begins with it, where none is barred
call_is : (ms : List Defined) (done line : ℕ) (ss : List Statement) (name : List ℕ) (bs : List Argument)
    → walk_from ms None false done (record { line = line; form = Call name bs } ∷ ss) ≡ call_in ms line 1 done name (map (put_argument outside) bs)
    ++ walk_from ms None false (done + calls_in (call_in ms line 1 done name (map (put_argument outside) bs))) ss
call_is ms done line ss name bs = refl

pub call_read : (old new : Reading) (line : ℕ) (name : List ℕ) (bs : List Argument) → old.current ≡ None → old.waits ≡ false
    → new.macros.items ≡ old.macros.items → new.current ≡ old.current → new.waits ≡ old.waits
    → Walked old.done new.done (call_in (reverse old.macros.items) line 1 old.done.calls name (map (put_argument outside) bs))
    → IsRead old (record { line = line; form = Call name bs }) new
call_read old new line name bs shut free macros current waits w = record {
  places = call_in (reverse old.macros.items) line 1 old.done.calls name (map (put_argument outside) bs);
  walked = w;
  is = λ ss. rw (macros, current, waits, shut, free, w.calls) refl;
}

pub call_told : (old : Reading) (line : ℕ) (name : List ℕ) (bs : List Argument) (f : SourceFault) → old.current ≡ None → old.waits ≡ false
    → NoMemoryOr (TellsFirst old.done.count (call_in (reverse old.macros.items) line 1 old.done.calls name (map (put_argument outside) bs))) f
    → NoMemoryOr (TellsRead old (record { line = line; form = Call name bs })) f
call_told old line name bs f shut free (inl e) = inl e
call_told old line name bs f shut free (inr t) =
    inr (λ ss. rw (shut, free) (told_front old.done.count (call_in (reverse old.macros.items) line 1 old.done.calls name (map (put_argument outside) bs)) _ f t))

pub call_barred : (old : Reading) (line : ℕ) (name : List ℕ) (bs : List Argument) → old.current ≡ None → old.waits ≡ true
    → TellsRead old (record { line = line; form = Call name bs }) (record { code = Unbalanced; line = line })
call_barred old line name bs shut barred ss = rw (shut, barred) (inl (refl, refl))

-- ---- any other statement outside macros

-- what it is in the text
pub stands_is : (ms : List Defined) (waits : Bool) (done : ℕ) (s : Statement) (ss : List Statement) (form : Form)
    → ((name : List ℕ) (ps : List Parameter) → form ≡ Macro name ps → ⊥) → ((name : List ℕ) (bs : List Argument) → form ≡ Call name bs → ⊥)
    → text_from ms None waits done s form (λ ns m w n. walk_from ns m w n ss) ≡ Stands 0 s ∷ walk_from ms None (waits_behind waits form) (done + 0) ss
stands_is ms waits done s ss (Macro name ps) no_macro no_call = absurd (no_macro name ps refl)
stands_is ms waits done s ss (Call name bs) no_macro no_call = absurd (no_call name bs refl)
stands_is ms waits done s ss _ no_macro no_call = refl

pub stands_read : (old new : Reading) (s : Statement) → old.current ≡ None
    → ((name : List ℕ) (ps : List Parameter) → s.form ≡ Macro name ps → ⊥) → ((name : List ℕ) (bs : List Argument) → s.form ≡ Call name bs → ⊥)
    → new.macros.items ≡ old.macros.items → new.current ≡ old.current → new.waits ≡ waits_behind old.waits s.form → Walked old.done new.done (Stands 0 s ∷ []) → IsRead old s new
stands_read old new s shut no_macro no_call macros current waits w = record {
  places = Stands 0 s ∷ [];
  walked = w;
  is = λ ss. rw (macros, current, waits, shut, w.calls) (stands_is (reverse old.macros.items) old.waits old.done.calls s ss s.form no_macro no_call);
}

pub stands_told : (old : Reading) (s : Statement) (f : SourceFault) → old.current ≡ None
    → ((name : List ℕ) (ps : List Parameter) → s.form ≡ Macro name ps → ⊥) → ((name : List ℕ) (bs : List Argument) → s.form ≡ Call name bs → ⊥)
    → NoMemoryOr (TellsFirst old.done.count (Stands 0 s ∷ [])) f → NoMemoryOr (TellsRead old s) f
stands_told old s f shut no_macro no_call (inl e) = inl e
stands_told old s f shut no_macro no_call (inr t) =
    inr (λ ss. rw (shut, stands_is (reverse old.macros.items) old.waits old.done.calls s ss s.form no_macro no_call) (told_front old.done.count (Stands 0 s ∷ []) _ f t))

-- ---- a statement of a macro

-- what it is in the text
inside_is : (ms : List Defined) (m : Defined) (waits : Bool) (done : ℕ) (s : Statement) (ss : List Statement) (form : Form) → is_macro_end form ≡ false
    → text_from ms (Some m) waits done s form (λ ns n w k. walk_from ns n w k ss) ≡ Inside m s ∷ walk_from ms (Some (with_statement m s)) waits done ss
inside_is ms m waits done s ss MacroEnd e = absurd cc
inside_is ms m waits done s ss _ e = refl

ends_is : (ms : List Defined) (m : Defined) (waits : Bool) (done : ℕ) (s : Statement) (ss : List Statement) (form : Form) → is_macro_end form ≡ true
    → text_from ms (Some m) waits done s form (λ ns n w k. walk_from ns n w k ss) ≡ Inside m s ∷ walk_from (m ∷ ms) None waits done ss
ends_is ms m waits done s ss MacroEnd e = refl
ends_is ms m waits done s ss _ e = absurd cc

-- nothing is wrong with it
judged : (old new : Done) (m : Defined) (s : Statement) → new ≡ old → codes_at 0 (Inside m s) ≡ [] → Walked old new (Inside m s ∷ [])
judged old new m s same fine = rw same (record { fine = (fine, tt); placed = sym (append-nil old.placed); count = omega arith; calls = omega arith })

pub inside_read : (old new : Reading) (m : Defined) (s : Statement) → old.current ≡ Some m → codes_at 0 (Inside m s) ≡ [] → is_macro_end s.form ≡ false
    → new.macros.items ≡ old.macros.items → new.current ≡ Some (with_statement m s) → new.waits ≡ old.waits → new.done ≡ old.done → IsRead old s new
inside_read old new m s current fine goes macros more waits done = record {
  places = Inside m s ∷ [];
  walked = judged old.done new.done m s done fine;
  is = λ ss. rw (macros, more, waits, done, current) (inside_is (reverse old.macros.items) m old.waits old.done.calls s ss s.form goes);
}

pub end_read : (old new : Reading) (m : Defined) (s : Statement) → old.current ≡ Some m → codes_at 0 (Inside m s) ≡ [] → is_macro_end s.form ≡ true
    → new.macros.items ≡ old.macros.items ++ m ∷ [] → new.current ≡ None → new.waits ≡ old.waits → new.done ≡ old.done → IsRead old s new
end_read old new m s current fine ends macros shut waits done =
    let r : reverse new.macros.items ≡ m ∷ reverse old.macros.items = ap reverse macros ∙ reverse-append old.macros.items (m ∷ []) in
    record {
      places = Inside m s ∷ [];
      walked = judged old.done new.done m s done fine;
      is = λ ss. rw (r, shut, waits, done, current) (ends_is (reverse old.macros.items) m old.waits old.done.calls s ss s.form ends);
    }

pub inside_told : (old : Reading) (m : Defined) (s : Statement) (f : SourceFault) → old.current ≡ Some m → TellsLeftmost s.line (codes_at 0 (Inside m s)) f → TellsRead old s f
inside_told old m s f current t ss = rw current (by s.form)
  where
    by : (form : Form) → TellsFirst old.done.count (text_from (reverse old.macros.items) (Some m) old.waits old.done.calls s form (λ ns n w k. walk_from ns n w k ss)) f
    by MacroEnd = inl t
    by _ = inl t

-- ---- one statement behind the other

pub read_more : (all was rest : List Statement) (s : Statement) (old new : Reading) → was ≡ s ∷ rest → IsReadTo all old was → IsRead old s new → IsReadTo all new rest
read_more all was rest s old new next g h = record {
  places = g.places ++ h.places;
  walked = walked_more nothing old.done new.done g.places h.places g.walked h.walked;
  is = g.is ∙ ap (λ (l : List Statement). g.places ++ walk_of old l) next ∙ ap (λ (l : List Visit). g.places ++ l) (h.is rest) ∙ sym (append_assoc g.places h.places (walk_of new rest));
}

pub read_told : (all was rest : List Statement) (s : Statement) (old : Reading) (f : SourceFault) → was ≡ s ∷ rest → IsReadTo all old was → NoMemoryOr (TellsRead old s) f
    → NoMemoryOr (TellsFirst 0 (walk_from [] None false 0 all)) f
read_told all was rest s old f next g (inl e) = inl e
read_told all was rest s old f next g (inr t) =
    let here : walk_from [] None false 0 all ≡ g.places ++ walk_of old (s ∷ rest) = g.is ∙ ap (λ (l : List Statement). g.places ++ walk_of old l) next in
    inr (rw here (told_more nothing old.done g.places (walk_of old (s ∷ rest)) f g.walked (t rest)))

-- ---- names of macros

any_found : (ms : List Defined) (name : List ℕ) → is_some (found ms name) ≡ list_any (λ m. is_same m.name name) ms
any_found [] name = refl
any_found (m ∷ ms) name = by_name (is_same m.name name) (any_found ms name)
  where
    by_name : (b : Bool) → is_some (found ms name) ≡ list_any (λ n. is_same n.name name) ms → is_some (if b then Some (m, ms) else found ms name) ≡ (b || list_any (λ n. is_same n.name name) ms)
    by_name true ih = refl
    by_name false ih = ih

pub defined_is : (o : Option ℕ) (ms : List Defined) (name : List ℕ) → MatchOption o (found (reverse ms) name ≡ None) (λ i. IsFoundAt ms name i)
    → is_some o ≡ list_any (λ m. is_same m.name name) (reverse ms)
defined_is None ms name e = sym (ap is_some e) ∙ any_found (reverse ms) name
defined_is (Some i) ms name f = sym (ap is_some f.found) ∙ any_found (reverse ms) name

-- ---- whether MACRO gives a name again

or_true : (b : Bool) → (b || true) ≡ true
or_true true = refl
or_true false = refl

pub taken_above : (ms ns : List Defined) (name : List ℕ) (ps : List Parameter) → ns ≡ ms → true ≡ list_any (λ m. is_same m.name name) (reverse ns) → is_taken (reverse ms) (Macro name ps) ≡ true
taken_above ms ns name ps same e = ap (λ (b : Bool). b || has_twins ps) (sym (e ∙ ap (λ (l : List Defined). list_any (λ m. is_same m.name name) (reverse l)) same))

pub taken_twice : (ms : List Defined) (name : List ℕ) (ps qs : List Parameter) → qs ≡ ps → true ≡ has_twins qs → is_taken ms (Macro name ps) ≡ true
taken_twice ms name ps qs same e = ap (λ (b : Bool). list_any (λ m. is_same m.name name) ms || b) (sym (e ∙ ap has_twins same)) ∙ or_true (list_any (λ m. is_same m.name name) ms)

pub not_taken : (ms ns : List Defined) (name : List ℕ) (ps qs : List Parameter) → ns ≡ ms → qs ≡ ps → false ≡ list_any (λ m. is_same m.name name) (reverse ns) → false ≡ has_twins qs
    → is_taken (reverse ms) (Macro name ps) ≡ false
not_taken ms ns name ps qs same alike e f =
    ap (λ (b : Bool). b || has_twins ps) (sym (e ∙ ap (λ (l : List Defined). list_any (λ m. is_same m.name name) (reverse l)) same)) ∙ sym (f ∙ ap has_twins alike)

-- ---- what follows of the outcome of a call

pub both_ok : {T E P Q R : Type 0} (r : Result T E) → (P → Q → R) → OnOk r P → OnOk r Q → OnOk r R
both_ok (Ok x) f p q = f p q
both_ok (Err e) f p q = p

pub told_on : {T : Type 0} (r : Result T SourceFault) (P Q : SourceFault → Type 0) → ((f : SourceFault) → P f → Q f) → IfErr r P → IfErr r Q
told_on (Ok x) P Q f p = p
told_on (Err e) P Q f p = f e p

-- what is told of a statement of this form is told of the statement
pub told_of : {T : Type 0} (r : Result T SourceFault) (old : Reading) (s : Statement) (form : Form) → s.form ≡ form → IfErr r (NoMemoryOr (TellsRead old (record { line = s.line; form = form })))
    → IfErr r (NoMemoryOr (TellsRead old s))
told_of r old s form is t = subst (λ (f : Form). IfErr r (NoMemoryOr (TellsRead old (record { line = s.line; form = f })))) (sym is) t
