-- The computed first fault is a first fault by the rules, and where there is none no rule is broken.
use Rattle.std.proofs.Common.{◌≡◌, ◌⊎◌, ℕ, ◌+◌, ◌<◌, ◌≤◌, Bool, true, false, cond, List, [], ◌∷◌, ◌++◌, length, take, drop, Option, Some, None, refl, sym, ap, subst, inl, inr, arith}
use Rattle.std.specs.Prelude.{◌||◌, ◌&&◌, not}
use Rattle.std.specs.List.{list_any, list_all}
use Rattle.std.specs.Option.{option_or, unwrap_or}
use Rattle.std.proofs.lemmas.Bool.{or_right, leb-true, leb-false, ltb-true, ltb-false}
use Rattle.std.proofs.lemmas.Option.{cond_some}
use Rattle.std.proofs.lemmas.List.{take_all, length-drop}
use Rattle.vcm_spec.specs.Phase.{IsCleanBelow, IsClean, FirstFault}
use Rattle.vcm_spec.proofs.PhaseLemmas.{place_at, clean_more, fault_at, fault_at_end, clean_all}
use Rattle.vcm_lines.specs.Segments.{Segment, segments_of, text_of, has_bad_byte, is_open, is_dollar, is_skipped, has_stray_dollar}
use Rattle.vcm_lines.specs.Statements.{KeptLine, kept_lines, unfinished, bytes_of, BreaksLine, Breaks, told_line}
use Rattle.vcm_lines.specs.Leftmost.{leftmost_fault, too_long, too_many, bytes_fault, line_fault, dangling, end_fault, fault_or, fault_behind, first_fault}
use Rattle.vcm_lines.specs.declared.fault.FaultCode.{FaultCode}
use Rattle.vcm_lines.specs.declared.fault.FaultCode.TheVariants.{BadByte, LineTooLong, TooManyLines, DanglingContinuation, BadSyntax}
use Rattle.vcm_lines.specs.declared.fault.SourceFault.{SourceFault}

-- ---- the leftmost fault of a line

-- Segments with a bad byte, or with what isn't closed or is astray, break these rules.
abbrev Told : Bool → Bool → FaultCode → Type 0
Told bytes syntax code = ((code ≡ BadByte) × (bytes ≡ true)) ⊎ ((code ≡ BadSyntax) × (syntax ≡ true))

told_code : (told code : FaultCode) → Some told ≡ Some code → code ≡ told
told_code told code e = sym (ap (λ (o : Option FaultCode). unwrap_or o told) e)

-- one more segment, which is open, strays or has a bad byte
told_more : (opened stray bad bytes opens strays : Bool) (rest : Option FaultCode) (code : FaultCode) → (rest ≡ Some code → Told bytes (opens || strays) code)
    → option_or (cond (opened || stray) (Some BadSyntax) (cond bad (Some BadByte) None)) rest ≡ Some code → Told (bad || bytes) ((opened || opens) || (stray || strays)) code
told_more true stray bad bytes opens strays rest code h e = inr (told_code BadSyntax code e, refl)
told_more false true bad bytes opens strays rest code h e = inr (told_code BadSyntax code e, or_right opens true refl)
told_more false false true bytes opens strays rest code h e = inl (told_code BadByte code e, refl)
told_more false false false bytes opens strays rest code h e = h e

leftmost_told : (ps : List Segment) (code : FaultCode) → leftmost_fault ps ≡ Some code → Told (list_any has_bad_byte ps) (list_any is_open ps || has_stray_dollar ps) code
unfolding has_stray_dollar
leftmost_told [] code e = absurd cc
leftmost_told (p ∷ ps) code e = told_more (is_open p) (is_dollar p && not (list_all is_skipped ps)) (has_bad_byte p) _ _ (has_stray_dollar ps) (leftmost_fault ps) code (leftmost_told ps code) e

told_line_breaks : (line : List ℕ) (code : FaultCode)
    → Told (list_any has_bad_byte (segments_of line)) (list_any is_open (segments_of line) || has_stray_dollar (segments_of line)) code → BreaksLine line code
told_line_breaks line code (inl p) = rw p.0 p.1
told_line_breaks line code (inr p) = rw p.0 p.1

abbrev NoneTold : Bool → Bool → Type 0
NoneTold bytes syntax = (bytes ≡ false) × (syntax ≡ false)

none_more : (opened stray bad bytes opens strays : Bool) (rest : Option FaultCode) → (rest ≡ None → NoneTold bytes (opens || strays))
    → option_or (cond (opened || stray) (Some BadSyntax) (cond bad (Some BadByte) None)) rest ≡ None → NoneTold (bad || bytes) ((opened || opens) || (stray || strays))
none_more true stray bad bytes opens strays rest h e = absurd cc
none_more false true bad bytes opens strays rest h e = absurd cc
none_more false false true bytes opens strays rest h e = absurd cc
none_more false false false bytes opens strays rest h e = h e

leftmost_none : (ps : List Segment) → leftmost_fault ps ≡ None → NoneTold (list_any has_bad_byte ps) (list_any is_open ps || has_stray_dollar ps)
unfolding has_stray_dollar
leftmost_none [] e = (refl, refl)
leftmost_none (p ∷ ps) e = none_more (is_open p) (is_dollar p && not (list_all is_skipped ps)) (has_bad_byte p) _ _ (has_stray_dollar ps) (leftmost_fault ps) (leftmost_none ps) e

both : (b : Bool) → b ≡ false → b ≡ true → ⊥
both b e f = cc

line_unbroken : (line : List ℕ) (code : FaultCode) → leftmost_fault (segments_of line) ≡ None → BreaksLine line code → ⊥
line_unbroken line BadByte e b = both _ (leftmost_none (segments_of line) e).0 b
line_unbroken line BadSyntax e b = both _ (leftmost_none (segments_of line) e).1 b
line_unbroken line _ e b = b

-- ---- the fault of a place

or_some : (o p : Option FaultCode) (code : FaultCode) → option_or o p ≡ Some code → (o ≡ Some code) ⊎ ((o ≡ None) × (p ≡ Some code))
or_some None p code e = inr (refl, e)
or_some (Some x) p code e = inl e

or_none : (o p : Option FaultCode) → option_or o p ≡ None → (o ≡ None) × (p ≡ None)
or_none None p e = (refl, e)
or_none (Some x) p e = absurd cc

cond_none : (b : Bool) (code : FaultCode) → cond b (Some code) None ≡ None → b ≡ false
cond_none true code e = absurd cc
cond_none false code e = refl

pub long_none : (most : ℕ) (bytes : List ℕ) → too_long most bytes ≡ None → length bytes ≤ most
long_none most bytes e = ltb-false most (length bytes) (cond_none _ LineTooLong e)

breaks_line : (before : List (List ℕ)) (l : List ℕ) (code : FaultCode) → BreaksLine l code → Breaks before (Some l) code
breaks_line before l LineTooLong b = absurd b
breaks_line before l TooManyLines b = absurd b
breaks_line before l BadByte b = b
breaks_line before l BadSyntax b = b
breaks_line before l _ b = b

abbrev begun_bytes : List (List ℕ) → List ℕ
begun_bytes before = bytes_of (unfinished (kept_lines before))

bytes_break : (before : List (List ℕ)) (l : List ℕ) (code : FaultCode) → bytes_fault (begun_bytes before) l ≡ Some code → Breaks before (Some l) code
bytes_break before l code e = elim (or_some _ _ code e) [
  | inl h ↦ breaks_line before l code (told_line_breaks l code (leftmost_told (segments_of l) code h))
  | inr h ↦ let p = cond_some _ LineTooLong code h.1 in subst (Breaks before (Some l)) p.1 (inr (ltb-true 4096 _ p.0))
]

line_breaks : (before : List (List ℕ)) (l : List ℕ) (code : FaultCode) → line_fault before l ≡ Some code → Breaks before (Some l) code
line_breaks before l code e = elim (or_some _ _ code e) [
  | inl h ↦ let p = cond_some _ TooManyLines code h in subst (Breaks before (Some l)) p.1 (leb-true 20000 _ p.0)
  | inr h ↦ elim (or_some _ _ code h.1) [
    | inl g ↦ let p = cond_some _ LineTooLong code g in subst (Breaks before (Some l)) p.1 (inl (ltb-true 1024 _ p.0))
    | inr g ↦ bytes_break before l code g.1
  ]
]

-- What a line is known to be that has no fault.
record IsFaultless (before : List (List ℕ)) (l : List ℕ) : Type 0 where
  few : length before < 20000
  short : length l ≤ 1024
  fine : leftmost_fault (segments_of l) ≡ None
  fits : length (begun_bytes before ++ text_of l) ≤ 4096

line_none : (before : List (List ℕ)) (l : List ℕ) → line_fault before l ≡ None → IsFaultless before l
line_none before l e =
    let begun = or_none (too_many before) (option_or (too_long 1024 l) (bytes_fault (begun_bytes before) l)) e in
    let whole = or_none (too_long 1024 l) (bytes_fault (begun_bytes before) l) begun.1 in
    let bytes = or_none (leftmost_fault (segments_of l)) (too_long 4096 (begun_bytes before ++ text_of l)) whole.1 in
    record {
      few = leb-false 20000 (length before) (cond_none _ TooManyLines begun.0);
      short = long_none 1024 l whole.0;
      fine = bytes.0;
      fits = long_none 4096 (begun_bytes before ++ text_of l) bytes.1;
    }

keeps : (before : List (List ℕ)) (l : List ℕ) (code : FaultCode) → IsFaultless before l → Breaks before (Some l) code → ⊥
keeps before l LineTooLong h (inl b) = omega (arith, h.short)
keeps before l LineTooLong h (inr b) = omega (arith, h.fits)
keeps before l TooManyLines h b = omega (arith, h.few)
keeps before l BadByte h b = line_unbroken l BadByte h.fine b
keeps before l BadSyntax h b = line_unbroken l BadSyntax h.fine b
keeps before l _ h b = b

line_keeps : (before : List (List ℕ)) (l : List ℕ) (code : FaultCode) → line_fault before l ≡ None → Breaks before (Some l) code → ⊥
line_keeps before l code e b = keeps before l code (line_none before l e) b

dangles : (rows : List KeptLine) (code : FaultCode) → dangling rows ≡ Some code → (0 < length rows) × (code ≡ DanglingContinuation)
dangles [] code e = absurd cc
dangles (r ∷ rs) code e = (omega arith, told_code DanglingContinuation code e)

finished : (rows : List KeptLine) → dangling rows ≡ None → 0 < length rows → ⊥
finished [] e lt = omega arith
finished (r ∷ rs) e lt = let no : ⊥ = absurd cc in no

end_breaks : (before : List (List ℕ)) (code : FaultCode) → end_fault before ≡ Some code → Breaks before None code
end_breaks before code e = let p = dangles (unfinished (kept_lines before)) code e in rw p.1 p.0

end_keeps : (before : List (List ℕ)) (code : FaultCode) → end_fault before ≡ None → Breaks before None code → ⊥
end_keeps before DanglingContinuation e b = finished (unfinished (kept_lines before)) e b
end_keeps before _ e b = b

-- ---- the first fault

fault_told : (o : Option FaultCode) (n : ℕ) (behind : Option SourceFault) (f : SourceFault) → fault_or o n behind ≡ Some f → ((o ≡ Some f.code) × (f.line ≡ n)) ⊎ ((o ≡ None) × (behind ≡ Some f))
fault_told None n behind f e = inr (refl, e)
fault_told (Some code) n behind f e =
    let is : record { code = code; line = n } ≡ f = ap (λ (o : Option SourceFault). unwrap_or o f) e in
    inl (ap (λ (g : SourceFault). Some g.code) is, sym (ap (λ (g : SourceFault). g.line) is))

none_told : (o : Option FaultCode) (n : ℕ) (behind : Option SourceFault) → fault_or o n behind ≡ None → (o ≡ None) × (behind ≡ None)
none_told None n behind e = (refl, e)
none_told (Some code) n behind e = absurd cc

at_end : (ls : List (List ℕ)) (n : ℕ) → drop n ls ≡ [] → n ≤ length ls → n ≡ length ls
at_end ls n e within = let none : length (drop n ls) ≡ 0 = ap length e in omega (arith, none, length-drop n ls, within)

-- One more line that breaks no rule.
more_clean : (ls : List (List ℕ)) (n : ℕ) (l : List ℕ) (rest : List (List ℕ)) → drop n ls ≡ l ∷ rest → IsCleanBelow Breaks ls n → line_fault (take n ls) l ≡ None → IsCleanBelow Breaks ls (n + 1)
more_clean ls n l rest e clean fine = let q = place_at ls n l rest e in clean_more Breaks ls n clean (λ code b. line_keeps (take n ls) l code fine (rw q.1 at b))

told_first : (ls : List (List ℕ)) (n : ℕ) (rest : List (List ℕ)) (f : SourceFault) → drop n ls ≡ rest → n ≤ length ls → IsCleanBelow Breaks ls n
    → fault_behind (take n ls) rest ≡ Some f → FirstFault Breaks told_line ls f.code f.line
told_first ls n [] f e within clean h =
    let k = at_end ls n e within in
    let all : take n ls ≡ ls = take_all n ls (omega (arith, k)) in
    elim (fault_told (end_fault (take n ls)) (told_line (take n ls) None) None f h) [
      | inl p ↦ fault_at_end Breaks told_line ls f.code f.line (subst (IsCleanBelow Breaks ls) k clean) (end_breaks ls f.code (rw all at p.0)) (rw all at p.1)
      | inr p ↦ absurd cc
    ]
told_first ls n (l ∷ rest) f e within clean h =
    let q = place_at ls n l rest e in
    elim (fault_told (line_fault (take n ls) l) (told_line (take n ls) (Some l)) (fault_behind (take n ls ++ l ∷ []) rest) f h) [
      | inl p ↦ fault_at Breaks told_line ls n l rest f.code f.line e clean (line_breaks (take n ls) l f.code p.0) p.1
      | inr p ↦ told_first ls (n + 1) rest f q.3 (omega (arith, q.0)) (more_clean ls n l rest e clean p.0) (rw q.2 p.1)
    ]

none_clean : (ls : List (List ℕ)) (n : ℕ) (rest : List (List ℕ)) → drop n ls ≡ rest → n ≤ length ls → IsCleanBelow Breaks ls n → fault_behind (take n ls) rest ≡ None → IsClean Breaks ls
none_clean ls n [] e within clean h =
    let k = at_end ls n e within in
    let all : take n ls ≡ ls = take_all n ls (omega (arith, k)) in
    let fine : end_fault ls ≡ None = rw all at ((none_told _ _ None h).0) in
    clean_all Breaks ls (subst (IsCleanBelow Breaks ls) k clean) (λ code b. end_keeps ls code fine b)
none_clean ls n (l ∷ rest) e within clean h =
    let q = place_at ls n l rest e in
    let p = none_told _ _ _ h in
    none_clean ls (n + 1) rest q.3 (omega (arith, q.0)) (more_clean ls n l rest e clean p.0) (rw q.2 p.1)

none_below : (ls : List (List ℕ)) → IsCleanBelow Breaks ls 0
none_below ls = record { unbroken = λ k code lt b. omega arith }

pub first_is_told : (ls : List (List ℕ)) (f : SourceFault) → first_fault ls ≡ Some f → FirstFault Breaks told_line ls f.code f.line
first_is_told ls f e = told_first ls 0 ls f refl (omega arith) (none_below ls) e

pub none_is_clean : (ls : List (List ℕ)) → first_fault ls ≡ None → IsClean Breaks ls
none_is_clean ls e = none_clean ls 0 ls refl (omega arith) (none_below ls) e
