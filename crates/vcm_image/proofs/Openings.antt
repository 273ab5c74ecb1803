-- Images that are read from the front.
use Rattle.std.proofs.Common.{◌≡◌, ℕ, zero, suc, ◌+◌, ◌-◌, ◌<◌, ◌≤◌, ◌==◌, List, [], ◌∷◌, ◌++◌, length, drop, get_or, Result, Ok, Err, if◌then◌else◌, refl, sym, ap, subst, ◌∙◌, append_assoc, arith}
use Rattle.std.proofs.lemmas.List.{length-append, append-nil}
use Rattle.vcm_spec.specs.Results.{◌>>=◌}
use Rattle.vcm_spec.specs.Setup.{Variable as Entry, Tables}
use Rattle.vcm_code.specs.Code.{CodeStatement}
use Rattle.vcm_code.specs.declared.code.Code.{Code}
use Rattle.vcm_code.specs.declared.version.Version.{Version}
use Rattle.vcm_fields.specs.declared.fault.ImageFault.{ImageFault}
use Rattle.vcm_fields.specs.declared.fault.ImageFault.TheVariants.{Trailing}
use Rattle.vcm_fields.specs.Spelling.{line}
use Rattle.vcm_fields.specs.Readers.{Gives, Fails, GivesOrNoMemory, times, entry_at, name_at, line_at}
use Rattle.vcm_fields.proofs.Inverse.{IsBytes, IsBytes-drop, bind_ok, ok_is}
use Rattle.vcm_fields.proofs.StatementParts.{reads_line}
use Rattle.vcm_image.specs.declared.counts.Counts.{Counts}
use Rattle.vcm_image.specs.Whole.{header_at, body_at, ended, code_at}
use Rattle.vcm_image.specs.Opened.{Opened, names_at, begun_at, with_statements, next_at, rest_at}
use Rattle.vcm_image.specs.inner.Places.{IsEnd, Begin, Table, Indexed, code_or_none, code_in, opened_or_none, opened_in, OpensAs, Opens}
use Rattle.vcm_image.proofs.Wholes.{code_takes}
use Rattle.vcm_image.proofs.Tables.{Begin-push, end_drop, end_more, fails_so, fails_from}

-- ---- reading in steps is reading at once

module _ (bytes : List ℕ) (n : Counts) (r : List ℕ) (h : header_at bytes ≡ Ok (n, r)) where
  module _ (vs : List Entry) (r1 : List ℕ) (v : times entry_at n.variables r ≡ Ok (vs, r1)) where
    module _ (fs : List (List ℕ)) (r2 : List ℕ) (f : times name_at n.features r1 ≡ Ok (fs, r2)) where
      module _ (ds : List (List ℕ)) (r3 : List ℕ) (d : times name_at n.frames r2 ≡ Ok (ds, r3)) where
        same_statements : (q : Result (List CodeStatement × List ℕ) ImageFault) → times (line_at n.version) n.statements r3 ≡ q → (begun_at bytes >>= rest_at) ≡ code_at bytes
        unfolding begun_at rest_at code_at body_at
        same_statements (Ok (ss, r4)) s = rw (h, v, f, d, s) refl
        same_statements (Err e) s = rw (h, v, f, d, s) refl

      same_frames : (q : Result (List (List ℕ) × List ℕ) ImageFault) → times name_at n.frames r2 ≡ q → (begun_at bytes >>= rest_at) ≡ code_at bytes
      unfolding begun_at code_at body_at
      same_frames (Ok (ds, r3)) d = same_statements ds r3 d (times (line_at n.version) n.statements r3) refl
      same_frames (Err e) d = rw (h, v, f, d) refl

    same_features : (q : Result (List (List ℕ) × List ℕ) ImageFault) → times name_at n.features r1 ≡ q → (begun_at bytes >>= rest_at) ≡ code_at bytes
    unfolding begun_at code_at body_at
    same_features (Ok (fs, r2)) f = same_frames fs r2 f (times name_at n.frames r2) refl
    same_features (Err e) f = rw (h, v, f) refl

  same_variables : (q : Result (List Entry × List ℕ) ImageFault) → times entry_at n.variables r ≡ q → (begun_at bytes >>= rest_at) ≡ code_at bytes
  unfolding begun_at code_at body_at
  same_variables (Ok (vs, r1)) v = same_features vs r1 v (times name_at n.features r1) refl
  same_variables (Err e) v = rw (h, v) refl

-- the names, and then all that is left
pub begun_same : (bytes : List ℕ) → (begun_at bytes >>= rest_at) ≡ code_at bytes
unfolding begun_at code_at
begun_same bytes = split (header_at bytes) refl
  where
    split : (q : Result (Counts × List ℕ) ImageFault) → header_at bytes ≡ q → (begun_at bytes >>= rest_at) ≡ code_at bytes
    split (Ok (n, r)) h = same_variables bytes n r h (times entry_at n.variables r) refl
    split (Err e) h = rw h refl

-- one statement, and then all that is left
pub next_same : (o : Opened) → 0 < o.left → (next_at o >>= λ x. rest_at x.1) ≡ rest_at o
unfolding next_at rest_at times
next_same o lt = counted o.left refl lt
  where
    close : Code → List CodeStatement × List ℕ → Result Code ImageFault
    close c ss = ended (with_statements c ss.0, ss.1)

    begin_with : CodeStatement → List CodeStatement × List ℕ → Result (List CodeStatement × List ℕ) ImageFault
    begin_with s xs = Ok (s ∷ xs.0, xs.1)

    all : (k : ℕ) (s : CodeStatement) (r : List ℕ) (q : Result (List CodeStatement × List ℕ) ImageFault) → times (line_at o.code.version) k r ≡ q
        → (times (line_at o.code.version) k r >>= close (with_statements o.code (s ∷ []))) ≡ ((times (line_at o.code.version) k r >>= begin_with s) >>= close o.code)
    all k s r (Ok (ss, r')) e = rw e (ap (λ (l : List CodeStatement). ended (record { version = o.code.version; tables = o.code.tables; statements = l }, r'))
        (append_assoc o.code.statements (s ∷ []) ss))
    all k s r (Err f) e = rw e refl

    first : (k : ℕ) → o.left ≡ suc k → (q : Result (CodeStatement × List ℕ) ImageFault) → line_at o.code.version o.rest ≡ q → (next_at o >>= λ x. rest_at x.1) ≡ rest_at o
    first k e (Ok (s, r)) f = (let less : suc k - 1 ≡ k = omega arith in rw (e, f, less) (all k s r (times (line_at o.code.version) k r) refl))
    first k e (Err d) f = rw (e, f) refl

    counted : (k : ℕ) → o.left ≡ k → 0 < k → (next_at o >>= λ x. rest_at x.1) ≡ rest_at o
    counted zero e l = absurd (omega arith)
    counted (suc k) e l = first k e (line_at o.code.version o.rest) refl

-- nothing is left
pub end_same : (o : Opened) → o.left ≡ 0 → rest_at o ≡ ended (o.code, o.rest)
unfolding rest_at times
end_same o e = rw e (ap (λ (l : List CodeStatement). ended (record { version = o.code.version; tables = o.code.tables; statements = l }, o.rest)) (append-nil o.code.statements))

-- ---- the same by what a call returned

-- what reading the names refuses, reading refuses
pub begun_fails : (bytes : List ℕ) (f : ImageFault) → Fails f (begun_at bytes) → Fails f (code_at bytes)
begun_fails bytes f h = fails_from f (begun_at bytes) (code_at bytes) h (λ e. sym (begun_same bytes) ∙ rw e refl)

pub begun_whole : (bytes : List ℕ) (o : Opened) → begun_at bytes ≡ Ok o → code_at bytes ≡ rest_at o
begun_whole bytes o e = sym (begun_same bytes) ∙ rw e refl

-- what reading the next statement refuses, reading all that is left refuses
pub next_fails : (o : Opened) (f : ImageFault) → 0 < o.left → Fails f (next_at o) → Fails f (rest_at o)
next_fails o f lt h = fails_from f (next_at o) (rest_at o) h (λ e. sym (next_same o lt) ∙ rw e refl)

pub next_whole : (o : Opened) (s : CodeStatement) (o' : Opened) → 0 < o.left → next_at o ≡ Ok (s, o') → rest_at o ≡ rest_at o'
next_whole o s o' lt e = sym (next_same o lt) ∙ rw e refl

-- what is known of an image of which a statement more is read
pub record Further (o : Opened) (s : CodeStatement) (o' : Opened) : Type 0 where
  pub left : o.left ≡ suc o'.left
  pub version : o'.code.version ≡ o.code.version
  pub tables : o'.code.tables ≡ o.code.tables
  pub statements : o'.code.statements ≡ o.code.statements ++ s ∷ []
  pub whole : rest_at o ≡ rest_at o'

pub further : (o : Opened) (s : CodeStatement) (o' : Opened) → 0 < o.left → next_at o ≡ Ok (s, o') → Further o s o'
unfolding next_at
further o s o' lt e = split (line_at o.code.version o.rest) refl
  where
    one_less : (k l : ℕ) → k - 1 ≡ l → 0 < k → k ≡ suc l
    one_less k l e lt = omega arith

    split : (q : Result (CodeStatement × List ℕ) ImageFault) → line_at o.code.version o.rest ≡ q → Further o s o'
    split (Ok (t, r)) f =
        (let made : Opened = record { code = with_statements o.code (t ∷ []); left = o.left - 1; rest = r } in
        let same : (t, made) ≡ (s, o') = ok_is (t, made) (s, o') (rw f at e) in
        let one : t ≡ s = ap (λ (p : CodeStatement × Opened). p.0) same in
        let two : made ≡ o' = ap (λ (p : CodeStatement × Opened). p.1) same in
        let whole = next_whole o s o' lt e in
        record {
          left = one_less (o.left) (o'.left) (ap (λ (p : Opened). p.left) two) lt;
          version = sym (ap (λ (p : Opened). p.code.version) two);
          tables = sym (ap (λ (p : Opened). p.code.tables) two);
          statements = sym (ap (λ (p : Opened). p.code.statements) two) ∙ ap (λ (u : CodeStatement). o.code.statements ++ u ∷ []) one;
          whole = whole;
        })
    split (Err d) f = absurd (let both = rw f at e in cc)

-- ---- what an opening keeps

-- bytes stand at the end too
end_bytes : (bytes rest : List ℕ) → IsEnd bytes rest → IsBytes bytes → IsBytes rest
end_bytes bytes rest end b i = subst (λ (l : List ℕ). get_or l i 0 < 256) (end_drop bytes rest end) (IsBytes-drop (length bytes - length rest) bytes b i)

pub header_fails : (bytes : List ℕ) (f : ImageFault) → header_at bytes ≡ Err f → Fails f (begun_at bytes)
unfolding begun_at
header_fails bytes f e = fails_so f (begun_at bytes) (rw e refl)

module _ (bytes : List ℕ) (n : Counts) (r : List ℕ) (h : header_at bytes ≡ Ok (n, r)) where
  pub variables_fail : (f : ImageFault) → Fails f (times entry_at n.variables r) → Fails f (begun_at bytes)
  unfolding begun_at
  variables_fail f g = fails_from f (times entry_at n.variables r) (begun_at bytes) g (λ e. rw (h, e) refl)

  module _ (vs : List ℕ) (r1 : List ℕ) (tv : Table entry_at n.variables bytes r vs r1) where
    pub features_fail : (f : ImageFault) → Fails f (times name_at n.features r1) → Fails f (begun_at bytes)
    unfolding begun_at
    features_fail f g = fails_from f (times name_at n.features r1) (begun_at bytes) g (λ e. rw (h, tv.is, e) refl)

    module _ (fs : List ℕ) (r2 : List ℕ) (tf : Table name_at n.features bytes r1 fs r2) where
      pub frames_fail : (f : ImageFault) → Fails f (times name_at n.frames r2) → Fails f (begun_at bytes)
      unfolding begun_at
      frames_fail f g = fails_from f (times name_at n.frames r2) (begun_at bytes) g (λ e. rw (h, tv.is, tf.is, e) refl)

      module _ (ds : List ℕ) (r3 : List ℕ) (td : Table name_at n.frames bytes r2 ds r3) where
        abbrev named : Opened
        named = record { code = record { version = n.version; tables = record { variables = tv.values; features = tf.values; frames = td.values }; statements = [] }; left = n.statements; rest = r3 }

        begun_is : begun_at bytes ≡ Ok named
        unfolding begun_at
        begun_is = rw (h, tv.is, tf.is, td.is) refl

        opens_named : IsBytes bytes → OpensAs named bytes n.version vs fs ds [] n.statements r3
        opens_named b = record {
          is = begun_is;
          whole = begun_whole bytes named begun_is;
          version_is = refl;
          left_is = omega arith;
          rest_is = refl;
          end = td.end;
          fits = b;
          variables_begin = tv.begin;
          features_begin = tf.begin;
          frames_begin = td.begin;
          statements_begin = tt;
        }

        pub opens : (ss : List ℕ) → ss ≡ [] → IsBytes bytes → Opens bytes n.version vs fs ds ss n.statements r3
        opens ss e b = rw e (subst (λ (o : Opened). OpensAs o bytes n.version vs fs ds [] n.statements r3) (sym (ap opened_or_none begun_is)) (opens_named b))

        pub opens_read : (ss : List ℕ) → ss ≡ [] → begun_at bytes ≡ Ok (opened_in (length ss) bytes)
        opens_read ss e = rw e (begun_is ∙ ap Ok (sym (ap opened_or_none begun_is)))

-- what an opening keeps, where one statement more is read
pub record Advanced (o : Opened) (s : CodeStatement) (bytes : List ℕ) (version : Version) (vs fs ds ss : List ℕ) (count : ℕ) (rest : List ℕ) : Type 0 where
  pub opens : Opens bytes version vs fs ds ss count rest
  pub read : next_at o ≡ Ok (s, opened_in (length ss) bytes)

module _ (o : Opened) (bytes : List ℕ) (version : Version) (vs fs ds ss : List ℕ) (count : ℕ) (rest : List ℕ) (k : OpensAs o bytes version vs fs ds ss count rest) where
  next_line : line_at o.code.version o.rest ≡ line_at version rest
  next_line = rw (k.version_is, k.rest_is) refl

  pub opens_fails : (f : ImageFault) → line_at version rest ≡ Err f → Fails f (next_at o)
  unfolding next_at
  opens_fails f e = fails_so f (next_at o) (let h = next_line ∙ e in rw h refl)

  module _ (s : CodeStatement) (rest' : List ℕ) (e : line_at version rest ≡ Ok (s, rest')) (lt : 0 < o.left) where
    abbrev more : Opened
    more = record { code = with_statements o.code (s ∷ []); left = o.left - 1; rest = rest' }

    more_is : next_at o ≡ Ok (s, more)
    unfolding next_at
    more_is = let h = next_line ∙ e in rw h refl

    opens_more : (start : ℕ) → start ≡ length bytes - length rest → OpensAs more bytes version vs fs ds (ss ++ start ∷ []) count rest'
    opens_more start at_end =
        let here : line_at o.code.version o.rest ≡ Ok (s, rest') = next_line ∙ e in
        let t = (reads_line o.code.version).takes o.rest (s, rest') (end_bytes bytes o.rest k.end k.fits) here in
        let counted : length (ss ++ start ∷ []) ≡ suc (length ss) = length-append ss (start ∷ []) ∙ omega arith in
        let place : start ≡ length bytes - length o.rest = at_end ∙ ap (λ (l : List ℕ). length bytes - length l) k.rest_is in
        let found : line_at version (drop start bytes) ≡ Ok (s, rest') = ap (λ (p : ℕ). line_at version (drop p bytes)) place
        ∙ ap (line_at version) (end_drop bytes o.rest k.end) ∙ ap (line_at version) (sym k.rest_is) ∙ e in
        record {
          is = rw (counted, k.is, more_is) refl;
          whole = k.whole ∙ next_whole o s more lt more_is;
          version_is = k.version_is;
          left_is = omega (arith, counted, k.left_is, lt);
          rest_is = refl;
          end = end_more bytes o.rest (line s) rest' k.end t.0.parts;
          fits = k.fits;
          variables_begin = k.variables_begin;
          features_begin = k.features_begin;
          frames_begin = k.frames_begin;
          statements_begin = Begin-push (line_at version) bytes ss o.code.statements start s rest' k.statements_begin (omega (arith, at_end)) found;
        }

    pub advanced : (start : ℕ) (ss' : List ℕ) → start ≡ length bytes - length rest → ss' ≡ ss ++ start ∷ [] → Advanced o s bytes version vs fs ds ss' count rest'
    advanced start ss' at_end g =
        let m = opens_more start at_end in
        let same : more ≡ opened_in (length (ss ++ start ∷ [])) bytes = sym (ap opened_or_none m.is) in
        rw g (record {
          opens = subst (λ (p : Opened). OpensAs p bytes version vs fs ds (ss ++ start ∷ []) count rest') same m;
          read = more_is ∙ ap (λ (p : Opened). Ok (s, p)) same;
        })

  -- where no statement is left
  module _ (done : o.left ≡ 0) where
    code_is : code_at bytes ≡ ended (o.code, o.rest)
    code_is = k.whole ∙ end_same o done

    pub left_over : (length rest ≡ 0 → ⊥) → ended (o.code, o.rest) ≡ Err Trailing
    left_over ne = over (length o.rest) (λ z. ne (ap length k.rest_is ∙ z))
      where
        over : (j : ℕ) → (j ≡ 0 → ⊥) → (if j == 0 then Ok o.code else Err Trailing) ≡ Err Trailing
        over j ne' = grind arith

    none_left : length rest ≡ 0 → ended (o.code, o.rest) ≡ Ok o.code
    none_left z = over (length o.rest) (sym (ap length k.rest_is) ∙ z)
      where
        over : (j : ℕ) → j ≡ 0 → (if j == 0 then Ok o.code else Err Trailing) ≡ Ok o.code
        over j z' = rw z' refl

    pub finished : length rest ≡ 0 → ended (o.code, o.rest) ≡ Ok (code_in bytes)
    finished z = none_left z ∙ ap Ok (sym (ap code_or_none (code_is ∙ none_left z)))

    pub indexed : length rest ≡ 0 → Indexed bytes version vs fs ds ss
    indexed z =
        let c = code_is ∙ none_left z in
        let same : o.code ≡ code_in bytes = sym (ap code_or_none c) in
        record {
          is = c ∙ ap Ok same;
          fits = (code_takes bytes (code_in bytes) k.fits (c ∙ ap Ok same)).0;
          version_is = k.version_is ∙ ap (λ (d : Code). d.version) same;
          variables_begin = subst (λ (d : Code). Begin entry_at bytes vs d.tables.variables) same k.variables_begin;
          features_begin = subst (λ (d : Code). Begin name_at bytes fs d.tables.features) same k.features_begin;
          frames_begin = subst (λ (d : Code). Begin name_at bytes ds d.tables.frames) same k.frames_begin;
          statements_begin = subst (λ (d : Code). Begin (line_at version) bytes ss d.statements) same k.statements_begin;
        }

-- ---- reading all

-- what is left where so many of all statements are read
pub record Reading (bytes : List ℕ) (o : Opened) (counter end : ℕ) : Type 0 where
  pub whole : code_at bytes ≡ rest_at o
  pub left_is : counter + o.left ≡ end

-- behind the names no statement is read
pub begun_bare : (bytes : List ℕ) (o : Opened) → begun_at bytes ≡ Ok o → o.code.statements ≡ []
unfolding begun_at
begun_bare bytes o e =
    let named : Counts → Tables × List ℕ → Opened = λ n t. record { code = record { version = n.version; tables = t.0; statements = [] }; left = n.statements; rest = t.1 } in
    let p = bind_ok (header_at bytes) (λ h. names_at h.0 h.1 >>= λ t. Ok (named h.0 t)) o e in
    let q = bind_ok (names_at p.0.0 p.0.1) (λ t. Ok (named p.0.0 t)) o p.2 in
    sym (ap (λ (d : Opened). d.code.statements) (ok_is (named p.0.0 q.0) o q.2))

pub reading : (bytes : List ℕ) (o : Opened) (count : ℕ) → begun_at bytes ≡ Ok o → count ≡ length o.code.statements + o.left → Reading bytes o 0 count
reading bytes o count e n = record { whole = begun_whole bytes o e; left_is = (let none = ap length (begun_bare bytes o e) in omega (arith, none, n)) }

module _ (bytes : List ℕ) (o : Opened) (counter end : ℕ) (r : Reading bytes o counter end) where
  pub reading_left : counter < end → 0 < o.left
  reading_left lt = omega (arith, r.left_is)

  pub reading_more : (s : CodeStatement) (o' : Opened) → counter < end → next_at o ≡ Ok (s, o') → Reading bytes o' (counter + 1) end
  reading_more s o' lt e =
      let f = further o s o' (reading_left lt) e in
      record { whole = r.whole ∙ f.whole; left_is = omega (arith, r.left_is, f.left) }

  pub reading_fails : (f : ImageFault) → counter < end → Fails f (next_at o) → Fails f (code_at bytes)
  reading_fails f lt h = fails_from f (rest_at o) (code_at bytes) (next_fails o f (reading_left lt) h) (λ e. r.whole ∙ e)

  pub reading_done : end ≤ counter → o.left ≡ 0
  reading_done le = omega (arith, r.left_is)

  pub reading_ended : {X : Type 0} (view : X → Code) (q : Result X ImageFault) → end ≤ counter → Gives view q (ended (o.code, o.rest)) → GivesOrNoMemory view q (code_at bytes)
  reading_ended view (Ok x) le h = r.whole ∙ end_same o (reading_done le) ∙ h
  reading_ended view (Err f) le h = fails_so f (code_at bytes) (r.whole ∙ end_same o (reading_done le) ∙ h)
