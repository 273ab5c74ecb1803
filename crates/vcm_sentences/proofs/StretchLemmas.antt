-- Lines that are read one by one, and the stretches that they are cut into.
use Rattle.std.proofs.Common.{◌≡◌, ℕ, Bool, true, false, cond, List, [], ◌∷◌, ◌++◌, length, map, refl, sym, ap, ◌∙◌, append_assoc, arith}
use Rattle.std.specs.Prelude.{not, if◌then◌else◌, Result, Ok, Err, OnOk}
use Rattle.std.specs.List.{onto_first}
use Rattle.std.proofs.lemmas.List.{append-nil}
use Rattle.vcm_num.specs.Lines.{whole_lines}
use Rattle.vcm_num.proofs.WholeLines.{whole_nil}
use Rattle.vcm_lines.specs.Segments.{continues}
use Rattle.vcm_lines.specs.Statements.{is_empty}
use Rattle.vcm_sentences.specs.declared.sentences.Owner.{Owner}
use Rattle.vcm_sentences.specs.declared.sentences.Owner.TheVariants.{Nobody, First, Other}
use Rattle.vcm_sentences.specs.declared.sentences.Sentence.{Sentence}
use Rattle.vcm_sentences.specs.declared.gathering.Begun.{Begun}
use Rattle.vcm_sentences.specs.declared.gathering.LineKind.{LineKind}
use Rattle.vcm_sentences.specs.declared.gathering.LineKind.TheVariants.{Alone, Between, GoesOn, Ends}
use Rattle.vcm_sentences.specs.Stretches.{TextLine, text_lines_from, stretches, begins_statement, is_told, Spoken, spoken_of, told, spoken, owner, owners_from}
use Rattle.vcm_sentences.specs.inner.Gathering.{kind, kind_of, Holds, put_all_before, has_lines, AreRead}

-- ---- lines in front of stretches

-- one more line that goes on
pub put_goes : (ls : List TextLine) (l : TextLine) (ss : List (List TextLine)) → put_all_before (ls ++ l ∷ []) ss ≡ put_all_before ls (onto_first l ss)
put_goes [] l ss = refl
put_goes (k ∷ ls) l ss = ap (onto_first k) (put_goes ls l ss)

-- one more line that ends the stretch
pub put_ends : (ls : List TextLine) (l : TextLine) (ss : List (List TextLine)) → put_all_before ls ((l ∷ []) ∷ ss) ≡ (ls ++ l ∷ []) ∷ ss
put_ends [] l ss = refl
put_ends (k ∷ ls) l ss = ap (onto_first k) (put_ends ls l ss)

-- lines at the end of the text
put_last : (l : TextLine) (ls : List TextLine) → put_all_before (l ∷ ls) [] ≡ (l ∷ ls) ∷ []
put_last l [] = refl
put_last l (k ∷ ls) = ap (onto_first l) (put_last k ls)

-- ---- what is told of stretches

told_more : (b : Bool) (s : List TextLine) (ss : List (List TextLine)) → is_told s ≡ b → told (s ∷ ss) ≡ cond b (spoken_of s ∷ told ss) (told ss)
told_more true s ss e = rw e refl
told_more false s ss e = rw e refl

begun_is_told : (s : List TextLine) → begins_statement s ≡ true → is_told s ≡ true
begun_is_told s e = rw e refl

pub told_one : (s : List TextLine) (ss : List (List TextLine)) → begins_statement s ≡ true → told (s ∷ ss) ≡ spoken_of s ∷ told ss
told_one s ss e = told_more true s ss (begun_is_told s e)

told_first : (b : Bool) (s : List TextLine) (ss : List (List TextLine)) → is_told s ≡ b → told (s ∷ ss) ≡ told (s ∷ []) ++ told ss
told_first true s ss e = rw e refl
told_first false s ss e = rw e refl

-- ---- what a line is

abbrev pub KindFacts : LineKind → Bool → TextLine → Type 0
KindFacts Alone within l = (is_empty l.text ≡ true) × (within ≡ false)
KindFacts Between within l = (is_empty l.text ≡ true) × (within ≡ true)
KindFacts GoesOn within l = (is_empty l.text ≡ false) × (continues l.text ≡ true)
KindFacts Ends within l = (is_empty l.text ≡ false) × (continues l.text ≡ false)

facts_by : (empty goes w : Bool) (within : Bool) (l : TextLine) → is_empty l.text ≡ empty → continues l.text ≡ goes → within ≡ w → KindFacts (kind empty goes w) within l
facts_by true goes true within l e c w = (e, w)
facts_by true goes false within l e c w = (e, w)
facts_by false true w within l e c d = (e, c)
facts_by false false w within l e c d = (e, c)

pub kind_facts : (k : LineKind) (within : Bool) (l : TextLine) → k ≡ kind_of within l → KindFacts k within l
kind_facts k within l e = rw e (facts_by (is_empty l.text) (continues l.text) within within l refl refl refl)

-- ---- a line more

first_begins : (ls : List TextLine) (l : TextLine) (within : Bool) → has_lines ls ≡ within → begins_statement ls ≡ within → is_empty l.text ≡ false
    → begins_statement (ls ++ l ∷ []) ≡ true
first_begins [] l within some kept e = ap not e
first_begins (k ∷ ls) l within some kept e = kept ∙ sym some

has_more : (ls : List TextLine) (l : TextLine) → has_lines (ls ++ l ∷ []) ≡ true
has_more [] l = refl
has_more (k ∷ ls) l = refl

still_begins : (ls : List TextLine) (l : TextLine) → has_lines ls ≡ true → begins_statement ls ≡ true → begins_statement (ls ++ l ∷ []) ≡ true
still_begins [] l some kept = absurd cc
still_begins (k ∷ ls) l some kept = kept

no_lines : (ls : List TextLine) → has_lines ls ≡ false → ls ≡ []
no_lines [] e = refl
no_lines (l ∷ ls) e = absurd cc

-- a line of which nothing is left, outside of statements
pub step_alone : (all : List TextLine) (b c : Begun) (within : Bool) (items news : List Sentence) (owners more : List Owner) (l : TextLine) (ahead : List TextLine)
    → KindFacts Alone within l → (Holds b [] → Holds c []) → map spoken news ≡ map spoken items ++ told ((l ∷ []) ∷ []) → more ≡ owners ++ owner false l ∷ []
    → AreRead all b within items owners (l ∷ ahead) → AreRead all c within news more ahead
step_alone all b c within items news owners more l ahead f h said owned s =
    let none : s.begun ≡ [] = no_lines s.begun (s.some ∙ f.1) in
    let cut : stretches within (l ∷ ahead) ≡ (l ∷ []) ∷ stretches false ahead = rw (f.0, f.1) refl in
    record {
      begun = [];
      holds = h (rw none at s.holds);
      some = sym f.1;
      kept = sym f.1;
      sentences = s.sentences ∙ ap (λ (bs : List TextLine). map spoken items ++ told (put_all_before bs (stretches within (l ∷ ahead)))) none
          ∙ ap (λ (ss : List (List TextLine)). map spoken items ++ told ss) cut
          ∙ ap (λ (ts : List Spoken). map spoken items ++ ts) (told_first _ (l ∷ []) (stretches false ahead) refl)
          ∙ sym (append_assoc (map spoken items) (told ((l ∷ []) ∷ [])) (told (stretches false ahead)))
          ∙ ap (λ (ts : List Spoken). ts ++ told (stretches false ahead)) (sym said)
          ∙ ap (λ (w : Bool). map spoken news ++ told (stretches w ahead)) (sym f.1);
      owned = s.owned ∙ (rw (f.0, f.1) (rw owned (sym (append_assoc owners (owner false l ∷ []) (owners_from false ahead)))));
    }

-- a line of which nothing is left, within a statement
pub step_between : (all : List TextLine) (b c : Begun) (within : Bool) (items : List Sentence) (owners more : List Owner) (l : TextLine) (ahead : List TextLine)
    → KindFacts Between within l → ((ls : List TextLine) → has_lines ls ≡ within → Holds b ls → Holds c (ls ++ l ∷ [])) → more ≡ owners ++ Nobody ∷ []
    → AreRead all b within items owners (l ∷ ahead) → AreRead all c within items more ahead
step_between all b c within items owners more l ahead f h owned s = record {
  begun = s.begun ++ l ∷ [];
  holds = h s.begun s.some s.holds;
  some = has_more s.begun l ∙ sym f.1;
  kept = still_begins s.begun l (s.some ∙ f.1) (s.kept ∙ f.1) ∙ sym f.1;
  sentences = rw (f.1, put_goes s.begun l (stretches true ahead)) (rw (f.1, f.0) at s.sentences);
  owned = rw (f.1, owned, append_assoc) (rw (f.1, f.0) at s.owned);
}

-- a line that goes on
pub step_goes : (all : List TextLine) (b c : Begun) (within : Bool) (items : List Sentence) (owners more : List Owner) (l : TextLine) (ahead : List TextLine)
    → KindFacts GoesOn within l → ((ls : List TextLine) → has_lines ls ≡ within → Holds b ls → Holds c (ls ++ l ∷ [])) → more ≡ owners ++ owner within l ∷ []
    → AreRead all b within items owners (l ∷ ahead) → AreRead all c true items more ahead
step_goes all b c within items owners more l ahead f h owned s = record {
  begun = s.begun ++ l ∷ [];
  holds = h s.begun s.some s.holds;
  some = has_more s.begun l;
  kept = first_begins s.begun l within s.some s.kept f.0;
  sentences = rw (put_goes s.begun l (stretches true ahead)) (rw (f.0, f.1) at s.sentences);
  owned = rw (owned, append_assoc) (rw (f.0, f.1) at s.owned);
}

-- the line that ends a statement
pub step_ends : (all : List TextLine) (b c d : Begun) (within : Bool) (items news : List Sentence) (owners more : List Owner) (l : TextLine) (ahead : List TextLine)
    → KindFacts Ends within l → ((ls : List TextLine) → has_lines ls ≡ within → Holds b ls → Holds c (ls ++ l ∷ []))
    → ((ls : List TextLine) → Holds c ls → map spoken news ≡ map spoken items ++ spoken_of ls ∷ []) → Holds d [] → more ≡ owners ++ owner within l ∷ []
    → AreRead all b within items owners (l ∷ ahead) → AreRead all d false news more ahead
step_ends all b c d within items news owners more l ahead f h said emptied owned s =
    let whole = s.begun ++ l ∷ [] in
    let cut : stretches within (l ∷ ahead) ≡ (l ∷ []) ∷ stretches false ahead = rw (f.0, f.1) refl in
    record {
      begun = [];
      holds = emptied;
      some = refl;
      kept = refl;
      sentences = s.sentences ∙ ap (λ (ss : List (List TextLine)). map spoken items ++ told (put_all_before s.begun ss)) cut
          ∙ ap (λ (ss : List (List TextLine)). map spoken items ++ told ss) (put_ends s.begun l (stretches false ahead))
          ∙ ap (λ (ts : List Spoken). map spoken items ++ ts) (told_one whole (stretches false ahead) (first_begins s.begun l within s.some s.kept f.0))
          ∙ sym (append_assoc (map spoken items) (spoken_of whole ∷ []) (told (stretches false ahead)))
          ∙ ap (λ (ts : List Spoken). ts ++ told (stretches false ahead)) (sym (said whole (h s.begun s.some s.holds)));
      owned = s.owned ∙ (rw (f.0, f.1) (rw owned (sym (append_assoc owners (owner within l ∷ []) (owners_from false ahead)))));
    }

-- ---- the end of the text

pub end_open : (all : List TextLine) (b : Begun) (items news : List Sentence) (owners : List Owner) (within : Bool) → within ≡ true
    → ((ls : List TextLine) → Holds b ls → map spoken news ≡ map spoken items ++ spoken_of ls ∷ [])
    → AreRead all b within items owners [] → map spoken news ≡ told (stretches false all)
end_open all b items news owners within on said s = end_by s.begun (s.some ∙ on) (s.kept ∙ on) s.holds s.sentences
  where
    end_by : (ls : List TextLine) → has_lines ls ≡ true → begins_statement ls ≡ true → Holds b ls
        → told (stretches false all) ≡ map spoken items ++ told (put_all_before ls []) → map spoken news ≡ told (stretches false all)
    end_by [] some kept h e = absurd cc
    end_by (l ∷ ls) some kept h e = said (l ∷ ls) h ∙ sym (e ∙ ap (λ (ss : List (List TextLine)). map spoken items ++ told ss) (put_last l ls)
        ∙ ap (λ (ts : List Spoken). map spoken items ++ ts) (told_one (l ∷ ls) [] kept))

pub end_closed : (all : List TextLine) (b : Begun) (items : List Sentence) (owners : List Owner) (within : Bool) → within ≡ false
    → AreRead all b within items owners [] → map spoken items ≡ told (stretches false all)
end_closed all b items owners within closed s =
    let none : s.begun ≡ [] = no_lines s.begun (s.some ∙ closed) in
    sym (append-nil (map spoken items)) ∙ sym (s.sentences ∙ ap (λ (bs : List TextLine). map spoken items ++ told (put_all_before bs [])) none)

pub end_owned : (all : List TextLine) (b : Begun) (items : List Sentence) (owners : List Owner) (within : Bool) → AreRead all b within items owners []
    → owners ≡ owners_from false all
end_owned all b items owners within s = sym (append-nil owners) ∙ sym s.owned

-- ---- what the code says of a line

pub owner_begun : (within : Bool) (l : TextLine) → is_empty l.text ≡ false → owner within l ≡ (if within then Other else First)
owner_begun true l e = rw e refl
owner_begun false l e = rw e refl

-- what holds on success, of two and of three things that hold then
pub on_two : {A E : Type 0} (r : Result A E) (P Q R : Type 0) → OnOk r P → OnOk r Q → (P → Q → R) → OnOk r R
on_two (Ok x) P Q R p q f = f p q
on_two (Err e) P Q R p q f = tt

pub on_three : {A E : Type 0} (r : Result A E) (P Q R S : Type 0) → OnOk r P → OnOk r Q → OnOk r R → (P → Q → R → S) → OnOk r S
on_three (Ok x) P Q R S p q t f = f p q t
on_three (Err e) P Q R S p q t f = tt

-- no lines are left
pub none_ahead : (n : ℕ) (rest : List ℕ) → length rest ≡ 0 → text_lines_from n (whole_lines rest) ≡ []
none_ahead n [] none = rw whole_nil refl
none_ahead n (b ∷ bs) none = absurd (omega arith)
