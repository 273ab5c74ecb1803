-- Output lines that are told in pieces.
use Rattle.std.proofs.Common.{◌≡◌, ℕ, Bool, true, false, zero, suc, ◌+◌, ◌≤◌, List, [], ◌∷◌, ◌++◌, length, take, drop, Option, Some, None, Result, Ok, Err}
use Rattle.std.proofs.Common.{refl, sym, ap, ◌∙◌, inl, inr, subst, append_assoc, arith, lit<, length-append}
use Rattle.std.specs.Prelude.{flat_map, option_map, codes, IfOk, IfErr, OnOk}
use Rattle.std.specs.List.{AllByRecursion}
use Rattle.std.specs.Str.{IsUtf8, IsAscii}
use Rattle.std.specs.Str.Lossy.{utf8_lossy}
use Rattle.std.specs.Io.KnownBytes.{Appends}
use Rattle.std.proofs.KnownBytes.{Appends-nil, Appends-trans}
use Rattle.std.proofs.lemmas.List.{append-nil, drop_all, take-append-le}
use Rattle.std.proofs.lemmas.Grind.{flat_map-append}
use Rattle.vcm_spec.specs.declared.stop.StopPlace.{StopPlace}
use Rattle.vcm_report.specs.Printed.{stopped_line}
use Rattle.vcm_debug.specs.Debugging.{Debugging, now}
use Rattle.vcm_report.specs.Output.{output_lines}
use Rattle.std.proofs.lemmas.Str.{IsUtf8-append, IsUtf8-from_ascii, utf8_lossy-IsUtf8}
use Rattle.json.specs.Token.{Token}
use Rattle.json.specs.Print.{print}
use Rattle.vcm_wire.specs.Frames.{frame, Sent}
use Rattle.vcm_wire.specs.Messages.{Adds}
use Rattle.vcm_dap.specs.Talking.{Talking, next_seq, ended, output_front, Told}
use Rattle.vcm_dap.specs.Laws.{LinesArePrinted}
use Rattle.vcm_dap.specs.declared.asking.Motion.{Motion}
use Rattle.vcm_dap.specs.inner.Growing.{Grown}
use Rattle.vcm_dap.specs.Telling.{TellsText, IsResult, frames, seq_behind, lines_event, lines_events, is_continue, is_step_out, motion_answer, first_messages}
use Rattle.vcm_dap.specs.Telling.{IsPiece, Says, SaysSome, ToldLines, IsBehind, SaysBehind, IsThen, SaysThen, ToldMotion}

-- a front of what comes first is a front of all
front_sent : (a b : Option (List ℕ)) (xs ys : List ℕ) → (k : ℕ) × (k ≤ length xs) × Appends a b (take k xs) → (k : ℕ) × (k ≤ length (xs ++ ys)) × Appends a b (take k (xs ++ ys))
front_sent a b xs ys h = (h.0, omega (arith, h.1, length-append xs ys), subst (λ (l : List ℕ). Appends a b l) (sym (take-append-le h.0 xs ys h.1)) h.2)

-- all of what comes first, and a front of what comes then
take_after : (xs ys : List ℕ) (k : ℕ) → take (length xs + k) (xs ++ ys) ≡ xs ++ take k ys
take_after [] ys k = ap (λ n. take n ys) (let e : 0 + k ≡ k = omega arith in e)
take_after (x ∷ xs) ys k = ap (λ n. take n (x ∷ xs ++ ys)) (let e : suc (length xs) + k ≡ suc (length xs + k) = omega arith in e) ∙ ap (λ l. x ∷ l) (take_after xs ys k)

-- what was sent behind what was written
sent_then : {A E : Type 0} (a b c : Option (List ℕ)) (xs ys : List ℕ) (r : Result A E) → Appends a b xs → Sent b c ys r → Sent a c (xs ++ ys) r
sent_then a b c xs ys (Ok u) h s = Appends-trans a b c xs ys h s
sent_then a b c xs ys (Err e) h s = (
  length xs + s.0,
  omega (arith, s.1, length-append xs ys),
  subst (λ (l : List ℕ). Appends a c l) (sym (take_after xs ys s.0)) (Appends-trans a b c xs (take s.0 ys) h s.2),
)

-- an event told the text of lines
pub told_text : {A E : Type 0} (old new : Talking) (text : List ℕ) (lines : List (List ℕ)) (r : Result A E) → text ≡ output_lines lines
    → Told old new (ended (output_front (next_seq old.seq) (codes "stdout") text)) r → Told old new (lines_event (next_seq old.seq) lines) r
told_text old new text lines r e h = subst (λ (x : List ℕ). Told old new (ended (output_front (next_seq old.seq) (codes "stdout") x)) r) e h

-- no lines are left
pub told_none : {A E : Type 0} (t : Talking) (u : A) → ToldLines {A = A} {E = E} t t [] (Ok u)
told_none t u = record {
  pieces = [];
  cut = record { whole = refl; sized = tt };
  counted = refl;
  sent = Appends-nil t.written;
}

-- all lines were told before
pub told_before : {A E : Type 0} (t : Talking) (lines : List (List ℕ)) (n : ℕ) (u : A) → length lines ≤ n → ToldLines {A = A} {E = E} t t (drop n lines) (Ok u)
told_before {A} {E} t lines n u l = subst (λ (ls : List (List ℕ)). ToldLines {A = A} {E = E} t t ls (Ok u)) (sym (drop_all n lines l)) (told_none {A = A} {E = E} t u)

-- a piece was told, and then the lines behind it
pub told_more : {B A E F : Type 0} (old mid new : Talking) (p rest lines : List (List ℕ)) (u : B) (r : Result A E) → IsPiece p → p ++ rest ≡ lines
    → Told {A = B} {E = F} old mid (lines_event (next_seq old.seq) p) (Ok u) → ToldLines mid new rest r → ToldLines old new lines r
told_more old mid new p rest lines u r is e t h =
    record {
      pieces = p ∷ h.pieces;
      cut = record { whole = ap (λ l. p ++ l) h.cut.whole ∙ e; sized = (is, h.cut.sized) };
      counted = subst (λ (n : ℕ). OnOk r (new.seq ≡ seq_behind n (lines_events n h.pieces))) t.counted h.counted;
      sent = sent_then old.written mid.written new.written (frame (print (lines_event (next_seq old.seq) p))) _ r t.sent
          (subst (λ (n : ℕ). Sent mid.written new.written (frames (lines_events n h.pieces)) r) t.counted h.sent);
    }

-- a piece for each line
singles : List (List ℕ) → List (List (List ℕ))
singles [] = []
singles (l ∷ ls) = (l ∷ []) ∷ singles ls

singles_whole : (ls : List (List ℕ)) → flat_map (λ p. p) (singles ls) ≡ ls
unfolding singles
singles_whole [] = refl
singles_whole (l ∷ ls) = ap (λ xs. l ∷ xs) (singles_whole ls)

singles_sized : (ls : List (List ℕ)) → AllByRecursion IsPiece (singles ls)
unfolding singles
singles_sized [] = tt
singles_sized (l ∷ ls) = ((omega arith, omega arith), singles_sized ls)

-- a piece could not be told
pub told_not : {B A E F : Type 0} (old new : Talking) (p rest lines : List (List ℕ)) (f : F) (e : E) → IsPiece p → p ++ rest ≡ lines
    → Told {A = B} {E = F} old new (lines_event (next_seq old.seq) p) (Err f) → ToldLines {A = A} {E = E} old new lines (Err e)
told_not old new p rest lines f e is same t = record {
  pieces = p ∷ singles rest;
  cut = record { whole = ap (λ l. p ++ l) (singles_whole rest) ∙ same; sized = (is, singles_sized rest) };
  counted = tt;
  sent = front_sent old.written new.written (frame (print (lines_event (next_seq old.seq) p))) _ t.sent;
}

-- numbers are counted on
seq_append : (n : ℕ) (xs ys : List (List Token)) → seq_behind n (xs ++ ys) ≡ seq_behind (seq_behind n xs) ys
seq_append n [] ys = refl
seq_append n (x ∷ xs) ys = seq_append (next_seq n) xs ys

-- messages behind messages
pub says_more : (a b c : Talking) (xs ys : List (List Token)) → Says a b xs → Says b c ys → Says a c (xs ++ ys)
says_more a b c xs ys h k = record {
  counted = k.counted ∙ ap (λ n. seq_behind n ys) h.counted ∙ sym (seq_append a.seq xs ys);
  written = subst (λ (l : List ℕ). Appends a.written c.written l) (sym (flat_map-append (λ m. frame (print m)) xs ys))
      (Appends-trans a.written b.written c.written (frames xs) (frames ys) h.written k.written);
}

-- one message was told
pub says_one : {A E : Type 0} (old new : Talking) (ts : List Token) (u : A) → Told {A = A} {E = E} old new ts (Ok u) → Says old new (ts ∷ [])
says_one old new ts u h = record {
  counted = h.counted;
  written = subst (λ (l : List ℕ). Appends old.written new.written l) (sym (append-nil (frame (print ts)))) h.sent;
}

-- and then another one, or the call failed
pub says_two : {A E F G : Type 0} (a b c : Talking) (ts us : List Token) (u : A) (r : Result F G) → Told {A = A} {E = E} a b ts (Ok u) → Told b c us r
    → IfOk r (λ v. Says a c (ts ∷ us ∷ []))
says_two a b c ts us u (Ok v) h k = says_more a b c (ts ∷ []) (us ∷ []) (says_one a b ts u h) (says_one b c us v k)
says_two a b c ts us u (Err e) h k = tt

-- the first message of a motion, where it is the only one
pub first_one : {A E : Type 0} (old new : Talking) (request : ℕ) (command : List ℕ) (m : Motion) (on out : Bool) (u : A) → on ≡ is_continue m → out ≡ is_step_out m
    → out ≡ false → Told {A = A} {E = E} old new (motion_answer (next_seq old.seq) request command on) (Ok u) → Says old new (first_messages old.seq request command m)
first_one old new request command m on out u e o f h = rw (← e, ← o, f) (says_one old new _ u h)

-- and where there is another one
pub first_two : {A E F G : Type 0} (old mid new : Talking) (request : ℕ) (command : List ℕ) (m : Motion) (on out : Bool) (u : A) (r : Result F G) → on ≡ is_continue m
    → out ≡ is_step_out m → out ≡ true → Told {A = A} {E = E} old mid (motion_answer (next_seq old.seq) request command on) (Ok u)
    → Told mid new (ended (output_front (next_seq mid.seq) (codes "stderr") (codes "there are no calls to step out of: macros stand expanded\n"))) r
    → IfOk r (λ v. Says old new (first_messages old.seq request command m))
first_two old mid new request command m on out u r e o f h k =
    rw (← e, ← o, f) (says_two old mid new _ _ u r h
    (subst (λ (n : ℕ). Told mid new (ended (output_front (next_seq n) (codes "stderr") (codes "there are no calls to step out of: macros stand expanded\n"))) r) h.counted k))

-- some messages behind some messages
pub some_more : (a b c : Talking) → SaysSome a b → SaysSome b c → SaysSome a c
some_more a b c h k = (h.0 ++ k.0, says_more a b c h.0 k.0 h.1 k.1)

pub some_then : {A E : Type 0} (a b c : Talking) (r : Result A E) → SaysSome a b → IfOk r (λ u. SaysSome b c) → IfOk r (λ u. SaysSome a c)
some_then a b c (Ok u) h k = some_more a b c h k
some_then a b c (Err e) h k = tt

-- nothing was put
pub grown_none : (a : List Token) → Grown a a
grown_none a = ([], sym (append-nil a))

-- what was put behind what was put
pub grown_more : (a b c ts : List Token) → Grown a b → c ≡ b ++ ts → Grown a c
grown_more a b c ts h e = (h.0 ++ ts, e ∙ ap (λ l. l ++ ts) h.1 ∙ append_assoc a h.0 ts)

pub grown_then : {A E : Type 0} (a b c : List Token) (r : Result A E) → Grown a b → IfOk r (λ u. Grown b c) → IfOk r (λ u. Grown a c)
grown_then a b c (Ok u) h k = grown_more a b c k.0 h k.1
grown_then a b c (Err e) h k = tt

pub grown_adds : {A E : Type 0} (a b c ts : List Token) (r : Result A E) → Grown a b → Adds b c ts r → IfOk r (λ u. Grown a c)
grown_adds a b c ts (Ok u) h k = grown_more a b c ts h k
grown_adds a b c ts (Err e) h k = tt

-- a message that begins so was told, if all was put into it
pub told_grown : {A E B F : Type 0} (P : List Token → Type 0) (old new : Talking) (front begun message : List Token) (put : Result A E) (r : Result B F)
    → ((ts : List Token) → P (ended (front ++ ts))) → begun ≡ front → IfOk put (λ u. Grown begun message) → IfOk put (λ u. Told old new (ended message) r)
    → IfErr put (λ e. (us : List Token) → Told old new us r) → IfOk r (λ v. (m : List Token) × P m × Says old new (m ∷ []))
told_grown P old new front begun message (Ok u) (Ok v) is e h k x =
    (ended message, subst (λ (l : List Token). P (ended l)) (sym (h.1 ∙ ap (λ l. l ++ h.0) e)) (is h.0), says_one old new (ended message) v k)
told_grown P old new front begun message (Err f) (Ok v) is e h k x = (ended (front ++ []), is [], says_one old new (ended (front ++ [])) v (x (ended (front ++ []))))
told_grown P old new front begun message put (Err f) is e h k x = tt

-- a text was told
pub text_told : {A E : Type 0} (old new : Talking) (category text : List ℕ) (r : Result A E) → Told old new (ended (output_front (next_seq old.seq) category text)) r
    → IfOk r (λ u. TellsText old new category text)
text_told old new category text (Ok u) h =
    (ended (output_front (next_seq old.seq) category text), (next_seq old.seq, [], refl), says_one old new _ u h)
text_told old new category text (Err e) h = tt

-- the same, by other words
pub told_is : {A E : Type 0} (old new : Talking) (category text other : List ℕ) (r : Result A E) → text ≡ other → IfOk r (λ u. TellsText old new category text)
    → IfOk r (λ u. TellsText old new category other)
told_is old new category text other r e h = subst (λ (x : List ℕ). IfOk r (λ u. TellsText old new category x)) e h

-- the line of the stop
pub stop_told : (d : Debugging) (text : List ℕ) → Some text ≡ option_map (stopped_line d.code.tables) (now d).world.stop → IsResult d text
stop_told d text h = by (now d).world.stop refl h
  where
    by : (stop : Option StopPlace) → (now d).world.stop ≡ stop → Some text ≡ option_map (stopped_line d.code.tables) stop → IsResult d text
    by None e k = cc
    by (Some place) e k = inl (place, e, cc)

-- one such message
pub behind_one : {A E : Type 0} (d : Debugging) (old new : Talking) (r : Result A E) → IfOk r (λ u. (m : List Token) × IsBehind d m × Says old new (m ∷ [])) → IfOk r (λ u. SaysBehind d old new)
behind_one d old new (Ok u) h = record { messages = h.0 ∷ []; says = h.2; are = (h.1, tt) }
behind_one d old new (Err e) h = tt

-- the same, told as it is
pub behind_told : {A E : Type 0} (d : Debugging) (old new : Talking) (m : List Token) (r : Result A E) → IsBehind d m → Told old new m r → IfOk r (λ u. SaysBehind d old new)
behind_told d old new m (Ok u) is h = record { messages = m ∷ []; says = says_one old new m u h; are = (is, tt) }
behind_told d old new m (Err e) is h = tt

-- the line of a stop, or of the result of a run
pub some_text : (d : Debugging) (old new : Talking) (category text : List ℕ) → IsResult d text → TellsText old new category text → SaysBehind d old new
some_text d old new category text is h = record { messages = h.0 ∷ []; says = h.2; are = (inr (inr (inr (category, text, is, h.1))), tt) }

pub behind_text : {A E : Type 0} (d : Debugging) (old new : Talking) (category text : List ℕ) (r : Result A E) → IsResult d text → IfOk r (λ u. TellsText old new category text)
    → IfOk r (λ u. SaysBehind d old new)
behind_text d old new category text (Ok u) is h = some_text d old new category text is h
behind_text d old new category text (Err e) is h = tt

-- such messages behind such messages
both_behind : (d : Debugging) (xs ys : List (List Token)) → AllByRecursion (IsBehind d) xs → AllByRecursion (IsBehind d) ys → AllByRecursion (IsBehind d) (xs ++ ys)
both_behind d [] ys h k = k
both_behind d (x ∷ xs) ys h k = (h.0, both_behind d xs ys h.1 k)

pub behind_then : {A E : Type 0} (d : Debugging) (a b c : Talking) (r : Result A E) → SaysBehind d a b → IfOk r (λ u. SaysBehind d b c) → IfOk r (λ u. SaysBehind d a c)
behind_then d a b c (Ok u) h k = record {
  messages = h.messages ++ k.messages;
  says = says_more a b c h.messages k.messages h.says k.says;
  are = both_behind d h.messages k.messages h.are k.are;
}
behind_then d a b c (Err e) h k = tt

-- the same of a producer's text
as_then : (told : Option (List ℕ)) (d : Debugging) (ms : List (List Token)) → AllByRecursion (IsBehind d) ms → AllByRecursion (IsThen told d) ms
as_then told d [] h = tt
as_then told d (m ∷ ms) h = (inl h.0, as_then told d ms h.1)

pub then_says : (told : Option (List ℕ)) (d : Debugging) (old new : Talking) → SaysBehind d old new → SaysThen told d old new
then_says told d old new h = record { messages = h.messages; says = h.says; are = as_then told d h.messages h.are }

pub then_behind : {A E : Type 0} (told : Option (List ℕ)) (d : Debugging) (old new : Talking) (r : Result A E) → IfOk r (λ u. SaysBehind d old new)
    → IfOk r (λ u. SaysThen told d old new)
then_behind told d old new (Ok u) h = then_says told d old new h
then_behind told d old new (Err e) h = tt

-- nothing was told
pub then_none : (told : Option (List ℕ)) (d : Debugging) (t : Talking) → SaysThen told d t t
then_none told d t = record { messages = []; says = record { counted = refl; written = Appends-nil t.written }; are = tt }

-- what wasn't tried was told
pub then_untried : {A E : Type 0} (told : Option (List ℕ)) (text : List ℕ) (d : Debugging) (old new : Talking) (r : Result A E) → told ≡ Some text
    → Told old new (ended (output_front (next_seq old.seq) (codes "stderr") text)) r → IfOk r (λ u. SaysThen told d old new)
then_untried told text d old new (Ok u) e h = subst (λ (o : Option (List ℕ)). SaysThen o d old new) (sym e) (record {
  messages = ended (output_front (next_seq old.seq) (codes "stderr") text) ∷ [];
  says = says_one old new _ u h;
  are = (inr (next_seq old.seq, [], refl), tt);
})
then_untried told text d old new (Err x) e h = tt

-- such messages behind such messages
both_then : (told : Option (List ℕ)) (d : Debugging) (xs ys : List (List Token)) → AllByRecursion (IsThen told d) xs → AllByRecursion (IsThen told d) ys
    → AllByRecursion (IsThen told d) (xs ++ ys)
both_then told d [] ys h k = k
both_then told d (x ∷ xs) ys h k = (h.0, both_then told d xs ys h.1 k)

pub then_then : {A E : Type 0} (told : Option (List ℕ)) (d : Debugging) (a b c : Talking) (r : Result A E) → SaysThen told d a b → IfOk r (λ u. SaysThen told d b c)
    → IfOk r (λ u. SaysThen told d a c)
then_then told d a b c (Ok u) h k = record {
  messages = h.messages ++ k.messages;
  says = says_more a b c h.messages k.messages h.says k.says;
  are = both_then told d h.messages k.messages h.are k.are;
}
then_then told d a b c (Err e) h k = tt

-- output lines between the first messages of a motion and others
pub told_motion : {A E B F : Type 0} (a b c d : Talking) (first : List (List Token)) (lines : List (List ℕ)) (told : Option (List ℕ)) (s : Debugging) (u : A)
    (r : Result B F) → Says a b first → ToldLines {A = A} {E = E} b c lines (Ok u) → IfOk r (λ v. SaysThen told s c d) → IfOk r (λ v. ToldMotion a d first lines told s)
told_motion a b c d first lines told s u (Ok v) h t k =
    let mid : Says b c (lines_events b.seq t.pieces) = record { counted = t.counted; written = t.sent } in
    record {
      pieces = t.pieces;
      cut = t.cut;
      behind = k.messages;
      are = k.are;
      says = says_more a c d _ k.messages (says_more a b c first _ h (subst (λ n. Says b c (lines_events n t.pieces)) h.counted mid)) k.says;
    }
told_motion a b c d first lines told s u (Err e) h t k = tt

-- put together, the texts of pieces are the text of the lines
pieces_text : (pieces : List (List (List ℕ))) → flat_map output_lines pieces ≡ output_lines (flat_map (λ p. p) pieces)
pieces_text [] = refl
pieces_text (p ∷ ps) = ap (λ l. output_lines p ++ l) (pieces_text ps) ∙ sym (flat_map-append (λ line. line ++ codes "\n") p (flat_map (λ q. q) ps))

-- the front of lines that are UTF-8, and what stands behind it
both_utf8 : (p ls : List (List ℕ)) → AllByRecursion IsUtf8 (p ++ ls) → AllByRecursion IsUtf8 p × AllByRecursion IsUtf8 ls
both_utf8 [] ls h = (tt, h)
both_utf8 (l ∷ p) ls h = let rest = both_utf8 p ls h.1 in ((h.0, rest.0), rest.1)

-- a line feed is one byte of ASCII
feed : IsAscii (codes "\n")
feed zero = lit< tt
feed (suc i) = lit< tt

-- the text of such lines
text_utf8 : (ls : List (List ℕ)) → AllByRecursion IsUtf8 ls → IsUtf8 (output_lines ls)
text_utf8 [] h = ([], (refl, refl))
text_utf8 (l ∷ ls) h = IsUtf8-append _ _ (IsUtf8-append l (codes "\n") h.0 (IsUtf8-from_ascii (codes "\n") feed)) (text_utf8 ls h.1)

-- so it is told as it is
pieces_utf8 : (pieces : List (List (List ℕ))) → AllByRecursion IsUtf8 (flat_map (λ p. p) pieces)
    → flat_map (λ p. utf8_lossy (output_lines p)) pieces ≡ flat_map output_lines pieces
pieces_utf8 [] h = refl
pieces_utf8 (p ∷ ps) h = both (utf8_lossy-IsUtf8 (output_lines p) (text_utf8 p parts.0)) (pieces_utf8 ps parts.1)
  where
    parts : AllByRecursion IsUtf8 p × AllByRecursion IsUtf8 (flat_map (λ q. q) ps)
    parts = both_utf8 p (flat_map (λ q. q) ps) h

    both : {a b c d : List ℕ} → a ≡ b → c ≡ d → a ++ c ≡ b ++ d
    both e f = rw (e, f) refl

pub printed : LinesArePrinted
printed pieces lines cut = record {
  bytes = pieces_text pieces ∙ ap output_lines cut.whole;
  texts = λ h. pieces_utf8 pieces (subst (AllByRecursion IsUtf8) (sym cut.whole) h) ∙ pieces_text pieces ∙ ap output_lines cut.whole;
}
