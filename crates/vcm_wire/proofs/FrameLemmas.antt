-- Frames are read as they were written, and in one way.
use Rattle.std.proofs.Common.{◌≡◌, inl, inr, ℕ, ◌<◌, ◌≤◌, List, [], ◌∷◌, ◌++◌, length, Option, Some, None, refl, sym, ap, ◌∙◌, subst, append_assoc, append-nil, codes, decimal, arith}
use Rattle.std.specs.Io.KnownBytes.{Consumes, Keeps}
use Rattle.std.proofs.lemmas.Fmt.{digits_decimal, digits_value-decimal, decimal_nonempty, length-decimal-le}
use Rattle.vcm_num.specs.Literals.{digits_value}
use Rattle.vcm_num.proofs.Reading.{cut_once, number_after-zero}
use Rattle.vcm_wire.specs.declared.frames.FrameFault.{FrameFault}
use Rattle.vcm_wire.specs.declared.frames.FrameFault.TheVariants.{Read, NoHead, TooLong, NoMemory}
use Rattle.vcm_wire.specs.Frames.{IsLength, head, frame, HasHead, IsFramed, HasNoHead, IsUnframed}
use Rattle.vcm_wire.specs.Laws.{FramesAreRead, FramesAreOne, RefusedAreNone}
use Rattle.vcm_wire.specs.inner.Heads.{HasDigits, IsMissing}
use Rattle.vcm_wire.proofs.Taking.{takes_more, after_front, cut_at}
use Rattle.vcm_wire.proofs.Digits.{own}

-- a head, behind its front
pub headed : (a b c d : Option (List ℕ)) (n : ℕ) → Consumes a b (67 ∷ []) → Consumes b c (codes "ontent-Length: ") → HasDigits (codes "\r\n\r\n") c d n → HasHead a d n
headed a b c d n h j k = record {
  digits = k.digits;
  is_length = k.is_length;
  value = k.value;
  taken = takes_more a b d (67 ∷ []) _ _ refl h (takes_more b c d (codes "ontent-Length: ") _ _ refl j k.taken);
}

-- why no message follows a head
pub missing : (a b c : Option (List ℕ)) (n : ℕ) (f : FrameFault) → HasHead a b n → n ≤ 1048576 → IsMissing b c f → IsUnframed a c f
missing a b c n Read h l m = tt
missing a b c n NoHead h l m = absurd m
missing a b c n TooLong h l m = absurd m
missing a b c n NoMemory h l m = (n, l, subst (λ r. HasHead a r n) (sym m) h)

-- a head, and so many bytes
pub framed : (a b c : Option (List ℕ)) (n : ℕ) (message : List ℕ) → HasHead a b n → n ≤ 1048576 → Consumes b c message → length message ≡ n → IsFramed a c message
framed a b c n message h l k e = record {
  digits = h.digits;
  is_length = h.is_length;
  value = h.value ∙ sym e;
  short = omega (arith, l, e);
  taken = takes_more a b c (head h.digits) message _ refl h.taken k;
}

-- an input begins with one head
head_once : (d e xs ys : List ℕ) → IsLength d → IsLength e → head d ++ xs ≡ head e ++ ys → (d ≡ e) × (xs ≡ ys)
head_once d e xs ys hd he same =
    let all : d ++ (codes "\r\n\r\n" ++ xs) ≡ e ++ (codes "\r\n\r\n" ++ ys) =
    sym (append_assoc d (codes "\r\n\r\n") xs) ∙ after_front (codes "Content-Length: ") ((d ++ codes "\r\n\r\n") ++ xs) ((e ++ codes "\r\n\r\n") ++ ys) same ∙ append_assoc e (codes "\r\n\r\n") ys in
    let once = cut_once d e _ _ hd.0 he.0 refl refl all in
    (once.0, after_front (codes "\r\n\r\n") xs ys once.1)

message_once : (d e m o xs ys : List ℕ) → IsLength d → IsLength e → digits_value d ≡ length m → digits_value e ≡ length o
    → (head d ++ m) ++ xs ≡ (head e ++ o) ++ ys → (m ≡ o) × (xs ≡ ys)
message_once d e m o xs ys hd he vd ve same =
    let once = head_once d e (m ++ xs) (o ++ ys) hd he (sym (append_assoc (head d) m xs) ∙ same ∙ append_assoc (head e) o ys) in
    cut_at m o xs ys (sym vd ∙ ap digits_value once.0 ∙ ve) once.1

one_frame : (input : List ℕ) (new behind : Option (List ℕ)) (message other : List ℕ) → IsFramed (Some input) new message → IsFramed (Some input) behind other → (message ≡ other) × (new ≡ behind)
one_frame input None behind message other h k = absurd h.taken
one_frame input (Some xs) None message other h k = absurd k.taken
one_frame input (Some xs) (Some ys) message other h k =
    let once = message_once h.digits k.digits message other xs ys h.is_length k.is_length h.value k.value (sym h.taken ∙ k.taken) in
    (once.0, ap (λ l. Some l) once.1)

-- an input that has ended has no head
no_frame_at_end : (new : Option (List ℕ)) (message : List ℕ) → IsFramed (Some []) new message → ⊥
no_frame_at_end None message h = h.taken
no_frame_at_end (Some xs) message h = let empty = h.taken in cc

no_head_at_end : (new : Option (List ℕ)) (n : ℕ) → HasHead (Some []) new n → ⊥
no_head_at_end None n h = h.taken
no_head_at_end (Some xs) n h = let empty = h.taken in cc

end_kept : (input : List ℕ) (new : Option (List ℕ)) → Keeps (Some input) new → new ≡ Some input
end_kept input None h = absurd h
end_kept input (Some xs) h = ap (λ l. Some l) h

pub one_answer : FramesAreOne
one_answer input new behind None None h k = (refl, end_kept input new h.1 ∙ sym (end_kept input behind k.1))
one_answer input new behind None (Some other) h k = absurd (no_frame_at_end behind other (subst (λ l. IsFramed (Some l) behind other) h.0 k))
one_answer input new behind (Some message) None h k = absurd (no_frame_at_end new message (subst (λ l. IsFramed (Some l) new message) k.0 h))
one_answer input new behind (Some message) (Some other) h k = let once = one_frame input new behind message other h k in (ap (λ m. Some m) once.0, once.1)

-- what begins with a frame begins with a head, and with no head of another length
begins : (input : List ℕ) (new : Option (List ℕ)) (message : List ℕ) → IsFramed (Some input) new message → HasNoHead (Some input) → ⊥
begins input None message h none = h.taken
begins input (Some xs) message h none =
    none h.digits (message ++ xs) [] h.is_length (sym (append_assoc (head h.digits) message xs) ∙ sym h.taken ∙ sym (append-nil input))

not_long : (input : List ℕ) (new behind : Option (List ℕ)) (message : List ℕ) (n : ℕ) → IsFramed (Some input) new message → 1048576 < n → HasHead (Some input) behind n → ⊥
not_long input None behind message n h l k = h.taken
not_long input (Some xs) None message n h l k = k.taken
not_long input (Some xs) (Some ys) message n h l k =
    let once = head_once h.digits k.digits (message ++ xs) ys h.is_length k.is_length (sym (append_assoc (head h.digits) message xs) ∙ sym h.taken ∙ k.taken) in
    let same : length message ≡ n = sym h.value ∙ ap digits_value once.0 ∙ k.value in
    omega (arith, h.short, l, same)

decimal_length : (n : ℕ) → n ≤ 1048576 → IsLength (decimal n)
decimal_length n l = (digits_decimal own n (omega (arith, l)), decimal_nonempty n (omega (arith, l)), length-decimal-le 7 n (omega arith) (omega (arith, l)) (omega (arith, l)))

pub refused : RefusedAreNone
refused input new behind told Read h k = inl refl
refused input new behind told NoMemory h k = inr refl
refused input new behind None NoHead h k = absurd (k (decimal 0) [] (head (decimal 0)) (decimal_length 0 (omega arith)) (append-nil (head (decimal 0)) ∙ ap (λ l. l ++ head (decimal 0)) (sym h.0)))
refused input new behind None TooLong h k = absurd (no_head_at_end behind k.0 (subst (λ l. HasHead (Some l) behind k.0) h.0 k.2))
refused input new behind (Some message) NoHead h k = absurd (begins input new message h k)
refused input new behind (Some message) TooLong h k = absurd (not_long input new behind message k.0 h k.1 k.2)

decimal_value : (n : ℕ) → n ≤ 1048576 → digits_value (decimal n) ≡ n
decimal_value n l = sym (number_after-zero (decimal n)) ∙ digits_value-decimal own n (omega (arith, l))

written : (message rest : List ℕ) → length message ≤ 1048576 → IsFramed (Some (frame message ++ rest)) (Some rest) message
written message rest l = record {
  digits = decimal (length message);
  is_length = decimal_length (length message) l;
  value = decimal_value (length message) l;
  short = l;
  taken = refl;
}

pub frames_read : FramesAreRead
frames_read message rest l = record {
  framed = written message rest l;
  alone = λ new told h. one_answer (frame message ++ rest) new (Some rest) told (Some message) h (written message rest l);
  no_fault = λ new fault h. refused (frame message ++ rest) (Some rest) new (Some message) fault (written message rest l) h;
}
