-- An input is read in one way.
use Rattle.std.proofs.Common.{◌≡◌, ◌≢◌, ℕ, ◌+◌, ◌<◌, Bool, true, false, List, [], ◌∷◌, ◌++◌, length, Option, Some, None, Result, Ok, Err, refl, sym, ap, ◌∙◌, arith, length-append}
use Rattle.vcm_console.specs.declared.line.RawLine.{RawLine}
use Rattle.vcm_console.specs.declared.reply.ServeFault.TheVariants.{Read, Write, TooMuch}
use Rattle.vcm_console.specs.Reading.{AllPlain, size, IsLong, kept_of, HasLine}
use Rattle.vcm_console.specs.Laws.{BytesAreOne, LinesAreOne}

-- ---- bytes

pub one_byte : BytesAreOne
one_byte input a b (Ok None) (Ok None) h k p q = (refl, h.1 ∙ sym k.1)
one_byte input a b (Ok None) (Ok (Some y)) h k p q = let none = h.0 in let some = k.1 in absurd cc
one_byte input a b (Ok (Some x)) (Ok None) h k p q = let some = h.1 in let none = k.0 in absurd cc
one_byte input a b (Ok (Some x)) (Ok (Some y)) h k p q =
    let same : x ∷ h.0 ≡ y ∷ k.0 = sym h.1 ∙ k.1 in
    let byte : x ≡ y = cc in
    let rest : h.0 ≡ k.0 = cc in
    (ap (λ (n : ℕ). Ok (Some n)) byte, h.2 ∙ ap Some rest ∙ sym k.2)
one_byte input a b (Ok x) (Err e) h k p q = absurd (q (ap Err k.0))
one_byte input a b (Err e) s h k p q = absurd (p (ap Err h.0))

-- ---- lines

-- what stands before the first line feed, and behind it
ended_once : (xs ys rest behind : List ℕ) → AllPlain xs → AllPlain ys → xs ++ 10 ∷ rest ≡ ys ++ 10 ∷ behind → (xs ≡ ys) × (rest ≡ behind)
ended_once [] [] rest behind p q e = let same : rest ≡ behind = cc in (refl, same)
ended_once [] (y ∷ ys) rest behind p q e = let feed : y ≡ 10 = cc in absurd (q.0 feed)
ended_once (x ∷ xs) [] rest behind p q e = let feed : x ≡ 10 = cc in absurd (p.0 feed)
ended_once (x ∷ xs) (y ∷ ys) rest behind p q e =
    let first : x ≡ y = cc in
    let others : xs ++ 10 ∷ rest ≡ ys ++ 10 ∷ behind = cc in
    let same = ended_once xs ys rest behind p.1 q.1 others in
    (ap (λ (n : ℕ). n ∷ xs) first ∙ ap (λ (l : List ℕ). y ∷ l) same.0, same.1)

-- bytes without a line feed have none in front of others
never_ended : (xs seen rest behind : List ℕ) → AllPlain seen → seen ++ behind ≡ xs ++ 10 ∷ rest → length xs < length seen → ⊥
never_ended xs [] rest behind p e l = omega arith
never_ended [] (y ∷ ys) rest behind p e l = let feed : y ≡ 10 = cc in p.0 feed
never_ended (x ∷ xs) (y ∷ ys) rest behind p e l =
    let others : ys ++ behind ≡ xs ++ 10 ∷ rest = cc in
    let fewer : length xs < length ys = omega arith in
    never_ended xs ys rest behind p.1 others fewer

never_in : (xs seen rest : List ℕ) → AllPlain seen → seen ≡ xs ++ 10 ∷ rest → ⊥
never_in [] [] rest p e = cc
never_in (x ∷ xs) [] rest p e = cc
never_in [] (y ∷ ys) rest p e = let feed : y ≡ 10 = cc in p.0 feed
never_in (x ∷ xs) (y ∷ ys) rest p e = let others : ys ≡ xs ++ 10 ∷ rest = cc in never_in xs ys rest p.1 others

abbrev line : List ℕ → Bool → ℕ → RawLine
line kept ended used = record { kept = kept; ended = ended; used = used }

-- of the same bytes the same is kept
same_line : (left : ℕ) (input : List ℕ) (a b : Option (List ℕ)) (k l : List ℕ) (ended : Bool) (u v : ℕ) (h : HasLine left input a k ended u) (g : HasLine left input b l ended v)
    → h.raw ≡ g.raw → h.rest ≡ g.rest → (line k ended u ≡ line l ended v) × (a ≡ b)
same_line left input a b k l ended u v h g raw rest =
    let kept : k ≡ l = h.kept_is ∙ ap kept_of raw ∙ sym g.kept_is in
    let used : u ≡ v = h.used_is ∙ ap (λ x. size x ended) raw ∙ sym g.used_is in
    (ap (λ x. line x ended u) kept ∙ ap (line l ended) used, h.after_is ∙ ap Some rest ∙ sym g.after_is)

one_line_of : (left : ℕ) (input : List ℕ) (a b : Option (List ℕ)) (k l : List ℕ) (d e : Bool) (u v : ℕ) → HasLine left input a k d u → HasLine left input b l e v
    → (line k d u ≡ line l e v) × (a ≡ b)
one_line_of left input a b k l true true u v h g =
    let same = ended_once h.raw g.raw h.rest g.rest h.begins.1 g.begins.1 (sym h.begins.0 ∙ g.begins.0) in
    same_line left input a b k l true u v h g same.0 same.1
one_line_of left input a b k l true false u v h g = absurd (never_in h.raw g.raw h.rest g.begins.2 (sym g.begins.0 ∙ h.begins.0))
one_line_of left input a b k l false true u v h g = absurd (never_in g.raw h.raw g.rest h.begins.2 (sym h.begins.0 ∙ g.begins.0))
one_line_of left input a b k l false false u v h g = same_line left input a b k l false u v h g (sym h.begins.0 ∙ g.begins.0) (h.begins.1 ∙ sym g.begins.1)

-- an empty input has no line
no_line : (left : ℕ) (input : List ℕ) (a : Option (List ℕ)) (k : List ℕ) (ended : Bool) (u : ℕ) → HasLine left input a k ended u → input ≡ [] → ⊥
no_line left input a k true u h e = never_in h.raw [] h.rest tt (sym e ∙ h.begins.0)
no_line left input a k false u h e = let none = ap length (sym e ∙ h.begins.0) in let some = h.begins.3 in omega arith

-- nor too much
not_empty : (left : ℕ) (input : List ℕ) → IsLong left input → input ≡ [] → ⊥
not_empty left input h e = let none = ap length (sym e ∙ h.cut) in let some = h.more in omega (arith, length-append h.seen h.rest)

-- a line that is read whole doesn't go on behind the limit
not_both : (left : ℕ) (input : List ℕ) (a : Option (List ℕ)) (k : List ℕ) (ended : Bool) (u : ℕ) → HasLine left input a k ended u → IsLong left input → ⊥
not_both left input a k true u h g =
    let used = h.used_is in
    let fits = h.fits in
    let long = g.long in
    let before : length h.raw < length g.seen = omega arith in
    never_ended h.raw g.seen h.rest g.rest g.plain (sym g.cut ∙ h.begins.0) before
not_both left input a k false u h g =
    let used = h.used_is in
    let fits = h.fits in
    let long = g.long in
    let more = g.more in
    let whole = ap length (sym h.begins.0 ∙ g.cut) in
    omega (arith, length-append g.seen g.rest)

pub one_line : LinesAreOne
one_line left input a b (Ok None) (Ok None) h k p q = (refl, h.1 ∙ sym k.1)
one_line left input a b (Ok None) (Ok (Some m)) h k p q = absurd (no_line left input b m.kept m.ended m.used k h.0)
one_line left input a b (Ok None) (Err TooMuch) h k p q = absurd (not_empty left input k.0 h.0)
one_line left input a b (Ok (Some l)) (Ok None) h k p q = absurd (no_line left input a l.kept l.ended l.used h k.0)
one_line left input a b (Ok (Some l)) (Ok (Some m)) h k p q =
    let same = one_line_of left input a b l.kept m.kept l.ended m.ended l.used m.used h k in
    (ap (λ (x : RawLine). Ok (Some x)) same.0, same.1)
one_line left input a b (Ok (Some l)) (Err TooMuch) h k p q = absurd (not_both left input a l.kept l.ended l.used h k.0)
one_line left input a b (Err TooMuch) (Ok None) h k p q = absurd (not_empty left input h.0 k.0)
one_line left input a b (Err TooMuch) (Ok (Some m)) h k p q = absurd (not_both left input b m.kept m.ended m.used k h.0)
one_line left input a b (Err TooMuch) (Err TooMuch) h k p q = (refl, h.1 ∙ sym k.1)
one_line left input a b (Ok x) (Err Read) h k p q = absurd (q refl)
one_line left input a b (Ok x) (Err Write) h k p q = absurd k
one_line left input a b (Err TooMuch) (Err Read) h k p q = absurd (q refl)
one_line left input a b (Err TooMuch) (Err Write) h k p q = absurd k
one_line left input a b (Err Read) s h k p q = absurd (p refl)
one_line left input a b (Err Write) s h k p q = absurd h
