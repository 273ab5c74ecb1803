-- What a reader took, taken apart: where it gave a value, each of its parts did.
use Rattle.std.proofs.Common.{◌≡◌, ◌<◌, ◌≤◌, ℕ, Bool, true, ltb, List, [], ◌∷◌, length, take, drop, arith, Result, Ok, Err, IfErr, if◌then◌else◌, nat_le, refl, sym, ap, ◌∙◌}
use Rattle.std.proofs.lemmas.Bool.{ltb-false}
use Rattle.std.specs.Int.{Width, w16, w32, byte_len, from_le_bytes}
use Rattle.vcm_spec.specs.declared.expression.Item.{Item}
use Rattle.vcm_spec.specs.TextBytes.{is_text}
use Rattle.vcm_code.specs.declared.version.Version.{Version}
use Rattle.vcm_code.specs.declared.word.Word.{Word}
use Rattle.vcm_code.specs.Code.{CodeStatement}
use Rattle.vcm_fields.specs.declared.fault.ImageFault.{ImageFault}
use Rattle.vcm_fields.specs.declared.fault.ImageFault.TheVariants.{Short, BadField}
use Rattle.vcm_fields.specs.declared.items.Tag.{Tag}
use Rattle.vcm_fields.specs.Spelling.{tag_byte}
use Rattle.vcm_fields.specs.Readers.{within}
use Rattle.vcm_spec.specs.Results.{◌>>=◌}
use Rattle.vcm_fields.specs.Readers.{Reader, Gives, both, via, after, among, one_of, tested, times, byte_at, number_at, all_tags, behind_tag, bytes_at, item_at}
use Rattle.vcm_fields.specs.Readers.{expression_at, three_at, text_at, word_at, operands_at, line_at}
use Rattle.vcm_fields.proofs.Inverse.{bind_ok, guard_short, guard_met, ok_is}

-- a call that reads what is there doesn't fail
pub never_fails : {X A : Type 0} (view : X → A) (r : Result X ImageFault) (q : Result A ImageFault) (y : A) → Gives view r q → q ≡ Ok y → IfErr r (λ e. ⊥)
never_fails view (Ok x) q y g e = tt
never_fails view (Err f) q y g e = let both_are = sym g ∙ e in absurd cc

-- and what it gives is what is there
pub gives_it : {X A : Type 0} (view : X → A) (r : Result X ImageFault) (q : Result A ImageFault) (y : A) (x : X) → Gives view r q → q ≡ Ok y → r ≡ Ok x → view x ≡ y
gives_it view (Ok z) q y x g e k =
    let same : z ≡ x = ok_is z x k in
    ap view (sym same) ∙ ok_is (view z) y (sym g ∙ e)
gives_it view (Err f) q y x g e k = absurd cc

-- two values, one after the other
pub both_are : {A B : Type 0} (a : Reader A) (b : Reader B) (bytes : List ℕ) (x : A × B) (rest : List ℕ) → both a b bytes ≡ Ok (x, rest) → (middle : List ℕ)
    × (a bytes ≡ Ok (x.0, middle)) × (b middle ≡ Ok (x.1, rest))
both_are {A} {B} a b bytes x rest e =
    let p = bind_ok (a bytes) (λ u. b u.1 >>= λ v. Ok ((u.0, v.0), v.1)) (x, rest) e in
    let q = bind_ok (b p.0.1) (λ v. Ok ((p.0.0, v.0), v.1)) (x, rest) p.2 in
    let same : ((p.0.0, q.0.0), q.0.1) ≡ (x, rest) = ok_is _ _ q.2 in
    let first : p.0.0 ≡ x.0 = ap (λ (t : (A × B) × List ℕ). t.0.0) same in
    let second : q.0.0 ≡ x.1 = ap (λ (t : (A × B) × List ℕ). t.0.1) same in
    let end : q.0.1 ≡ rest = ap (λ (t : (A × B) × List ℕ). t.1) same in
    (p.0.1, p.1 ∙ ap (λ (t : A). Ok (t, p.0.1)) first, q.1 ∙ ap Ok (rw (second, end) refl))

-- a function of what is read
pub via_is : {A B : Type 0} (f : A → B) (a : Reader A) (bytes : List ℕ) (y : B) (rest : List ℕ) → via f a bytes ≡ Ok (y, rest) → (x : A) × (a bytes ≡ Ok (x, rest)) × (f x ≡ y)
via_is {A} {B} f a bytes y rest e =
    let p = bind_ok (a bytes) (λ u. Ok (f u.0, u.1)) (y, rest) e in
    let same : (f p.0.0, p.0.1) ≡ (y, rest) = ok_is _ _ p.2 in
    let end : p.0.1 ≡ rest = ap (λ (t : B × List ℕ). t.1) same in
    (p.0.0, p.1 ∙ ap (λ (t : List ℕ). Ok (p.0.0, t)) end, ap (λ (t : B × List ℕ). t.0) same)

-- what depends on the first value
pub after_is : {A B : Type 0} (a : Reader A) (f : A → Reader B) (bytes : List ℕ) (y : B) (rest : List ℕ) → after a f bytes ≡ Ok (y, rest) → (x : A)
    × (middle : List ℕ) × (a bytes ≡ Ok (x, middle)) × (f x middle ≡ Ok (y, rest))
after_is a f bytes y rest e =
    let p = bind_ok (a bytes) (λ u. f u.0 u.1) (y, rest) e in
    (p.0.0, p.0.1, p.1, p.2)

-- a value that met a test
pub tested_is : {A : Type 0} (fault : ImageFault) (test : A → Bool) (a : Reader A) (bytes : List ℕ) (x : A) (rest : List ℕ)
    → tested fault test a bytes ≡ Ok (x, rest) → (a bytes ≡ Ok (x, rest)) × (test x ≡ true)
tested_is {A} fault test a bytes x rest e =
    let p = bind_ok (a bytes) (λ u. if test u.0 then Ok u else Err fault) (x, rest) e in
    let g = guard_met (test p.0.0) fault p.0 (x, rest) p.2 in
    (p.1 ∙ ap Ok g.1, ap (λ (t : A × List ℕ). test t.0) (sym g.1) ∙ g.0)

-- a byte stands there
pub byte_there : (bytes : List ℕ) (x : ℕ × List ℕ) → byte_at bytes ≡ Ok x → 0 < length bytes
byte_there [] x e = absurd cc
byte_there (b ∷ bytes) x e = omega arith

-- so many bytes do
pub number_there : (w : Width) (bytes : List ℕ) (x : ℕ × List ℕ) → number_at w bytes ≡ Ok x → byte_len w ≤ length bytes
number_there w bytes x e =
    ltb-false _ _ (guard_short (ltb (length bytes) (byte_len w)) Short (from_le_bytes w (take (byte_len w) bytes), drop (byte_len w) bytes) x e).0

pub bytes_there : (n : ℕ) (bytes : List ℕ) (x : List ℕ × List ℕ) → bytes_at n bytes ≡ Ok x → (n ≤ length bytes) × (take n bytes ≡ x.0)
bytes_there n bytes x e =
    let g = guard_short (ltb (length bytes) n) Short (take n bytes, drop n bytes) x e in
    (ltb-false _ _ g.0, ap (λ (y : List ℕ × List ℕ). y.0) g.1)

-- a value behind its byte
pub one_is : {A : Type 0} (byte_of : A → ℕ) (xs : List A) (bytes : List ℕ) (x : A) (rest : List ℕ) → one_of byte_of xs bytes ≡ Ok (x, rest)
    → (k : ℕ) × (middle : List ℕ) × (byte_at bytes ≡ Ok (k, middle)) × (among byte_of xs k middle ≡ Ok (x, rest))
one_is byte_of xs bytes x rest e = after_is byte_at (among byte_of xs) bytes x rest e

-- so the byte that was read stands for one
pub one_there : {A : Type 0} (byte_of : A → ℕ) (xs : List A) (bytes : List ℕ) (x : A) (rest : List ℕ) (k : ℕ) (middle : List ℕ) → one_of byte_of xs bytes ≡ Ok (x, rest)
    → byte_at bytes ≡ Ok (k, middle) → among byte_of xs k middle ≡ Ok (x, rest)
one_there byte_of xs bytes x rest k middle e h =
    let p = one_is byte_of xs bytes x rest e in
    ap (λ (t : ℕ × List ℕ). among byte_of xs t.0 t.1) (ok_is _ _ (sym h ∙ p.2)) ∙ p.3

-- an item: its tag, and what stands behind it
pub item_is : (bytes : List ℕ) (i : Item) (rest : List ℕ) → item_at bytes ≡ Ok (i, rest)
    → (t : Tag) × (middle : List ℕ) × (one_of tag_byte all_tags bytes ≡ Ok (t, middle)) × (behind_tag t middle ≡ Ok (i, rest))
unfolding item_at
item_is bytes i rest e = after_is (one_of tag_byte all_tags) behind_tag bytes i rest e

pub item_of : (bytes : List ℕ) (t : Tag) (middle : List ℕ) → one_of tag_byte all_tags bytes ≡ Ok (t, middle) → item_at bytes ≡ behind_tag t middle
unfolding item_at
item_of bytes t middle e = ap (λ r. r >>= λ x. behind_tag x.0 x.1) e

-- an expression: the number of its items, and they
pub expression_is : (bytes : List ℕ) (e : List Item) (rest : List ℕ) → expression_at bytes ≡ Ok (e, rest) → (n : ℕ) × (middle : List ℕ)
    × (number_at w16 bytes ≡ Ok (n, middle)) × (times item_at n middle ≡ Ok (e, rest))
unfolding expression_at
expression_is bytes e rest h =
    let p = after_is (tested BadField (within 1 1024) (number_at w16)) (times item_at) bytes e rest h in
    (p.0, p.1, (tested_is BadField (within 1 1024) (number_at w16) bytes p.0 p.1 p.2).0, p.3)

-- a text: its length, and so many bytes
pub text_is : (bytes : List ℕ) (t : List ℕ) (rest : List ℕ) → text_at bytes ≡ Ok (t, rest) → (n : ℕ) × (middle : List ℕ) × (number_at w16 bytes ≡ Ok (n, middle)) × (bytes_at n middle ≡ Ok (t, rest))
unfolding text_at
text_is bytes t rest h =
    let p = after_is (tested BadField (λ n. nat_le n 1024) (number_at w16)) (λ n. tested BadField is_text (bytes_at n)) bytes t rest h in
    (p.0, p.1, (tested_is BadField (λ n. nat_le n 1024) (number_at w16) bytes p.0 p.1 p.2).0, (tested_is BadField is_text (bytes_at p.0) p.1 t rest p.3).0)

-- a statement: its word, its line, and its operands
pub record LineParts (v : Version) (bytes : List ℕ) (s : CodeStatement) (rest : List ℕ) : Type 0 where
  pub word : Word
  pub behind_word : List ℕ
  pub behind_line : List ℕ
  pub word_is : word_at v bytes ≡ Ok (word, behind_word)
  pub line_is : number_at w32 behind_word ≡ Ok (s.line, behind_line)
  pub operands_are : operands_at word behind_line ≡ Ok (s.op, rest)

pub line_is : (v : Version) (bytes : List ℕ) (s : CodeStatement) (rest : List ℕ) → line_at v bytes ≡ Ok (s, rest) → LineParts v bytes s rest
unfolding line_at
line_is v bytes s rest h =
    let p = after_is (word_at v) (λ k. via (λ o. record { line = o.0; op = o.1 }) (both (number_at w32) (operands_at k))) bytes s rest h in
    let q = via_is (λ o. record { line = o.0; op = o.1 }) (both (number_at w32) (operands_at p.0)) p.1 s rest p.3 in
    let r = both_are (number_at w32) (operands_at p.0) p.1 q.0 rest q.1 in
    record {
      word = p.0;
      behind_word = p.1;
      behind_line = r.0;
      word_is = p.2;
      line_is = r.1 ∙ ap (λ (t : CodeStatement). Ok (t.line, r.0)) q.2;
      operands_are = r.2 ∙ ap (λ (t : CodeStatement). Ok (t.op, rest)) q.2;
    }

-- three expressions, one after the other
pub three_are : (bytes : List ℕ) (x : List Item × (List Item × List Item)) (rest : List ℕ) → three_at bytes ≡ Ok (x, rest)
    → (second third : List ℕ) × (expression_at bytes ≡ Ok (x.0, second)) × (expression_at second ≡ Ok (x.1.0, third)) × (expression_at third ≡ Ok (x.1.1, rest))
unfolding three_at
three_are bytes x rest e =
    let p = both_are expression_at (both expression_at expression_at) bytes x rest e in
    let q = both_are expression_at expression_at p.0 x.1 rest p.2 in
    (p.0, q.0, p.1, q.1, q.2)
