-- Serving, line by line.
use Rattle.std.proofs.Common.{◌≡◌, ℕ, zero, suc, ◌+◌, ◌-◌, ◌≤◌, Bool, true, false, List, [], ◌∷◌, ◌++◌, length, drop, codes, Option, Some, None, Result, Ok}
use Rattle.std.proofs.Common.{Err, refl, sym, ap, ◌∙◌, subst, arith, append_assoc, length-append, inl, inr}
use Rattle.std.specs.Prelude.{IfSome}
use Rattle.std.specs.Io.KnownBytes.{Appends, Keeps}
use Rattle.std.proofs.lemmas.List.{drop_at, drop_all, drop-drop}
use Rattle.vcm_num.specs.declared.memory.WriteFault.{WriteFault}
use Rattle.vcm_num.proofs.KnownWrites.{appends_nothing, appends_more, front_then}
use Rattle.vcm_console.specs.declared.line.RawLine.{RawLine}
use Rattle.vcm_console.specs.declared.reply.ServeFault.{ServeFault}
use Rattle.vcm_console.specs.declared.reply.ServeFault.TheVariants.{Read, Write, TooMuch}
use Rattle.vcm_console.specs.Reading.{TakesAtMost, IsNextOf, IsNext, BeginsWithLine, size, HasLine, ReadsLine, IsReadOrMuch}
use Rattle.vcm_debug.specs.Debugging.{Debugging}
use Rattle.vcm_debug.specs.Serving.{content, IsExchange, Serves, input_ends, no_line, no_byte, no_read, last_line, one_line, WritesSome, Writes, IsBye, Served}
use Rattle.vcm_debug.specs.inner.Exchanges.{HasExchanged}
use Rattle.vcm_debug.proofs.KeptLines.{kept_exchange}

-- what was written before, and then some of a text
some_then : (a b c : Option (List ℕ)) (xs ys : List ℕ) → Appends a b xs → WritesSome b c ys → WritesSome a c (xs ++ ys)
some_then a b c xs ys h (inl w) = inl (front_then a b c xs ys _ refl h w)
some_then a b c xs ys h (inr w) = inr (appends_more a b c xs ys _ refl h w)

pub writes_then : (a b c : Option (List ℕ)) (xs ys : List ℕ) (r : Result (Unit {0}) ServeFault) → Appends a b xs → Writes r b c ys → Writes r a c (xs ++ ys)
writes_then a b c xs ys (Ok done) h w = appends_more a b c xs ys _ refl h w
writes_then a b c xs ys (Err Write) h w = some_then a b c xs ys h w
writes_then a b c xs ys (Err Read) h w = appends_more a b c xs ys _ refl h w
writes_then a b c xs ys (Err TooMuch) h w = appends_more a b c xs ys _ refl h w

-- what stands behind a line
pub behind_line : (input raw rest : List ℕ) (ended : Bool) → BeginsWithLine input raw ended rest → rest ≡ drop (size raw ended) input
behind_line input raw rest true b =
    let n : length (raw ++ 10 ∷ []) ≡ length raw + 1 = length-append raw (10 ∷ []) in
    sym (ap (drop (length raw + 1)) (b.0 ∙ sym (append_assoc raw (10 ∷ []) rest)) ∙ drop_at (raw ++ 10 ∷ []) rest (length raw + 1) n)
behind_line input raw rest false b = b.1 ∙ sym (ap (drop (length raw)) b.0 ∙ drop_all (length raw) raw (omega arith))

-- a reader that failed has taken nothing
pub kept_is : (rest : List ℕ) (later : Option (List ℕ)) → Keeps (Some rest) later → later ≡ Some rest
kept_is rest None k = absurd k
kept_is rest (Some x) k = ap Some k

module _ (n₀ left₀ : ℕ) (d₀ : Debugging) (old : Option (List ℕ)) where
  -- some lines were answered: this is left of the input, and what serving the rest writes and answers, and where it ends, the whole does
  pub record Going (input : List ℕ) (n left : ℕ) (d : Debugging) (after new : Option (List ℕ)) : Type 0 where
    pub rest : List ℕ
    pub taken : ℕ
    pub text : List ℕ
    pub after_is : after ≡ Some rest
    pub rest_is : rest ≡ drop taken input
    pub few : taken + left ≤ left₀
    pub written : Appends old new text
    pub onward : (more : List ℕ) (r : Result (Unit {0}) ServeFault) (end : Debugging) → Serves n left d rest more r end → Serves n₀ left₀ d₀ input (text ++ more) r end

  -- the end, after all of a text was written, or a front of it
  ends_all : (input : List ℕ) (n left : ℕ) (d end : Debugging) (after later new now : Option (List ℕ)) (more : List ℕ) (r : Result (Unit {0}) ServeFault) → (g : Going input n left d after new)
      → Serves n left d g.rest more r end → Writes r new now more → TakesAtMost (left + 1) g.rest later → Served n₀ left₀ d₀ input later old now r end
  ends_all input n left d end after later new now more r g s w t =
      let f = g.few in
      let m = t.1 in
      record {
        text = g.text ++ more;
        serves = g.onward more r end s;
        writes = writes_then old new now g.text more r g.written w;
        little = (g.taken + t.0, omega (arith, f, m), t.2 ∙ ap Some (ap (drop t.0) g.rest_is ∙ drop-drop t.0 g.taken input));
      }

  -- a line, and the others
  pub exchanged : (input : List ℕ) (n left : ℕ) (d new_d : Debugging) (after later new now : Option (List ℕ)) (l : RawLine) → Going input (suc n) left d after new
      → IfSome after (λ i. ReadsLine left i later (Ok (Some l))) → HasExchanged d (content l.kept l.ended) new_d new now (Ok false) → Going input n (left - l.used) new_d later now
  exchanged input n left d new_d after later new now l g reads t =
      let h = subst (λ a. IfSome a (λ i. ReadsLine left i later (Ok (Some l)))) g.after_is reads in
      let exchange = kept_exchange d new_d h.raw t.0 l.ended false (subst (λ k. IsExchange d (content k l.ended) new_d t.0 false) h.kept_is t.1) in
      let f = g.few in
      let u = h.fits in
      record {
        rest = h.rest;
        taken = g.taken + l.used;
        text = g.text ++ t.0;
        after_is = h.after_is;
        rest_is = behind_line g.rest h.raw h.rest l.ended h.begins ∙ ap (λ k. drop k g.rest) (sym h.used_is) ∙ ap (drop l.used) g.rest_is ∙ drop-drop l.used g.taken input;
        few = omega (arith, f, u);
        written = appends_more old new now g.text t.0 _ refl g.written t.2;
        onward = λ more r end s.
            subst (λ x. Serves n₀ left₀ d₀ input x r end) (sym (append_assoc g.text t.0 more))
            (g.onward (t.0 ++ more) r end
            (one_line new_d h.raw h.rest t.0 more l.ended h.begins (subst (λ u. u ≤ left) h.used_is h.fits) exchange (subst (λ u. Serves n (left - u) new_d h.rest more r end) h.used_is s)));
      }

  -- a line was taken
  line_taken : (input : List ℕ) (n left : ℕ) (d : Debugging) (after later new : Option (List ℕ)) (l : RawLine) → (g : Going input n left d after new)
      → HasLine left g.rest later l.kept l.ended l.used → TakesAtMost (left + 1) g.rest later
  line_taken input n left d after later new l g h =
      let u = h.fits in
      (l.used, omega (arith, u), h.after_is ∙ ap Some (behind_line g.rest h.raw h.rest l.ended h.begins ∙ ap (λ k. drop k g.rest) (sym h.used_is)))

  -- no line is left of the input
  pub none_left : (input : List ℕ) (n left : ℕ) (d : Debugging) (after later new now : Option (List ℕ)) (r : Result (Unit {0}) ServeFault) → Going input n left d after new
      → IfSome after (λ i. (i ≡ []) × (later ≡ Some [])) → IsBye r new now → Served n₀ left₀ d₀ input later old now r d
  none_left input n left d after later new now r g e b =
      let z = subst (λ a. IfSome a (λ i. (i ≡ []) × (later ≡ Some []))) g.after_is e in
      ends_all input n left d d after later new now (codes "bye\n") r g (subst (λ x. Serves n left d x (codes "bye\n") r d) (sym z.0) (input_ends b.0)) b.1
      (0, omega arith, z.1 ∙ ap Some (sym z.0))

  -- no byte is left behind the last line
  pub none_behind : (input : List ℕ) (left : ℕ) (d : Debugging) (after later new now : Option (List ℕ)) (r : Result (Unit {0}) ServeFault) → Going input zero left d after new
      → IfSome after (λ i. IsNextOf i later None) → IsBye r new now → Served n₀ left₀ d₀ input later old now r d
  none_behind input left d after later new now r g e b = none_left input zero left d after later new now r g (ended after later e) b
    where
      ended : (after later : Option (List ℕ)) → IfSome after (λ i. IsNextOf i later None) → IfSome after (λ i. (i ≡ []) × (later ≡ Some []))
      ended None later e = tt
      ended (Some i) later e = (e.0, e.1 ∙ ap Some e.0)

  -- the last line, or one whose text could not be written
  pub last_exchanged : (input : List ℕ) (n left : ℕ) (d new_d : Debugging) (after later new now : Option (List ℕ)) (l : RawLine) → Going input (suc n) left d after new
      → IfSome after (λ i. ReadsLine left i later (Ok (Some l))) → HasExchanged d (content l.kept l.ended) new_d new now (Ok true) → Served n₀ left₀ d₀ input later old now (Ok tt) new_d
  last_exchanged input n left d new_d after later new now l g reads t =
      let h = subst (λ a. IfSome a (λ i. ReadsLine left i later (Ok (Some l)))) g.after_is reads in
      let exchange = kept_exchange d new_d h.raw t.0 l.ended true (subst (λ k. IsExchange d (content k l.ended) new_d t.0 true) h.kept_is t.1) in
      ends_all input (suc n) left d new_d after later new now t.0 (Ok tt) g
      (last_line new_d h.raw h.rest l.ended true h.begins (subst (λ u. u ≤ left) h.used_is h.fits) exchange refl) t.2 (line_taken input (suc n) left d after later new l g h)

  pub fault_exchanged : (input : List ℕ) (n left : ℕ) (d new_d : Debugging) (after later new now : Option (List ℕ)) (l : RawLine) (e : WriteFault) → Going input (suc n) left d after new
      → IfSome after (λ i. ReadsLine left i later (Ok (Some l))) → HasExchanged d (content l.kept l.ended) new_d new now (Err e) → Served n₀ left₀ d₀ input later old now (Err Write) new_d
  fault_exchanged input n left d new_d after later new now l e g reads t =
      let h = subst (λ a. IfSome a (λ i. ReadsLine left i later (Ok (Some l)))) g.after_is reads in
      let exchange = kept_exchange d new_d h.raw t.0 l.ended t.1 (subst (λ k. IsExchange d (content k l.ended) new_d t.0 t.1) h.kept_is t.2) in
      ends_all input (suc n) left d new_d after later new now t.0 (Err Write) g
      (last_line new_d h.raw h.rest l.ended t.1 h.begins (subst (λ u. u ≤ left) h.used_is h.fits) exchange tt) t.3 (line_taken input (suc n) left d after later new l g h)

  -- the reader failed, or a line is too long
  pub fault_read : (input : List ℕ) (n left : ℕ) (d : Debugging) (after later new : Option (List ℕ)) (f : ServeFault) → Going input (suc n) left d after new
      → IfSome after (λ i. ReadsLine left i later (Err f)) → IsReadOrMuch f → Served n₀ left₀ d₀ input later old new (Err f) d
  fault_read input n left d after later new Read g reads k =
      let h = subst (λ a. IfSome a (λ i. ReadsLine left i later (Err Read))) g.after_is reads in
      let m = h.1 in
      ends_all input (suc n) left d d after later new new [] (Err Read) g no_read (appends_nothing new) (h.0, omega (arith, m), h.2)
  fault_read input n left d after later new TooMuch g reads k =
      let h = subst (λ a. IfSome a (λ i. ReadsLine left i later (Err TooMuch))) g.after_is reads in
      ends_all input (suc n) left d d after later new new [] (Err TooMuch) g (no_byte h.0) (appends_nothing new) (left + 1, omega arith, h.1)
  fault_read input n left d after later new Write g reads k = absurd k

  -- a byte after the last line
  pub more_lines : (input : List ℕ) (left b : ℕ) (d : Debugging) (after later new : Option (List ℕ)) → Going input zero left d after new
      → IfSome after (λ i. IsNextOf i later (Some b)) → Served n₀ left₀ d₀ input later old new (Err TooMuch) d
  more_lines input left b d after later new g next =
      let h = subst (λ a. IfSome a (λ i. IsNextOf i later (Some b))) g.after_is next in
      ends_all input zero left d d after later new new [] (Err TooMuch) g (subst (λ x. Serves zero left d x [] (Err TooMuch) d) (sym h.1) no_line) (appends_nothing new)
      (1, omega arith, h.2 ∙ ap Some (sym (ap (drop 1) h.1)))

  -- the reader failed behind the last line
  pub no_next : (input : List ℕ) (left : ℕ) (d : Debugging) (after later new : Option (List ℕ)) (f : ServeFault) → Going input zero left d after new
      → IsNext after later (Err f) → Served n₀ left₀ d₀ input later old new (Err f) d
  no_next input left d after later new f g e =
      let k = kept_is g.rest later (subst (λ a. Keeps a later) g.after_is e.1) in
      subst (λ x. Served n₀ left₀ d₀ input later old new (Err x) d) (sym e.0)
      (ends_all input zero left d d after later new new [] (Err Read) g no_read (appends_nothing new) (0, omega arith, k))

sets_out : (n left : ℕ) (d : Debugging) (input : List ℕ) (old : Option (List ℕ)) → Going n left d old input n left d (Some input) old
sets_out n left d input old = record {
  rest = input;
  taken = 0;
  text = [];
  after_is = refl;
  rest_is = refl;
  few = omega arith;
  written = appends_nothing old;
  onward = λ more r end s. s;
}

-- at the start, of a reader that may tell nothing
pub all_set_out : (n left : ℕ) (d : Debugging) (known old : Option (List ℕ)) → IfSome known (λ input. Going n left d old input n left d known old)
all_set_out n left d None old = tt
all_set_out n left d (Some input) old = sets_out n left d input old

-- of a reader that may tell nothing
pub over : (known : Option (List ℕ)) (P Q : List ℕ → Type 0) → ((input : List ℕ) → P input → Q input) → IfSome known P → IfSome known Q
over None P Q f h = tt
over (Some input) P Q f h = f input h
