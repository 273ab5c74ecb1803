-- Signs and negations before an operand.
use Rattle.std.proofs.Common.{◌≡◌, ℕ, Bool, true, false, List, [], ◌∷◌, ◌++◌, Option, Result, Err, refl, sym, ap, ◌∙◌, inl, inr, length, ◌<◌, arith}
use Rattle.vcm_lines.specs.Fault.{NoMemoryOr}
use Rattle.vcm_lines.specs.declared.fault.FaultCode.{FaultCode}
use Rattle.vcm_lines.specs.declared.fault.FaultCode.TheVariants.{TooDeep}
use Rattle.vcm_lines.specs.declared.fault.SourceFault.{SourceFault}
use Rattle.vcm_expr.specs.declared.expression.Prefix.{Prefix}
use Rattle.vcm_expr.specs.declared.symbol.Symbol.{Symbol}
use Rattle.vcm_expr.specs.declared.expression.Size.{Size}
use Rattle.vcm_expr.specs.Source.{Source, Prefixed, is_small, IsSize}
use Rattle.vcm_expr.specs.Parser.{Taken, Parser, and_parse, phrase, made, made_if, found_if, fronted_by, with_fronts}
use Rattle.vcm_expr.specs.inner.Levels.{NextOf, NoNext}

module _ (small : Source → Bool) where
  -- one more sign before an expression
  abbrev pub put : Prefix → Source → List Symbol → Result Taken FaultCode
  put op t s = made small (Prefixed op t) s

  pub with_fronts-push : (ops : List Prefix) (op : Prefix) (o : Result Taken FaultCode) → with_fronts small (ops ++ op ∷ []) o ≡ with_fronts small ops (and_parse o (put op))
  with_fronts-push [] op o = refl
  with_fronts-push (p ∷ ops) op o = ap (λ (q : Result Taken FaultCode). and_parse q (put p)) (with_fronts-push ops op o)

  -- a fault passes
  pub with_fronts-Err : (ops : List Prefix) (c : FaultCode) → with_fronts small ops (Err c) ≡ Err c
  with_fronts-Err [] c = refl
  with_fronts-Err (p ∷ ops) c = ap (λ (q : Result Taken FaultCode). and_parse q (put p)) (with_fronts-Err ops c)

  -- a sign stands first
  pub fronted-next : (operand : Parser) (find : Symbol → Option Prefix) (ts : List Symbol) (op : Prefix) (after : List Symbol) → NextOf find ts op after
      → fronted_by small operand find ts ≡ and_parse (fronted_by small operand find after) (put op)
  fronted-next operand find [] op after h = absurd h
  fronted-next operand find (k ∷ r) op after h =
      ap (λ (o : Option Prefix). found_if o (λ op. and_parse (fronted_by small operand find r) (put op)) (operand (k ∷ r))) h.0
      ∙ ap (λ (l : List Symbol). and_parse (fronted_by small operand find l) (put op)) h.1

  -- none stands first
  pub fronted-none : (operand : Parser) (find : Symbol → Option Prefix) (ts : List Symbol) → NoNext find ts → fronted_by small operand find ts ≡ operand ts
  fronted-none operand find [] h = refl
  fronted-none operand find (k ∷ r) h = ap (λ (o : Option Prefix). found_if o (λ op. and_parse (fronted_by small operand find r) (put op)) (operand (k ∷ r))) h

  -- one more sign is taken
  pub take_step : (operand : Parser) (find : Symbol → Option Prefix) (words rest : List Symbol) (ops : List Prefix) (op : Prefix) (after : List Symbol) → NextOf find rest op after
      → fronted_by small operand find words ≡ with_fronts small ops (fronted_by small operand find rest)
      → fronted_by small operand find words ≡ with_fronts small (ops ++ op ∷ []) (fronted_by small operand find after)
  take_step operand find words rest ops op after h e =
      e ∙ ap (with_fronts small ops) (fronted-next operand find rest op after h) ∙ sym (with_fronts-push ops op (fronted_by small operand find after))

  -- the last sign is put before an expression
  pub put_step : (o : Result Taken FaultCode) (all ops : List Prefix) (op : Prefix) (t u : Source) (r : List Symbol) → all ≡ ops ++ op ∷ [] → u ≡ Prefixed op t → small (Prefixed op t) ≡ true
      → o ≡ with_fronts small all (phrase t r) → o ≡ with_fronts small ops (phrase u r)
  put_step o all ops op t u r cut is w e =
      e ∙ ap (λ (l : List Prefix). with_fronts small l (phrase t r)) cut ∙ with_fronts-push ops op (phrase t r)
      ∙ ap (λ (b : Bool). with_fronts small ops (made_if b (Prefixed op t) r)) w ∙ ap (λ (v : Source). with_fronts small ops (phrase v r)) (sym is)

  -- it makes the expression too deep
  pub put_deep : (o : Result Taken FaultCode) (all ops : List Prefix) (op : Prefix) (t : Source) (r : List Symbol) → all ≡ ops ++ op ∷ [] → small (Prefixed op t) ≡ false
      → o ≡ with_fronts small all (phrase t r) → o ≡ Err TooDeep
  put_deep o all ops op t r cut big e =
      e ∙ ap (λ (l : List Prefix). with_fronts small l (phrase t r)) cut ∙ with_fronts-push ops op (phrase t r)
      ∙ ap (λ (b : Bool). with_fronts small ops (made_if b (Prefixed op t) r)) big ∙ with_fronts-Err ops TooDeep

-- the expression before which some signs were put stands where the one stood before which all are to be put
abbrev pub SignsSoFar : List Prefix → List Prefix → Size → Size → List Source → List Source → Type 0
SignsSoFar whole left size now_size old now = (e : Source) (es : List Source) → old ≡ e ∷ es → IsSize size e
    → (t : Source) × (now ≡ t ∷ es) × IsSize now_size t × ((r : List Symbol) → with_fronts is_small whole (phrase e r) ≡ with_fronts is_small left (phrase t r))

-- the exit where a sign makes the expression too deep
pub signs_told : (line : ℕ) (whole all ops : List Prefix) (op : Prefix) (size mid : Size) (old now : List Source) (f : SourceFault) → all ≡ ops ++ op ∷ [] → SignsSoFar whole all size mid old now
    → NoMemoryOr (λ f. (f ≡ record { code = TooDeep; line = line }) × ((e : Source) → IsSize mid e → is_small (Prefixed op e) ≡ false)) f
    → NoMemoryOr (λ f. (f.line ≡ line) × ((e : Source) (es : List Source) (r : List Symbol) → old ≡ e ∷ es → IsSize size e → with_fronts is_small whole (phrase e r) ≡ Err f.code)) f
signs_told line whole all ops op size mid old now f cut so (inl m) = inl m
signs_told line whole all ops op size mid old now f cut so (inr p) =
    inr (
      ap (λ (g : SourceFault). g.line) p.0,
      λ e es r h z.
          let i = so e es h z in
          put_deep is_small _ all ops op i.0 r cut (p.1 i.0 i.2) (i.3 r) ∙ ap (λ (g : SourceFault). Err g.code) (sym p.0),
    )

-- what follows a word that is found is shorter
pub next_shorter : {X : Type 0} (find : Symbol → Option X) (ts : List Symbol) (x : X) (after : List Symbol) → NextOf find ts x after → length after < length ts
next_shorter find [] x after h = absurd h
next_shorter find (k ∷ r) x after h = let size = ap length h.1 in omega arith
