-- Arguments, one after another.
use Rattle.std.proofs.Common.{◌≡◌, ℕ, ◌+◌, ◌<◌, Bool, true, false, List, [], ◌∷◌, ◌++◌, length, drop, map, get_or, Some, refl, sym, ap, ◌∙◌, arith}
use Rattle.std.proofs.lemmas.Bool.{and_parts}
use Rattle.std.proofs.lemmas.List.{drop_more}
use Rattle.vcm_lines.specs.declared.fault.FaultCode.TheVariants.{BadArguments}
use Rattle.vcm_lines.specs.declared.fault.SourceFault.{SourceFault}
use Rattle.vcm_forms.specs.declared.statement.Argument.{Argument}
use Rattle.vcm_substitution.specs.Sizes.{is_small_option, are_small_arguments}
use Rattle.vcm_substitution.specs.Substitution.{Scope, put_argument}
use Rattle.vcm_macro.specs.declared.fitting.Wanted.{Wanted}
use Rattle.vcm_macro.specs.Rules.{suits, argument_codes, each_argument_codes}
use Rattle.vcm_macro.specs.Computed.{leftmost}
use Rattle.vcm_macro.specs.inner.Suiting.{all_suit}
use Rattle.vcm_macro.specs.inner.Expanding.{TellsLeftmost}
use Rattle.vcm_macro.proofs.CodesAt.{leftmost_more}

-- ---- arguments that are small as they are written

-- they are right where each suits
pub fine_all : (ws : List Wanted) (bs : List Argument) → all_suit ws bs ≡ true → are_small_arguments bs ≡ true → each_argument_codes ws bs ≡ []
fine_all [] bs s m = refl
fine_all (w ∷ ws) [] s m = refl
fine_all (w ∷ ws) (b ∷ bs) s m =
    let p = and_parts (suits w b) (all_suit ws bs) s in
    let q = and_parts (is_small_option b.value) (are_small_arguments bs) m in
    rw (p.0, q.0) (fine_all ws bs p.1 q.1)

-- and the first that doesn't is told where one doesn't
pub bad_all : (ws : List Wanted) (bs : List Argument) → length ws ≡ length bs → all_suit ws bs ≡ false → are_small_arguments bs ≡ true
    → leftmost (each_argument_codes ws bs) ≡ Some BadArguments
bad_all [] [] l s m = absurd cc
bad_all [] (b ∷ bs) l s m = absurd cc
bad_all (w ∷ ws) [] l s m = absurd cc
bad_all (w ∷ ws) (b ∷ bs) l s m =
    let q = and_parts (is_small_option b.value) (are_small_arguments bs) m in
    by (suits w b) refl q.0 (λ r. bad_all ws bs (omega (arith, l)) r q.1)
  where
    by : (t : Bool) → suits w b ≡ t → is_small_option b.value ≡ true → (all_suit ws bs ≡ false → leftmost (each_argument_codes ws bs) ≡ Some BadArguments)
        → leftmost (argument_codes w b ++ each_argument_codes ws bs) ≡ Some BadArguments
    by false e small others = rw e refl
    by true e small others = rw (e, small) (others (rw e at s))

-- ---- arguments that are put in, one more at a time

-- these are the first i, which are right: with those behind them they are all
pub record AreGiven (ws : List Wanted) (sc : Scope) (written : List Argument) (i : ℕ) (bs : List Argument) : Type 0 where
  pub size : length bs ≡ i
  pub whole : bs ++ map (put_argument sc) (drop i written) ≡ map (put_argument sc) written
  pub codes : each_argument_codes ws (map (put_argument sc) written) ≡ each_argument_codes (drop i ws) (map (put_argument sc) (drop i written))

-- what is wrong with those behind the first i
behind : (ws : List Wanted) (sc : Scope) (written : List Argument) (i : ℕ) (w : Wanted) (a : Argument) → i < length ws → i < length written → w ≡ get_or ws i w
    → a ≡ get_or written i a
    → each_argument_codes (drop i ws) (map (put_argument sc) (drop i written))
    ≡ argument_codes w (put_argument sc a) ++ each_argument_codes (drop (i + 1) ws) (map (put_argument sc) (drop (i + 1) written))
behind ws sc written i w a lw la e f =
    let d : drop i ws ≡ w ∷ drop (i + 1) ws = drop_more ws i w lw ∙ ap (λ (x : Wanted). x ∷ drop (i + 1) ws) (sym e) in
    let g : drop i written ≡ a ∷ drop (i + 1) written = drop_more written i a la ∙ ap (λ (x : Argument). x ∷ drop (i + 1) written) (sym f) in
    rw (d, g) refl

-- the next one is wrong
pub next_wrong : (ws : List Wanted) (sc : Scope) (written : List Argument) (i n line : ℕ) (bs : List Argument) (w : Wanted) (a : Argument) (f : SourceFault)
    → AreGiven ws sc written i bs → length ws ≡ length written → i < length written → n ≡ length bs → w ≡ get_or ws n w → a ≡ get_or written i a
    → TellsLeftmost line (argument_codes w (put_argument sc a)) f → TellsLeftmost line (each_argument_codes ws (map (put_argument sc) written)) f
next_wrong ws sc written i n line bs w a f g same lt count e h t =
    let k : n ≡ i = count ∙ g.size in
    let b = behind ws sc written i w a (omega (arith, lt, same)) lt (rw k at e) h in
    (rw (g.codes ∙ b) (leftmost_more _ _ f.code t.0), t.1)
