-- Statements whose checks hold.
use Rattle.std.proofs.Common.{◌≡◌, ℕ, zero, suc, ◌-◌, List, [], ◌∷◌, ◌++◌, length, Some, slice_get, refl, subst}
use Rattle.std.specs.List.{AllByRecursion}
use Rattle.std.proofs.lemmas.Option.{slice_get_within}
use Rattle.vcm_num.specs.declared.number.Kind.{Kind}
use Rattle.vcm_num.specs.declared.number.Kind.TheVariants.{Int, Real}
use Rattle.vcm_spec.specs.declared.expression.Item.{Item}
use Rattle.vcm_spec.specs.declared.expression.Item.TheVariants.{Push, Apply, Combine}
use Rattle.vcm_spec.specs.declared.simple.Simple.TheVariants.{Goto, GoHome, Assign, Feat, PtMeas, SnSet, Trans, Rotate, Recall, Obtain, Output, Text}
use Rattle.vcm_spec.specs.Simple.{Simple}
use Rattle.vcm_spec.specs.Expression.{HasKind}
use Rattle.vcm_spec.specs.Setup.{Tables}
use Rattle.vcm_spec.specs.Fitting.{kinds, Fits}
use Rattle.vcm_items.specs.Run.{ItemsFit}
use Rattle.vcm_items.proofs.Runs.{ItemsFit-typed}
use Rattle.vcm_code.specs.Code.{CodeStatement}
use Rattle.vcm_code.specs.declared.op.Op.TheVariants.{Plain, Do, Select}
use Rattle.vcm_code.specs.declared.branch.Branch.{Branch}
use Rattle.vcm_code.specs.Checks.{Check, target, targets, counts_of, ItemsBelow, AllHold, wants, three, variable, op_checks, OpFits, line_checks, HasItems}

-- ---- checks, one list after the other

pub hold_append : (cs ds : List Check) → AllHold cs → AllHold ds → AllHold (cs ++ ds)
hold_append [] ds h g = g
hold_append (c ∷ cs) ds h g = (h.0, hold_append cs ds h.1 g)

pub hold_front : (cs ds : List Check) → AllHold (cs ++ ds) → AllHold cs
hold_front [] ds h = tt
hold_front (c ∷ cs) ds h = (h.0, hold_front cs ds h.1)

pub hold_back : (cs ds : List Check) → AllHold (cs ++ ds) → AllHold ds
hold_back [] ds h = h
hold_back (c ∷ cs) ds h = hold_back cs ds h.1

-- ---- statements, one after the other

-- each of them fits
abbrev pub AllFit : Tables → ℕ → List CodeStatement → Type 0
AllFit t n ss = AllByRecursion (λ (s : CodeStatement). OpFits t n s.op) ss

pub each_fits : (t : Tables) (n : ℕ) (ss : List CodeStatement) → AllHold (line_checks (counts_of t n) ss) → AllFit t n ss
each_fits t n [] h = tt
each_fits t n (s ∷ ss) h = (
  hold_front (op_checks (counts_of t n) s.op) (line_checks (counts_of t n) ss) h,
  each_fits t n ss (hold_back (op_checks (counts_of t n) s.op) (line_checks (counts_of t n) ss) h),
)

pub all_hold : (t : Tables) (n : ℕ) (ss : List CodeStatement) → AllFit t n ss → AllHold (line_checks (counts_of t n) ss)
all_hold t n [] f = tt
all_hold t n (s ∷ ss) f = hold_append (op_checks (counts_of t n) s.op) (line_checks (counts_of t n) ss) f.0 (all_hold t n ss f.1)

-- what holds of each statement does of the one with this number
pub holds_at : (P : CodeStatement → Type 0) (ss : List CodeStatement) (n : ℕ) (s : CodeStatement) → AllByRecursion P ss → slice_get ss n ≡ Some s → P s
holds_at P [] n s h e = absurd cc
holds_at P (r ∷ ss) zero s h e = let same : r ≡ s = cc in subst P same h.0
holds_at P (r ∷ ss) (suc n) s h e = holds_at P ss n s h.1 e

-- so each statement fits
pub fits_at : (t : Tables) (count : ℕ) (ss : List CodeStatement) (n : ℕ) (s : CodeStatement) → AllHold (line_checks (counts_of t count) ss) → slice_get ss n ≡ Some s → OpFits t count s.op
fits_at t count ss n s h e = holds_at (λ (r : CodeStatement). OpFits t count r.op) ss n s (each_fits t count ss h) e

-- ---- operands that have what they want

-- items that find their variables have them below the count
fit_below : (n : ℕ) (items : List Item) (height : ℕ) → ItemsFit n items height → ItemsBelow n items
fit_below n [] height f = tt
fit_below n (Push x ∷ is) height f = (f.0.0, fit_below n is (suc height) f.1)
fit_below n (Apply op ∷ is) height f = (tt, fit_below n is height f.1)
fit_below n (Combine op ∷ is) height f = (tt, fit_below n is (height - 1) f.1)

-- the variables of an expression that has a kind are below their number
typed_below : (ks : List Kind) (items : List Item) (k : Kind) → HasKind ks items k → ItemsBelow (length ks) items
typed_below ks items k h = fit_below (length ks) items 0 (ItemsFit-typed ks items k (length ks) h refl)

-- so what an expression wants holds where it has its kind
pub wants_hold : (ks : List Kind) (items : List Item) (k : Kind) → HasKind ks items k → AllHold (wants ks items k)
wants_hold ks items k h = (typed_below ks items k h, (h, tt))

three_hold : (ks : List Kind) (x y z : List Item) (k : Kind) → HasKind ks x k → HasKind ks y k → HasKind ks z k → AllHold (three ks x y z k)
three_hold ks x y z k f g h = hold_append (wants ks x k) (wants ks y k ++ wants ks z k) (wants_hold ks x k f) (hold_append (wants ks y k) (wants ks z k) (wants_hold ks y k g) (wants_hold ks z k h))

variable_holds : (ks : List Kind) (v : ℕ) (k : Kind) → slice_get ks v ≡ Some k → AllHold (variable ks v k)
variable_holds ks v k e = (slice_get_within ks v k e, (e, tt))

module _ (t : Tables) (n : ℕ) where
  -- a simple statement, which is judged by the names of a program too
  pub simple_holds : (what : Simple (List Item)) → Fits (HasItems t) t what → OpFits t n (Plain what)
  simple_holds (Goto x y z) f = three_hold (kinds t) x y z Real f.0 f.1 f.2
  simple_holds GoHome f = tt
  simple_holds (Assign v e) f = (slice_get_within (kinds t) v f.0 f.1, (typed_below (kinds t) e f.0 f.2, (f, tt)))
  simple_holds (Feat i x y z d) f = (f.0, three_hold (kinds t) x y z Real f.1.0 f.1.1 f.1.2)
  simple_holds (PtMeas i x y z d) f = (f.0, three_hold (kinds t) x y z Real f.1.0 f.1.1 f.1.2)
  simple_holds (SnSet which e) f = wants_hold (kinds t) e Real f
  simple_holds (Trans i x y z) f = (f.0, three_hold (kinds t) x y z Real f.1.0 f.1.1 f.1.2)
  simple_holds (Rotate i axis quarters) f = (f, tt)
  simple_holds (Recall i) f = (f, tt)
  simple_holds (Obtain v source i word) f = (slice_get_within (kinds t) v Real f.0, (f.0, (f.1, tt)))
  simple_holds (Output source i) f = (f, tt)
  simple_holds (Text bytes) f = tt

  -- a DO, whose values are INT
  pub do_holds : (v p : ℕ) (a b c : List Item) (exit : ℕ) → slice_get (kinds t) v ≡ Some Int → HasItems t a Int → HasItems t b Int → HasItems t c Int
      → AllHold (target exit n ∷ []) → OpFits t n (Do v p a b c exit)
  do_holds v p a b c exit e f g h last =
      let values = hold_append (three (kinds t) a b c Int) (target exit n ∷ []) (three_hold (kinds t) a b c Int f g h) last in
      hold_append (variable (kinds t) v Int) (three (kinds t) a b c Int ++ (target exit n ∷ [])) (variable_holds (kinds t) v Int e) values

  -- a SELECT, whose value is INT
  pub select_holds : (e : List Item) (bs : List Branch) (to : ℕ) → HasItems t e Int → AllHold (targets bs n) → AllHold (target to n ∷ []) → OpFits t n (Select e bs to)
  select_holds e bs to f g last = (typed_below (kinds t) e Int f, (f, hold_append (targets bs n) (target to n ∷ []) g last))
