-- A simple statement of a whole program's code: its fields are in the ranges of an image, and it fits the tables.
use Rattle.std.proofs.Common.{◌+◌, ◌≤◌, [], ◌∷◌, ◌++◌, length, arith, length-append}
use Rattle.vcm_num.specs.declared.number.Kind.{Kind}
use Rattle.vcm_spec.specs.declared.expression.Item.TheVariants.{Apply, Combine}
use Rattle.vcm_spec.specs.Expression.{Tree, Value, One, Two, spelling}
use Rattle.vcm_spec.specs.Simple.{Simple, with_form}
use Rattle.vcm_spec.specs.declared.simple.Simple.TheVariants.{Goto, GoHome, Assign, Feat, PtMeas, SnSet, Trans, Rotate, Recall, Obtain, Output, Text}
use Rattle.vcm_spec.specs.Setup.{Tables}
use Rattle.vcm_spec.specs.Fitting.{kinds, Fits, AreLengths, HasKindIn}
use Rattle.vcm_code.specs.declared.op.Op.TheVariants.{Plain}
use Rattle.vcm_code.specs.Ranges.{IsShort, OpInRange}
use Rattle.vcm_code.specs.Checks.{HasItems}
use Rattle.vcm_asm.specs.inner.Spelled.{Keeps, KeepThree, SimpleKeeps}

-- an expression has items
spelled : (t : Tree) → 1 ≤ length (spelling t)
spelled (Value x) = omega arith
spelled (One op a) = omega (arith, length-append (spelling a) (Apply op ∷ []))
spelled (Two op a b) = omega (arith, length-append (spelling a) (spelling b ++ Combine op ∷ []), length-append (spelling b) (Combine op ∷ []))

module _ (tables : Tables) where
  pub short : (t : Tree) (k : Kind) → HasKindIn tables t k → Keeps t → IsShort (spelling t)
  short t k h kept = (spelled t, (kept (kinds tables) k h).1)

  three_short : (x y z : Tree) → AreLengths (HasKindIn tables) x y z → KeepThree x y z → IsShort (spelling x) × IsShort (spelling y) × IsShort (spelling z)
  three_short x y z h m = (short x _ h.0 m.0, short y _ h.1 m.1, short z _ h.2 m.2)

  pub simple_range : (what : Simple Tree) → Fits (HasKindIn tables) tables what → SimpleKeeps what → OpInRange (Plain (with_form spelling what))
  simple_range (Goto x y z) h m = three_short x y z h m
  simple_range GoHome h m = tt
  simple_range (Assign v e) h m = short e h.0 h.2 m
  simple_range (Feat i x y z d) h m = (tt, (three_short x y z h.1 m, tt))
  simple_range (PtMeas i x y z d) h m = (tt, (three_short x y z h.1 m, tt))
  simple_range (SnSet which e) h m = (tt, short e _ h m)
  simple_range (Trans i x y z) h m = (tt, three_short x y z h.1 m)
  simple_range (Rotate i axis n) h m = (tt, (tt, tt))
  simple_range (Recall i) h m = tt
  simple_range (Obtain v source i word) h m = (tt, (tt, (tt, tt)))
  simple_range (Output source i) h m = (tt, tt)
  simple_range (Text bytes) h m = m

  -- an expression keeps its kind
  pub keeps : (t : Tree) (k : Kind) → HasKindIn tables t k → Keeps t → HasItems tables (spelling t) k
  keeps t k h kept = (kept (kinds tables) k h).0

  pub simple_fits : (what : Simple Tree) → Fits (HasKindIn tables) tables what → SimpleKeeps what → Fits (HasItems tables) tables (with_form spelling what)
  simple_fits (Goto x y z) h s = (keeps x _ h.0 s.0, keeps y _ h.1 s.1, keeps z _ h.2 s.2)
  simple_fits GoHome h s = tt
  simple_fits (Assign v e) h s = (h.0, h.1, keeps e h.0 h.2 s)
  simple_fits (Feat i x y z d) h s = (h.0, (keeps x _ h.1.0 s.0, keeps y _ h.1.1 s.1, keeps z _ h.1.2 s.2))
  simple_fits (PtMeas i x y z d) h s = (h.0, (keeps x _ h.1.0 s.0, keeps y _ h.1.1 s.1, keeps z _ h.1.2 s.2))
  simple_fits (SnSet which e) h s = keeps e _ h s
  simple_fits (Trans i x y z) h s = (h.0, (keeps x _ h.1.0 s.0, keeps y _ h.1.1 s.1, keeps z _ h.1.2 s.2))
  simple_fits (Rotate i axis n) h s = h
  simple_fits (Recall i) h s = h
  simple_fits (Obtain v source i word) h s = h
  simple_fits (Output source i) h s = h
  simple_fits (Text bytes) h s = tt
