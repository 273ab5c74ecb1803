-- How much wider the tip may be: the greatest half width with which a run goes as it does with the workpiece's own tip.
use Rattle.std.specs.Prelude.{◌≡◌, ℕ, ◌+◌, ◌≤◌, false, IsTrue, Option, Some, None, suc}
use Rattle.vcm_spec.specs.Workpiece.{Workpiece}
use Rattle.vcm_code.specs.declared.code.Code.{Code}
use Rattle.vcm_part.specs.Tip.{with_tip, is_tip}
use Rattle.vcm_margin.specs.declared.difference.Met.{Met}
use Rattle.vcm_margin.specs.declared.difference.Margin.{Margin}
use Rattle.vcm_margin.specs.declared.difference.Met.TheVariants.{Home, Behind}
use Rattle.vcm_margin.specs.Alike.{GoAlike, DifferFirst}
use Rattle.vcm_num.specs.declared.limits.TheConstants.{WIDEST_TIP}

-- with a tip of half width h, which the workpiece may have, a code goes in so many steps as it does with the own one
pub record GoesWith (part : Workpiece) (c : Code) (n h : ℕ) : Type 0 where
  pub may : IsTrue (is_tip part h)
  pub alike : GoAlike part (with_tip h part) c n

-- with that tip it doesn't: the tip isn't clear at home; or it is, and this is what differs first
abbrev pub IsMet : Workpiece → Code → ℕ → ℕ → Met → Type 0
IsMet part c n h Home = is_tip part h ≡ false
IsMet part c n h (Behind seen) = IsTrue (is_tip part h) × DifferFirst part (with_tip h part) c n seen

-- what is met with a half width: something up to 50,000, which is the widest, and nothing with one more
abbrev pub MetBy : Workpiece → Code → ℕ → ℕ → Option Met → Type 0
MetBy part c n h None = h ≡ suc WIDEST_TIP
MetBy part c n h (Some d) = (h ≤ WIDEST_TIP) × IsMet part c n h d

-- how wide the tip may be: a half width, not below the own one, with which the run goes as it does, while with one micrometre more it doesn't, if there
-- is so wide a tip. Where the run comes to the program's end, it is the greatest one (Laws.antt)
pub record IsMargin (part : Workpiece) (c : Code) (n : ℕ) (m : Margin) : Type 0 where
  pub least : part.bounds.tip ≤ m.tip
  pub goes : GoesWith part c n m.tip
  pub met : MetBy part c n (m.tip + 1) m.met
