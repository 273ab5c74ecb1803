-- Statements about ways. Each is the contract of a law in src/laws.rt.
use Rattle.std.specs.Prelude.{◌≡◌, ◌≢◌, ℕ, ◌<◌, map}
use Rattle.std.specs.List.{AllByRecursion}
use Rattle.vcm_num.specs.declared.point.Point.{Point}
use Rattle.vcm_num.specs.Point.{coordinate}
use Rattle.vcm_spec.specs.Workpiece.{Workpiece, IsValid}
use Rattle.vcm_code.specs.declared.code.Code.{Code}
use Rattle.vcm_machine.specs.declared.ran.End.TheVariants.{NoMemory}
use Rattle.vcm_machine.specs.declared.ran.Ran.{Ran}
use Rattle.vcm_motion.specs.Places.{part_of_way}
use Rattle.vcm_state.specs.Held.{Held}
use Rattle.vcm_steps.specs.Passages.{state_after, passages}
use Rattle.vcm_way.specs.Gone.{contact_fraction}
use Rattle.vcm_way.specs.Marks.{contact_point}
use Rattle.vcm_way.specs.Meaning.{Hang, IsNoMotion, AreTrue}
use Rattle.vcm_way.specs.Ways.{Kept, reason, step_marks, whole_way}
use Rattle.vcm_way.specs.Following.{HasFollowed}

-- two runs of one code beside one workpiece that are asked for as many steps, neither of which memory cut short, come to one state, do as many
-- steps and end alike, and have one way
abbrev pub WaysAreOne : Type 0
WaysAreOne =
    (part : Workpiece) (c : Code) (n : ℕ) (world other : Held) (x y : Ran) (way more : Kept) → HasFollowed part c n world x way
    → HasFollowed part c n other y more → x.end ≢ NoMemory → y.end ≢ NoMemory → (world ≡ other) × (x ≡ y) × (way ≡ more)

-- beside a valid workpiece the pieces of a way hang together, from home on; unless the run stops in a motion, the last one ends where the probe is
abbrev pub WaysHangTogether : Type 0
WaysHangTogether =
    (part : Workpiece) → IsValid part → (c : Code) (n : ℕ)
    → (end : Point) × Hang part.bounds.home (map (λ p. p.mark) (whole_way part c n)) end
    × (IsNoMotion (reason (state_after part c n).world.stop) → end ≡ (state_after part c n).world.position)

-- beside a valid workpiece the marks of each step are what they show: on a piece that is gone the tip meets no block, a search ends where it first meets
-- one, and a contact is where it first meets the block
abbrev pub WaysAreClear : Type 0
WaysAreClear = (part : Workpiece) → IsValid part → (c : Code) (n : ℕ) → AllByRecursion (λ p. AreTrue part (step_marks part p)) (passages part c n)

-- the mark of a contact with the block n stands at the fraction of the way from a to b that was gone, cut off to whole micrometres towards a
abbrev pub ContactsEndWays : Type 0
ContactsEndWays =
    (part : Workpiece) (a b : Point) (n k : ℕ) → k < 3
    → coordinate (contact_point part n a b) k ≡ part_of_way (contact_fraction part n a b) (coordinate a k) (coordinate b k)
