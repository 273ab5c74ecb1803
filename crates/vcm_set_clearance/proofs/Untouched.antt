-- A swing that is clear has no place in a block.
use Rattle.std.proofs.Common.{◌≡◌, ℕ, ℤ, pos, zero, suc, ◌<◌, ◌+ℤ◌, ◌-ℤ◌, ◌*ℤ◌, ◌≤ℤ◌, inl, inr, Bool, true, false, List, [], ◌∷◌, length, Option, Some, None, arith, ap, refl, sym, subst, ◌∙◌}
use Rattle.std.specs.Prelude.{map, slice_get, slice_index_or, Contains}
use Rattle.std.specs.List.{AllByRecursion}
use Rattle.std.proofs.lemmas.Int.{ints}
use Rattle.vcm_num.specs.Point.{coordinate}
use Rattle.vcm_num.proofs.Ring.{mul-add}
use Rattle.vcm_spec.specs.declared.workpiece.Block3.{Block3}
use Rattle.vcm_spec.specs.Workpiece.{grown}
use Rattle.vcm_spec.specs.FirstContact.{fraction}
use Rattle.vcm_carried.specs.Carried.{BoxMeets, BoxMeetsBy}
use Rattle.vcm_carried.specs.Bodies.{OfSome}
use Rattle.vcm_way.specs.Gone.{PlacedWay}
use Rattle.vcm_clearance.specs.declared.told.Told.{Told}
use Rattle.vcm_clearance.specs.declared.room.Room.TheVariants.{Clear}
use Rattle.vcm_clearance.specs.Contacts.{IsClearOn}
use Rattle.vcm_clearance.specs.Rooms.{IsClearBy, IsRoom}
use Rattle.vcm_probe_set.specs.Probes.{Probe}
use Rattle.vcm_set_clearance.specs.Events.{ChangeAt, Happening, goes, turns}
use Rattle.vcm_set_clearance.specs.Swings.{turns_at, standing, with_standing, standings}
use Rattle.vcm_set_clearance.specs.Laws.{LiesIn, LiesAbout, ClearSwingsStandClear}

-- ---- lists

element : {X : Type 0} (xs : List X) (x : X) (k : ℕ) → k < length xs → slice_index_or xs k x ≡ x → slice_get xs k ≡ Some x
element [] x k lt e = absurd (omega (arith, lt))
element (y ∷ ys) x zero lt e = subst (λ z. Some y ≡ Some z) e refl
element (y ∷ ys) x (suc k) lt e = element ys x k (omega (arith, lt)) e

of_some : (P : Block3 → Type 0) (f : Block3 → Block3) (body : List Block3) (box : Block3) → Contains body box → P (f box) → OfSome P (map f body)
of_some P f [] box (k, lt, e) h = absurd (omega (arith, lt))
of_some P f (b ∷ body) box (zero, lt, e) h = inl (subst (λ (x : Block3). P (f x)) (sym e) h)
of_some P f (b ∷ body) box (suc k, lt, e) h = inr (of_some P f body box (k, omega (arith, lt), e) h)

-- ---- the swing stands at a turn

module _ (blocks body : List Block3) (ps : List Probe) (g : ℕ) where
  abbrev IsClearAt : PlacedWay → Type 0
  IsClearAt p = IsClearOn blocks (map (grown g) body) p.way

  behind : (t : Bool) (w : PlacedWay) (ws : List PlacedWay) → AllByRecursion IsClearAt (with_standing t w ws) → AllByRecursion IsClearAt ws
  behind true w ws h = h.1
  behind false w ws h = h

  here : (t : Bool) (w : PlacedWay) (ws : List PlacedWay) → t ≡ true → AllByRecursion IsClearAt (with_standing t w ws) → IsClearAt w
  here true w ws e h = h.0
  here false w ws e h = absurd cc

  turned_same : (d c : ChangeAt) → turns d ≡ turns c → d ≡ c
  turned_same d c e = cc

  stands_clear : (es : List Happening) (c : ChangeAt) → Contains es (turns c) → turns_at ps c ≡ true → IsClearBy blocks body (standings ps es) g → IsClearAt (standing c)
  stands_clear [] c (k, lt, e) turning h = absurd (omega (arith, lt))
  stands_clear (goes w ∷ es) c (zero, lt, e) turning h = absurd (let no : goes w ≡ turns c = e in cc)
  stands_clear (goes w ∷ es) c (suc k, lt, e) turning h = stands_clear es c (k, omega (arith, lt), e) turning h
  stands_clear (turns d ∷ es) c (zero, lt, e) turning h =
      let same = turned_same d c e in
      subst (λ (x : ChangeAt). IsClearAt (standing x)) same
      (here (turns_at ps d) (standing d) (standings ps es) (subst (λ (x : ChangeAt). turns_at ps x ≡ true) (sym same) turning) h)
  stands_clear (turns d ∷ es) c (suc k, lt, e) turning h =
      stands_clear es c (k, omega (arith, lt), e) turning (behind (turns_at ps d) (standing d) (standings ps es) h)

clear_by : (blocks body : List Block3) (ways : List PlacedWay) (g : ℕ) (told : Option Told) → IsRoom blocks body ways (Clear g told) → IsClearBy blocks body ways g
clear_by blocks body ways g None h = h.1
clear_by blocks body ways g (Some t) h = h.1

-- ---- a place that both have

grown_low : (g : ℕ) (b : Block3) (k : ℕ) → k < 3 → coordinate (grown g b).low k ≡ coordinate b.low k -ℤ pos g
grown_low g b zero lt = refl
grown_low g b (suc zero) lt = refl
grown_low g b (suc (suc zero)) lt = refl
grown_low g b (suc (suc (suc k))) lt = absurd (omega (arith, lt))

grown_high : (g : ℕ) (b : Block3) (k : ℕ) → k < 3 → coordinate (grown g b).high k ≡ coordinate b.high k +ℤ pos g
grown_high g b zero lt = refl
grown_high g b (suc zero) lt = refl
grown_high g b (suc (suc zero)) lt = refl
grown_high g b (suc (suc (suc k))) lt = absurd (omega (arith, lt))

-- what is counted from a place where a way stands still
beside : (s : ℕ) (p l m : ℤ) → m ≡ p +ℤ l → pos s *ℤ m ≡ pos s *ℤ p +ℤ pos 0 *ℤ (p -ℤ p) +ℤ pos s *ℤ l
beside s p l m e = parts _ (pos s *ℤ p) (pos s *ℤ l) _ (ap (λ z. pos s *ℤ z) e ∙ mul-add (pos s) p l) (none p)
  where
    parts : (x a b d : ℤ) → x ≡ a +ℤ b → d ≡ pos 0 → x ≡ a +ℤ d +ℤ b
    parts x a b d p q = omega (arith, ints)

    none : (p : ℤ) → pos 0 *ℤ (p -ℤ p) ≡ pos 0
    none p = omega (arith, ints)

low_is : (g : ℕ) (p l m : ℤ) → m ≡ l -ℤ pos g → p +ℤ l -ℤ pos g ≡ p +ℤ m
low_is g p l m e = omega (arith, ints)

high_is : (g : ℕ) (p l m : ℤ) → m ≡ l +ℤ pos g → p +ℤ l +ℤ pos g ≡ p +ℤ m
high_is g p l m e = omega (arith, ints)

module _ (g : ℕ) (c : ChangeAt) (box block : Block3) (s : ℕ) (q : ℕ → ℤ) (some : 0 < s) (about : LiesAbout c.pivot g box s q) (inside : LiesIn block s q) where
  shared : BoxMeets (grown g box) (coordinate c.pivot) (coordinate c.pivot) block 0 s
  shared = record {
    fraction = record { positive = some; within = omega arith };
    shared = q;
    on_axis = λ k lt. record {
      above = inside.from_low k lt;
      below = inside.to_high k lt;
      from_low = subst (λ (x : ℤ). x ≤ℤ q k) (beside s (coordinate c.pivot k) (coordinate (grown g box).low k) _
          (low_is g (coordinate c.pivot k) (coordinate box.low k) (coordinate (grown g box).low k) (grown_low g box k lt))) (about.from_low k lt);
      to_high = subst (λ (x : ℤ). q k ≤ℤ x) (beside s (coordinate c.pivot k) (coordinate (grown g box).high k) _
          (high_is g (coordinate c.pivot k) (coordinate box.high k) (coordinate (grown g box).high k) (grown_high g box k lt))) (about.to_high k lt);
    };
  }

  meets : BoxMeetsBy (fraction 1 1) (grown g box) (coordinate c.pivot) (coordinate c.pivot) block 0 s
  meets = record { meets = shared; was_gone = omega arith }

pub clear_swings : ClearSwingsStandClear
clear_swings blocks body ps es g told room c there turning box block has stands s q some about inside =
    stands_clear blocks body ps g es c there turning (clear_by blocks body (standings ps es) g told room) stands.0 block (element blocks block stands.0 stands.1 stands.2) 0 s
    (of_some (λ b. BoxMeetsBy (fraction 1 1) b (coordinate c.pivot) (coordinate c.pivot) block 0 s) (grown g) body box has (meets g c box block s q some about inside))
