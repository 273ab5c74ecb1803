-- Bodies: the least fraction at which a box of one meets a block, and their contacts.
use Rattle.std.proofs.Common.{◌≡◌, ℕ, zero, suc, ◌+◌, ◌*◌, ◌<◌, ◌≤◌, ℤ, pos, ◌+ℤ◌, ◌-ℤ◌, ◌≤ℤ◌, inl, inr, Bool, true, false, ◌&&◌, List, [], ◌∷◌, length, Option, Some, None, refl, sym, ap, subst, ◌∙◌, arith}
use Rattle.std.specs.Prelude.{◌⊎◌, nat_le, map, option_map, if◌then◌else◌, IfSome, IfNone}
use Rattle.std.specs.List.{list_all, AllByRecursion}
use Rattle.std.proofs.lemmas.Int.{ints}
use Rattle.vcm_num.specs.declared.point.Point.{Point}
use Rattle.vcm_num.specs.Point.{coordinate, is_below}
use Rattle.vcm_spec.specs.declared.workpiece.Block3.{Block3}
use Rattle.vcm_spec.specs.Workpiece.{grown, is_block}
use Rattle.vcm_spec.specs.Contact.{IsPermille, IsClear}
use Rattle.vcm_spec.specs.FirstContact.{Fraction, fraction, Entered, is_not_after, entry, sooner, first_entered}
use Rattle.vcm_spec.proofs.Entries.{below_three, entry_is}
use Rattle.vcm_spec.proofs.Fractions.{not_after_trans}
use Rattle.vcm_spec.proofs.FirstOf.{IsPositive, IsLeast as IsLeastAt, IsEntry, found_first}
use Rattle.vcm_spec.proofs.Tips.{IsInOrder, block_in_order}
use Rattle.vcm_motion.specs.Places.{point_on_way}
use Rattle.vcm_motion.specs.inner.Boxes.{IsSpan}
use Rattle.vcm_motion.proofs.Inside.{block_at}
use Rattle.vcm_carried.specs.declared.contact.Contact.{Contact}
use Rattle.vcm_carried.specs.declared.entered.Entered.{Entered as Coming}
use Rattle.vcm_carried.specs.declared.fraction.Fraction.{Fraction as Part}
use Rattle.vcm_carried.specs.Carried.{IsBox, IsLeast, BoxMeets, BoxMeetsBy, spread, IsContactOn, IsFirstContact}
use Rattle.vcm_carried.specs.FirstCarried.{if_gone, if_later, box_entry, contact_at, box_contact}
use Rattle.vcm_carried.specs.Bodies.{OfSome, BodyMeetsBy, BodyEnters, BodyCounts, lesser_of, least_entry, body_entry, body_contact}
use Rattle.vcm_carried.specs.Laws.{BodyContactIsComputed, BodyContactIsUnique, OneBoxBodies}
use Rattle.vcm_carried.specs.inner.Shared.{IsSwept, IsHeldBy, AreSweptBy, IsLesser}
use Rattle.vcm_carried.proofs.Boxes.{box_in_order}
use Rattle.vcm_carried.proofs.Contacts.{not_later, later_than, at_start, entry_by, told, same_answer}
use Rattle.vcm_carried.proofs.Counting.{touched}
use Rattle.vcm_carried.proofs.Searching.{IsFirstOf, first_of_all}

-- ---- what holds of some box

pub of_each : (R P Q : Block3 → Type 0) (body : List Block3) → AllByRecursion R body → ((box : Block3) → R box → P box → Q box) → OfSome P body → OfSome Q body
of_each R P Q [] each f h = h
of_each R P Q (box ∷ boxes) each f (inl h) = inl (f box each.0 h)
of_each R P Q (box ∷ boxes) each f (inr h) = inr (of_each R P Q boxes each.1 f h)

pub of_some : (P Q : Block3 → Type 0) (body : List Block3) → ((box : Block3) → P box → Q box) → OfSome P body → OfSome Q body
of_some P Q [] f h = h
of_some P Q (box ∷ boxes) f (inl h) = inl (f box h)
of_some P Q (box ∷ boxes) f (inr h) = inr (of_some P Q boxes f h)

-- what follows from each, follows from some
pub by_each : (X : Type 0) (R P : Block3 → Type 0) (body : List Block3) → AllByRecursion R body → ((box : Block3) → R box → P box → X) → OfSome P body → X
by_each X R P [] each f h = absurd h
by_each X R P (box ∷ boxes) each f (inl h) = f box each.0 h
by_each X R P (box ∷ boxes) each f (inr h) = by_each X R P boxes each.1 f h

pub by_some : (X : Type 0) (P : Block3 → Type 0) (body : List Block3) → ((box : Block3) → P box → X) → OfSome P body → X
by_some X P [] f h = absurd h
by_some X P (box ∷ boxes) f (inl h) = f box h
by_some X P (box ∷ boxes) f (inr h) = by_some X P boxes f h

-- ---- what counts

module _ (gone : Fraction) (body : List Block3) (x y : ℕ → ℤ) where
  pub meets_positive : (block : Block3) (a b : ℕ) → BodyMeetsBy gone body x y block a b → 0 < b
  meets_positive block a b m = by_some (0 < b) (λ box. BoxMeetsBy gone box x y block a b) body (λ box h. h.meets.fraction.positive) m

  pub meets_within : (block : Block3) (a b : ℕ) → BodyMeetsBy gone body x y block a b → a ≤ b
  meets_within block a b m = by_some (a ≤ b) (λ box. BoxMeetsBy gone box x y block a b) body (λ box h. h.meets.fraction.within) m

  -- a block that counts is met on what was gone
  pub body_by : (with_start : Bool) (block : Block3) (a b : ℕ) → BodyCounts with_start gone body x y block a b → BodyMeetsBy gone body x y block a b
  body_by true block a b m = m
  body_by false block a b m = m.meets

  pub body_positive : (with_start : Bool) → IsPositive (BodyCounts with_start gone body x y)
  body_positive true = λ block a b m. meets_positive block a b m
  body_positive false = λ block a b m. meets_positive block a b m.meets

  module _ (most : ℕ) (block : Block3) (sides : AllByRecursion (IsBox most) body) (order : IsInOrder block) where
    -- what is met at the start is met before it is entered
    from_start : OfSome (λ box. BoxMeets box x y block 0 1) body → BodyMeetsBy gone body x y block 0 1
    from_start s = of_some _ _ body (λ box h. record { meets = h; was_gone = omega arith }) s

    pub body_entered : (a b : ℕ) → 0 < a → BodyMeetsBy gone body x y block a b → ((c d : ℕ) → BodyMeetsBy gone body x y block c d → a * d ≤ c * b) → BodyEnters gone body x y block a b
    body_entered a b h m least = record { meets = m; outside = λ s. (let l = least 0 1 (from_start s) in absurd (omega (arith, l))) }

    pub body_not_entered : (a b : ℕ) → a ≡ 0 → BodyMeetsBy gone body x y block a b → (c d : ℕ) → BodyEnters gone body x y block c d → ⊥
    body_not_entered a b e m c d n =
        n.outside (of_each (IsBox most) _ _ body sides (λ box s h. at_start box x y block (box_in_order most box s) order a b e h.meets) m)

    -- behind the start each that is met counts
    pub body_later : (with_start : Bool) (a b : ℕ) → 0 < a → IsLeast (BodyMeetsBy gone body x y block) a b → IsLeast (BodyCounts with_start gone body x y block) a b
    body_later true a b later h = h
    body_later false a b later h = record { meets = body_entered a b later h.meets h.least; least = λ c d m. h.least c d m.meets }

    -- at the start it does not, unless the start does
    pub body_never : (with_start : Bool) (a b : ℕ) → with_start ≡ false → a ≡ 0 → IsLeast (BodyMeetsBy gone body x y block) a b
        → (c d : ℕ) → BodyCounts with_start gone body x y block c d → ⊥
    body_never true a b none e h c d m = absurd (let same : true ≡ false = none in cc)
    body_never false a b none e h c d m = body_not_entered a b e h.meets c d m

    later_entry : (o : Option Fraction) → IsEntry (BodyMeetsBy gone body x y) block o → IsEntry (BodyEnters gone body x y) block (if_later o)
    later_entry None e = λ c d m. e c d m.meets
    later_entry (Some f) e = by f.num refl
      where
        by : (n : ℕ) → f.num ≡ n → IsEntry (BodyEnters gone body x y) block (elim n [ zero ↦ None | suc n ↦ Some f ])
        by zero z = body_not_entered f.num f.den z e.meets
        by (suc n) z = record { meets = body_entered f.num f.den (omega arith) e.meets e.least; least = λ c d m. e.least c d m.meets }

-- ---- the least of fractions

module _ (M N : Block3 → ℕ → ℕ → Type 0) (all : IsPositive M) (others : IsPositive N) (block : Block3) where
  abbrev Either : Block3 → ℕ → ℕ → Type 0
  Either block a b = M block a b ⊎ N block a b

  chosen : (f g : Fraction) → IsLeastAt M block f → IsLeastAt N block g → (t : Bool) → nat_le (f.num * g.den) (g.num * f.den) ≡ t
      → IsEntry Either block (if t then Some f else Some g)
  chosen f g h k true t = record {
    meets = inl h.meets;
    least = λ c d m. elim m [
      | inl one ↦ h.least c d one
      | inr other ↦ not_after_trans f.num f.den g.num g.den c d (others block g.num g.den k.meets) (not_later f.num f.den g.num g.den t) (k.least c d other)
    ];
  }
  chosen f g h k false t =
      let under : g.num * f.den ≤ f.num * g.den = grind arith in
      record {
        meets = inr k.meets;
        least = λ c d m. elim m [
          | inl one ↦ not_after_trans g.num g.den f.num f.den c d (all block f.num f.den h.meets) under (h.least c d one)
          | inr other ↦ k.least c d other
        ];
      }

  pub least_of_both : (o p : Option Fraction) → IsEntry M block o → IsEntry N block p → IsEntry Either block (lesser_of o p)
  least_of_both None None h k = λ c d m. elim m [ inl one ↦ h c d one | inr other ↦ k c d other ]
  least_of_both None (Some g) h k = record { meets = inr k.meets; least = λ c d m. elim m [ inl one ↦ absurd (h c d one) | inr other ↦ k.least c d other ] }
  least_of_both (Some f) None h k = record { meets = inl h.meets; least = λ c d m. elim m [ inl one ↦ h.least c d one | inr other ↦ absurd (k c d other) ] }
  least_of_both (Some f) (Some g) h k = chosen f g h k (is_not_after f g) refl

module _ (most : ℕ) (gone : Fraction) (x y : ℕ → ℤ) (block : Block3) (order : IsInOrder block) where
  pub least_is : (body : List Block3) → AllByRecursion (IsBox most) body → IsEntry (BodyMeetsBy gone body x y) block (least_entry gone body x y block)
  least_is [] sides = λ c d m. absurd m
  least_is (box ∷ boxes) sides =
      least_of_both (BoxMeetsBy gone box x y) (BodyMeetsBy gone boxes x y) (λ block a b m. m.meets.fraction.positive) (meets_positive gone boxes x y) block
      (if_gone gone (entry x y (spread box block))) (least_entry gone boxes x y block)
      (entry_by box x y block (box_in_order most box sides.0) order gone (entry x y (spread box block)) (entry_is x y (spread box block)))
      (least_is boxes sides.1)

  pub counted_is : (body : List Block3) → AllByRecursion (IsBox most) body → (with_start : Bool) → IsEntry (BodyCounts with_start gone body x y) block (body_entry with_start gone body x y block)
  counted_is body sides true = least_is body sides
  counted_is body sides false = later_entry gone body x y most block sides order (least_entry gone body x y block) (least_is body sides)

-- ---- the laws

pub body_is : BodyContactIsComputed
body_is most body blocks sides all gone with_start x y =
    let M : Block3 → ℕ → ℕ → Type 0 = BodyCounts with_start gone body x y in
    told blocks M (body_positive gone body x y with_start) x y (first_entered (body_entry with_start gone body x y) 1 blocks)
    (found_first M (body_positive gone body x y with_start) (body_entry with_start gone body x y) 1 blocks
    (λ j block stands. counted_is most gone x y block (block_in_order block (block_at blocks j block all stands)) body sides with_start))

pub body_unique : BodyContactIsUnique
body_unique most body blocks sides all gone with_start x y answer e =
    same_answer blocks (BodyCounts with_start gone body x y) (body_positive gone body x y with_start) x y answer (body_contact with_start gone body x y blocks) e
    (body_is most body blocks sides all gone with_start x y)

one_least : (gone : Fraction) (box : Block3) (x y : ℕ → ℤ) (block : Block3) (o : Option Fraction) → lesser_of o None ≡ o
one_least gone box x y block None = refl
one_least gone box x y block (Some f) = refl

one_entry : (with_start : Bool) (gone : Fraction) (box : Block3) (x y : ℕ → ℤ) (block : Block3) → body_entry with_start gone (box ∷ []) x y block ≡ box_entry with_start gone box x y block
one_entry true gone box x y block = one_least gone box x y block (if_gone gone (entry x y (spread box block)))
one_entry false gone box x y block = ap if_later (one_least gone box x y block (if_gone gone (entry x y (spread box block))))

same_entered : (f g : Block3 → Option Fraction) → ((block : Block3) → f block ≡ g block) → (n : ℕ) (blocks : List Block3) → first_entered f n blocks ≡ first_entered g n blocks
same_entered f g e n [] = refl
same_entered f g e n (b ∷ bs) = ap (λ o. sooner n o (first_entered f (suc n) bs)) (e b) ∙ ap (sooner n (g b)) (same_entered f g e (suc n) bs)

pub one_box : OneBoxBodies
one_box with_start gone box x y blocks =
    ap (option_map (contact_at x y)) (same_entered (body_entry with_start gone (box ∷ []) x y) (box_entry with_start gone box x y) (one_entry with_start gone box x y) 1 blocks)

-- ---- the lesser of two fractions, as the code has them

module _ (P Q : ℕ → ℕ → Type 0) (at : Part) (h : IsLeast P at.num at.den) where
  pub lesser_met : (other : Option Part) → IfSome other (λ g. IsLeast Q g.num g.den) → IfNone other ((a b : ℕ) → Q a b → ⊥) → (r : Part) → IsLesser at other r
      → IsLeast (λ a b. P a b ⊎ Q a b) r.num r.den
  lesser_met None some none r e = subst (λ (r : Part). IsLeast (λ a b. P a b ⊎ Q a b) r.num r.den) (sym e) (record {
    meets = inl h.meets;
    least = λ c d m. elim m [ inl one ↦ h.least c d one | inr other ↦ absurd (none c d other) ];
  })
  lesser_met (Some g) some none r (inl e) = subst (λ (r : Part). IsLeast (λ a b. P a b ⊎ Q a b) r.num r.den) (sym e.0) (record {
    meets = inl h.meets;
    least = λ c d m. elim m [
      | inl one ↦ h.least c d one
      | inr other ↦ not_after_trans at.num at.den g.num g.den c d g.positive e.1 (some.least c d other)
    ];
  })
  lesser_met (Some g) some none r (inr e) = subst (λ (r : Part). IsLeast (λ a b. P a b ⊎ Q a b) r.num r.den) (sym e.0) (record {
    meets = inr some.meets;
    least = λ c d m. elim m [
      | inl one ↦ not_after_trans g.num g.den at.num at.den c d at.positive e.1 (h.least c d one)
      | inr other ↦ some.least c d other
    ];
  })

-- where the box isn't met
pub others_met : (P Q : ℕ → ℕ → Type 0) → ((a b : ℕ) → P a b → ⊥) → (a b : ℕ) → IsLeast Q a b → IsLeast (λ a b. P a b ⊎ Q a b) a b
others_met P Q never a b h = record {
  meets = inr h.meets;
  least = λ c d m. elim m [ inl one ↦ absurd (never c d one) | inr other ↦ h.least c d other ];
}

-- ---- the area

-- what holds a box, and is moved out, is swept over it
pub held_swept : (g : ℕ) (holder box area : Block3) (p q : Point) → IsHeldBy holder box → IsSwept (grown g holder) p q area → IsSwept (grown g box) p q area
held_swept g holder box area p q h s =
    below_three (λ k. IsSpan (coordinate p k) (coordinate q k) (coordinate area.low k -ℤ coordinate (grown g box).low k) (coordinate area.high k -ℤ coordinate (grown g box).high k))
    (on 0 (omega arith) refl refl refl refl) (on 1 (omega arith) refl refl refl refl) (on 2 (omega arith) refl refl refl refl)
  where
    on : (k : ℕ) (l : k < 3) → coordinate (grown g box).low k ≡ coordinate box.low k -ℤ pos g → coordinate (grown g box).high k ≡ coordinate box.high k +ℤ pos g
        → coordinate (grown g holder).low k ≡ coordinate holder.low k -ℤ pos g → coordinate (grown g holder).high k ≡ coordinate holder.high k +ℤ pos g
        → IsSpan (coordinate p k) (coordinate q k) (coordinate area.low k -ℤ coordinate (grown g box).low k) (coordinate area.high k -ℤ coordinate (grown g box).high k)
    on k l a b c d =
        let t = s k l in
        let u = h k l in
        let t1 = t.from_low in
        let t2 = t.from_high in
        let t3 = t.to_low in
        let t4 = t.to_high in
        let u1 = u.0 in
        let u2 = u.1 in
        record { from_low = omega (arith, ints); from_high = omega (arith, ints); to_low = omega (arith, ints); to_high = omega (arith, ints) }

pub all_swept : (g : ℕ) (holder area : Block3) (p q : Point) (body : List Block3) → AllByRecursion (IsHeldBy holder) body → IsSwept (grown g holder) p q area
    → AreSweptBy (map (grown g) body) p q area
all_swept g holder area p q [] held s = tt
all_swept g holder area p q (box ∷ boxes) held s = (held_swept g holder box area p q held.0 s, all_swept g holder area p q boxes held.1 s)

-- a block that the area does not touch does not count
pub untouched_by : (gone : Fraction) (body : List Block3) (block area : Block3) (p q : Point) (touching : Bool) → AreSweptBy body p q area
    → touching ≡ (is_below (coordinate block.low) (coordinate area.high) && is_below (coordinate area.low) (coordinate block.high)) → touching ≡ false
    → (with_start : Bool) (a b : ℕ) → BodyCounts with_start gone body (coordinate p) (coordinate q) block a b → ⊥
untouched_by gone body block area p q touching is e none with_start a b m =
    let by = body_by gone body (coordinate p) (coordinate q) with_start block a b m in
    by_each ⊥ (λ box. IsSwept box p q area) (λ box. BoxMeetsBy gone box (coordinate p) (coordinate q) block a b) body is
    (λ box s h. (let both : true ≡ false = sym (touched gone box block area p q a b s h) ∙ sym e ∙ none in cc)) by

-- what holds two boxes
pub held_trans : (a b : Block3) (body : List Block3) → IsHeldBy a b → AllByRecursion (IsHeldBy b) body → AllByRecursion (IsHeldBy a) body
held_trans a b [] h all = tt
held_trans a b (box ∷ boxes) h all =
    (λ k l. (let u = h k l in let v = (all.0) k l in let u0 = u.0 in let u1 = u.1 in let v0 = v.0 in let v1 = v.1 in (omega (arith, ints), omega (arith, ints))), held_trans a b boxes h all.1)

-- ---- what is told

module _ (blocks : List Block3) (gone : Fraction) (body : List Block3) (x y : ℕ → ℤ) (with_start : Bool) (n : ℕ) (e : Coming)
    (h : IsFirstOf blocks (BodyCounts with_start gone body x y) n e) where
  -- it is entered within the way
  pub body_within : e.at.num ≤ e.at.den
  body_within = meets_within gone body x y h.block e.at.num e.at.den (body_by gone body x y with_start h.block e.at.num e.at.den h.meets)

  pub told_by : length blocks ≤ n → (c : Contact) → c.hit.block ≡ e.index + 1 → IsPermille e.at.num e.at.den c.hit.permille → c.at ≡ point_on_way (fraction e.at.num e.at.den) x y
      → IsContactOn blocks (BodyCounts with_start gone body x y) x y c
  told_by all c number permille at = record {
    is_hit = record {
      index = e.index;
      a = e.at.num;
      b = e.at.den;
      first = first_of_all blocks (BodyCounts with_start gone body x y) n all e h;
      number = number;
      permille = permille;
    };
    stands = at;
  }

-- a body without boxes meets nothing
pub none_clear : (blocks : List Block3) (gone : Fraction) (body : List Block3) (x y : ℕ → ℤ) (with_start : Bool) → body ≡ [] → IsClear blocks (BodyCounts with_start gone body x y)
none_clear blocks gone body x y with_start e = λ j block stands a b m.
    (let by = body_by gone body x y with_start block a b m in subst (λ (bs : List Block3). OfSome (λ box. BoxMeetsBy gone box x y block a b) bs) e by)

-- the others alone
pub behind_met : (P Q : ℕ → ℕ → Type 0) → ((a b : ℕ) → P a b → ⊥) → (o : Option Part) → IfSome o (λ g. IsLeast Q g.num g.den)
    → IfSome o (λ g. IsLeast (λ a b. P a b ⊎ Q a b) g.num g.den)
behind_met P Q never None h = h
behind_met P Q never (Some g) h = others_met P Q never g.num g.den h

pub behind_missed : (P Q : ℕ → ℕ → Type 0) → ((a b : ℕ) → P a b → ⊥) → (o : Option Part) → IfNone o ((a b : ℕ) → Q a b → ⊥)
    → IfNone o ((a b : ℕ) → P a b ⊎ Q a b → ⊥)
behind_missed P Q never None h = λ a b m. elim m [ inl one ↦ never a b one | inr other ↦ h a b other ]
behind_missed P Q never (Some g) h = h
