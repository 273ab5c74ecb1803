-- Lists of marks and their last pieces.
use Rattle.std.proofs.Common.{◌≡◌, ℕ, suc, ◌+◌, ◌-◌, ◌≤◌, ◌<◌, Bool, true, false, List, [], ◌∷◌, ◌++◌, length, refl, sym, ap, ◌∙◌, arith}
use Rattle.std.specs.Prelude.{nat_le, if◌then◌else◌}
use Rattle.vcm_marks.specs.declared.mark.PlacedMark.{PlacedMark}
use Rattle.vcm_marks.specs.Pieces.{is_piece, counted, pieces}
use Rattle.vcm_way.specs.Ways.{last_pieces, most_pieces, Kept, kept_of}
use Rattle.vcm_way.specs.Keeping.{kept, shortened, StandsFor}
use Rattle.vcm_way.specs.inner.Added.{more}

append-nil : (xs : List PlacedMark) → xs ++ [] ≡ xs
append-nil [] = refl
append-nil (x ∷ xs) = ap (λ (t : List PlacedMark). x ∷ t) (append-nil xs)

append-append : (xs ys zs : List PlacedMark) → (xs ++ ys) ++ zs ≡ xs ++ (ys ++ zs)
append-append [] ys zs = refl
append-append (x ∷ xs) ys zs = ap (λ (t : List PlacedMark). x ∷ t) (append-append xs ys zs)

counted_plus : (t : Bool) (a b : ℕ) → counted t (a + b) ≡ counted t a + b
counted_plus true a b = omega arith
counted_plus false a b = refl

pub pieces_append : (xs ys : List PlacedMark) → pieces (xs ++ ys) ≡ pieces xs + pieces ys
pieces_append [] ys = omega arith
pieces_append (x ∷ xs) ys = ap (counted (is_piece x.mark)) (pieces_append xs ys) ∙ counted_plus (is_piece x.mark) (pieces xs) (pieces ys)

le_false : (a b : ℕ) → nat_le a b ≡ false → b < a
le_false a b e = grind arith

false_le : (a b : ℕ) → b < a → nat_le a b ≡ false
false_le a b l = grind arith

le_true : (a b : ℕ) → nat_le a b ≡ true → a ≤ b
le_true a b e = grind arith

true_le : (a b : ℕ) → a ≤ b → nat_le a b ≡ true
true_le a b l = grind arith

pick_true : (t : Bool) (xs ys : List PlacedMark) → t ≡ true → (if t then xs else ys) ≡ xs
pick_true t xs ys e = ap (λ (b : Bool). if b then xs else ys) e

pick_false : (t : Bool) (xs ys : List PlacedMark) → t ≡ false → (if t then xs else ys) ≡ ys
pick_false t xs ys e = ap (λ (b : Bool). if b then xs else ys) e

-- all is kept where there are few pieces
pub few_last : (most : ℕ) (ms : List PlacedMark) → pieces ms ≤ most → last_pieces most ms ≡ ms
few_last most [] l = refl
few_last most (m ∷ ms) l = pick_true (nat_le (pieces (m ∷ ms)) most) (m ∷ ms) (last_pieces most ms) (true_le _ _ l)

-- the first mark is left out where there are many
pub many_last : (most : ℕ) (m : PlacedMark) (ms : List PlacedMark) → most < pieces (m ∷ ms) → last_pieces most (m ∷ ms) ≡ last_pieces most ms
many_last most m ms l = pick_false (nat_le (pieces (m ∷ ms)) most) (m ∷ ms) (last_pieces most ms) (false_le _ _ l)

-- the last pieces of all are those of the last pieces of a front with what comes behind
pub last_append : (most : ℕ) (xs ys : List PlacedMark) → last_pieces most (last_pieces most xs ++ ys) ≡ last_pieces most (xs ++ ys)
last_append most [] ys = refl
last_append most (x ∷ xs) ys = by (nat_le (pieces (x ∷ xs)) most) refl (last_append most xs ys)
  where
    by : (t : Bool) → nat_le (pieces (x ∷ xs)) most ≡ t → last_pieces most (last_pieces most xs ++ ys) ≡ last_pieces most (xs ++ ys)
        → last_pieces most (last_pieces most (x ∷ xs) ++ ys) ≡ last_pieces most ((x ∷ xs) ++ ys)
    by true e h = ap (λ (zs : List PlacedMark). last_pieces most (zs ++ ys)) (few_last most (x ∷ xs) (le_true _ _ e))
    by false e h =
        let many = le_false _ _ e in
        let more : most < pieces (x ∷ (xs ++ ys)) = (let p = pieces_append (x ∷ xs) ys in omega (arith, p, many)) in
        ap (λ (zs : List PlacedMark). last_pieces most (zs ++ ys)) (many_last most x xs many) ∙ h ∙ sym (many_last most x (xs ++ ys) more)

plus_counted : (t : Bool) (a : ℕ) → counted t a ≡ a + counted t 0
plus_counted true a = omega arith
plus_counted false a = omega arith

-- ---- what is kept stands for a way

-- what is left out of a list
last_le : (most : ℕ) (ms : List PlacedMark) → pieces (last_pieces most ms) ≤ pieces ms
last_le most [] = omega arith
last_le most (m ∷ ms) = by (nat_le (pieces (m ∷ ms)) most) (last_le most ms)
  where
    by : (t : Bool) → pieces (last_pieces most ms) ≤ pieces ms → pieces (if t then m ∷ ms else last_pieces most ms) ≤ pieces (m ∷ ms)
    by true l = omega arith
    by false l = let c = counted_plus (is_piece m.mark) 0 (pieces ms) in let e = plus_counted (is_piece m.mark) (pieces ms) in omega (arith, l, c, e)

pub stands_for_none : StandsFor (kept [] 0) []
stands_for_none = record { total = refl; last = λ ms. refl }

module _ (k : Kept) (whole : List PlacedMark) (stands : StandsFor k whole) where
  -- more marks come behind it
  pub stands_more : (ms : List PlacedMark) → StandsFor (more k ms) (whole ++ ms)
  stands_more ms = record {
    total = (let t = stands.total in let p = pieces_append k.marks ms in let q = pieces_append whole ms in omega (arith, t, p, q));
    last = λ zs.
        ap (last_pieces most_pieces) (append-append k.marks ms zs)
        ∙ stands.last (ms ++ zs)
        ∙ sym (ap (last_pieces most_pieces) (append-append whole ms zs));
  }

  -- its first marks are left out
  pub stands_shortened : StandsFor (shortened k) whole
  stands_shortened = record {
    total = (let t = stands.total in let l = last_le most_pieces k.marks in omega (arith, t, l));
    last = λ zs. last_append most_pieces k.marks zs ∙ stands.last zs;
  }

  -- what is kept of the way in the end
  pub kept_is : shortened k ≡ kept_of whole
  kept_is =
      let list : last_pieces most_pieces k.marks ≡ last_pieces most_pieces whole =
      ap (last_pieces most_pieces) (sym (append-nil k.marks)) ∙ stands.last [] ∙ ap (last_pieces most_pieces) (append-nil whole) in
      let left : k.left_out + (pieces k.marks - pieces (last_pieces most_pieces k.marks)) ≡ pieces whole - pieces (last_pieces most_pieces whole) =
      (let c = ap pieces list in let t = stands.total in let l = last_le most_pieces k.marks in omega (arith, c, t, l)) in
      ap (λ (n : ℕ). kept (last_pieces most_pieces k.marks) n) left ∙ ap (λ (ms : List PlacedMark). kept ms (pieces whole - pieces (last_pieces most_pieces whole))) list

-- ---- pieces are counted

pub pieces_le : (ms : List PlacedMark) → pieces ms ≤ length ms
pieces_le [] = omega arith
pieces_le (m ∷ ms) = by (is_piece m.mark) (pieces_le ms)
  where
    by : (t : Bool) → pieces ms ≤ length ms → counted t (pieces ms) ≤ suc (length ms)
    by true l = omega arith
    by false l = omega arith

pub one_more : (t : Bool) (n : ℕ) → t ≡ true → n + 1 ≡ counted t n
one_more true n e = omega arith
one_more false n e = cc

pub no_more : (t : Bool) (n : ℕ) → t ≡ false → n ≡ counted t n
no_more true n e = cc
no_more false n e = refl

-- ---- the search for the last pieces

pub record IsSought (most count left : ℕ) (rest all : List PlacedMark) : Type 0 where
  pub counted : left ≡ pieces rest
  pub last : last_pieces most rest ≡ last_pieces most all
  pub fewer : left ≤ count
