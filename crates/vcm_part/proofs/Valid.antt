-- What a part file gives is a valid workpiece.
use Rattle.std.proofs.Common.{◌≡◌, ℕ, suc, ◌+◌, ◌≤◌, ℤ, pos, negsuc, ◌&&◌, Bool, true, false, List, [], ◌∷◌, length, Option, Some, None, Result, Ok, Err, refl, ap, subst, arith}
use Rattle.std.specs.Prelude.{codes, nat_lt, int_le, unsigned_abs, if◌then◌else◌}
use Rattle.std.specs.List.{list_all}
use Rattle.std.specs.Option.{option_and_then}
use Rattle.std.specs.Str.{is_utf8}
use Rattle.std.proofs.lemmas.Bool.{and_parts, and_from}
use Rattle.toml.specs.Data.{Data, Items, no_items, item, Members, get_member, as_integer, as_table}
use Rattle.toml.specs.Parse.{parse_document}
use Rattle.vcm_num.specs.declared.point.Point.{Point}
use Rattle.vcm_num.specs.Point.{coordinate, is_below, is_near}
use Rattle.vcm_spec.specs.declared.workpiece.Block3.{Block3}
use Rattle.std.proofs.lemmas.Int.{ints}
use Rattle.vcm_spec.proofs.Entries.{le_true}
use Rattle.vcm_spec.specs.Workpiece.{Workpiece, is_block, IsValid}
use Rattle.vcm_part.specs.declared.fault.PartCode.TheVariants.{NotToml, BadKey, OutOfRange, LowAboveHigh, TooManyBlocks, HomeNotClear}
use Rattle.vcm_part.specs.declared.fault.PartFault.{PartFault}
use Rattle.vcm_spec.specs.Results.{◌>>=◌}
use Rattle.vcm_part.specs.Faults.{fault}
use Rattle.vcm_part.specs.PartFile.{near_point, point_at, point_of, small_length, tip_of, tip_at, count, rows_of, fixture_at, block_in, block_of, blocks_from, blocks_at}
use Rattle.vcm_part.specs.PartFile.{is_clear, assembled, bounds_of, part_of_table, part_of_document, part_of}
use Rattle.vcm_part.proofs.Steps.{both, kept}

near_of : (number : ℕ) (o : Option Point) (p : Point) → near_point number o ≡ Ok p → is_near p ≡ true
near_of number None p e = absurd (let no : Err (fault BadKey number) ≡ Ok p = e in cc)
near_of number (Some q) p e = let k = kept (is_near q) q p (fault OutOfRange number) e in subst (λ (x : Point). is_near x ≡ true) k.is k.held

point_near : (key : List ℕ) (number : ℕ) (t : Members) (p : Point) → point_at key number t ≡ Ok p → is_near p ≡ true
unfolding point_at
point_near key number t p e = near_of number (option_and_then point_of (get_member key t)) p e

small_of : (o : Option ℤ) (n : ℕ) → small_length o ≡ Ok n → n ≤ 50000
small_of None n e = absurd (let no : Err (fault BadKey 0) ≡ Ok n = e in cc)
small_of (Some z) n e =
    let k = kept (int_le (pos 0) z && int_le z (pos 50000)) (unsigned_abs z) n (fault OutOfRange 0) e in
    let both = and_parts (int_le (pos 0) z) (int_le z (pos 50000)) k.held in
    subst (λ m. m ≤ 50000) k.is (abs_small z both.0 both.1)
  where
    abs_small : (z : ℤ) → int_le (pos 0) z ≡ true → int_le z (pos 50000) ≡ true → unsigned_abs z ≤ 50000
    abs_small (pos m) l h = let le = le_true (pos m) (pos 50000) h in omega (arith, ints)
    abs_small (negsuc m) l h = let le = le_true (pos 0) (negsuc m) l in absurd (omega (arith, ints))

tip_small : (t : Members) (n : ℕ) → tip_at t ≡ Ok n → n ≤ 50000
unfolding tip_at
tip_small t n e = by (get_member (codes "tip") t) e
  where
    by : (o : Option Data) → tip_of o ≡ Ok n → n ≤ 50000
    by None e = let is : 0 ≡ n = (let h : Ok 0 ≡ Ok n = e in cc) in omega arith
    by (Some d) e = small_of (as_integer d) n e

abbrev between : Point → Point → Block3
between low high = record { low = low; high = high }

block_valid : (number : ℕ) (o : Option Members) (b : Block3) → block_in number o ≡ Ok b → is_block b ≡ true
block_valid number None b e = absurd (let no : Err (fault BadKey number) ≡ Ok b = e in cc)
block_valid number (Some t) b e =
    let first = both (point_at (codes "low") number t) _ b e in
    let second = both (point_at (codes "high") number t) _ b first.second in
    let third = both (fixture_at number t) _ b second.second in
    let last = kept (is_below (coordinate first.between) (coordinate second.between)) (between first.between second.between) b (fault LowAboveHigh number) third.second in
    subst (λ (x : Block3). is_block x ≡ true) last.is
    (and_from _ _ (and_from _ _ (point_near _ _ _ _ first.first) (point_near _ _ _ _ second.first)) last.held)

record AreBlocks (n : ℕ) (bs : List Block3) : Type 0 where
  each : list_all is_block bs ≡ true
  many : length bs ≡ n

blocks_valid : (number : ℕ) (ds : Items) (bs : List Block3) → blocks_from number ds ≡ Ok bs → AreBlocks (count ds) bs
unfolding blocks_from block_of
blocks_valid number no_items bs e =
    let is : [] ≡ bs = (let h : Ok [] ≡ Ok bs = e in cc) in
    subst (λ (x : List Block3). AreBlocks 0 x) is (record { each = refl; many = refl })
blocks_valid number (item d ds) bs e =
    let first = both (block_of number d) _ bs e in
    let second = both (blocks_from (number + 1) ds) _ bs first.second in
    let is : first.between ∷ second.between ≡ bs = (let h : Ok (first.between ∷ second.between) ≡ Ok bs = second.second in cc) in
    let others = blocks_valid (number + 1) ds second.between second.first in
    subst (λ (x : List Block3). AreBlocks (suc (count ds)) x) is (record {
      each = and_from _ _ (block_valid number (as_table d) first.between first.first) others.each;
      many = ap suc others.many;
    })

record AreFew (bs : List Block3) : Type 0 where
  each : list_all is_block bs ≡ true
  few : length bs ≤ 4096

not_more : (n : ℕ) (test : Bool) (r : Result (List Block3) PartFault) (bs : List Block3) → nat_lt 4096 n ≡ test → (if test then Err (fault TooManyBlocks 0) else r) ≡ Ok bs → (n ≤ 4096) × (r ≡ Ok bs)
not_more n true r bs t e = absurd (let no : Err (fault TooManyBlocks 0) ≡ Ok bs = e in cc)
not_more n false r bs t e = (grind arith, e)

few_at : (t : Members) (bs : List Block3) → blocks_at t ≡ Ok bs → AreFew bs
unfolding blocks_at
few_at t bs e =
    let first = both (rows_of (get_member (codes "block") t)) _ bs e in
    let second = not_more (count first.between) (nat_lt 4096 (count first.between)) (blocks_from 1 first.between) bs refl first.second in
    let all = blocks_valid 1 first.between bs second.1 in
    record { each = all.each; few = (let few = second.0 in let many = all.many in omega arith) }

table_valid : (t : Members) (part : Workpiece) → part_of_table t ≡ Ok part → IsValid part
unfolding part_of_table
table_valid t part e =
    let low = both (point_at (codes "low") 0 t) _ part e in
    let high = both (point_at (codes "high") 0 t) _ part low.second in
    let home = both (point_at (codes "home") 0 t) _ part high.second in
    let tip = both (tip_at t) _ part home.second in
    let blocks = both_if (is_below (coordinate low.between) (coordinate high.between))
    (blocks_at t >>= assembled (bounds_of low.between high.between home.between tip.between)) (fault LowAboveHigh 0) part tip.second in
    let some = both (blocks_at t) _ part blocks in
    let few = few_at t some.between some.first in
    let bounds = bounds_of low.between high.between home.between tip.between in
    let last = kept (is_clear bounds some.between) (record { bounds = bounds; blocks = some.between }) part (fault HomeNotClear 0) some.second in
    let clear = and_parts _ _ last.held in
    subst (λ (x : Workpiece). IsValid x) last.is (record {
      low = point_near _ _ _ _ low.first;
      high = point_near _ _ _ _ high.first;
      home = clear.0;
      tip = tip_small t tip.between tip.first;
      few = few.few;
      each = few.each;
      clear = clear.1;
    })
  where
    both_if : (test : Bool) (r : Result Workpiece PartFault) (x : PartFault) (part : Workpiece) → (if test then r else Err x) ≡ Ok part → r ≡ Ok part
    both_if true r x part e = e
    both_if false r x part e = absurd (let no : Err x ≡ Ok part = e in cc)

document_valid : (o : Option Members) (part : Workpiece) → part_of_document o ≡ Ok part → IsValid part
document_valid None part e = absurd (let no : Err (fault NotToml 0) ≡ Ok part = e in cc)
document_valid (Some t) part e = table_valid t part e

pub part_valid : (bytes : List ℕ) (part : Workpiece) → part_of bytes ≡ Ok part → IsValid part
unfolding part_of
part_valid bytes part e = by (is_utf8 bytes) e
  where
    by : (test : Bool) → (if test then part_of_document (parse_document bytes) else Err (fault NotToml 0)) ≡ Ok part → IsValid part
    by true h = document_valid (parse_document bytes) part h
    by false h = absurd (let no : Err (fault NotToml 0) ≡ Ok part = h in cc)
