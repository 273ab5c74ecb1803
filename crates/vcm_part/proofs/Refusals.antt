-- No refusal of a part file is want of memory.
use Rattle.std.proofs.Common.{◌≡◌, ◌≢◌, ℕ, ◌+◌, ℤ, pos, ◌&&◌, Bool, List, Option, Some, None, Ok, Err}
use Rattle.std.specs.Prelude.{codes, nat_lt, int_le, unsigned_abs}
use Rattle.std.specs.Option.{option_and_then}
use Rattle.std.specs.Str.{is_utf8}
use Rattle.toml.specs.Data.{Data, Items, no_items, item, Members, get_member, as_integer, as_bool, as_table, as_array}
use Rattle.toml.specs.Parse.{parse_document}
use Rattle.vcm_num.specs.declared.point.Point.{Point}
use Rattle.vcm_num.specs.Point.{coordinate, is_below, is_near}
use Rattle.vcm_part.specs.declared.fault.PartCode.TheVariants.{NoMemory, OutOfRange}
use Rattle.vcm_part.specs.declared.fault.PartFault.{PartFault}
use Rattle.vcm_part.specs.Faults.{fault}
use Rattle.vcm_part.specs.PartFile.{near_point, point_at, point_of, small_length, tip_of, tip_at, are_tables, count, table_rows, rows_of, truth_of, fixture_of, fixture_at, block_in, block_of}
use Rattle.vcm_part.specs.PartFile.{blocks_from, blocks_at, is_clear, bounds_of, part_of_table, part_of_document, part_of}
use Rattle.vcm_part.proofs.Steps.{TakesNone, then_none, if_none, none_of}

near_none : (number : ℕ) (o : Option Point) → TakesNone (near_point number o)
near_none number None = λ e. cc
near_none number (Some p) = if_none (is_near p) (Ok p) (Err (fault OutOfRange number)) tt (λ e. cc)

point_none : (key : List ℕ) (number : ℕ) (t : Members) → TakesNone (point_at key number t)
unfolding point_at
point_none key number t = near_none number (option_and_then point_of (get_member key t))

length_none : (o : Option ℤ) → TakesNone (small_length o)
length_none None = λ e. cc
length_none (Some z) = if_none (int_le (pos 0) z && int_le z (pos 50000)) (Ok (unsigned_abs z)) (Err (fault OutOfRange 0)) tt (λ e. cc)

tip_of_none : (o : Option Data) → TakesNone (tip_of o)
tip_of_none None = tt
tip_of_none (Some d) = length_none (as_integer d)

tip_none : (t : Members) → TakesNone (tip_at t)
unfolding tip_at
tip_none t = tip_of_none (get_member (codes "tip") t)

truth_none : (number : ℕ) (o : Option Bool) → TakesNone (truth_of number o)
truth_none number None = λ e. cc
truth_none number (Some b) = tt

fixture_of_none : (number : ℕ) (o : Option Data) → TakesNone (fixture_of number o)
fixture_of_none number None = tt
fixture_of_none number (Some d) = truth_none number (as_bool d)

fixture_none : (number : ℕ) (t : Members) → TakesNone (fixture_at number t)
unfolding fixture_at
fixture_none number t = fixture_of_none number (get_member (codes "fixture") t)

block_none : (number : ℕ) (o : Option Members) → TakesNone (block_in number o)
block_none number None = λ e. cc
block_none number (Some t) =
    then_none _ _ (point_none (codes "low") number t) (λ low. then_none _ _ (point_none (codes "high") number t) (λ high. then_none _ _ (fixture_none number t) (λ f. if_none (is_below (coordinate low) (coordinate high)) _ _ tt (λ e. cc))))

blocks_none : (number : ℕ) (ds : Items) → TakesNone (blocks_from number ds)
unfolding blocks_from block_of
blocks_none number no_items = tt
blocks_none number (item d ds) = then_none _ _ (block_none number (as_table d)) (λ first. then_none _ _ (blocks_none (number + 1) ds) (λ others. tt))

rows_none : (o : Option Items) → TakesNone (table_rows o)
rows_none None = λ e. cc
rows_none (Some ds) = if_none (are_tables ds) _ _ tt (λ e. cc)

rows_of_none : (o : Option Data) → TakesNone (rows_of o)
rows_of_none None = tt
rows_of_none (Some d) = rows_none (as_array d)

at_none : (t : Members) → TakesNone (blocks_at t)
unfolding blocks_at
at_none t = then_none _ _ (rows_of_none (get_member (codes "block") t)) (λ rows. if_none (nat_lt 4096 (count rows)) _ _ (λ e. cc) (blocks_none 1 rows))

table_none : (t : Members) → TakesNone (part_of_table t)
unfolding part_of_table
table_none t =
    then_none _ _ (point_none (codes "low") 0 t)
    (λ low. then_none _ _ (point_none (codes "high") 0 t)
    (λ high. then_none _ _ (point_none (codes "home") 0 t)
    (λ home. then_none _ _ (tip_none t)
    (λ tip. if_none (is_below (coordinate low) (coordinate high)) _ _
    (then_none _ _ (at_none t) (λ blocks. if_none (is_clear (bounds_of low high home tip) blocks) _ _ tt (λ e. cc)))
    (λ e. cc)))))

document_none : (o : Option Members) → TakesNone (part_of_document o)
document_none None = λ e. cc
document_none (Some t) = table_none t

pub part_none : (bytes : List ℕ) (e : PartFault) → part_of bytes ≡ Err e → e.code ≢ NoMemory
unfolding part_of
part_none bytes e h = none_of _ e (if_none (is_utf8 bytes) _ _ (document_none (parse_document bytes)) (λ e. cc)) h
