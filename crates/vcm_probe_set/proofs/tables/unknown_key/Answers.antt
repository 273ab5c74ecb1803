use Rattle.std.proofs.Common.{◌≡◌, true, false, map, rules}
use Rattle.std.specs.List.{list_any}
use Rattle.std.specs.Str.{bytes_eq}
use Rattle.std.proofs.lemmas.Map.Iter.{rest_more}
use Rattle.std.specs.Map.Iter.{deref_pair}
use Rattle.vcm_boxes.proofs.Rows.{key_found, key_known}
use Rattle.vcm_probe_set.proofs.tables.unknown_key.Goals as goal

pub returns-then-not-is_one_of : goal.returns-then-not-is_one_of
returns-then-not-is_one_of c =
    let left = rest_more deref_pair _ _ _ _ c.in-Some.is c.next.ensures.steps in
    let other : list_any (λ k. bytes_eq k c.as_bytes.result.now) (map (λ k. k.now) c.args.known.now) ≡ false = search rules in
    rw c.as_str.ensures.value (key_found _ _ _ _ _ left c.loop-key.invariant.2 (rw c.as_bytes.ensures.value at other))

pub loop-key-preserved : goal.loop-key-preserved
loop-key-preserved c =
    let left = rest_more deref_pair _ _ _ _ c.in-Some.is c.next.ensures.steps in
    let known : list_any (λ k. bytes_eq k c.as_bytes.result.now) (map (λ k. k.now) c.args.known.now) ≡ true = search rules in
    (tt, tt, key_known _ _ _ _ _ left c.loop-key.invariant.2 (rw c.as_bytes.ensures.value at known))
