-- Letters, digits and underscores, in upper case.
use Rattle.std.proofs.Common.{◌≡◌, ◌≤◌, ◌<◌, ℕ, true, List, [], ◌∷◌, length, take, map, refl, sym, ap, subst, ◌∙◌, arith, ◌&&◌}
use Rattle.std.specs.Prelude.{nat_le}
use Rattle.std.specs.List.{list_all}
use Rattle.std.proofs.lemmas.Bool.{and_parts, and_from}
use Rattle.std.proofs.lemmas.List.{length-map, take_all}
use Rattle.vcm_lines.specs.Bytes.{upper}
use Rattle.vcm_items.specs.NameBytes.{is_name_byte, IsName}
use Rattle.vcm_console.specs.Parsing.{may_stand_in_name}

raised_byte : (b : ℕ) → may_stand_in_name b ≡ true → is_name_byte (upper b) ≡ true
raised_byte b e = grind (arith, e)

raised_bytes : (bs : List ℕ) → list_all may_stand_in_name bs ≡ true → list_all is_name_byte (map upper bs) ≡ true
raised_bytes [] e = refl
raised_bytes (b ∷ bs) e =
    let p = and_parts (may_stand_in_name b) (list_all may_stand_in_name bs) e in
    and_from (is_name_byte (upper b)) (list_all is_name_byte (map upper bs)) (raised_byte b p.0) (raised_bytes bs p.1)

sized : (bs : List ℕ) → 0 < length bs → length bs ≤ 16 → (nat_le 1 (length (map upper bs)) && nat_le (length (map upper bs)) 16) ≡ true
sized bs l m = (let n = length-map bs upper in grind (arith, n, l, m))

-- one to sixteen of them are a name then
pub raised_name : (bs : List ℕ) → 0 < length bs → length bs ≤ 16 → list_all may_stand_in_name bs ≡ true → IsName (map upper bs)
raised_name bs l m e =
    and_from (nat_le 1 (length (map upper bs)) && nat_le (length (map upper bs)) 16) (list_all is_name_byte (map upper bs)) (sized bs l m) (raised_bytes bs e)

-- and so is an array's front that they were written to
pub filled_name : (bs own : List ℕ) (i : ℕ) → i ≤ length bs → length bs ≤ i → take i own ≡ map upper (take i bs) → IsName (map upper bs)
    → IsName (take (length bs) own)
filled_name bs own i l m e h =
    let n : i ≡ length bs = omega (arith, l, m) in
    subst IsName
    (sym (ap (λ k. take k own) (sym n) ∙ e ∙ ap (λ k. map upper (take k bs)) n ∙ ap (map upper) (take_all (length bs) bs (omega arith)))) h
