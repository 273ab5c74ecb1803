-- Slabs one after the other, as loops count and write them.
use Rattle.std.proofs.Common.{◌≡◌, ℕ, suc, ◌+◌, ◌-◌, ◌<◌, ◌≤◌, List, [], ◌∷◌, ◌++◌, length, pos, refl, sym, ap, ◌∙◌, arith, append_assoc, append-nil, length-append}
use Rattle.std.specs.Prelude.{flat_map}
use Rattle.std.specs.Option.{option_to_list}
use Rattle.std.proofs.lemmas.List.Concat.{flat_map-append}
use Rattle.vcm_hardware.specs.declared.cylinder.Slabs.{Slabs}
use Rattle.vcm_hardware.specs.declared.swing.Swing.{Swing}
use Rattle.vcm_hardware.specs.Slabs.{slab_of, slabs_behind}
use Rattle.vcm_hardware.specs.Swings.{swing_slab, swing_behind}
use Rattle.vcm_hardware.specs.ProbeFile.{blocks_text, own_text, swing_box_text}

slab_more : (c : Slabs) (i n : ℕ) → i < n → slabs_behind c i (n - i) ≡ option_to_list (slab_of c i) ++ slabs_behind c (i + 1) (n - (i + 1))
unfolding slabs_behind
slab_more c i n h = let e : n - i ≡ suc (n - (i + 1)) = omega arith in rw e refl

slab_none : (c : Slabs) (i n : ℕ) → n ≤ i → slabs_behind c i (n - i) ≡ []
unfolding slabs_behind
slab_none c i n h = let e : n - i ≡ 0 = omega arith in rw e refl

pub counted_more : (c : Slabs) (i n k r total : ℕ) → i < n → k + length (slabs_behind c i (n - i)) ≡ total → r ≡ length (option_to_list (slab_of c i))
    → (k + r) + length (slabs_behind c (i + 1) (n - (i + 1))) ≡ total
counted_more c i n k r total h so_far one =
    let more : length (slabs_behind c i (n - i)) ≡ length (option_to_list (slab_of c i)) + length (slabs_behind c (i + 1) (n - (i + 1))) =
    rw (slab_more c i n h) (length-append (option_to_list (slab_of c i)) (slabs_behind c (i + 1) (n - (i + 1)))) in
    omega (arith, more, so_far, one)

pub counted_all : (c : Slabs) (i n k total : ℕ) → n ≤ i → k + length (slabs_behind c i (n - i)) ≡ total → k ≡ total
counted_all c i n k total h so_far =
    let none : length (slabs_behind c i (n - i)) ≡ 0 = rw (slab_none c i n h) refl in
    omega (arith, none, so_far)

pub put_more : (c : Slabs) (name : List ℕ) (i n : ℕ) (o q total : List ℕ) → i < n → o ++ blocks_text name (slabs_behind c i (n - i)) ≡ total
    → q ≡ o ++ blocks_text name (option_to_list (slab_of c i)) → q ++ blocks_text name (slabs_behind c (i + 1) (n - (i + 1))) ≡ total
put_more c name i n o q total h so_far one =
    let rest = slabs_behind c (i + 1) (n - (i + 1)) in
    let more : blocks_text name (slabs_behind c i (n - i)) ≡ blocks_text name (option_to_list (slab_of c i)) ++ blocks_text name rest =
    ap (blocks_text name) (slab_more c i n h) ∙ flat_map-append (own_text name) (option_to_list (slab_of c i)) rest in
    ap (λ l. l ++ blocks_text name rest) one ∙ append_assoc o (blocks_text name (option_to_list (slab_of c i))) (blocks_text name rest)
    ∙ ap (λ l. o ++ l) (sym more) ∙ so_far

pub put_all : (c : Slabs) (name : List ℕ) (i n : ℕ) (o total : List ℕ) → n ≤ i → o ++ blocks_text name (slabs_behind c i (n - i)) ≡ total → o ≡ total
put_all c name i n o total h so_far =
    sym (append-nil o) ∙ ap (λ l. o ++ blocks_text name l) (sym (slab_none c i n h)) ∙ so_far

swing_step : (w : Swing) (i : ℕ) → i < 16 → swing_behind w i (16 - i) ≡ swing_slab w (pos i) ∷ swing_behind w (i + 1) (16 - (i + 1))
unfolding swing_behind
swing_step w i h = let e : 16 - i ≡ suc (16 - (i + 1)) = omega arith in rw e refl

swing_none : (w : Swing) (i : ℕ) → 16 ≤ i → swing_behind w i (16 - i) ≡ []
unfolding swing_behind
swing_none w i h = let e : 16 - i ≡ 0 = omega arith in rw e refl

pub swing_more : (w : Swing) (i : ℕ) (o q total : List ℕ) → i < 16 → o ++ flat_map swing_box_text (swing_behind w i (16 - i)) ≡ total
    → q ≡ o ++ swing_box_text (swing_slab w (pos i)) → q ++ flat_map swing_box_text (swing_behind w (i + 1) (16 - (i + 1))) ≡ total
swing_more w i o q total h so_far one =
    let rest = flat_map swing_box_text (swing_behind w (i + 1) (16 - (i + 1))) in
    ap (λ l. l ++ rest) one ∙ append_assoc o (swing_box_text (swing_slab w (pos i))) rest
    ∙ ap (λ l. o ++ flat_map swing_box_text l) (sym (swing_step w i h)) ∙ so_far

pub swing_all : (w : Swing) (i : ℕ) (o total : List ℕ) → 16 ≤ i → o ++ flat_map swing_box_text (swing_behind w i (16 - i)) ≡ total → o ≡ total
swing_all w i o total h so_far = sym (append-nil o) ∙ ap (λ l. o ++ flat_map swing_box_text l) (sym (swing_none w i h)) ∙ so_far
