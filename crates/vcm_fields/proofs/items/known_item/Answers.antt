use Rattle.std.proofs.Common.{ℕ, List, sym, ap, ◌∙◌}
use Rattle.vcm_fields.specs.declared.items.Tag.{Tag}
use Rattle.vcm_fields.specs.Spelling.{tag_byte}
use Rattle.vcm_fields.specs.Readers.{all_tags, behind_tag}
use Rattle.vcm_fields.proofs.Taking.{never_fails, gives_it, byte_there, one_is, one_there, item_is, item_of}
use Rattle.vcm_fields.proofs.items.known_item.Goals as goal

pub known_byte-number-requires : goal.known_byte-number-requires
known_byte-number-requires c =
    let p = item_is _ _ _ c.requires.2 in
    let q = one_is tag_byte all_tags _ _ _ p.2 in
    byte_there _ _ q.2

pub known-requires : goal.known-requires
known-requires c =
    let p = item_is _ _ _ c.requires.2 in
    never_fails _ _ _ _ (c.tag_with.ensures c.known_byte-number.result.1.now) (one_there tag_byte all_tags _ _ _ _ _ p.2 c.known_byte-number.ensures)

pub known_behind-requires : goal.known_behind-requires
known_behind-requires c =
    let p = item_is _ _ _ c.requires.2 in
    let there = one_there tag_byte all_tags _ _ _ _ _ p.2 c.known_byte-number.ensures in
    let same = gives_it _ _ _ _ _ (c.tag_with.ensures c.known_byte-number.result.1.now) there c.known.ensures in
    (c.requires.0, c.requires.1, ap (λ (x : Tag × List ℕ). behind_tag x.0 x.1) same ∙ p.3, tt)

pub returns : goal.returns
returns c =
    let p = item_is _ _ _ c.requires.2 in
    let there = one_there tag_byte all_tags _ _ _ _ _ p.2 c.known_byte-number.ensures in
    let same = gives_it _ _ _ _ _ (c.tag_with.ensures c.known_byte-number.result.1.now) there c.known.ensures in
    item_of _ _ _ p.2 ∙ sym (ap (λ (x : Tag × List ℕ). behind_tag x.0 x.1) same) ∙ c.known_behind.ensures
