use Rattle.std.proofs.Common.{sym, ◌∙◌}
use Rattle.vcm_words.specs.Items.{item_in}
use Rattle.vcm_words.proofs.SliceLaws.{left_false, view_false, some_value, last_some, more_some, last_value, more_left, more_values}
use Rattle.vcm_words.proofs.slices.ItemWords.split_first.Goals as goal

pub unreachable-requires : goal.unreachable-requires
unreachable-requires c =
    last_some 93 (item_in c.self.inside.exact) _ _ _ _ (left_false _ _ _ _ c.if-self.false c.self.invariant) c.in-Some.ensures c.in-Some-before_end.ensures (sym c.item.ensures ∙ c.in-None-item.is)

pub invariant_of-result-in-Some-item-2 : goal.invariant_of-result-in-Some-item-2
invariant_of-result-in-Some-item-2 c =
    more_left 93 (item_in c.self.inside.exact) _ _ _ _ (left_false _ _ _ _ c.if-self.false c.self.invariant) c.in-Some.ensures c.in-None-before_end.ensures
    (sym c.item-in-None-before_end.ensures ∙ c.in-Some-item-2.is)

pub unreachable-requires-in-None-item-2 : goal.unreachable-requires-in-None-item-2
unreachable-requires-in-None-item-2 c =
    more_some 93 (item_in c.self.inside.exact) _ _ _ (left_false _ _ _ _ c.if-self.false c.self.invariant) c.in-Some.ensures c.in-None-before_end.ensures
    (sym c.item-in-None-before_end.ensures ∙ c.in-None-item-2.is)

pub unreachable-requires-in-None : goal.unreachable-requires-in-None
unreachable-requires-in-None c = some_value 93 (item_in c.self.inside.exact) _ (left_false _ _ _ _ c.if-self.false c.self.invariant) c.in-None.ensures

pub returns-in-Some-item : goal.returns-in-Some-item
returns-in-Some-item c =
    sym c.self.view_is ∙ view_false 93 (item_in c.self.inside.exact) _ _ c.if-self.false
    ∙ last_value 93 (item_in c.self.inside.exact) _ _ _ _ _ c.in-Some.ensures c.in-Some-before_end.ensures (sym c.item.ensures ∙ c.in-Some-item.is)

pub returns-in-Some-item-2 : goal.returns-in-Some-item-2
returns-in-Some-item-2 c =
    sym c.self.view_is ∙ view_false 93 (item_in c.self.inside.exact) _ _ c.if-self.false
    ∙ more_values 93 (item_in c.self.inside.exact) _ _ _ _ (left_false _ _ _ _ c.if-self.false c.self.invariant) c.in-Some.ensures c.in-None-before_end.ensures
    (sym c.item-in-None-before_end.ensures ∙ c.in-Some-item-2.is)
