use Rattle.std.proofs.Common.{sym, ◌∙◌, subst, arith, [], ◌≡◌}
use Rattle.vcm_fields.specs.inner.Slices.{items_in, AreItems}
use Rattle.vcm_fields.specs.Readers.{item_at}
use Rattle.vcm_fields.proofs.Parts.{slice_first, slice_none, First-read}
use Rattle.vcm_fields.proofs.slices.ItemSlice.split_first.Goals as goal

pub returns-then-self-eq0 : goal.returns-then-self-eq0
returns-then-self-eq0 c =
    sym c.self.view_is ∙ subst (λ n. AreItems n c.self.inside.bytes.now → items_in n c.self.inside.bytes.now ≡ []) (sym c.if-self-eq0.true) (slice_none item_at _) c.self.invariant

pub invariant_of-others : goal.invariant_of-others
invariant_of-others c = (First-read item_at _ _ _ _ (slice_first item_at _ _ c.self.invariant (omega (arith, c.if-self-eq0.false))) c.known_item-first.ensures).0

pub known_item-first-requires : goal.known_item-first-requires
known_item-first-requires c = let f = slice_first item_at _ _ c.self.invariant (omega (arith, c.if-self-eq0.false)) in (f.value, f.after, f.read, tt)

pub returns : goal.returns
returns c = sym c.self.view_is ∙ (First-read item_at _ _ _ _ (slice_first item_at _ _ c.self.invariant (omega (arith, c.if-self-eq0.false))) c.known_item-first.ensures).1
