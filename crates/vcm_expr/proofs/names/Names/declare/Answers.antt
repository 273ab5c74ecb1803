use Rattle.std.proofs.Common.{◌<◌, length, not, ap, sym, ◌∙◌, subst}
use Rattle.std.specs.Prelude.{map}
use Rattle.std.proofs.lemmas.List.{map-append}
use Rattle.vcm_items.specs.Names.{variable_in}
use Rattle.vcm_items.specs.NameBytes.{IsVariableName}
use Rattle.indexmap.proofs.CallerLemmas.{insert_entry-new}
use Rattle.vcm_items.proofs.NameLemmas.{lookup_named, lookup_none, one_more}
use Rattle.vcm_expr.proofs.names.Names.declare.Goals as goal

pub returns-then-contains_key-clause-new : goal.returns-then-contains_key-clause-new
returns-then-contains_key-clause-new c =
    rw (← c.self.view_is, ← c.into_name.ensures.is)
    (ap not (sym (sym (lookup_named _ _ c.self.inside.variables.entries) ∙ sym c.contains_key.ensures ∙ c.if-contains_key.true)))

pub returns-clause-new : goal.returns-clause-new
returns-clause-new c = rw (← c.self.view_is, ← c.into_name.ensures.is) (ap not (sym (sym (lookup_named _ _ c.self.inside.variables.entries) ∙ sym c.contains_key.ensures ∙ c.if-contains_key.false)))

pub returns-clause-added : goal.returns-clause-added
returns-clause-added c =
    let added = c.in_ok-insert.ensures.entries
    ∙ insert_entry-new _ c.self.inside.variables _ _ (lookup_none _ c.self.inside.variables.entries (sym c.contains_key.ensures ∙ c.if-contains_key.false))
    in
    rw (← c.self.view_is, ← c.into_name.ensures.is) (ap (map variable_in) added ∙ map-append variable_in c.self.inside.variables.entries _)

pub invariant_of-self-2 : goal.invariant_of-self-2
invariant_of-self-2 c =
    let added = c.in_ok-insert.ensures.entries
    ∙ insert_entry-new _ c.self.inside.variables _ _ (lookup_none _ c.self.inside.variables.entries (sym c.contains_key.ensures ∙ c.if-contains_key.false))
    in
    let room = subst (λ vs. length vs < 4096) (sym c.self.view_is) c.requires in
    let letter = subst IsVariableName (sym c.into_name.ensures.is) c.into_name.ensures.letter in
    rw added (one_more _ _ room c.self.invariant.1 letter)
