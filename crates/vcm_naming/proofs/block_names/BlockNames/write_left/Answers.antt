use Rattle.std.proofs.Common.{◌≡◌, ◌-◌, Some, None, map, refl, sym, ap, ◌∙◌, [], Vec, ℕ, Global}
use Rattle.std.proofs.lemmas.Option.{slice_get_read, slice_get_past}
use Rattle.vcm_num.proofs.KnownWrites.{appends_nothing}
use Rattle.vcm_report.specs.Printed.{name_at}
use Rattle.vcm_naming.proofs.Texts.{map_at}
use Rattle.vcm_naming.proofs.block_names.BlockNames.write_left.Goals as goal

pub returns-in-Some : goal.returns-in-Some
returns-in-Some g c =
    let there = c.in-Some.ensures.lookup in
    let read = slice_get_read c.deref.result.now _ c.place_of.result c.in-Some.name.now refl there.3.0 there.1 in
    let is : name_at c.args.self.now (c.args.block - 1) ≡ c.deref-in-Some.result.now =
    ap (λ l. name_at l (c.args.block - 1)) (sym (ap (map (λ (v : Vec ℕ Global). v.items)) c.deref.ensures.value ∙ c.self.view_is))
    ∙ ap (name_at (map (λ (v : Vec ℕ Global). v.items) c.deref.result.now)) (sym c.place_of.ensures)
    ∙ map_at (λ (v : Vec ℕ Global). v.items) c.deref.result.now c.place_of.result (Some c.in-Some.name.now) [] read ∙ sym c.deref-in-Some.ensures.value in
    rw is c.write_name.ensures

pub returns-in-None : goal.returns-in-None
returns-in-None g c =
    let there = c.in-None.ensures.lookup in
    let is : name_at c.args.self.now (c.args.block - 1) ≡ [] =
    ap (λ l. name_at l (c.args.block - 1)) (sym (ap (map (λ (v : Vec ℕ Global). v.items)) c.deref.ensures.value ∙ c.self.view_is))
    ∙ ap (name_at (map (λ (v : Vec ℕ Global). v.items) c.deref.result.now)) (sym c.place_of.ensures)
    ∙ map_at (λ (v : Vec ℕ Global). v.items) c.deref.result.now c.place_of.result None [] (slice_get_past c.deref.result.now c.place_of.result there.3) in
    rw is (appends_nothing _)
