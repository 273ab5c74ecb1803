use Rattle.std.proofs.Common.{sym, ap, ◌∙◌}
use Rattle.std.specs.Option.{option_copied}
use Rattle.vcm_asm.specs.Assembled.{place_in}
use Rattle.vcm_asm.proofs.Numbering.{found, not_found}
use Rattle.vcm_asm.proofs.numbers.Numbers.place_of.Goals as goal

pub returns-in-Some : goal.returns-in-Some
returns-in-Some c =
    found c.self.inside.map.entries c.args.label.now c.in-Some.number.now (ap option_copied (sym c.in-Some.is) ∙ c.get.ensures.value)
    ∙ ap (λ ms. place_in ms c.args.label.now) c.self.view_is

pub returns-in-None : goal.returns-in-None
returns-in-None c =
    not_found c.self.inside.map.entries c.args.label.now (ap option_copied (sym c.in-None.is) ∙ c.get.ensures.value)
    ∙ ap (λ ms. place_in ms c.args.label.now) c.self.view_is
