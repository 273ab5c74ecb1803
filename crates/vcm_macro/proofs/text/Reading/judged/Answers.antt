use Rattle.std.proofs.Common.{refl, sym, ◌∙◌}
use Rattle.vcm_macro.specs.inner.Reading.{with_current}
use Rattle.vcm_macro.proofs.Texts.{inside_read, end_read, both_ok}
use Rattle.vcm_macro.proofs.text.Reading.judged.Goals as goal

pub returns-then-is_macro_end : goal.returns-then-is_macro_end
returns-then-is_macro_end c =
    both_ok c.close.result (λ macros others. end_read (with_current c.args.current c.args.self.now) c.close.new.self c.args.current c.args.statement refl
    c.requires.fine (sym c.if-is_macro_end.ensures)
    macros (others.0 ∙ c.requires.shut) others.1 others.2) c.close.ensures.macros c.close.ensures.others

pub returns-else-is_macro_end : goal.returns-else-is_macro_end
returns-else-is_macro_end c =
    both_ok c.grow.result (λ current others. inside_read (with_current c.args.current c.args.self.now) c.grow.new.self c.args.current c.args.statement refl
    c.requires.fine (sym c.if-is_macro_end.ensures)
    others.0 current others.1 others.2) c.grow.ensures.current c.grow.ensures.others
