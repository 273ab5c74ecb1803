use Rattle.std.proofs.Common.{◌-◌, length, sym, ap, ◌∙◌, arith}
use Rattle.vcm_lines.proofs.PartLemmas.{length-lexemes, part-lexemes}
use Rattle.vcm_lines.proofs.phrase.Phrase.part.Goals as goal

pub between-requires : goal.between-requires
between-requires c =
    let size = ap length (sym c.self.view_is) ∙ length-lexemes c.self.inside.text.now c.self.inside.words.now in
    (c.requires.0, omega (arith, c.requires.1, size))

pub returns : goal.returns
returns c = rw c.between.ensures (part-lexemes c.self.inside.text.now c.args.from (c.args.to - c.args.from) c.self.inside.words.now c.args.self.now c.self.view_is)
