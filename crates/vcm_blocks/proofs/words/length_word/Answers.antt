use Rattle.std.proofs.Common.{rules, ◌≡◌, pos, w64, FitsSigned, to_z-of_z}
use Rattle.vcm_blocks.proofs.Numbers.{same_length, not_below_one}
use Rattle.vcm_blocks.proofs.words.length_word.Goals as goal

pub returns-in_err-length-clause-none : goal.returns-in_err-length-clause-none
returns-in_err-length-clause-none c = λ e n some h. c.millimetres.ensures.none c.in_err-length.was (pos n) h

pub returns-then-length-lt1-clause-none : goal.returns-then-length-lt1-clause-none
returns-then-length-lt1-clause-none c = λ e n some h.
    let fits : FitsSigned w64 c.in_ok-length.length = search rules in
    let is : c.in_ok-length.length ≡ pos n = same_length c.args.word.now c.in_ok-length.length (pos n) c.in_ok-length.ensures.some h in
    not_below_one c.in_ok-length.length n is some (rw (to_z-of_z fits) at c.if-length-lt1.true)
