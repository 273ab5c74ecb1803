use Rattle.std.proofs.Common.{arith, ◌≡◌, ◌<◌, ◌≤◌, ◌++◌, ◌/◌, ℕ, List, length, length-append}
use Rattle.std.specs.Fmt.{decimal}
use Rattle.std.proofs.lemmas.Fmt.{length-decimal-le}
use Rattle.vcm_num.proofs.text.size_text.Goals as goal

pub write_digits-start-requires : goal.write_digits-start-requires
write_digits-start-requires c = (length-decimal-le 20 (c.args.size / 1000) (omega arith) (omega arith) (omega arith), omega arith)

fits : (all digits rest : List ℕ) → all ≡ digits ++ rest → length digits ≤ 17 → length rest ≤ 4 → length all < 24
fits all digits rest e h k = rw e (omega (arith, length-append digits rest))

pub returns-clause-room : goal.returns-clause-room
returns-clause-room c =
    fits _ (decimal (c.args.size / 1000)) _ c.write_digits-start.ensures.written (length-decimal-le 17 (c.args.size / 1000) (omega arith) (omega arith) (omega arith)) (omega arith)
