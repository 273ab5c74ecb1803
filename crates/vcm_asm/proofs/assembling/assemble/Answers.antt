use Rattle.std.proofs.Common.{◌++◌, length, ap, ◌∙◌, subst}
use Rattle.vcm_code.specs.Valid.{IsValid}
use Rattle.vcm_code.specs.Ranges.{version_for, IsInRange}
use Rattle.vcm_asm.specs.Assembled.{marks, block_code, place_in, flat_code}
use Rattle.vcm_asm.specs.inner.Spelled.{BlockKeeps}
use Rattle.vcm_asm.specs.Simulation.{IsAssembled}
use Rattle.vcm_asm.proofs.Structured.{structured}
use Rattle.vcm_asm.proofs.Whole.{assembled, all_valid, in_range, with_code}
use Rattle.vcm_asm.proofs.assembling.assemble.Goals as goal

pub mark_block-requires-clause-once : goal.mark_block-requires-clause-once
mark_block-requires-clause-once c =
    let program = c.args.program.now.program in
    rw (c.new-numbers.ensures, c.tree-tree.ensures.tree) (structured program c.args.program.now.tables c.tree-tree.ensures.whole).once

pub emit_block-requires-clause-deep : goal.emit_block-requires-clause-deep
emit_block-requires-clause-deep c =
    let program = c.args.program.now.program in
    rw c.tree-tree.ensures.tree (structured program c.args.program.now.tables c.tree-tree.ensures.whole).deep

pub returns-clause-assembled : goal.returns-clause-assembled
returns-clause-assembled c =
    let program = c.args.program.now.program in
    let tree = c.tree-tree.ensures.tree in
    let marked = c.in_ok-mark_block.ensures.marks ∙ ap (λ ms. ms ++ marks c.tree-tree.result.now 0) c.new-numbers.ensures in
    let written =
    c.into_statements-statements.ensures ∙ c.in_ok-emit_block.ensures.code
    ∙ ap (λ l. l ++ block_code (place_in c.mark_block.new.numbers) c.tree-tree.result.now 0 (length l)) c.in_ok-code.ensures
    ∙ ap (λ ms. block_code (place_in ms) c.tree-tree.result.now 0 0) marked
    ∙ ap flat_code tree in
    with_code program c.args.program.now.tables c.tree-tree.ensures.whole (IsAssembled program c.args.program.now.tables) _ _ _
    (c.version_for-version.ensures ∙ ap version_for c.as_slice.ensures) c.in_ok-tables.ensures.tables written
    (assembled program c.args.program.now.tables c.tree-tree.ensures.whole)

pub returns-clause-valid : goal.returns-clause-valid
returns-clause-valid c =
    let program = c.args.program.now.program in
    let tree = c.tree-tree.ensures.tree in
    let marked = c.in_ok-mark_block.ensures.marks ∙ ap (λ ms. ms ++ marks c.tree-tree.result.now 0) c.new-numbers.ensures in
    let written =
    c.into_statements-statements.ensures ∙ c.in_ok-emit_block.ensures.code
    ∙ ap (λ l. l ++ block_code (place_in c.mark_block.new.numbers) c.tree-tree.result.now 0 (length l)) c.in_ok-code.ensures
    ∙ ap (λ ms. block_code (place_in ms) c.tree-tree.result.now 0 0) marked
    ∙ ap flat_code tree in
    with_code program c.args.program.now.tables c.tree-tree.ensures.whole IsValid _ _ _ (c.version_for-version.ensures ∙ ap version_for c.as_slice.ensures) c.in_ok-tables.ensures.tables written
    (all_valid program c.args.program.now.tables c.tree-tree.ensures.whole (subst BlockKeeps tree c.in_ok-emit_block.ensures.keeps))

pub returns-clause-in_range : goal.returns-clause-in_range
returns-clause-in_range c =
    let program = c.args.program.now.program in
    let tree = c.tree-tree.ensures.tree in
    let marked = c.in_ok-mark_block.ensures.marks ∙ ap (λ ms. ms ++ marks c.tree-tree.result.now 0) c.new-numbers.ensures in
    let written =
    c.into_statements-statements.ensures ∙ c.in_ok-emit_block.ensures.code
    ∙ ap (λ l. l ++ block_code (place_in c.mark_block.new.numbers) c.tree-tree.result.now 0 (length l)) c.in_ok-code.ensures
    ∙ ap (λ ms. block_code (place_in ms) c.tree-tree.result.now 0 0) marked
    ∙ ap flat_code tree in
    let few = c.in_ok-tables.ensures.variables in
    with_code program c.args.program.now.tables c.tree-tree.ensures.whole IsInRange _ _ _ (c.version_for-version.ensures ∙ ap version_for c.as_slice.ensures) c.in_ok-tables.ensures.tables written
    (in_range program c.args.program.now.tables c.tree-tree.ensures.whole few c.in_ok-tables.ensures.features c.in_ok-tables.ensures.frames (subst BlockKeeps tree c.in_ok-emit_block.ensures.keeps))
