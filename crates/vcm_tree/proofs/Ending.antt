-- The end of the walk: the labels that were met are those of the program.
use Rattle.std.proofs.Common.{◌≡◌, [], List, Option, sym, ap, ◌∙◌}
use Rattle.std.specs.Prelude.{IsTrue}
use Rattle.std.proofs.lemmas.List.{take_all}
use Rattle.vcm_macro.specs.declared.placed.Placed.{Placed}
use Rattle.vcm_tree.specs.declared.selection.Selection.{Selection}
use Rattle.vcm_tree.specs.declared.taking.Progress.{Progress}
use Rattle.vcm_tree.specs.Ended.{is_ended}
use Rattle.vcm_nodes.specs.Jumps.{labels_of}
use Rattle.vcm_tree.specs.Blocks.{Behind}
use Rattle.vcm_tree.specs.Resolving.{behind_all, start}
use Rattle.vcm_tree.specs.inner.Taking.{behind_with}
use Rattle.vcm_tree.specs.inner.Walking.{IsWalked}
use Rattle.vcm_tree.proofs.Walking.{drop_nil, walk_ends}
use Rattle.vcm_tree.proofs.Written.{sentence_labels, sentences_marks}
use Rattle.vcm_tree.proofs.Meant.{labels_all}

pub walk_labels : (all : List Placed) (p : Progress) (waits : Option Selection) → IsTrue (is_ended all) → IsWalked all p waits [] → p.labels ≡ labels_of p.builder.block
walk_labels all p waits last w =
    let parsed = walk_ends [] all p waits last w in
    let whole : behind_with p waits ≡ behind_all start all = w.behind ∙ ap (behind_all start) (take_all w.place all (drop_nil w.place all w.left)) in
    ap (λ (b : Behind). b.labels) whole ∙ labels_all start all ∙ ap sentence_labels (sym parsed.program) ∙ sentences_marks p.builder.block
