-- A program that statements are read as is whole.
use Rattle.std.proofs.Common.{◌≡◌, ◌≤◌, List, [], length, sym, ap, ◌∙◌, subst, arith}
use Rattle.std.specs.Prelude.{IsTrue}
use Rattle.std.specs.List.{filter}
use Rattle.std.proofs.lemmas.List.{append-nil}
use Rattle.vcm_spec.specs.Phase.{IsClean}
use Rattle.vcm_spec.specs.Setup.{Tables}
use Rattle.vcm_spec.specs.Program.{sizes}
use Rattle.vcm_items.specs.Names.{AreNamed}
use Rattle.vcm_forms.specs.declared.statement.Statement.{Statement}
use Rattle.vcm_macro.specs.declared.placed.Placed.{Placed}
use Rattle.vcm_forms.specs.Statements.{is_counted}
use Rattle.vcm_tree.specs.Ended.{is_ended}
use Rattle.vcm_nodes.specs.Jumps.{labels_of, jumps_of, BreaksJumps}
use Rattle.vcm_tree.specs.Sentences.{Sentence, sentences}
use Rattle.vcm_tree.specs.Resolving.{behind_all, start, BreaksNames}
use Rattle.vcm_program.specs.Program.{Parsed, IsWhole, AreDistinct}
use Rattle.vcm_tree.specs.Program.{IsParsed, tables_of}
use Rattle.vcm_tree.proofs.Walking.{all_mean}
use Rattle.vcm_tree.proofs.Written.{sentence_labels, SentencesNest, SentencesFit, ends_last, sentences_length, sentences_marks, sentences_nests, closed_last, sentences_fit}
use Rattle.vcm_tree.proofs.Meant.{labels_all, counted_all, few_sentences, last_ends, distinct_all, nest_all}
use Rattle.vcm_tree.proofs.Fitted.{fit_all}

pub parsed_whole : (ss : List Statement) (all : List Placed) (p : Parsed) → IsTrue (is_ended all) → length all ≤ 20000 → IsClean BreaksNames all
    → IsParsed ss all p → AreNamed (behind_all start all).variables
    → IsClean (BreaksJumps (labels_of p.program)) (jumps_of p.program) → IsWhole p.program p.tables
parsed_whole ss all p last few clean is named jumps =
    let mean = all_mean [] all clean in
    let short = few_sentences start all in
    let long = sym (sentences_length p.program) ∙ ap (λ (l : List Sentence). length l) is.program in
    let fits = subst (λ l. SentencesFit (tables_of (behind_all start all)) l) (sym is.program) (fit_all all) in
    let nests = subst (SentencesNest 0) (sym (append-nil (sentences p.program) ∙ is.program)) (nest_all start all mean) in
    let labels = labels_all start all ∙ ap sentence_labels (sym is.program) ∙ sentences_marks p.program in
    record {
      closed = sym (closed_last p.program) ∙ ap ends_last is.program ∙ last_ends start all last mean;
      few = omega (arith, short, long, few);
      fits = sentences_fit p.tables p.program (subst (λ n. SentencesFit n (sentences p.program)) (sym is.tables) fits);
      named = subst (λ (n : Tables). AreNamed n.variables) (sym is.tables) named;
      nested = (sentences_nests p.program 0 [] nests).0;
      once = subst AreDistinct labels (distinct_all start all mean tt);
      jumps = jumps;
    }

pub parsed_counted : (ss : List Statement) (all : List Placed) (p : Parsed) → IsClean BreaksNames all → IsParsed ss all p → sizes p.program ≡ length (filter (λ s. is_counted s.statement.form) all)
parsed_counted ss all p clean is = sym (sentences_length p.program) ∙ ap (λ (l : List Sentence). length l) is.program ∙ counted_all start all (all_mean [] all clean)
