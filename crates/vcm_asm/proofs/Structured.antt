-- What is known of the labels, jumps and loops of a whole program.
use Rattle.std.proofs.Common.{◌≡◌, ℕ, suc, ◌+◌, ◌≤◌, Bool, true, false, List, [], ◌∷◌, ◌++◌, refl, sym, ap, ◌∙◌, subst, arith}
use Rattle.std.specs.Prelude.{IsTrue, not, ◌||◌, map}
use Rattle.std.proofs.lemmas.List.{map-append}
use Rattle.vcm_spec.specs.Setup.{Tables}
use Rattle.vcm_spec.specs.Program.{Label, Node, Block, Cases, simple, label, jump, choice, choice_else, do_loop, meas, select, ending, done, then, no_more}
use Rattle.vcm_spec.specs.Program.{one_case, default, size, sizes, is_same_label}
use Rattle.vcm_spec.specs.Whole.{Jumps}
use Rattle.vcm_spec.proofs.Labels.{label_itself}
use Rattle.vcm_nodes.specs.Jumps.{is_among, node_labels, labels_of, labels_among}
use Rattle.vcm_program.specs.Program.{NodeNests, BlockNests, CasesNest, AreDistinct, IsWhole}
use Rattle.vcm_program.proofs.Reaching.{whole_steps}
use Rattle.vcm_asm.specs.Assembled.{Mark, node_marks, marks, case_marks}
use Rattle.vcm_asm.specs.inner.Once.{Absent, Once}
use Rattle.vcm_asm.specs.inner.Depth.{NodeDeep, Deep, CasesDeep}

-- labels stand once, jumps reach theirs, and loops nest at most 32 deep
pub record IsStructured (program : Block) : Type 0 where
  pub once : Once (marks program 0)
  pub jumps : Jumps program (program ∷ [])
  pub deep : Deep program 0

-- ---- labels

abbrev labels_in : List Mark → List Label
labels_in ms = map (λ m. m.0) ms

join : (a b : List Mark) (k l : List Label) → labels_in a ≡ k → labels_in b ≡ l → labels_in (a ++ b) ≡ k ++ l
join a b k l e f = map-append (λ m. m.0) a b ∙ ap (λ x. x ++ labels_in b) e ∙ ap (λ x. k ++ x) f

mutual
  node_labels_are : (n : Node) (base : ℕ) → labels_in (node_marks n base) ≡ node_labels n
  node_labels_are (simple line what) base = refl
  node_labels_are (label line l) base = refl
  node_labels_are (jump line l) base = refl
  node_labels_are (choice line test first close) base = labels_are first (base + 1)
  node_labels_are (choice_else line test first mid second close) base =
      join (marks first (base + 1)) (marks second (base + 1 + sizes first + 1)) (labels_of first) (labels_of second) (labels_are first (base + 1)) (labels_are second (base + 1 + sizes first + 1))
  node_labels_are (do_loop line v a b c body close) base = labels_are body (base + 1)
  node_labels_are (meas line feature body close) base = labels_are body (base + 1)
  node_labels_are (select line v cases close) base = case_labels_are cases (base + 1)
  node_labels_are (ending line) base = refl

  labels_are : (b : Block) (base : ℕ) → labels_in (marks b base) ≡ labels_of b
  labels_are done base = refl
  labels_are (then n b) base = join (node_marks n base) (marks b (base + size n)) (node_labels n) (labels_of b) (node_labels_are n base) (labels_are b (base + size n))

  case_labels_are : (cs : Cases) (base : ℕ) → labels_in (case_marks cs base) ≡ labels_among cs
  case_labels_are no_more base = refl
  case_labels_are (one_case line v b close rest) base =
      join (marks b (base + 1)) (case_marks rest (base + 1 + sizes b + 1)) (labels_of b) (labels_among rest) (labels_are b (base + 1)) (case_labels_are rest (base + 1 + sizes b + 1))
  case_labels_are (default line b close) base = labels_are b (base + 1)

-- a label that isn't among others differs from each of them
differs : (k l : Label) (c : Bool) → IsTrue (not (is_same_label l k || c)) → k ≡ l → ⊥
differs k l c h e = no (is_same_label l k) (ap (is_same_label l) e ∙ label_itself l) h
  where
    no : (t : Bool) → t ≡ true → IsTrue (not (t || c)) → ⊥
    no true f g = cc
    no false f g = cc

others : (t c : Bool) → IsTrue (not (t || c)) → IsTrue (not c)
others true c h = absurd cc
others false c h = h

absent : (ms : List Mark) (l : Label) → IsTrue (not (is_among (labels_in ms) l)) → Absent l ms
absent [] l h = tt
absent (m ∷ ms) l h = (differs m.0 l (is_among (labels_in ms) l) h, absent ms l (others (is_same_label l m.0) (is_among (labels_in ms) l) h))

once : (ms : List Mark) → AreDistinct (labels_in ms) → Once ms
once [] h = tt
once (m ∷ ms) h = (absent ms m.0 h.0, once ms h.1)

-- ---- loops

mutual
  node_deep : (n : Node) (d e : ℕ) → d ≤ e → NodeNests e n → NodeDeep n d
  node_deep (simple line what) d e le h = tt
  node_deep (label line l) d e le h = tt
  node_deep (jump line l) d e le h = tt
  node_deep (choice line test first close) d e le h = block_deep first d (e + 1) (omega (arith, le)) h.1
  node_deep (choice_else line test first mid second close) d e le h =
      (block_deep first d (e + 1) (omega (arith, le)) h.1, block_deep second d (e + 1) (omega (arith, le)) h.2)
  node_deep (do_loop line v a b c body close) d e le h = (omega (arith, le, h.0), block_deep body (suc d) (e + 1) (omega (arith, le)) h.1)
  node_deep (meas line feature body close) d e le h = block_deep body d (e + 1) (omega (arith, le)) h.1
  node_deep (select line v cases close) d e le h = cases_deep cases d e le h
  node_deep (ending line) d e le h = tt

  block_deep : (b : Block) (d e : ℕ) → d ≤ e → BlockNests e b → Deep b d
  block_deep done d e le h = tt
  block_deep (then n b) d e le h = (node_deep n d e le h.0, block_deep b d e le h.1)

  cases_deep : (cs : Cases) (d e : ℕ) → d ≤ e → CasesNest e cs → CasesDeep cs d
  cases_deep no_more d e le h = tt
  cases_deep (one_case line v b close rest) d e le h = (block_deep b d (e + 1) (omega (arith, le)) h.1, cases_deep rest d e le h.2)
  cases_deep (default line b close) d e le h = block_deep b d (e + 1) (omega (arith, le)) h.1

pub structured : (program : Block) (tables : Tables) → IsWhole program tables → IsStructured program
structured program tables whole = record {
  once = once (marks program 0) (subst AreDistinct (sym (labels_are program 0)) whole.once);
  jumps = (whole_steps program tables whole).jumps;
  deep = block_deep program 0 0 (omega arith) whole.nested;
}
