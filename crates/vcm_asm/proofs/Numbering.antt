-- Labels in the table of their numbers.
use Rattle.std.proofs.Common.{◌≡◌, ℕ, Bool, true, false, List, [], ◌∷◌, ◌++◌, Option, Some, None, refl, sym, ap, ◌∙◌, subst, ◌+◌, append_assoc}
use Rattle.std.specs.Prelude.{if◌then◌else◌}
use Rattle.std.specs.Map.{lookup}
use Rattle.indexmap.specs.IndexMap.{insert_entry}
use Rattle.vcm_spec.specs.Expression.{Tree}
use Rattle.vcm_spec.specs.Program.{Label, Block, sizes, is_same_label}
use Rattle.vcm_spec.specs.Table.{if_true}
use Rattle.vcm_spec.proofs.Labels.{same_label}
use Rattle.vcm_nodes.specs.inner.SameLabels.{label_sym}
use Rattle.vcm_nodes.specs.Nodes.{choice_by}
use Rattle.vcm_asm.specs.Assembled.{Mark, node_marks, marks, place_in}
use Rattle.vcm_asm.specs.inner.Once.{Absent, Once}

-- a label that isn't there is added behind the others
pub insert_absent : (ms : List Mark) (l : Label) (n : ℕ) → Absent l ms → insert_entry is_same_label ms l n ≡ ms ++ (l, n) ∷ []
insert_absent [] l n h = refl
insert_absent (m ∷ ms) l n h = by (is_same_label l m.0) refl (insert_absent ms l n h.1)
  where
    by : (t : Bool) → is_same_label l m.0 ≡ t → insert_entry is_same_label ms l n ≡ ms ++ (l, n) ∷ []
        → (if t then (m.0, n) ∷ ms else m ∷ insert_entry is_same_label ms l n) ≡ m ∷ (ms ++ (l, n) ∷ [])
    by true e next = absurd (h.0 (sym (same_label l m.0 e)))
    by false e next = ap (λ x. m ∷ x) next

-- what is looked up is the number of the label's statement
looked : (ms : List Mark) (l : Label) (o : Option ℕ) → o ≡ lookup (is_same_label l) ms → (k : ℕ) → o ≡ Some k → k ≡ place_in ms l
looked [] l o e k f = absurd cc
looked (m ∷ ms) l o e k f = by (is_same_label l m.0) refl e (looked ms l o)
  where
    by : (t : Bool) → is_same_label l m.0 ≡ t → o ≡ (if t then Some m.1 else lookup (is_same_label l) ms)
        → (o ≡ lookup (is_same_label l) ms → (j : ℕ) → o ≡ Some j → j ≡ place_in ms l) → k ≡ place_in (m ∷ ms) l
    by true g h next = (let same : k ≡ m.1 = cc in same ∙ ap (λ t. if_true t m.1 (place_in ms l)) (sym (label_sym m.0 l ∙ g)))
    by false g h next = next h k f ∙ ap (λ t. if_true t m.1 (place_in ms l)) (sym (label_sym m.0 l ∙ g))

pub found : (ms : List Mark) (l : Label) (k : ℕ) → Some k ≡ lookup (is_same_label l) ms → k ≡ place_in ms l
found ms l k e = looked ms l (Some k) e k refl

-- and 0 where there is none
pub not_found : (ms : List Mark) (l : Label) → None ≡ lookup (is_same_label l) ms → 0 ≡ place_in ms l
not_found [] l e = refl
not_found (m ∷ ms) l e = by (is_same_label l m.0) refl e (not_found ms l)
  where
    by : (t : Bool) → is_same_label l m.0 ≡ t → None ≡ (if t then Some m.1 else lookup (is_same_label l) ms)
        → (None ≡ lookup (is_same_label l) ms → 0 ≡ place_in ms l) → 0 ≡ place_in (m ∷ ms) l
    by true g h next = absurd cc
    by false g h next = next h ∙ ap (λ t. if_true t m.1 (place_in ms l)) (sym (label_sym m.0 l ∙ g))

-- labels that stand once do so in front, and one behind others is none of them
absent_front : (l : Label) (a b : List Mark) → Absent l (a ++ b) → Absent l a
absent_front l [] b h = tt
absent_front l (m ∷ a) b h = (h.0, absent_front l a b h.1)

pub once_front : (a b : List Mark) → Once (a ++ b) → Once a
once_front [] b h = tt
once_front (m ∷ a) b h = (absent_front m.0 a b h.0, once_front a b h.1)

absent_last : (l : Label) (a : List Mark) (m : Mark) → Absent l (a ++ m ∷ []) → m.0 ≡ l → ⊥
absent_last l [] m h = h.0
absent_last l (x ∷ a) m h = absent_last l a m h.1

pub once_last : (a : List Mark) (m : Mark) → Once (a ++ m ∷ []) → Absent m.0 a
once_last [] m h = tt
once_last (x ∷ a) m h = ((λ e. absent_last x.0 a m h.0 (sym e)), once_last a m h.1)

-- labels that stand once in a choice do so in its first block
pub once_first : (ms : List Mark) (line : ℕ) (test : Tree) (first : Block) (other : Option (ℕ × Block)) (close base : ℕ)
    → Once (ms ++ node_marks (choice_by line test first other close) base) → Once (ms ++ marks first (base + 1))
once_first ms line test first None close base h = h
once_first ms line test first (Some p) close base h =
    once_front (ms ++ marks first (base + 1)) (marks p.1 (base + 1 + sizes first + 1))
    (subst Once (sym (append_assoc ms (marks first (base + 1)) (marks p.1 (base + 1 + sizes first + 1)))) h)
