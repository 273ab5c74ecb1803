-- A turn of the loop over the edits.
use Rattle.std.proofs.Common.{◌≡◌, ℕ, ◌+◌, ◌<◌, ◌≤◌, List, [], ◌∷◌, ◌++◌, length, get_or, drop, refl, sym, ap, ◌∙◌, append_assoc}
use Rattle.std.proofs.lemmas.List.{drop_more, drop_all}
use Rattle.vcm_adapt.specs.declared.edit.Edit.{Edit}
use Rattle.vcm_num.specs.Lines.{whole_lines}
use Rattle.vcm_adapt.specs.Adapted.{edited, adapted}
use Rattle.vcm_adapt.specs.Laws.{IsNew, AreNew}
use Rattle.vcm_num.proofs.WholeLines.{whole_nil}
use Rattle.vcm_adapt.proofs.Whole.{lines_joined}

-- what is known behind i edits: what is written, and what the other edits make of the rest, is the adapted text
pub record IsWritten (es : List Edit) (text : List ℕ) (i : ℕ) (out rest : List ℕ) : Type 0 where
  pub bytes : out ++ adapted (drop i es) rest ≡ adapted es text
  pub new : AreNew (drop i es) → AreNew es

pub begun : (es : List Edit) (text : List ℕ) → IsWritten es text 0 [] text
begun es text = record { bytes = refl; new = λ h. h }

-- the next edit
pub next_edit : (es : List Edit) (i : ℕ) (e : Edit) → i < length es → e ≡ get_or es i e → drop i es ≡ e ∷ drop (i + 1) es
next_edit es i e lt is = drop_more es i e lt ∙ ap (λ (s : Edit). s ∷ drop (i + 1) es) (sym is)

-- an edit of a line
pub step_line : (es : List Edit) (text : List ℕ) (i : ℕ) (e : Edit) (out rest line after : List ℕ) → drop i es ≡ e ∷ drop (i + 1) es → IsNew e → whole_lines rest ≡ line ∷ whole_lines after
    → IsWritten es text i out rest → IsWritten es text (i + 1) (out ++ edited e line) after
step_line es text i e out rest line after d n w h = record {
  bytes = append_assoc out (edited e line) (adapted (drop (i + 1) es) after) ∙ rw (d, w) at h.bytes;
  new = λ more. (rw d at h.new) (n, more);
}

-- an edit with no line left
none_left : (es : List Edit) → adapted es [] ≡ []
none_left [] = rw whole_nil refl
none_left (e ∷ es) = rw whole_nil refl

pub step_none : (es : List Edit) (text : List ℕ) (i : ℕ) (e : Edit) (out rest : List ℕ) → drop i es ≡ e ∷ drop (i + 1) es → IsNew e → rest ≡ []
    → IsWritten es text i out rest → IsWritten es text (i + 1) out rest
step_none es text i e out rest d n none h = record {
  bytes = rw (none, none_left (drop (i + 1) es)) (rw (none, none_left (drop i es)) at h.bytes);
  new = λ more. (rw d at h.new) (n, more);
}

-- the edits at their end
pub end_text : (es : List Edit) (text : List ℕ) (i : ℕ) (out rest : List ℕ) → length es ≤ i → IsWritten es text i out rest → out ++ rest ≡ adapted es text
end_text es text i out rest e h = rw (drop_all i es e, lines_joined rest) at h.bytes

pub end_new : (es : List Edit) (text : List ℕ) (i : ℕ) (out rest : List ℕ) → length es ≤ i → IsWritten es text i out rest → AreNew es
end_new es text i out rest e h = (rw (drop_all i es e) at h.new) tt
