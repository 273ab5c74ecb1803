-- What is left of an input behind lines that are no mark.
use Rattle.std.proofs.Common.{◌≡◌, ℕ, Bool, true, false, List, [], ◌∷◌, ◌++◌, length, refl, sym, ap, ◌∙◌, arith, append_assoc}
use Rattle.std.specs.Prelude.{if◌then◌else◌, flat_map}
use Rattle.vcm_num.specs.Lines.{whole_lines}
use Rattle.vcm_num.proofs.WholeLines.{whole_nil}
use Rattle.vcm_job.specs.Jobs.{is_mark, before_mark, behind_mark, part_text, program_text}
use Rattle.vcm_job.proofs.JobLines.{lines_all}

-- the input is some lines that are no mark, and then the rest
pub record IsLeft (input rest : List ℕ) : Type 0 where
  pub front : List ℕ
  pub cut : input ≡ front ++ rest
  pub part : part_text input ≡ front ++ part_text rest
  pub program : program_text input ≡ program_text rest

-- behind one more line
pub less_left : (input rest line after : List ℕ) → IsLeft input rest → whole_lines rest ≡ line ∷ whole_lines after → rest ≡ line ++ after → is_mark line ≡ false → IsLeft input after
less_left input rest line after h lines cut no_mark = record {
  front = h.front ++ line;
  cut = h.cut ∙ ap (λ l. h.front ++ l) cut ∙ sym (append_assoc h.front line after);
  part = h.part ∙ ap (λ l. h.front ++ l) (ap before_mark lines ∙ before) ∙ sym (append_assoc h.front line (part_text after));
  program = h.program ∙ ap behind_mark lines ∙ behind;
}
  where
    before : before_mark (line ∷ whole_lines after) ≡ line ++ part_text after
    before = ap (λ (b : Bool). if b then [] else (line ++ part_text after)) no_mark

    behind : behind_mark (line ∷ whole_lines after) ≡ program_text after
    behind = ap (λ (b : Bool). if b then flat_map (λ k. k) (whole_lines after) else program_text after) no_mark

pub program_at_mark : (input rest line after : List ℕ) → IsLeft input rest → whole_lines rest ≡ line ∷ whole_lines after → is_mark line ≡ true → after ≡ program_text input
program_at_mark input rest line after h lines mark =
    sym (h.program ∙ ap behind_mark lines ∙ ap (λ (b : Bool). if b then flat_map (λ k. k) (whole_lines after) else program_text after) mark ∙ lines_all after)

-- where nothing is left, the whole input stands before the mark
none_is : (l : List ℕ) → length l ≡ 0 → l ≡ []
none_is [] e = refl
none_is (b ∷ bs) e = absurd (omega (arith, e))

pub part_at_end : (input rest : List ℕ) → IsLeft input rest → length rest ≡ 0 → input ≡ part_text input
part_at_end input rest h e =
    let none : rest ≡ [] = none_is rest e in
    let same : rest ≡ part_text rest = none ∙ sym (ap before_mark whole_nil) ∙ ap part_text (sym none) in
    h.cut ∙ ap (λ l. h.front ++ l) same ∙ sym h.part

pub program_at_end : (input rest : List ℕ) → IsLeft input rest → length rest ≡ 0 → [] ≡ program_text input
program_at_end input rest h e = sym (h.program ∙ ap program_text (none_is rest e) ∙ ap behind_mark whole_nil)
