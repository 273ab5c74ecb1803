-- Breakpoints where a line goes on, one statement after another.
use Rattle.std.proofs.Common.{◌≡◌, ℕ, zero, suc, ◌+◌, ◌≤◌, Bool, true, false, List, [], ◌∷◌, length, take, refl, sym, ap, ◌∙◌, add-one}
use Rattle.std.specs.Prelude.{slice_set, slice_get, Option, Some, ◌==◌, if◌then◌else◌}
use Rattle.vcm_code.specs.Code.{CodeStatement}
use Rattle.vcm_debug.specs.Debugging.{Debugging}
use Rattle.vcm_debug.specs.Session.{line_in}
use Rattle.vcm_dap.specs.Lines.{thinned, at_heads, if_by_lines}
use Rattle.vcm_dap.specs.inner.Thinning.{cleared_if}
use Rattle.vcm_dap.proofs.Clearing.{unflagged_all}

-- the line of the last of so many statements; this one before the first of them
abbrev pub line_before : ℕ → ℕ → List CodeStatement → ℕ
line_before before zero ss = before
line_before before (suc n) [] = before
line_before before (suc n) (s ∷ ss) = line_before s.line n ss

-- a flag is taken away, if that is to be
abbrev pub unset_if : Bool → ℕ → List Bool → List Bool
unset_if true n bs = slice_set bs n false
unset_if false n bs = bs

-- behind one flag more
unset_more : (b c : Bool) (n : ℕ) (bs : List Bool) → c ∷ unset_if b n bs ≡ unset_if b (suc n) (c ∷ bs)
unset_more true c n bs = refl
unset_more false c n bs = refl

-- where there are no flags
unset_none : (b : Bool) (n : ℕ) → [] ≡ unset_if b n []
unset_none true zero = refl
unset_none true (suc n) = refl
unset_none false n = refl

-- the first flag
unset_first : (b c : Bool) (bs : List Bool) → (if b then false else c) ∷ bs ≡ unset_if b zero (c ∷ bs)
unset_first true c bs = refl
unset_first false c bs = refl

-- one statement more
thinned_suc : (n before : ℕ) (ss : List CodeStatement) (bs : List Bool) (s : CodeStatement) → slice_get ss n ≡ Some s
    → thinned before (take (suc n) ss) bs ≡ unset_if (s.line == line_before before n ss) n (thinned before (take n ss) bs)
thinned_suc n before [] bs s e = cc
thinned_suc zero before (t ∷ ss) [] s e = unset_none (s.line == before) zero
thinned_suc zero before (t ∷ ss) (b ∷ bs) s e =
    ap (λ (x : Option CodeStatement). (if line_in x == before then false else b) ∷ bs) e ∙ unset_first (s.line == before) b bs
thinned_suc (suc n) before (t ∷ ss) [] s e = unset_none (s.line == line_before t.line n ss) (suc n)
thinned_suc (suc n) before (t ∷ ss) (b ∷ bs) s e =
    ap (λ xs. (if t.line == before then false else b) ∷ xs) (thinned_suc n t.line ss bs s e)
    ∙ unset_more (s.line == line_before t.line n ss) (if t.line == before then false else b) n (thinned t.line (take n ss) bs)

-- and the line of the last of them
line_suc : (n before : ℕ) (ss : List CodeStatement) (s : CodeStatement) → slice_get ss n ≡ Some s → line_before before (suc n) ss ≡ s.line
line_suc n before [] s e = cc
line_suc zero before (t ∷ ss) s e = ap line_in e
line_suc (suc n) before (t ∷ ss) s e = line_suc n t.line ss s e

-- the session whose first n statements have breakpoints where a line begins alone
abbrev pub thinned_to : Debugging → ℕ → Debugging
thinned_to d n = record d { breakpoints = thinned 0 (take n d.code.statements) d.breakpoints }

-- a flag that is taken away or not, in a session
unset_in : (b : Bool) (n : ℕ) (d : Debugging) → cleared_if b n d ≡ record d { breakpoints = unset_if b n d.breakpoints }
unset_in true n d = refl
unset_in false n d = refl

-- one statement more
pub thins_more : (d s new : Debugging) (n line before : ℕ) (st : CodeStatement) → slice_get d.code.statements n ≡ Some st → line ≡ st.line
    → before ≡ line_before 0 n d.code.statements → s ≡ thinned_to d n → new ≡ cleared_if (line == before) n s → new ≡ thinned_to d (n + 1)
thins_more d s new n line before st e l b i h =
    h ∙ rw (i, l, b) (unset_in (st.line == line_before 0 n d.code.statements) n (thinned_to d n)
    ∙ ap (λ (bs : List Bool). record d { breakpoints = bs }) (sym (rw add-one (thinned_suc n 0 d.code.statements d.breakpoints st e))))

pub line_more : (d : Debugging) (n line : ℕ) (st : CodeStatement) → slice_get d.code.statements n ≡ Some st → line ≡ st.line → line ≡ line_before 0 (n + 1) d.code.statements
line_more d n line st e l = rw add-one (l ∙ sym (line_suc n 0 d.code.statements st e))

-- all statements
pub thins_all : (d s : Debugging) (n : ℕ) → length d.code.statements ≤ n → s ≡ thinned_to d n → s ≡ at_heads d
thins_all d s n l e = e ∙ ap (λ (ss : List CodeStatement). record d { breakpoints = thinned 0 ss d.breakpoints }) (unflagged_all n d.code.statements l)

-- whichever breakpoints stay, the count does
pub by_lines_count : (b : Bool) (d : Debugging) → (if_by_lines b d).count ≡ d.count
by_lines_count true d = refl
by_lines_count false d = refl
