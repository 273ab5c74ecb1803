-- The line of a statement that is there.
use Rattle.std.proofs.Common.{◌≡◌, ℕ, zero, suc, ◌<◌, List, [], ◌∷◌, length, slice_get, Option, Some, None, Result, refl, arith}
use Rattle.vcm_num.specs.Written.{Wrote}
use Rattle.vcm_code.specs.Code.{CodeStatement}
use Rattle.vcm_words.specs.declared.row.Row.TheVariants.{Numbered}
use Rattle.vcm_print.specs.Listed.{listed}
use Rattle.vcm_console.specs.Replies.{statement_line}

none_within : {X : Type 0} (xs : List X) (n : ℕ) → n < length xs → slice_get xs n ≡ None → ⊥
none_within [] n l e = absurd (omega arith)
none_within (x ∷ xs) zero l e = cc
none_within (x ∷ xs) (suc n) l e = none_within xs n (omega arith) e

pub line_written : {A E : Type 0} (old new : Option (List ℕ)) (statements : List CodeStatement) (n : ℕ) (r : Result A E) → n < length statements
    → ((s : CodeStatement) → slice_get statements n ≡ Some s → Wrote old new (listed (Numbered n s)) r) → Wrote old new (statement_line (slice_get statements n) n) r
line_written old new statements n r l h = by (slice_get statements n) refl
  where
    by : (o : Option CodeStatement) → slice_get statements n ≡ o → Wrote old new (statement_line o n) r
    by None e = absurd (none_within statements n l e)
    by (Some s) e = h s e
