-- What says in an expansion what it says bs it is written.
use Rattle.std.proofs.Common.{◌≡◌, ℕ, true, ◌==◌, List, [], ◌++◌, Option, Some, None, refl, sym, ap, ◌∙◌, arith}
use Rattle.std.specs.List.{list_all}
use Rattle.vcm_expr.specs.declared.expression.Piece.{Piece}
use Rattle.vcm_expr.specs.declared.expression.Term.TheVariants.{Number, Truth, Variable}
use Rattle.vcm_expr.specs.Source.{Source, Plain, Prefixed, Pair, parts}
use Rattle.vcm_forms.specs.declared.statement.Parameter.{Parameter}
use Rattle.vcm_forms.specs.declared.statement.Argument.{Argument}
use Rattle.vcm_substitution.specs.Substitution.{put, put_argument, put_name}
use Rattle.vcm_macro.specs.inner.Staying.{is_here}
use Rattle.std.proofs.lemmas.Bool.{and_parts}
use Rattle.std.proofs.lemmas.List.Folds.{list_all-append}
use Rattle.std.specs.Option.{option_map}

here_both : (n : ℕ) (xs ys : List Piece) → list_all (λ p. is_here n p) (xs ++ ys) ≡ true → (list_all (λ p. is_here n p) xs ≡ true) × (list_all (λ p. is_here n p) ys ≡ true)
here_both n xs ys e = and_parts _ _ (sym (list_all-append (λ p. is_here n p) xs ys) ∙ e)

equal_numbers : (m n : ℕ) → (m == n) ≡ true → n ≡ m
equal_numbers m n e = grind arith

put_stays : (bs : List Argument) (n : ℕ) (e : Source) → list_all (λ p. is_here n p) (parts e) ≡ true → put (record { parameters = []; arguments = bs; expansion = n }) e ≡ e
put_stays bs n (Plain (Number x)) h = refl
put_stays bs n (Plain (Truth b)) h = refl
put_stays bs n (Plain (Variable name e)) h = ap (λ k. Plain (Variable name k)) (equal_numbers e n (and_parts (e == n) true h).0)
put_stays bs n (Prefixed op a) h = ap (λ s. Prefixed op s) (put_stays bs n a (here_both n (parts a) _ h).0)
put_stays bs n (Pair op a b) h =
    let p = here_both n (parts a) _ h in
    let q = here_both n (parts b) _ p.1 in
    ap (λ s. Pair op s (put (record { parameters = []; arguments = bs; expansion = n }) b)) (put_stays bs n a p.0) ∙ ap (λ s. Pair op a s) (put_stays bs n b q.0)

name_stays : (bs : List Argument) (n : ℕ) (o : Option (List ℕ)) → option_map (put_name (record { parameters = []; arguments = bs; expansion = n })) o ≡ o
name_stays bs n None = refl
name_stays bs n (Some name) = refl

pub argument_stays : (ps : List Parameter) (bs : List Argument) (n : ℕ) (a : Argument) (e : Source) → ps ≡ [] → a.value ≡ Some e → list_all (λ p. is_here n p) (parts e) ≡ true
    → put_argument (record { parameters = ps; arguments = bs; expansion = n }) a ≡ a
argument_stays ps bs n a e none value h =
    let v : option_map (put (record { parameters = []; arguments = bs; expansion = n })) a.value ≡ a.value =
    ap (option_map (put (record { parameters = []; arguments = bs; expansion = n }))) value ∙ ap (λ s. Some s) (put_stays bs n e h) ∙ sym value in
    rw none (ap (λ x. record { name = x; value = option_map (put (record { parameters = []; arguments = bs; expansion = n })) a.value })
    (name_stays bs n a.name) ∙ ap (λ x. record { name = a.name; value = x }) v)
