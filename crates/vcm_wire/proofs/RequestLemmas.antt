-- A message asks for one thing.
use Rattle.std.proofs.Common.{◌≡◌, Some, Ok, refl, sym, ◌∙◌, subst}
use Rattle.std.specs.Str.Parse.{ParsesUnsigned}
use Rattle.std.proofs.lemmas.Result.{OkIff-at_ok}
use Rattle.vcm_wire.specs.Laws.{RequestsAreOne}

some_once : {A : Type 0} (x y : A) → Some x ≡ Some y → x ≡ y
some_once x y e = cc

pub one_request : RequestsAreOne
one_request message seq other command asked h k =
    let number : h.number ≡ k.number = some_once _ _ (sym h.number_is ∙ k.number_is) in
    let first = OkIff-at_ok {E = Unit {0}} (Ok seq) _ _ seq (subst (λ t. ParsesUnsigned {E = Unit {0}} 64 10 t (Ok seq)) number h.seq_is) refl in
    let second = OkIff-at_ok {E = Unit {0}} (Ok other) _ _ other k.seq_is refl in
    (first.1 ∙ sym second.1, some_once _ _ (sym h.command_is ∙ k.command_is))
