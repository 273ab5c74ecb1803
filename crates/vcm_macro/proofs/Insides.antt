-- The blocks of a body with one more statement.
use Rattle.std.proofs.Common.{◌≡◌, List, [], ◌∷◌, ◌++◌, refl, sym, ap, ◌∙◌}
use Rattle.vcm_forms.specs.declared.statement.Statement.{Statement}
use Rattle.vcm_macro.specs.declared.blocks.Opener.{Opener}
use Rattle.vcm_macro.specs.Rules.{blocks_behind, blocks_after}

blocks_more : (os : List Opener) (ss : List Statement) (s : Statement) → blocks_after os (ss ++ s ∷ []) ≡ blocks_behind (blocks_after os ss) s.form
blocks_more os [] s = refl
blocks_more os (t ∷ ss) s = blocks_more (blocks_behind os t.form) ss s

pub blocks_taken : (os next : List Opener) (ss more : List Statement) (s : Statement) → os ≡ blocks_after [] ss → next ≡ blocks_behind os s.form → more ≡ ss ++ s ∷ []
    → next ≡ blocks_after [] more
blocks_taken os next ss more s was step longer =
    step ∙ ap (λ (l : List Opener). blocks_behind l s.form) was ∙ sym (ap (blocks_after []) longer ∙ blocks_more [] ss s)
