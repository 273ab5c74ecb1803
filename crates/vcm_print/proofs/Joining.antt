-- Words with a blank in front of each.
use Rattle.std.proofs.Common.{◌≡◌, ℕ, List, [], ◌∷◌, ◌++◌, refl, sym, ap, ◌∙◌, append_assoc}
use Rattle.std.specs.Prelude.{flat_map}
use Rattle.std.proofs.lemmas.List.{append-nil}
use Rattle.vcm_words.specs.Cutting.{split, joined}
use Rattle.vcm_words.proofs.Cuts.{split_some, joined-split}

-- a blank in front of each word
abbrev pub blanked : List (List ℕ) → List ℕ
blanked ws = flat_map (λ v. 32 ∷ v) ws

pub blanked_append : (vs ws : List (List ℕ)) → blanked (vs ++ ws) ≡ blanked vs ++ blanked ws
blanked_append [] ws = refl
blanked_append (v ∷ vs) ws = ap (λ l. 32 ∷ v ++ l) (blanked_append vs ws) ∙ sym (append_assoc (32 ∷ v) (blanked vs) (blanked ws))

-- a blank between each two is one in front of each but the first
pub joined_is : (w : List ℕ) (ws : List (List ℕ)) → joined 32 (w ∷ ws) ≡ w ++ blanked ws
joined_is w [] = sym (append-nil w)
joined_is w (v ∷ vs) = ap (λ l. w ++ 32 ∷ l) (joined_is v vs)

-- words of a text, put together again
pub text_is : (bs : List ℕ) → blanked (split 32 bs) ≡ 32 ∷ bs
text_is bs =
    let s = split_some 32 bs in
    ap (λ ws. blanked ws) s.2 ∙ ap (λ l. 32 ∷ l) (sym (joined_is s.0 s.1) ∙ ap (joined 32) (sym s.2) ∙ joined-split 32 bs)
