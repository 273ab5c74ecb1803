-- Reading a macro whole.
use Rattle.std.proofs.Common.{◌≡◌, ℕ, suc, Bool, true, false, List, [], ◌∷◌, ◌++◌, Option, Some, None, take, drop, refl, sym, ap, ◌∙◌, append_assoc}
use Rattle.std.specs.Prelude.{reverse, if◌then◌else◌}
use Rattle.std.proofs.lemmas.List.{append-nil, reverse-append}
use Rattle.vcm_forms.specs.declared.statement.Form.{Form}
use Rattle.vcm_forms.specs.declared.statement.Form.TheVariants.{MacroEnd}
use Rattle.vcm_forms.specs.declared.statement.Statement.{Statement}
use Rattle.vcm_calls.specs.Carried.{Written, carried_text, carried_from, longer, is_macro_end, body_size}

-- a macro with more statements
abbrev grown : Written → List Statement → Written
grown m ss = record { name = m.name; body = m.body ++ ss }

abbrev Whole : List Statement → Type 0
Whole ss = (ms : List Written) (m : Written) → carried_text ms (Some m) ss ≡ carried_text (grown m (take (body_size ss) ss) ∷ ms) None (drop (suc (body_size ss)) ss)

one_more : (s : Statement) (ss : List Statement) → Whole ss → (ms : List Written) (m : Written) (form : Form)
    → carried_from ms (Some m) s form (λ ns n. carried_text ns n ss)
    ≡ (let n : ℕ = if is_macro_end form then 0 else suc (body_size ss) in carried_text (grown m (take n (s ∷ ss)) ∷ ms) None (drop (suc n) (s ∷ ss)))
one_more s ss whole ms m MacroEnd = ap (λ b. carried_text (record { name = m.name; body = b } ∷ ms) None ss) (sym (append-nil m.body))
one_more s ss whole ms m _ =
    whole ms (longer m s)
    ∙ ap (λ b. carried_text (record { name = m.name; body = b } ∷ ms) None (drop (suc (body_size ss)) ss)) (append_assoc m.body (s ∷ []) (take (body_size ss) ss))

all_of_macro : (ss : List Statement) → Whole ss
all_of_macro [] ms m = refl
all_of_macro (s ∷ ss) ms m = one_more s ss (all_of_macro ss) ms m s.form

-- behind a macro that was read whole the text goes on as if it had been read statement by statement
pub macro_read : (ms new : List Written) (m : Written) (others rest : List Statement) → new ≡ ms ++ m ∷ [] → m.body ≡ take (body_size others) others
    → rest ≡ drop (suc (body_size others)) others → carried_text (reverse new) None rest ≡ carried_text (reverse ms) (Some (record { name = m.name; body = [] })) others
macro_read ms new m others rest e b r =
    ap (λ l. carried_text (reverse l) None rest) e
    ∙ ap (λ l. carried_text l None rest) (reverse-append ms (m ∷ []))
    ∙ ap (λ body. carried_text (record { name = m.name; body = body } ∷ reverse ms) None rest) b
    ∙ ap (carried_text (record { name = m.name; body = take (body_size others) others } ∷ reverse ms) None) r
    ∙ sym (all_of_macro others (reverse ms) (record { name = m.name; body = [] }))
