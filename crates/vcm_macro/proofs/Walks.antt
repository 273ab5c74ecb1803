-- Walks, one part behind the other.
use Rattle.std.proofs.Common.{◌≡◌, ℕ, ◌+◌, List, [], ◌∷◌, ◌++◌, refl, sym, ap, ◌∙◌, inl, inr, arith, subst}
use Rattle.std.proofs.lemmas.List.{append_assoc}
use Rattle.vcm_lines.specs.declared.fault.SourceFault.{SourceFault}
use Rattle.vcm_macro.specs.declared.placed.Placed.{Placed}
use Rattle.vcm_macro.specs.Walk.{Visit, Opens, Inside, Stands, Misplaced, Calls, calls_in}
use Rattle.vcm_macro.specs.Rules.{weight, weigh, kept, kept_of}
use Rattle.vcm_macro.specs.inner.Expanding.{Done, AreFine, TellsFirst, Walked}

pub weigh_append : (ps qs : List Visit) → weigh (ps ++ qs) ≡ weigh ps + weigh qs
weigh_append [] qs = omega arith
weigh_append (p ∷ ps) qs = omega (arith, weigh_append ps qs)

pub kept_append : (ps qs : List Visit) → kept (ps ++ qs) ≡ kept ps ++ kept qs
kept_append [] qs = refl
kept_append (p ∷ ps) qs = ap (λ (l : List Placed). kept_of p ++ l) (kept_append ps qs) ∙ sym (append_assoc (kept_of p) (kept ps) (kept qs))

pub calls_append : (ps qs : List Visit) → calls_in (ps ++ qs) ≡ calls_in ps + calls_in qs
calls_append [] qs = omega arith
calls_append (Opens ms s ∷ ps) qs = calls_append ps qs
calls_append (Inside m s ∷ ps) qs = calls_append ps qs
calls_append (Stands e s ∷ ps) qs = calls_append ps qs
calls_append (Misplaced line ∷ ps) qs = calls_append ps qs
calls_append (Calls line depth m bs ∷ ps) qs = omega (arith, calls_append ps qs)

pub fine_append : (n : ℕ) (ps qs : List Visit) → AreFine n ps → AreFine (n + weigh ps) qs → AreFine n (ps ++ qs)
fine_append n [] qs f g = let e : n + 0 ≡ n = omega arith in rw e at g
fine_append n (p ∷ ps) qs f g =
    let e : n + (weight p + weigh ps) ≡ (n + weight p) + weigh ps = omega arith in
    (f.0, fine_append (n + weight p) ps qs f.1 (rw e at g))

pub told_front : (n : ℕ) (ps qs : List Visit) (f : SourceFault) → TellsFirst n ps f → TellsFirst n (ps ++ qs) f
told_front n [] qs f t = absurd t
told_front n (p ∷ ps) qs f (inl t) = inl t
told_front n (p ∷ ps) qs f (inr t) = inr (t.0, told_front (n + weight p) ps qs f t.1)

pub told_behind : (n : ℕ) (ps qs : List Visit) (f : SourceFault) → AreFine n ps → TellsFirst (n + weigh ps) qs f → TellsFirst n (ps ++ qs) f
told_behind n [] qs f a t = let e : n + 0 ≡ n = omega arith in rw e at t
told_behind n (p ∷ ps) qs f a t =
    let e : n + (weight p + weigh ps) ≡ (n + weight p) + weigh ps = omega arith in
    inr (a.0, told_behind (n + weight p) ps qs f a.1 (rw e at t))

pub walked_more : (a b c : Done) (ps qs : List Visit) → Walked a b ps → Walked b c qs → Walked a c (ps ++ qs)
walked_more a b c ps qs u v = record {
  fine = fine_append a.count ps qs u.fine (subst (λ (n : ℕ). AreFine n qs) u.count v.fine);
  placed = v.placed ∙ ap (λ (l : List Placed). l ++ kept qs) u.placed ∙ append_assoc a.placed (kept ps) (kept qs) ∙ ap (λ (l : List Placed). a.placed ++ l) (sym (kept_append ps qs));
  count = omega (arith, u.count, v.count, weigh_append ps qs);
  calls = omega (arith, u.calls, v.calls, calls_append ps qs);
}

pub told_more : (a b : Done) (ps qs : List Visit) (f : SourceFault) → Walked a b ps → TellsFirst b.count qs f → TellsFirst a.count (ps ++ qs) f
told_more a b ps qs f u t = told_behind a.count ps qs f u.fine (subst (λ (n : ℕ). TellsFirst n qs f) u.count t)
