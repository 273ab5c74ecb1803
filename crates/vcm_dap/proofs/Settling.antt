-- Where lines settle, one statement after another.
use Rattle.std.proofs.Common.{◌≡◌, ℕ, zero, suc, ◌+◌, ◌<◌, ◌≤◌, List, [], ◌∷◌, length, drop, refl, subst, ap, ◌∙◌, inl, inr, arith, add-one}
use Rattle.std.specs.Prelude.{◌⊎◌, min, Option, Some, None, slice_get}
use Rattle.std.proofs.lemmas.Bool.{cases_lt, lt-ltb, le-ltb}
use Rattle.vcm_code.specs.Code.{CodeStatement}
use Rattle.vcm_debug.specs.Session.{line_in}
use Rattle.vcm_dap.specs.Laws.{LinesSettle}
use Rattle.vcm_dap.specs.Lines.{BeginsOn, Settles, lesser, nearer, nearest, settled}

-- one statement more
nearest_step : (line : ℕ) (least : Option ℕ) (ss : List CodeStatement) (n : ℕ) (s : CodeStatement) → slice_get ss n ≡ Some s
    → nearest line least (drop n ss) ≡ nearest line (nearer line least s.line) (drop (suc n) ss)
nearest_step line least [] n s e = cc
nearest_step line least (t ∷ ss) zero s e = ap (λ x. nearest line (nearer line least (line_in x)) ss) e
nearest_step line least (t ∷ ss) (suc n) s e = nearest_step line least ss n s e

-- the same, behind those that were passed
pub nearest_more : (line : ℕ) (least : Option ℕ) (ss : List CodeStatement) (n : ℕ) (s : CodeStatement) (at : ℕ) → slice_get ss n ≡ Some s → at ≡ s.line
    → nearest line least (drop n ss) ≡ settled ss line → nearest line (nearer line least at) (drop (n + 1) ss) ≡ settled ss line
nearest_more line least ss n s at e a i = rw (add-one, a, ← nearest_step line least ss n s e) i

-- all were passed
pub nearest_all : (line : ℕ) (least : Option ℕ) (ss : List CodeStatement) (n : ℕ) → length ss ≤ n → nearest line least (drop n ss) ≡ settled ss line → least ≡ settled ss line
nearest_all line least [] n l i = rest n i
  where
    rest : (k : ℕ) → nearest line least (drop k []) ≡ None → least ≡ None
    rest zero e = e
    rest (suc k) e = e
nearest_all line least (s ∷ ss) zero l i = absurd (omega (arith, l))
nearest_all line least (s ∷ ss) (suc n) l i = passed ss n (omega (arith, l)) ∙ i
  where
    passed : (ts : List CodeStatement) (k : ℕ) → length ts ≤ k → least ≡ nearest line least (drop k ts)
    passed [] zero m = refl
    passed [] (suc k) m = refl
    passed (t ∷ ts) zero m = absurd (omega (arith, m))
    passed (t ∷ ts) (suc k) m = passed ts k (omega (arith, m))

-- of lines that may come, none is at or below this one; or this is the least of those that are
Near : (ℕ → Type 0) → ℕ → Option ℕ → Type 0
Near P line None = (at : ℕ) → P at → at < line
Near P line (Some at) = P at × (line ≤ at) × ((other : ℕ) → P other → line ≤ other → at ≤ other)

-- the same lines
near_as : (P Q : ℕ → Type 0) (line : ℕ) (o : Option ℕ) → ((at : ℕ) → P at → Q at) → ((at : ℕ) → Q at → P at) → Near P line o → Near Q line o
unfolding Near
near_as P Q line None f g h = λ at q. h at (g at q)
near_as P Q line (Some a) f g h = (f a h.0, h.1, λ other q. h.2 other (g other q))

-- one line more that is above
near_above : (P : ℕ → Type 0) (line s : ℕ) (o : Option ℕ) → s < line → Near P line o → Near (λ at. P at ⊎ (s ≡ at)) line o
unfolding Near
near_above P line s None l h = λ at x. elim x [ inl p ↦ h at p | inr e ↦ omega (arith, e, l) ]
near_above P line s (Some a) l h = (inl h.0, h.1, λ other x m. elim x [ inl p ↦ h.2 other p m | inr e ↦ absurd (omega (arith, e, l, m)) ])

-- one line more that is not
near_other : (P : ℕ → Type 0) (line s : ℕ) (o : Option ℕ) → line ≤ s → Near P line o → Near (λ at. P at ⊎ (s ≡ at)) line (Some (lesser o s))
unfolding Near
near_other P line s None l h = (inr refl, l, λ other x m. elim x [ inl p ↦ absurd (omega (arith, h other p, m)) | inr e ↦ omega (arith, e) ])
near_other P line s (Some a) l h = (one (cases_lt a s), omega (arith, h.1, l), λ other x m. elim x [ inl p ↦ omega (arith, h.2 other p m) | inr e ↦ omega (arith, e) ])
  where
    one : (a < s) ⊎ (s ≤ a) → P (min a s) ⊎ (s ≡ min a s)
    one (inl k) = inl (subst P (omega (arith, k)) h.0)
    one (inr k) = inr (omega (arith, k))

near_one : (P : ℕ → Type 0) (line s : ℕ) (o : Option ℕ) → Near P line o → Near (λ at. P at ⊎ (s ≡ at)) line (nearer line o s)
near_one P line s o h = by (cases_lt s line)
  where
    by : (s < line) ⊎ (line ≤ s) → Near (λ at. P at ⊎ (s ≡ at)) line (nearer line o s)
    by (inl l) = rw (lt-ltb s line l) (near_above P line s o l h)
    by (inr l) = rw (le-ltb s line l) (near_other P line s o l h)

-- the lines of statements more
near_all : (P : ℕ → Type 0) (line : ℕ) (o : Option ℕ) (ss : List CodeStatement) → Near P line o → Near (λ at. P at ⊎ BeginsOn ss at) line (nearest line o ss)
near_all P line o [] h = near_as P _ line o (λ at p. inl p) (λ at x. elim x [ inl p ↦ p | inr e ↦ absurd e ]) h
near_all P line o (s ∷ ss) h =
    near_as (λ at. (P at ⊎ (s.line ≡ at)) ⊎ BeginsOn ss at) (λ at. P at ⊎ ((s.line ≡ at) ⊎ BeginsOn ss at)) line _
    (λ at x. elim x [ inl y ↦ elim y [ inl p ↦ inl p | inr e ↦ inr (inl e) ] | inr b ↦ inr (inr b) ])
    (λ at x. elim x [ inl p ↦ inl (inl p) | inr y ↦ elim y [ inl e ↦ inl (inr e) | inr b ↦ inr b ] ])
    (near_all (λ at. P at ⊎ (s.line ≡ at)) line (nearer line o s.line) ss (near_one P line s.line o h))

-- where it comes to stand is where it settles
settled_settles : (ss : List CodeStatement) (line : ℕ) → Settles ss line (settled ss line)
unfolding Near
settled_settles ss line = by (settled ss line) (near_all (λ at. ⊥) line None ss (λ at e. absurd e))
  where
    by : (o : Option ℕ) → Near (λ at. ⊥ ⊎ BeginsOn ss at) line o → Settles ss line o
    by None h = λ at b. h at (inr b)
    by (Some a) h = (elim h.0 [ inl e ↦ absurd e | inr b ↦ b ], h.1, λ other b. h.2 other (inr b))

-- it settles nowhere else
settles_once : (ss : List CodeStatement) (line : ℕ) (o p : Option ℕ) → Settles ss line o → Settles ss line p → o ≡ p
settles_once ss line None None h k = refl
settles_once ss line None (Some b) h k = absurd (omega (arith, h b k.0, k.1))
settles_once ss line (Some a) None h k = absurd (omega (arith, k a h.0, h.1))
settles_once ss line (Some a) (Some b) h k = ap (λ n. Some n) (let e : a ≡ b = omega (arith, h.2 b k.0 k.1, k.2 a h.0 h.1) in e)

pub settles : LinesSettle
settles ss line = (settled_settles ss line, λ place h. settles_once ss line place (settled ss line) h (settled_settles ss line))
