-- Lines that are read byte by byte.
use Rattle.std.proofs.Common.{◌≡◌, ◌≢◌, ℕ, zero, suc, ◌+◌, List, [], ◌∷◌, ◌++◌, length, take, drop, Option, Some, None, refl, sym, ap, ◌∙◌, subst, arith, append_assoc, length-append}
use Rattle.std.proofs.lemmas.List.{drop_at}
use Rattle.std.specs.Prelude.{IfSome}
use Rattle.vcm_console.specs.Reading.{IsNextOf, AllPlain, IsLong, kept_of}

-- these bytes of a line were read, and this is left
pub record HasRead (input : List ℕ) (after : Option (List ℕ)) (kept : List ℕ) (used : ℕ) : Type 0 where
  pub seen : List ℕ
  pub rest : List ℕ
  pub cut : input ≡ seen ++ rest
  pub plain : AllPlain seen
  pub used_is : used ≡ length seen
  pub kept_is : kept ≡ kept_of seen
  pub after_is : after ≡ Some rest

-- the same of a reader that may tell nothing
abbrev pub HasReadOf : Option (List ℕ) → Option (List ℕ) → List ℕ → ℕ → Type 0
HasReadOf known after kept used = IfSome known (λ input. HasRead input after kept used)

plain_more : (xs : List ℕ) (b : ℕ) → AllPlain xs → b ≢ 10 → AllPlain (xs ++ b ∷ [])
plain_more [] b h n = (n, tt)
plain_more (x ∷ xs) b h n = (h.0, plain_more xs b h.1 n)

-- what is kept of one byte more
kept_from : (n : ℕ) (xs : List ℕ) (b : ℕ) → take n (take n xs ++ b ∷ []) ≡ take n (xs ++ b ∷ [])
kept_from zero xs b = refl
kept_from (suc n) [] b = refl
kept_from (suc n) (x ∷ xs) b = ap (λ l. x ∷ l) (kept_from n xs b)

one_read : (input : List ℕ) (after later : Option (List ℕ)) (kept more : List ℕ) (used b : ℕ) → HasRead input after kept used
    → IfSome after (λ i. IsNextOf i later (Some b)) → b ≢ 10 → more ≡ take 258 (kept ++ b ∷ []) → HasRead input later more (used + 1)
one_read input after later kept more used b h next n m =
    let k = subst (λ a. IfSome a (λ i. IsNextOf i later (Some b))) h.after_is next in
    let long = length-append h.seen (b ∷ []) in
    let u = h.used_is in
    record {
      seen = h.seen ++ b ∷ [];
      rest = k.0;
      cut = h.cut ∙ ap (λ l. h.seen ++ l) k.1 ∙ sym (append_assoc h.seen (b ∷ []) k.0);
      plain = plain_more h.seen b h.plain n;
      used_is = omega (arith, long, u);
      kept_is = m ∙ ap (λ l. take 258 (l ++ b ∷ [])) h.kept_is ∙ kept_from 258 h.seen b;
      after_is = k.2;
    }

pub one_more_read : (known after later : Option (List ℕ)) (kept more : List ℕ) (used b : ℕ) → HasReadOf known after kept used
    → IfSome after (λ i. IsNextOf i later (Some b)) → b ≢ 10 → more ≡ take 258 (kept ++ b ∷ []) → HasReadOf known later more (used + 1)
one_more_read None after later kept more used b h next n m = tt
one_more_read (Some input) after later kept more used b h next n m = one_read input after later kept more used b h next n m

-- a byte too many
pub too_long : (left : ℕ) (known after later : Option (List ℕ)) (kept : List ℕ) (used b : ℕ) → used ≡ left → HasReadOf known after kept used
    → IfSome after (λ i. IsNextOf i later (Some b)) → IfSome known (λ input. IsLong left input × (later ≡ Some (drop (left + 1) input)))
too_long left None after later kept used b e h next = tt
too_long left (Some input) after later kept used b e h next =
    let k = subst (λ a. IfSome a (λ i. IsNextOf i later (Some b))) h.after_is next in
    let u = h.used_is in
    let some : length h.rest ≡ suc (length k.0) = ap length k.1 in
    let n : length (h.seen ++ b ∷ []) ≡ left + 1 = omega (arith, length-append h.seen (b ∷ []), u, e) in
    let cut : input ≡ (h.seen ++ b ∷ []) ++ k.0 = h.cut ∙ ap (λ l. h.seen ++ l) k.1 ∙ sym (append_assoc h.seen (b ∷ []) k.0) in (
      record { seen = h.seen; rest = h.rest; cut = h.cut; plain = h.plain; long = omega (arith, u, e); more = omega (arith, some) },
      k.2 ∙ ap Some (sym (ap (drop (left + 1)) cut ∙ drop_at (h.seen ++ b ∷ []) k.0 (left + 1) n)),
    )
