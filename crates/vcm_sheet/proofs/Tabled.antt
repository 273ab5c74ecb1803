-- Rows of tables.
use Rattle.std.proofs.Common.{◌≡◌, ◌≢◌, ◌∙◌, sym, ap, subst, ℕ, suc, ◌+◌, ◌-◌, ◌≤◌, ◌==◌, Bool, false, refl, take, drop, List, [], ◌∷◌, ◌++◌, length, map, arith}
use Rattle.std.proofs.lemmas.Bool.Decides.{nat_tests}
use Rattle.std.proofs.lemmas.List.{length-map, drop-map, take-map}
use Rattle.std.specs.Prelude.{nat_eq, decimal, codes, if◌then◌else◌, Result, IfOk, OnOk}
use Rattle.std.specs.List.{take_while, prefix_len}
use Rattle.std.specs.Str.{bytes_eq}
use Rattle.vcm_sheet.specs.Sayings.{Saying, Adds, say}
use Rattle.vcm_sheet.specs.Tables.{more_rows, head_at, heads_before, number_if, named_before, last_named, numbers, table_of, blocks_table}
use Rattle.vcm_sheet.specs.Written.{name_of}
use Rattle.vcm_sheet.proofs.Saying.{adds_both}

pub some_left : (n : ℕ) → n ≢ 0 → nat_eq n 0 ≡ false
some_left n h = grind (arith, nat_tests)

-- the row of how many more there are
pub more_said : (most count : ℕ) (words o n : List ℕ) → count - most ≢ 0 → Adds (say (codes "and " ∷ decimal (count - most) ∷ words ∷ []) ∷ []) o n
    → Adds (more_rows most count words) o n
more_said most count words o n h k = rw (some_left (count - most) h) k

-- a table that has rows
pub table_said : {A E : Type 0} (r : Result A E) (count : ℕ) (is_empty : Bool) (said : List Saying) (o n : List ℕ) → is_empty ≡ (count == 0)
    → is_empty ≡ false → IfOk r (λ a. Adds said o n) → IfOk r (λ a. Adds (if nat_eq count 0 then [] else said) o n)
table_said r count is_empty said o n e h k =
    let some : nat_eq count 0 ≡ false = sym e ∙ h in
    rw some k

-- the blocks that have names, one more at a time
pub one_more_name : (names : List (List ℕ)) (i : ℕ) (some new : List ℕ) → some ≡ named_before names i
    → new ≡ some ++ number_if names (i + 1) → new ≡ named_before names (i + 1)
one_more_name names i some new h e =
    let k : i + 1 ≡ suc i = omega arith in
    let f : new ≡ some ++ number_if names (suc i) = subst (λ m. new ≡ some ++ number_if names m) k e in
    subst (λ m. new ≡ named_before names m) (sym k) (f ∙ ap (λ l. l ++ number_if names (suc i)) h)

pub all_names : (names : List (List ℕ)) (count i : ℕ) (some : List ℕ) → some ≡ named_before names i → i ≤ count → count ≤ i
    → some ≡ named_before names count
all_names names count i some h most least =
    let k : i ≡ count = omega arith in
    subst (λ m. some ≡ named_before names m) k h

pub blocks_said : {A E X : Type 0} (r : Result A E) (most : ℕ) (f : X → List ℕ) (xs : List X) (blocks : List ℕ) (o n : List ℕ)
    → blocks ≡ named_before (map f xs) (length xs) → IfOk r (λ a. Adds (table_of most (map f xs) blocks) o n)
    → IfOk r (λ a. Adds (blocks_table most (map f xs)) o n)
blocks_said r most f xs blocks o n h k =
    let e : blocks ≡ named_before (map f xs) (length (map f xs)) = h ∙ ap (named_before (map f xs)) (sym (length-map xs f)) in
    subst (λ b. IfOk r (λ a. Adds (table_of most (map f xs) b) o n)) e k

begun_of : {X : Type 0} (f : X → List ℕ) (p : List ℕ → Bool) (xs : List X) → prefix_len p (map f xs) ≡ prefix_len (λ x. p (f x)) xs
begun_of f p [] = refl
begun_of f p (x ∷ xs) = ap (λ n. if p (f x) then 1 + n else 0) (begun_of f p xs)

taken_of : {X : Type 0} (f : X → List ℕ) (p : List ℕ → Bool) (xs : List X) → length (take_while p (map f xs)) ≡ length (take_while (λ x. p (f x)) xs)
taken_of f p xs =
    ap (λ n. length (take n (map f xs))) (begun_of f p xs) ∙ ap length (take-map f (prefix_len (λ x. p (f x)) xs) xs)
    ∙ length-map (take (prefix_len (λ x. p (f x)) xs) xs) f

-- the last block of those that have the name of the first
pub last_one : {X : Type 0} (f : X → List ℕ) (xs : List X) (name : List ℕ) (block more : ℕ)
    → more ≡ length (take_while (λ x. bytes_eq name (f x)) (drop block xs)) → name ≡ name_of (map f xs) block → block + more ≡ last_named (map f xs) block
last_one f xs name block more h e =
    ap (λ m. block + m)
    (h ∙ sym (taken_of f (bytes_eq name) (drop block xs)) ∙ ap (λ l. length (take_while (bytes_eq name) l)) (sym (drop-map f block xs))
    ∙ ap (λ n. length (take_while (bytes_eq n) (drop block (map f xs)))) e)

-- several blocks are told by the first and the last of them
pub range_said : {A E : Type 0} (r : Result A E) (first last : ℕ) (o n : List ℕ) → first ≢ last
    → OnOk r (Adds (say (decimal first ∷ codes "-" ∷ decimal last ∷ []) ∷ []) o n) → OnOk r (Adds (say (numbers first last) ∷ []) o n)
range_said r first last o n h k =
    let some : nat_eq first last ≡ false = grind (arith, nat_tests) in
    rw some k

-- the heads of columns, one more at a time
pub one_more_head : (rows i : ℕ) (o n m : List ℕ) → Adds (heads_before rows i) o n → Adds (head_at rows i) n m → Adds (heads_before rows (i + 1)) o m
one_more_head rows i o n m h k =
    let e : i + 1 ≡ suc i = omega arith in
    subst (λ j. Adds (heads_before rows j) o m) (sym e) (adds_both (heads_before rows i) (head_at rows i) o n m h k)

pub all_heads : (rows count i : ℕ) (o n : List ℕ) → Adds (heads_before rows i) o n → i ≤ count → count ≤ i → Adds (heads_before rows count) o n
all_heads rows count i o n h most least =
    let k : i ≡ count = omega arith in
    subst (λ m. Adds (heads_before rows m) o n) k h
