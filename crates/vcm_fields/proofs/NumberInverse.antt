-- Numbers, bytes that stand for a value, and runs of bytes that a reader and a spelling undo.
use Rattle.std.proofs.Common.{◌≡◌, ℕ, suc, ◌^◌, ◌<◌, ◌≤◌, Bool, true, false, cond, eqb, ltb, List, [], ◌∷◌, ◌++◌, length, take, drop, Ok, refl, sym, ap, subst, arith}
use Rattle.std.specs.Int.{Width, w16, w32, w64, byte_len, from_le_bytes, to_le_bytes}
use Rattle.std.proofs.lemmas.Bool.{ltb-false, le-ltb, eqb-true}
use Rattle.std.proofs.lemmas.List.{take_at, drop_at, take-append-drop, length-append, length-take}
use Rattle.std.proofs.lemmas.Nat.{le_bytes_2, le_bytes_4, le_bytes_8, from_le_bytes-to_le_bytes_2, from_le_bytes-to_le_bytes_4, from_le_bytes-to_le_bytes_8}
use Rattle.vcm_fields.specs.declared.fault.ImageFault.TheVariants.{Short}
use Rattle.vcm_fields.specs.Spelling.{byte}
use Rattle.vcm_fields.specs.Readers.{among, one_of, byte_at, number_at, bytes_at}
use Rattle.vcm_fields.proofs.Inverse.{IsBytes, IsBytes-drop, IsBytes-take, guard_short, ok_is, Takes, Reads}

-- ---- bytes that stand for a value

IsBytes-rest : (b : ℕ) (bytes : List ℕ) → IsBytes (b ∷ bytes) → IsBytes bytes
IsBytes-rest b bytes h i = h (suc i)

among_takes : {A : Type 0} (byte_of : A → ℕ) (xs : List A) (k : ℕ) (bytes : List ℕ) (x : A × List ℕ) → IsBytes bytes → among byte_of xs k bytes ≡ Ok x → Takes (k ∷ bytes) (byte (byte_of x.0)) x.1
among_takes byte_of [] k bytes x fits e = absurd cc
among_takes {A} byte_of (y ∷ ys) k bytes x fits e = split (λ e'. among_takes byte_of ys k bytes x fits e') (eqb k (byte_of y)) refl e
  where
    split : (among byte_of ys k bytes ≡ Ok x → Takes (k ∷ bytes) (byte (byte_of x.0)) x.1) → (b : Bool) → eqb k (byte_of y) ≡ b
        → cond b (Ok (y, bytes)) (among byte_of ys k bytes) ≡ Ok x → Takes (k ∷ bytes) (byte (byte_of x.0)) x.1
    split more true t e' = subst (λ (z : A × List ℕ). Takes (k ∷ bytes) (byte (byte_of z.0)) z.1) (ok_is (y, bytes) x e')
        (record { parts = ap (λ (n : ℕ). n ∷ bytes) (eqb-true k (byte_of y) t); rest_fits = fits })
    split more false t e' = more e'

one_takes : {A : Type 0} (byte_of : A → ℕ) (xs : List A) (bytes : List ℕ) (x : A × List ℕ) → IsBytes bytes → one_of byte_of xs bytes ≡ Ok x → Takes bytes (byte (byte_of x.0)) x.1
one_takes byte_of xs [] x fits e = absurd cc
one_takes byte_of xs (b ∷ bytes) x fits e = among_takes byte_of xs b bytes x (IsBytes-rest b bytes fits) e

-- each value is found by its byte
abbrev pub Found : {A : Type 0} → (A → ℕ) → List A → Type 0
Found {A} byte_of xs = (x : A) (rest : List ℕ) → among byte_of xs (byte_of x) rest ≡ Ok (x, rest)

pub reads_one_of : {A : Type 0} (byte_of : A → ℕ) (xs : List A) → Found byte_of xs → Reads (one_of byte_of xs) (λ x. byte (byte_of x)) (λ x. Unit {0})
reads_one_of byte_of xs h = record { takes = λ bytes x fits e. (one_takes byte_of xs bytes x fits e, tt); again = λ x rest u. h x rest }

-- ---- numbers

pub reads_byte : Reads byte_at (λ n. n ∷ []) (λ n. n < 256)
reads_byte = record {
  takes = take_byte;
  again = λ x rest h. refl;
}
  where
    take_byte : (bytes : List ℕ) (x : ℕ × List ℕ) → IsBytes bytes → byte_at bytes ≡ Ok x → Takes bytes (x.0 ∷ []) x.1 × (x.0 < 256)
    take_byte [] x fits e = absurd cc
    take_byte (b ∷ rest) x fits e = subst (λ (y : ℕ × List ℕ). Takes (b ∷ rest) (y.0 ∷ []) y.1 × (y.0 < 256)) (ok_is (b, rest) x e)
        (record { parts = refl; rest_fits = IsBytes-rest b rest fits }, fits 0)

pub record IsWide (w : Width) (limit : ℕ) : Type 0 where
  pub len : (n : ℕ) → length (to_le_bytes w n) ≡ byte_len w
  pub back : (bytes : List ℕ) → length bytes ≡ byte_len w → IsBytes bytes → to_le_bytes w (from_le_bytes w bytes) ≡ bytes
  pub again : (n : ℕ) → n < limit → from_le_bytes w (to_le_bytes w n) ≡ n
  pub below : (bytes : List ℕ) → IsBytes bytes → from_le_bytes w bytes < limit

wide16 : IsWide w16 (2 ^ 16)
wide16 = record {
  len = λ n. refl;
  back = λ bytes len fits. le_bytes_2 bytes _ len fits refl;
  again = λ n lt. from_le_bytes-to_le_bytes_2 n lt;
  below = λ bytes fits. omega (arith, fits 0, fits 1);
}

wide32 : IsWide w32 (2 ^ 32)
wide32 = record {
  len = λ n. refl;
  back = λ bytes len fits. le_bytes_4 bytes _ len fits refl;
  again = λ n lt. from_le_bytes-to_le_bytes_4 n lt;
  below = λ bytes fits. omega (arith, fits 0, fits 1, fits 2, fits 3);
}

wide64 : IsWide w64 (2 ^ 64)
wide64 = record {
  len = λ n. refl;
  back = λ bytes len fits. le_bytes_8 bytes _ len fits refl;
  again = λ n lt. from_le_bytes-to_le_bytes_8 n lt;
  below = λ bytes fits. omega (arith, fits 0, fits 1, fits 2, fits 3, fits 4, fits 5, fits 6, fits 7);
}

number_takes : (w : Width) (limit : ℕ) (wide : IsWide w limit) (bytes : List ℕ) (x : ℕ × List ℕ) → IsBytes bytes → number_at w bytes ≡ Ok x → Takes bytes (to_le_bytes w x.0) x.1 × (x.0 < limit)
number_takes w limit wide bytes x fits e =
    let g = guard_short (ltb (length bytes) (byte_len w)) Short (from_le_bytes w (take (byte_len w) bytes), drop (byte_len w) bytes) x e in
    let long : byte_len w ≤ length bytes = ltb-false _ _ g.0 in
    let front : to_le_bytes w (from_le_bytes w (take (byte_len w) bytes)) ≡ take (byte_len w) bytes =
    wide.back (take (byte_len w) bytes) (omega (arith, length-take (byte_len w) bytes)) (IsBytes-take (byte_len w) bytes fits) in
    subst (λ (y : ℕ × List ℕ). Takes bytes (to_le_bytes w y.0) y.1 × (y.0 < limit)) g.1 (
      record { parts = rw front (sym (take-append-drop (byte_len w) bytes)); rest_fits = IsBytes-drop (byte_len w) bytes fits },
      wide.below
          (take (byte_len w) bytes) (IsBytes-take (byte_len w) bytes fits),
    )

number_again : (w : Width) (limit : ℕ) (wide : IsWide w limit) (n : ℕ) (rest : List ℕ) → n < limit → number_at w (to_le_bytes w n ++ rest) ≡ Ok (n, rest)
number_again w limit wide n rest lt =
    let len = wide.len n in
    let long : ltb (length (to_le_bytes w n ++ rest)) (byte_len w) ≡ false = le-ltb _ _ (omega (arith, length-append (to_le_bytes w n) rest)) in
    rw (long, take_at (to_le_bytes w n) rest (byte_len w) len, drop_at (to_le_bytes w n) rest (byte_len w) len, wide.again n lt) refl

reads_number : (w : Width) (limit : ℕ) → IsWide w limit → Reads (number_at w) (to_le_bytes w) (λ n. n < limit)
reads_number w limit wide = record {
  takes = number_takes w limit wide;
  again = number_again w limit wide;
}

pub reads_short : Reads (number_at w16) (to_le_bytes w16) (λ n. n < 2 ^ 16)
reads_short = reads_number w16 (2 ^ 16) wide16

pub reads_long : Reads (number_at w32) (to_le_bytes w32) (λ n. n < 2 ^ 32)
reads_long = reads_number w32 (2 ^ 32) wide32

pub reads_eight : Reads (number_at w64) (to_le_bytes w64) (λ n. n < 2 ^ 64)
reads_eight = reads_number w64 (2 ^ 64) wide64

-- ---- bytes

pub reads_bytes : (n : ℕ) → Reads (bytes_at n) (λ x. x) (λ x. length x ≡ n)
reads_bytes n = record {
  takes = take_bytes;
  again = again_bytes;
}
  where
    take_bytes : (bytes : List ℕ) (x : List ℕ × List ℕ) → IsBytes bytes → bytes_at n bytes ≡ Ok x → Takes bytes x.0 x.1 × (length x.0 ≡ n)
    take_bytes bytes x fits e =
        let g = guard_short (ltb (length bytes) n) Short (take n bytes, drop n bytes) x e in
        let long : n ≤ length bytes = ltb-false _ _ g.0 in
        subst (λ (y : List ℕ × List ℕ). Takes bytes y.0 y.1 × (length y.0 ≡ n)) g.1
        (record { parts = sym (take-append-drop n bytes); rest_fits = IsBytes-drop n bytes fits }, omega (arith, length-take n bytes))

    again_bytes : (x rest : List ℕ) → length x ≡ n → bytes_at n (x ++ rest) ≡ Ok (x, rest)
    again_bytes x rest h =
        let long : ltb (length (x ++ rest)) n ≡ false = le-ltb _ _ (omega (arith, length-append x rest)) in
        rw (long, take_at x rest n h, drop_at x rest n h) refl
