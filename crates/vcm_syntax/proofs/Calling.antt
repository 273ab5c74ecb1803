-- Names between apostrophes.
use Rattle.std.proofs.Common.{◌≡◌, ℕ, List, [], ◌∷◌, ◌++◌, length, take, drop, map, refl, sym, ap, ◌∙◌, arith}
use Rattle.std.specs.Char.{to_ascii_uppercase}
use Rattle.std.proofs.lemmas.List.{length-map}
use Rattle.std.proofs.lemmas.Str.Ascii.{uppercase_is}
use Rattle.vcm_lines.specs.Bytes.{upper}
use Rattle.vcm_syntax.specs.Macros.{raised}

upper_is : (b : ℕ) → to_ascii_uppercase b ≡ upper b
upper_is b = grind (arith, uppercase_is b)

raised_is : (bs : List ℕ) → map to_ascii_uppercase bs ≡ raised bs
raised_is [] = refl
raised_is (b ∷ bs) = rw (upper_is b, raised_is bs) refl

seam : (xs ys : List ℕ) → take (length xs) (xs ++ ys) ≡ xs
seam [] ys = refl
seam (x ∷ xs) ys = ap (λ (l : List ℕ). x ∷ l) (seam xs ys)

-- a text that is copied to the front of zeros, and then raised there
pub raised_front : (text copied up zeros : List ℕ) → copied ≡ text → up ≡ map to_ascii_uppercase (take (length text) (copied ++ drop (length text) zeros))
    → take (length text) (up ++ drop (length text) (copied ++ drop (length text) zeros)) ≡ raised text
raised_front text copied up zeros c u =
    let behind : List ℕ = drop (length text) zeros in
    let front : take (length text) (copied ++ behind) ≡ text = rw c (seam text behind) in
    let is : up ≡ raised text = u ∙ ap (map to_ascii_uppercase) front ∙ raised_is text in
    let size : length text ≡ length (raised text) = sym (length-map text upper) in
    rw (is, size) (seam (raised text) (drop (length (raised text)) (copied ++ drop (length (raised text)) zeros)))
