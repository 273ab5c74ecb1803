-- Capital letters at the front of an array.
use Rattle.std.proofs.Common.{◌≡◌, ℕ, List, [], ◌∷◌, ◌++◌, length, map, take, drop, refl, sym, ap, ◌∙◌}
use Rattle.std.specs.Char.{to_ascii_uppercase}
use Rattle.std.proofs.lemmas.List.{length-map}

seam : (xs ys : List ℕ) → take (length xs) (xs ++ ys) ≡ xs
seam [] ys = refl
seam (x ∷ xs) ys = ap (λ (l : List ℕ). x ∷ l) (seam xs ys)

-- a text that is copied to the front of zeros, and then raised there
pub capitals_front : (text copied up zeros : List ℕ) → copied ≡ text → up ≡ map to_ascii_uppercase (take (length text) (copied ++ drop (length text) zeros))
    → take (length text) (up ++ drop (length text) (copied ++ drop (length text) zeros)) ≡ map to_ascii_uppercase text
capitals_front text copied up zeros c u =
    let behind : List ℕ = drop (length text) zeros in
    let front : take (length text) (copied ++ behind) ≡ text = rw c (seam text behind) in
    let is : up ≡ map to_ascii_uppercase text = u ∙ ap (map to_ascii_uppercase) front in
    let size : length text ≡ length (map to_ascii_uppercase text) = sym (length-map text to_ascii_uppercase) in
    rw (is, size) (seam (map to_ascii_uppercase text) (drop (length (map to_ascii_uppercase text)) (copied ++ drop (length (map to_ascii_uppercase text)) zeros)))
