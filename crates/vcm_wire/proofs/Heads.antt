-- What begins no input.
use Rattle.std.proofs.Common.{◌≡◌, ◌≢◌, ℕ, ◌<◌, List, [], ◌∷◌, ◌++◌, length, take, get_or, Option, Some, None, refl, sym, ap, ◌∙◌, append_assoc, append-nil, codes, arith}
use Rattle.std.specs.Io.KnownBytes.{Consumes}
use Rattle.vcm_wire.specs.declared.frames.FrameFault.{FrameFault}
use Rattle.vcm_wire.specs.declared.frames.FrameFault.TheVariants.{Read, NoHead, TooLong, NoMemory}
use Rattle.vcm_wire.specs.Frames.{head, HasNoHead, IsUnframed}
use Rattle.vcm_wire.specs.inner.Heads.{BeginsWithNone, IsNoneOf, IsHead, IsEnded}
use Rattle.vcm_wire.proofs.Taking.{takes_nothing, takes_more, after_front, differs}

-- each of some texts has one of other texts within it, behind this front
abbrev pub IsInside : (List ℕ → Type 0) → (List ℕ → Type 0) → List ℕ → Type 0
IsInside Is Was p = (text : List ℕ) → Is text → (s : List ℕ) × (u : List ℕ) × Was s × (text ≡ p ++ (s ++ u))

pub none_begins : (Is Was : List ℕ → Type 0) (a b : Option (List ℕ)) (p : List ℕ) → Consumes a b p → IsInside Is Was p → BeginsWithNone Was b → BeginsWithNone Is a
none_begins Is Was None b p h inside none = tt
none_begins Is Was (Some xs) None p h inside none = absurd h
none_begins Is Was (Some xs) (Some ys) p h inside none = λ text rest more is e.
    let i = inside text is in
    let left : text ++ rest ≡ p ++ (i.0 ++ (i.1 ++ rest)) = ap (λ t. t ++ rest) i.3 ∙ append_assoc p (i.0 ++ i.1) rest ∙ ap (λ t. p ++ t) (append_assoc i.0 i.1 rest) in
    let right : xs ++ more ≡ p ++ (ys ++ more) = ap (λ t. t ++ more) h ∙ append_assoc p ys more in
    none i.0 (i.1 ++ rest) more i.2 (after_front p _ _ (sym left ∙ e ∙ right))

pub none_read : (Is Was : List ℕ → Type 0) (a b : Option (List ℕ)) (p : List ℕ) (f : FrameFault) → Consumes a b p → IsInside Is Was p → IsNoneOf Was b f → IsNoneOf Is a f
none_read Is Was a b p Read h inside none = tt
none_read Is Was a b p NoHead h inside none = none_begins Is Was a b p h inside none
none_read Is Was a b p TooLong h inside none = absurd none
none_read Is Was a b p NoMemory h inside none = absurd none

-- another byte than that of the text
pub other_byte : (a b c : Option (List ℕ)) (w : List ℕ) (i x : ℕ) → i < length w → Consumes a b (take i w) → Consumes b c (x ∷ []) → x ≢ get_or w i 0 → BeginsWithNone (λ t. t ≡ w) a
other_byte None b c w i x l h k ne = tt
other_byte (Some xs) None c w i x l h k ne = absurd h
other_byte (Some xs) (Some ys) None w i x l h k ne = absurd k
other_byte (Some xs) (Some ys) (Some zs) w i x l h k ne = λ text rest more is e.
    let left : text ++ rest ≡ w ++ rest = ap (λ t. t ++ rest) is in
    let right : xs ++ more ≡ take i w ++ (x ∷ (zs ++ more)) = ap (λ t. t ++ more) (h ∙ ap (λ t. take i w ++ t) k) ∙ append_assoc (take i w) (x ∷ zs) more in
    differs w rest (zs ++ more) i x l ne (sym left ∙ e ∙ right)

-- another first byte than that of a head
pub other_first : (a b : Option (List ℕ)) (x : ℕ) → Consumes a b (x ∷ []) → x ≢ 67 → BeginsWithNone IsHead a
other_first a b x h ne =
    none_begins IsHead (λ t. t ≡ codes "Content-Length: ") a a [] (takes_nothing a) (λ text is. (codes "Content-Length: ", is.0 ++ codes "\r\n\r\n", refl, is.2))
    (other_byte a a b (codes "Content-Length: ") 0 x (omega arith) (takes_nothing a) h ne)

-- another front behind the first byte
pub other_front : (a b : Option (List ℕ)) (f : FrameFault) → Consumes a b (67 ∷ []) → IsNoneOf (λ t. t ≡ codes "ontent-Length: ") b f → IsNoneOf IsHead a f
other_front a b f h =
    none_read IsHead (λ t. t ≡ codes "ontent-Length: ") a b (67 ∷ []) f h (λ text is. (codes "ontent-Length: ", is.0 ++ codes "\r\n\r\n", refl, is.2))

-- no length behind the front
pub no_length : (a b c : Option (List ℕ)) (f : FrameFault) → Consumes a b (67 ∷ []) → Consumes b c (codes "ontent-Length: ") → IsNoneOf (IsEnded (codes "\r\n\r\n")) c f → IsNoneOf IsHead a f
no_length a b c f h k =
    none_read IsHead (IsEnded (codes "\r\n\r\n")) a c (codes "Content-Length: ") f (takes_more a b c (67 ∷ []) (codes "ontent-Length: ") _ refl h k)
    (λ text is. (is.0 ++ codes "\r\n\r\n", [], (is.0, is.1, refl), is.2 ∙ ap (λ t. codes "Content-Length: " ++ t) (sym (append-nil (is.0 ++ codes "\r\n\r\n")))))

pub no_head : (a : Option (List ℕ)) → BeginsWithNone IsHead a → HasNoHead a
no_head None h = tt
no_head (Some xs) h = λ digits rest more is e. h (head digits) rest more (digits, is, refl) e

pub unframed : (a b : Option (List ℕ)) (f : FrameFault) → IsNoneOf IsHead a f → IsUnframed a b f
unframed a b Read h = tt
unframed a b NoHead h = no_head a h
unframed a b TooLong h = absurd h
unframed a b NoMemory h = absurd h
