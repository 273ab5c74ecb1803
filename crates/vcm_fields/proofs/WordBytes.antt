-- A byte that stands for a word, as a reader sees it.
use Rattle.std.proofs.Common.{◌≡◌, ℕ, ◌==◌, Bool, true, false, List, [], ◌∷◌, Option, Some, None, Result, Ok, Err, refl, sym, ap, ◌∙◌}
use Rattle.std.specs.Prelude.{if◌then◌else◌}
use Rattle.vcm_code.specs.declared.word.Word.{Word}
use Rattle.vcm_code.specs.Words.{word_byte, with_byte}
use Rattle.vcm_fields.specs.declared.fault.ImageFault.{ImageFault}
use Rattle.vcm_fields.specs.declared.fault.ImageFault.TheVariants.{BadField}
use Rattle.vcm_fields.specs.Readers.{among}

-- a word that was found, with what stands after it; none is out of range
abbrev found : List ℕ → Option Word → Result (Word × List ℕ) ImageFault
found rest (Some w) = Ok (w, rest)
found rest None = Err BadField

among_is : (k : ℕ) (ws : List Word) (rest : List ℕ) → among word_byte ws k rest ≡ found rest (with_byte k ws)
unfolding with_byte
among_is k [] rest = refl
among_is k (w ∷ ws) rest = split (k == word_byte w) (among_is k ws rest)
  where
    split : (t : Bool) → among word_byte ws k rest ≡ found rest (with_byte k ws) → (if t then Ok (w, rest) else among word_byte ws k rest) ≡ found rest (if t then Some w else with_byte k ws)
    split true h = refl
    split false h = h

pub word_read : (k : ℕ) (ws : List Word) (rest : List ℕ) (w : Word) → Some w ≡ with_byte k ws → among word_byte ws k rest ≡ Ok (w, rest)
word_read k ws rest w e = among_is k ws rest ∙ ap (found rest) (sym e)

pub word_unread : (k : ℕ) (ws : List Word) (rest : List ℕ) → None ≡ with_byte k ws → among word_byte ws k rest ≡ Err BadField
word_unread k ws rest e = among_is k ws rest ∙ ap (found rest) (sym e)
