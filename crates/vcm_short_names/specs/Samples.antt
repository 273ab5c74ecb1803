-- Worked examples: long names of small texts, computed.
use Rattle.std.specs.Prelude.{◌≡◌, refl, ℕ, List, [], ◌∷◌, ◌++◌, codes}
use Rattle.vcm_short_names.specs.Pieces.{words}
use Rattle.vcm_short_names.specs.Short.{short_names, shortened, free_from}
use Rattle.vcm_short_names.specs.Lengthened.{lengthened}

-- the end of a line
abbrev pub end : List ℕ
end = 10 ∷ []

-- ---- the words of a text

pub between : words (codes "D(A_1)=SNSDEF/X2, 3.5") ≡ codes "D" ∷ codes "A_1" ∷ codes "SNSDEF" ∷ codes "X2" ∷ codes "3" ∷ codes "5" ∷ []
between = refl

pub not_quoted : words (codes "A/'B' $ C $$ D" ++ end ++ codes "E/'F" ++ end ++ codes "G") ≡ codes "A" ∷ codes "C" ∷ codes "E" ∷ codes "G" ∷ []
not_quoted = refl

-- ---- one long name, twice

abbrev pub recalled : List ℕ
recalled = codes "D(GROBAUSRICHTUNG_PALETTE_3)" ++ end ++ codes "RECALL/D(GROBAUSRICHTUNG_PALETTE_3)" ++ end

pub first_sixteen : short_names recalled ≡ record { long = codes "GROBAUSRICHTUNG_PALETTE_3"; short = codes "GROBAUSRICHTUNG_"; line = 1 } ∷ []
unfolding free_from
first_sixteen = refl

pub both_written : shortened recalled ≡ codes "D(GROBAUSRICHTUNG_)" ++ end ++ codes "RECALL/D(GROBAUSRICHTUNG_)" ++ end
unfolding free_from
both_written = refl

-- ---- the first sixteen bytes are taken, by another long name or by a word

abbrev pub two_pallets : List ℕ
two_pallets = codes "D(GROBAUSRICHTUNG_1)" ++ end ++ codes "D(GROBAUSRICHTUNG_2)"

pub numbered : short_names two_pallets
    ≡ record { long = codes "GROBAUSRICHTUNG_1"; short = codes "GROBAUSRICHTUNG_"; line = 1 }
    ∷ record { long = codes "GROBAUSRICHTUNG_2"; short = codes "GROBAUSRICHTU_01"; line = 2 } ∷ []
unfolding free_from
numbered = refl

pub both_numbered : shortened two_pallets ≡ codes "D(GROBAUSRICHTUNG_)" ++ end ++ codes "D(GROBAUSRICHTU_01)"
unfolding free_from
both_numbered = refl

pub behind_words : shortened (codes "ABCDEFGHIJKLMNOPQ=abcdefghijklmnop+ABCDEFGHIJKLM_01") ≡ codes "ABCDEFGHIJKLM_02=abcdefghijklmnop+ABCDEFGHIJKLM_01"
unfolding free_from
behind_words = refl

-- ---- quoted texts, comments and numbers stay

pub quoted_stays : shortened (codes "TEXT/OUTFIL,'ABCDEFGHIJKLMNOPQ'") ≡ codes "TEXT/OUTFIL,'ABCDEFGHIJKLMNOPQ'"
unfolding free_from
quoted_stays = refl

pub comment_stays : shortened (codes "ENDFIL $$ ABCDEFGHIJKLMNOPQ") ≡ codes "ENDFIL $$ ABCDEFGHIJKLMNOPQ"
unfolding free_from
comment_stays = refl

pub number_stays : shortened (codes "X=ASSIGN/12345678901234567890") ≡ codes "X=ASSIGN/12345678901234567890"
unfolding free_from
number_stays = refl

-- ---- two spellings

pub spelled_twice : shortened (codes "Abcdefghijklmnopq=ABCDEFGHIJKLMNOPQ") ≡ codes "Abcdefghijklmnop=ABCDEFGHIJKLMNOP"
unfolding free_from
spelled_twice = refl

pub spelled_numbered : shortened (codes "ABCDEFGHIJKLMNOP/Abcdefghijklmnopq=ABCDEFGHIJKLMNOPQ") ≡ codes "ABCDEFGHIJKLMNOP/Abcdefghijklm_01=ABCDEFGHIJKLM_01"
unfolding free_from
spelled_numbered = refl

-- ---- written long again

pub long_again : lengthened (short_names two_pallets) (codes "3,5,GROBAUSRICHTU_01,20.000" ++ end ++ codes "X GROBAUSRICHTUNG_ 'GROBAUSRICHTUNG_'")
    ≡ codes "3,5,GROBAUSRICHTUNG_2,20.000" ++ end ++ codes "X GROBAUSRICHTUNG_1 'GROBAUSRICHTUNG_'"
unfolding free_from
long_again = refl
