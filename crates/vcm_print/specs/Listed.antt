-- A line of a listing with its end.
use Rattle.std.specs.Prelude.{ℕ, List, ◌++◌, codes}
use Rattle.vcm_words.specs.Rows.{ListRow, row_text}

-- a line of the listing and its end
unfoldable pub listed : ListRow → List ℕ
listed r = row_text r ++ codes "\n"
