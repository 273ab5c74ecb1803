-- The style of a picture. Widths and lengths are multiples of its unit.
use Rattle.std.specs.Prelude.{ℕ, ℤ, pos, ◌*ℤ◌, Bool, nat_le, if◌then◌else◌, map, List, ◌++◌, flat_map}
use Rattle.std.specs.Fmt.{signed_decimal}
use Rattle.vcm_svg.specs.declared.style.TheConstants.{GENERAL, BLOCKS, MOVES, WAYS, NOTES, ARROW, END}
use Rattle.std.specs.Int.{int_max, int_div_euclid}

-- a text, and behind it so many times a unit
abbrev pub width_text : ℤ → List ℕ × ℕ → List ℕ
width_text u row = row.0 ++ signed_decimal (pos row.1 *ℤ u)

-- the same of each of some rows, one after another
abbrev pub widths : ℤ → List (List ℕ × ℕ) → List ℕ
widths u rows = flat_map (width_text u) rows

-- the width of the edges of blocks: a quarter where there are more than 500 of them
abbrev pub edge_of : ℤ → ℕ → ℤ
edge_of u blocks = if nat_le blocks 500 then u else int_max (int_div_euclid u (pos 4)) (pos 1)

-- how many units wide moves are: 1 where there are more than 500 pieces
abbrev pub broad_if : Bool → ℕ
broad_if is_few = if is_few then 2 else 1

-- the style of texts, and of all that is no block and no way
abbrev pub general : List (List ℕ × ℕ)
general = map (λ row. (row.0.now, row.1)) GENERAL.now

-- the style of blocks, in units of their edges
abbrev pub blocks : List (List ℕ × ℕ)
blocks = map (λ row. (row.0.now, row.1)) BLOCKS.now

-- the style of approaches, searches, retracts and what was not reached, and of points and signs
abbrev pub ways : List (List ℕ × ℕ)
ways = map (λ row. (row.0.now, row.1)) WAYS.now

-- the end of the style, with the arrow at the end of moves, where there is one
abbrev pub end_text : Bool → List ℕ
end_text is_few = if is_few then ARROW.now else END.now

-- the style of a picture with this unit, so many blocks, and few pieces or many
abbrev pub style_text : ℤ → ℕ → Bool → List ℕ
style_text u count is_few =
    widths u general ++ (widths (edge_of u count) blocks ++ (width_text u (MOVES.now, broad_if is_few) ++ (widths u ways ++ end_text is_few)))

-- the style of lines of what wasn't tried, and of ways that begin elsewhere
abbrev pub notes : List (List ℕ × ℕ)
notes = map (λ row. (row.0.now, row.1)) NOTES.now

-- the same, with its end
abbrev pub notes_style : ℤ → List ℕ
notes_style u = widths u notes ++ END.now
