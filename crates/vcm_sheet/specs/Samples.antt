-- Worked examples.
use Rattle.std.specs.Prelude.{◌≡◌, refl, ℕ, ℤ, pos, negsuc, true, false, [], ◌∷◌, ◌++◌, Some, None, codes}
use Rattle.std.specs.Fmt.{digits}
use Rattle.vcm_num.specs.Point.{point}
use Rattle.vcm_marks.specs.declared.mark.Mark.TheVariants.{Touches}
use Rattle.vcm_marks.specs.declared.mark.PlacedMark.{PlacedMark}
use Rattle.vcm_svg.specs.Pieces.{joined}
use Rattle.vcm_svg.specs.Rect.{spot}
use Rattle.vcm_picture.specs.Sights.{Window}
use Rattle.vcm_sheet.specs.declared.paper.Paper.TheVariants.{A4, A3}
use Rattle.vcm_sheet.specs.Lines.{draws_end}
use Rattle.vcm_sheet.specs.Paper.{room_of, scale_above, scale_on, scale_words}
use Rattle.vcm_sheet.specs.Points.{points_on}
use Rattle.vcm_sheet.specs.Readings.{deviation_words}
use Rattle.vcm_sheet.specs.Sayings.{say, Says, text_with}
use Rattle.vcm_sheet.specs.Tables.{point_row, points_head, heads_before, blocks_table}
use Rattle.vcm_sheet.specs.Ticks.{ticks_of, tick_words}
use Rattle.vcm_sheet.specs.Views.{missing_line}

-- ---- points and lines

-- a point that was touched in this step, by a statement on this line, at a place so far to the right
abbrev touch : ℕ → ℕ → ℤ → PlacedMark
touch step line x = record { mark = Touches (record { at = point x (pos 20000) (pos 500); feature = 1 }); step = step; number = step; line = line; is_elsewhere = false }

-- of two touched points on the lines 7 and 11, one comes from the lines 10 to 12: the second
pub second_point : points_on (record { first = 10; last = 12 }) (touch 4 7 (pos 20000) ∷ touch 8 11 (pos 80000) ∷ [])
    ≡ record { number = pos 2; step = record { step = 8; number = 8; line = 11 }; touched = record { at = point (pos 80000) (pos 20000) (pos 500); feature = 1 } } ∷ []
second_point = refl

-- the row of such a point, whose feature is the second of these: its step, the 8th, measured a place half a millimetre too low
pub second_row :
    point_row (codes "P" ∷ codes "Q" ∷ [])
    (record { step = 4; at = point (pos 0) (pos 0) (pos 500); deviation = None } ∷ record { step = 8; at = point (pos 60000) (pos 0) (pos 500); deviation = Some (negsuc 499) } ∷ [])
    (record { number = pos 2; step = record { step = 8; number = 8; line = 11 }; touched = record { at = point (pos 80000) (pos 20000) (pos 500); feature = 1 } })
    ≡ say (codes "2" ∷ []) ∷ say (codes "11" ∷ []) ∷ say (codes "Q" ∷ []) ∷ say (codes "80.000 20.000 0.500" ∷ [])
    ∷ say (codes "60.000 0.000 0.500" ∷ []) ∷ say (codes "-0.500" ∷ []) ∷ []
unfolding digits
second_row = refl

-- of a point of a feature that wasn't declared there is no deviation, and where nothing is known of a step there is neither
pub no_deviation : deviation_words (Some (record { step = 4; at = point (pos 0) (pos 0) (pos 500); deviation = None })) ≡ codes "-"
no_deviation = refl

-- 41 points have two columns
pub two_columns : heads_before 40 41 ≡ points_head ++ points_head
two_columns = refl

-- of a way that ends on line 11 the end is drawn with the lines 10 to 12, and not with 1 to 7
pub end_is_drawn : draws_end (record { first = 10; last = 12 }) (touch 4 7 (pos 20000) ∷ touch 8 11 (pos 80000) ∷ []) ≡ true
end_is_drawn = refl

pub end_is_elsewhere : draws_end (record { first = 1; last = 7 }) (touch 4 7 (pos 20000) ∷ touch 8 11 (pos 80000) ∷ []) ≡ false
end_is_elsewhere = refl

-- one number of three found no room
pub one_missing : missing_line 3 2 ≡ say (codes "1" ∷ codes " number has no room" ∷ []) ∷ []
unfolding digits
one_missing = refl

-- ---- names of blocks

-- the second of three blocks has a name, which ends in a line feed
pub named_block :
    blocks_table 40 ([] ∷ codes "plate <A>\n" ∷ [] ∷ [])
    ≡ say (codes "block" ∷ []) ∷ say (codes "name" ∷ []) ∷ say (codes "2" ∷ []) ∷ say (codes "plate &lt;A>?" ∷ []) ∷ []
unfolding digits
named_block = refl

-- blocks one after another with one name have one row
pub named_blocks :
    blocks_table 40 ([] ∷ codes "bore" ∷ codes "bore" ∷ codes "rib" ∷ codes "bore" ∷ [])
    ≡ say (codes "block" ∷ []) ∷ say (codes "name" ∷ []) ∷ say (codes "2-3" ∷ []) ∷ say (codes "bore" ∷ []) ∷ say (codes "4" ∷ []) ∷ say (codes "rib" ∷ [])
    ∷ say (codes "5" ∷ []) ∷ say (codes "bore" ∷ []) ∷ []
unfolding digits
named_blocks = refl

-- ---- ticks

-- from 3 cm before 0 to 5 cm after it, 2 cm apart
pub four_ticks :
    ticks_of (record { low = negsuc 29999; high = pos 50000; step = pos 20000 }) ≡ negsuc 19999 ∷ pos 0 ∷ pos 20000 ∷ pos 40000 ∷ []
unfolding ticks_of
four_ticks = refl

-- 2 cm, and half a tenth of a millimetre before 0
pub whole_words : tick_words (pos 20000) ≡ codes "20"
unfolding digits
whole_words = refl

pub fine_words : tick_words (negsuc 49) ≡ codes "-0.050"
unfolding digits
fine_words = refl

-- ---- what a text says

-- a group of a path and one text says this text
pub one_text : Says (say (codes "end" ∷ []) ∷ []) (codes "<g>\n<path d=\"M0 0\"/>\n<text transform=\"matrix(5 0 0 5 20 -30)\" class=\"p\">end</text>\n</g>\n")
unfolding digits text_with
one_text = record {
  gap = codes "<g>\n<path d=\"M0 0\"/>\n";
  first = codes "<text transform=\"matrix(5 0 0 5 20 -30)\" class=\"p\">end</text>\n";
  rest = codes "</g>\n";
  mute = record { opens_none = λ rest. refl };
  says_first = record {
    at = spot (pos 20) (negsuc 29);
    is_text = record { size = pos 5; attributes = codes " class=\"p\""; in_tag = refl; bytes_are = refl };
  };
  says_rest = record { opens_none = λ rest. refl };
  bytes_are = refl;
}

-- ---- papers

-- 100 by 80 by 50 mm
abbrev bracket : Window
bracket = record { low = point (pos 0) (pos 0) (pos 0); full = point (pos 100000) (pos 80000) (pos 50000); grain = pos 1; unit = pos 180 }

-- below a heading of four lines A4 has room for 26 rows, so of 100 points 25 are listed, and one row says how many more there are
pub points_on_a4 : room_of (Some A4) 4 100 bracket ≡ record { rows = 26; points = 25; names = 0 }
unfolding scale_above
points_on_a4 = refl

-- A3 has two columns of 50
pub points_on_a3 : room_of (Some A3) 4 100 bracket ≡ record { rows = 50; points = 100; names = 0 }
unfolding scale_above
points_on_a3 = refl

-- beside three points the views are larger above the tables, and the names of six blocks have room
pub names_on_a4 : room_of (Some A4) 4 3 bracket ≡ record { rows = 12; points = 3; names = 6 }
unfolding scale_above
names_on_a4 = refl

-- so they are drawn at 1:2, on A3 at 1:1, and beside 20 points on A4 at 1:5
pub scale_on_a4 : joined (scale_words (scale_on A4 4 3 bracket)) ≡ codes "1:2"
unfolding digits scale_above
scale_on_a4 = refl

pub scale_on_a3 : joined (scale_words (scale_on A3 4 3 bracket)) ≡ codes "1:1"
unfolding digits scale_above
scale_on_a3 = refl

pub scale_beside_20 : joined (scale_words (scale_on A4 4 20 bracket)) ≡ codes "1:5"
unfolding digits scale_above
scale_beside_20 = refl

-- a part of 6 by 5 by 4 mm is drawn ten times as large
pub scale_of_small : joined (scale_words (scale_on A3 4 3 (record (bracket) { full = point (pos 6000) (pos 5000) (pos 4000) }))) ≡ codes "10:1"
unfolding digits scale_above
scale_of_small = refl
