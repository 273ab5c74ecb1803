-- Bytes in which no text begins.
use Rattle.std.proofs.Common.{◌≡◌, ◌∙◌, ap, refl, ℕ, zero, suc, ◌/◌, ◌%◌, ◌==◌, ℤ, pos, negsuc, ◌*ℤ◌, Bool, true, false, cond, List, [], ◌∷◌, ◌++◌, append_assoc, arith}
use Rattle.std.specs.Prelude.{nat_eq, codes, neg_ℤ}
use Rattle.std.proofs.lemmas.Bool.Decides.{nat_tests}
use Rattle.std.specs.Fmt.{digits, digits_onto, digit_glyph, decimal, signed_decimal}
use Rattle.std.specs.List.{AllByRecursion}
use Rattle.vcm_svg.specs.declared.outlines.Outline.{Outline}
use Rattle.vcm_svg.specs.declared.outlines.Outline.TheVariants.{Rectangle, Circle, Cross, Line, Dash, Bar}
use Rattle.vcm_svg.specs.declared.shapes.Class.{Class}
use Rattle.vcm_svg.specs.declared.shapes.Class.TheVariants as class
use Rattle.vcm_svg.specs.Outlines.{outline_text}
use Rattle.vcm_svg.specs.Pieces.{joined}
use Rattle.vcm_svg.specs.Shapes.{class_name, path_front, path}
use Rattle.vcm_svg.specs.Style.{notes, notes_style, width_text, widths, general, blocks, ways, edge_of, broad_if, end_text, style_text}
use Rattle.vcm_svg.specs.declared.rect.Spot.{Spot}
use Rattle.vcm_picture.specs.declared.view.View.{View}
use Rattle.vcm_picture.specs.declared.view.View.TheVariants.{Top, Front, Side}
use Rattle.vcm_picture.specs.Drawing.{frame_of, group_text}
use Rattle.vcm_picture.specs.Picture.{clip_text, clips_text}
use Rattle.vcm_picture.specs.Sights.{Window}
use Rattle.vcm_picture.specs.View.{clip, scope_of}
use Rattle.vcm_sheet.specs.Painted.{line_text}
use Rattle.vcm_sheet.specs.Sayings.{openings, IsMute}

-- bytes of which it is seen at once
abbrev pub Opens : List ℕ → Type 0
Opens x = (rest : List ℕ) → openings (x ++ rest) ≡ openings rest

pub known : {x : List ℕ} → Opens x → IsMute x
known h = record { opens_none = h }

pub mute_none : IsMute []
mute_none = known (λ rest. refl)

pub mute_both : (x y : List ℕ) → IsMute x → IsMute y → IsMute (x ++ y)
mute_both x y h k = known (λ rest. ap openings (append_assoc x y rest) ∙ h.opens_none (y ++ rest) ∙ k.opens_none rest)

pub mute_joined : (texts : List (List ℕ)) → AllByRecursion IsMute texts → IsMute (joined texts)
mute_joined [] h = mute_none
mute_joined (t ∷ ts) h = mute_both t (joined ts) h.0 (mute_joined ts h.1)

-- ---- numbers

mute_byte : (b : ℕ) (bs : List ℕ) → nat_eq b 60 ≡ false → IsMute bs → IsMute (b ∷ bs)
mute_byte b bs e h = known (λ rest. rw e (h.opens_none rest))

mute_either : (b : Bool) (x y : List ℕ) → IsMute x → IsMute y → IsMute (cond b x y)
mute_either true x y h k = h
mute_either false x y h k = k

mute_digit : (n : ℕ) (acc : List ℕ) → IsMute acc → IsMute (digit_glyph false (n % 10) ∷ acc)
mute_digit n acc h = mute_byte (digit_glyph false (n % 10)) acc (grind (arith, nat_tests)) h

mute_digits : (k n : ℕ) (acc : List ℕ) → IsMute acc → IsMute (digits_onto k 10 false n acc)
mute_digits zero n acc h = h
mute_digits (suc k) n acc h =
    let d = digit_glyph false (n % 10) in
    mute_either (n / 10 == 0) (d ∷ acc) (digits_onto k 10 false (n / 10) (d ∷ acc)) (mute_digit n acc h) (mute_digits k (n / 10) (d ∷ acc) (mute_digit n acc h))

pub mute_decimal : (n : ℕ) → IsMute (decimal n)
unfolding digits
mute_decimal n = mute_digits 64 n [] mute_none

pub mute_number : (z : ℤ) → IsMute (signed_decimal z)
mute_number (pos n) = mute_decimal n
mute_number (negsuc n) = mute_byte 45 (decimal (suc n)) refl (mute_decimal (suc n))

-- ---- paths

pub mute_outline : (o : Outline) → IsMute (outline_text o)
mute_outline (Rectangle at w h) =
    mute_joined (codes "M" ∷ signed_decimal at.x ∷ codes " " ∷ signed_decimal at.y ∷ codes "h" ∷ signed_decimal w ∷ codes "v" ∷ signed_decimal h ∷ codes "h" ∷ signed_decimal (neg_ℤ w) ∷ codes "z" ∷ [])
    (known (λ rest. refl), (mute_number at.x, (known (λ rest. refl), (mute_number at.y, (known (λ rest. refl), (mute_number w, (known (λ rest. refl), (mute_number h, (known (λ rest. refl), (mute_number (neg_ℤ w), (known (λ rest. refl), tt)))))))))))
mute_outline (Circle at r w) =
    mute_joined (codes "M" ∷ signed_decimal at.x ∷ codes " " ∷ signed_decimal at.y ∷ codes "a" ∷ signed_decimal r ∷ codes " " ∷ signed_decimal r ∷ codes " 0 1 0 " ∷ signed_decimal w ∷ codes " 0a" ∷ signed_decimal r ∷ codes " " ∷ signed_decimal r ∷ codes " 0 1 0 " ∷ signed_decimal (neg_ℤ w) ∷ codes " 0z" ∷ [])
    (known (λ rest. refl), (mute_number at.x, (known (λ rest. refl), (mute_number at.y, (known (λ rest. refl), (mute_number r, (known (λ rest. refl), (mute_number r, (known (λ rest. refl), (mute_number w, (known (λ rest. refl), (mute_number r, (known (λ rest. refl), (mute_number r, (known (λ rest. refl), (mute_number (neg_ℤ w), (known (λ rest. refl), tt)))))))))))))))))
mute_outline (Cross at w) =
    mute_joined (codes "M" ∷ signed_decimal at.x ∷ codes " " ∷ signed_decimal at.y ∷ codes "l" ∷ signed_decimal w ∷ codes " " ∷ signed_decimal w ∷ codes "m0 " ∷ signed_decimal (neg_ℤ w) ∷ codes "l" ∷ signed_decimal (neg_ℤ w) ∷ codes " " ∷ signed_decimal w ∷ [])
    (known (λ rest. refl), (mute_number at.x, (known (λ rest. refl), (mute_number at.y, (known (λ rest. refl), (mute_number w, (known (λ rest. refl), (mute_number w, (known (λ rest. refl), (mute_number (neg_ℤ w), (known (λ rest. refl), (mute_number (neg_ℤ w), (known (λ rest. refl), (mute_number w, tt))))))))))))))
mute_outline (Line a b) =
    mute_joined (codes "M" ∷ signed_decimal a.x ∷ codes " " ∷ signed_decimal a.y ∷ codes "L" ∷ signed_decimal b.x ∷ codes " " ∷ signed_decimal b.y ∷ [])
    (known (λ rest. refl), (mute_number a.x, (known (λ rest. refl), (mute_number a.y, (known (λ rest. refl), (mute_number b.x, (known (λ rest. refl), (mute_number b.y, tt))))))))
mute_outline (Dash at long) =
    mute_joined (codes "M" ∷ signed_decimal at.x ∷ codes " " ∷ signed_decimal at.y ∷ codes "h" ∷ signed_decimal long ∷ [])
    (known (λ rest. refl), (mute_number at.x, (known (λ rest. refl), (mute_number at.y, (known (λ rest. refl), (mute_number long, tt))))))
mute_outline (Bar at rise long) =
    mute_joined (codes "M" ∷ signed_decimal at.x ∷ codes " " ∷ signed_decimal at.y ∷ codes "v" ∷ signed_decimal rise ∷ codes "h" ∷ signed_decimal long ∷ codes "v" ∷ signed_decimal (neg_ℤ rise) ∷ [])
    (known (λ rest. refl), (mute_number at.x, (known (λ rest. refl), (mute_number at.y, (known (λ rest. refl), (mute_number rise, (known (λ rest. refl), (mute_number long, (known (λ rest. refl), (mute_number (neg_ℤ rise), tt))))))))))

mute_class : (c : Class) → IsMute (class_name c)
mute_class class.Sheet = known (λ rest. refl)
mute_class class.Frame = known (λ rest. refl)
mute_class class.Limits = known (λ rest. refl)
mute_class class.Block = known (λ rest. refl)
mute_class class.Hidden = known (λ rest. refl)
mute_class class.Hit = known (λ rest. refl)
mute_class class.Move = known (λ rest. refl)
mute_class class.Arrow = known (λ rest. refl)
mute_class class.Approach = known (λ rest. refl)
mute_class class.Search = known (λ rest. refl)
mute_class class.Retract = known (λ rest. refl)
mute_class class.Rest = known (λ rest. refl)
mute_class class.Elsewhere = known (λ rest. refl)
mute_class class.Touched = known (λ rest. refl)
mute_class class.Place = known (λ rest. refl)
mute_class class.Tip = known (λ rest. refl)
mute_class class.Cross = known (λ rest. refl)

pub mute_path : (c : Class) (o : Outline) → IsMute (path c o)
mute_path c o =
    mute_both (path_front c) (outline_text o ++ codes "\"/>\n")
    (mute_joined (codes "<path class=\"" ∷ class_name c ∷ codes "\" d=\"" ∷ []) (known (λ rest. refl), (mute_class c, (known (λ rest. refl), tt))))
    (mute_both (outline_text o) (codes "\"/>\n") (mute_outline o) (known (λ rest. refl)))

-- a straight line of a class
pub mute_line : (c : List ℕ) (a b : Spot) → IsMute c → IsMute (line_text c a b)
unfolding line_text
mute_line c a b h =
    mute_joined
    (codes "<path class=\"" ∷ c ∷ codes "\" d=\"M" ∷ signed_decimal a.x ∷ codes " " ∷ signed_decimal a.y ∷ codes "L" ∷ signed_decimal b.x ∷ codes " "
    ∷ signed_decimal b.y ∷ codes "\"/>\n" ∷ []) (
      known (λ rest. refl),
      (
        h,
        (
          known (λ rest. refl),
          (
            mute_number a.x,
            (
              known (λ rest. refl),
              (
                mute_number a.y,
                (
                  known (λ rest. refl),
                  (
                    mute_number b.x,
                    (known (λ rest. refl), (mute_number b.y, (known (λ rest. refl), tt))),
                  ),
                ),
              ),
            ),
          ),
        ),
      ),
    )

-- ---- views

mute_clip_name : (v : View) → IsMute (clip v)
mute_clip_name Top = known (λ rest. refl)
mute_clip_name Front = known (λ rest. refl)
mute_clip_name Side = known (λ rest. refl)

-- the beginning of the group of a view
pub mute_group : (v : View) (at : Spot) → IsMute (group_text v at)
mute_group v at =
    mute_joined
    (codes "<g transform=\"matrix(1 0 0 1 " ∷ signed_decimal at.x ∷ codes " " ∷ signed_decimal at.y ∷ codes ")\" clip-path=\"url(#v" ∷ clip v
    ∷ codes ")\">\n" ∷ []) (
      known (λ rest. refl),
      (
        mute_number at.x,
        (
          known (λ rest. refl),
          (
            mute_number at.y,
            (
              known (λ rest. refl),
              (
                mute_clip_name v,
                (known (λ rest. refl), tt),
              ),
            ),
          ),
        ),
      ),
    )

mute_clip : (w : Window) (v : View) → IsMute (clip_text w v)
mute_clip w v =
    mute_both (joined (codes "<clipPath id=\"v" ∷ clip v ∷ codes "\"><path d=\"" ∷ [])) (outline_text (frame_of (scope_of w v)) ++ codes "\"/></clipPath>\n")
    (mute_joined (codes "<clipPath id=\"v" ∷ clip v ∷ codes "\"><path d=\"" ∷ []) (known (λ rest. refl), (mute_clip_name v, (known (λ rest. refl), tt))))
    (mute_both (outline_text (frame_of (scope_of w v))) (codes "\"/></clipPath>\n") (mute_outline (frame_of (scope_of w v))) (known (λ rest. refl)))

pub mute_clips : (w : Window) (vs : List View) → IsMute (clips_text w vs)
mute_clips w [] = mute_none
mute_clips w (v ∷ vs) = mute_both (clip_text w v) (clips_text w vs) (mute_clip w v) (mute_clips w vs)

-- ---- the style

mute_width : (u : ℤ) (row : List ℕ × ℕ) → IsMute row.0 → IsMute (width_text u row)
mute_width u row h = mute_both row.0 (signed_decimal (pos row.1 *ℤ u)) h (mute_number (pos row.1 *ℤ u))

mute_widths : (u : ℤ) (rows : List (List ℕ × ℕ)) → AllByRecursion (λ row. IsMute row.0) rows → IsMute (widths u rows)
mute_widths u [] h = mute_none
mute_widths u (row ∷ rows) h = mute_both (width_text u row) (widths u rows) (mute_width u row h.0) (mute_widths u rows h.1)

mute_end : (few : Bool) → IsMute (end_text few)
mute_end true = known (λ rest. refl)
mute_end false = known (λ rest. refl)

-- the style of texts on blocks, and of moves, as vcm_svg has it
abbrev moves : List ℕ
moves =
    codes "}\n.n{fill:#555}\n.p,.n{paint-order:stroke;stroke:#fff;stroke-width:3px;stroke-linejoin:round}\n.move,.approach,.search,.retract,.rest{fill:none;stroke-linecap:round}\n.move{stroke:#0072b2;stroke-width:"

-- the style of lines of what wasn't tried
pub mute_notes : (u : ℤ) → IsMute (notes_style u)
mute_notes u =
    mute_both (widths u notes) _ (mute_widths u notes (known (λ rest. refl), (known (λ rest. refl), (known (λ rest. refl), tt)))) (known (λ rest. refl))

-- a style of these tables
mute_tables : (u v : ℤ) (all some more : List (List ℕ × ℕ)) (texts : List ℕ) (broad : ℕ) (end : List ℕ) → AllByRecursion (λ row. IsMute row.0) all
    → AllByRecursion (λ row. IsMute row.0) some → IsMute texts → AllByRecursion (λ row. IsMute row.0) more → IsMute end
    → IsMute (widths u all ++ (widths v some ++ (width_text u (texts, broad) ++ (widths u more ++ end))))
mute_tables u v all some more texts broad end a b m c e =
    mute_both (widths u all) (widths v some ++ (width_text u (texts, broad) ++ (widths u more ++ end))) (mute_widths u all a)
    (mute_both (widths v some) (width_text u (texts, broad) ++ (widths u more ++ end)) (mute_widths v some b)
    (mute_both (width_text u (texts, broad)) (widths u more ++ end) (mute_width u (texts, broad) m)
    (mute_both (widths u more) end (mute_widths u more c) e)))

pub mute_style : (u : ℤ) (count : ℕ) (few : Bool) → IsMute (style_text u count few)
mute_style u count few =
    mute_tables u (edge_of u count) general blocks ways moves (broad_if few) (end_text few)
    (known (λ rest. refl), (known (λ rest. refl), (known (λ rest. refl), (known (λ rest. refl), (known (λ rest. refl), (known (λ rest. refl), tt))))))
    (known (λ rest. refl), (known (λ rest. refl), (known (λ rest. refl), (known (λ rest. refl), (known (λ rest. refl), tt))))) (known (λ rest. refl))
    (known (λ rest. refl), (known (λ rest. refl), (known (λ rest. refl), (known (λ rest. refl), (known (λ rest. refl), (known (λ rest. refl), (known (λ rest. refl), (known (λ rest. refl), (known (λ rest. refl), (known (λ rest. refl), (known (λ rest. refl), (known (λ rest. refl), (known (λ rest. refl), (known (λ rest. refl), tt))))))))))))))
    (mute_end few)
