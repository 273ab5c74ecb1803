-- The parts of a sheet, and the whole.
use Rattle.std.proofs.Common.{◌≡◌, ◌∙◌, sym, ap, subst, refl, ℕ, ℤ, pos, ◌*ℤ◌, List, [], ◌∷◌, ◌++◌, length, append_assoc, append-nil}
use Rattle.std.specs.Prelude.{Bool, Option, Result, Ok, Err, OnOk, IfOk, codes}
use Rattle.std.specs.Int.{int_div_euclid}
use Rattle.vcm_num.specs.Texts.{thousandths}
use Rattle.vcm_svg.specs.declared.rect.Spot.{Spot}
use Rattle.vcm_svg.specs.declared.shapes.Class.TheVariants as class
use Rattle.vcm_svg.specs.Legend.{bar_of, bar_label, bar_text}
use Rattle.vcm_svg.specs.Outlines.{bar_line}
use Rattle.vcm_svg.specs.Pieces.{joined}
use Rattle.vcm_svg.specs.Shapes.{path, text}
use Rattle.vcm_picture.specs.Drawing.{title_label, group_text, frame_of, view_front}
use Rattle.vcm_picture.specs.Sights.{Scope, Window}
use Rattle.vcm_picture.specs.View.{title, scope_of}
use Rattle.vcm_marks.specs.declared.mark.Contact.{Contact}
use Rattle.vcm_marks.specs.declared.mark.PlacedMark.{PlacedMark}
use Rattle.vcm_picture.specs.declared.view.View.TheVariants.{Top, Front, Side}
use Rattle.vcm_picture.specs.Marks.{contact_of}
use Rattle.vcm_picture.specs.Picture.{window_round}
use Rattle.vcm_sheet.specs.declared.points.Pointed.{Pointed}
use Rattle.vcm_sheet.specs.Content.{Filing, marks_shown, points_shown, has_end, window_of, stop_words, title_said, heading, heading_lines, used_of, tables, views, bar_said, block_if, whole, content}
use Rattle.vcm_sheet.specs.Paper.{room_of, window_on}
use Rattle.vcm_sheet.specs.declared.paper.Room.{Room}
use Rattle.vcm_sheet.specs.Ticks.{ticks_in}
use Rattle.vcm_sheet.specs.Views.{Drawn, drawn_at}
use Rattle.vcm_sheet.specs.Sayings.{Saying, Title, IsMute, IsSaid, Says, Adds, say}
use Rattle.vcm_sheet.proofs.Mute.{mute_both, mute_group, mute_path}
use Rattle.vcm_sheet.proofs.Saying.{adds_after, adds_both, adds_mute, adds_said, text_said}

-- a saying, and then bytes that say nothing
adds_before : (s : Saying) (o n x y : List ℕ) → IsSaid s x → IsMute y → n ≡ o ++ (x ++ y) → Adds (s ∷ []) o n
adds_before s o n x y h m e =
    adds_both (s ∷ []) [] o (o ++ x) n (adds_said s o (o ++ x) x h refl) (adds_mute (o ++ x) n y m (e ∙ sym (append_assoc o x y)))

-- the title of a view, and the beginning of its group
pub adds_front : (s : Scope) (at : Spot) (o n : List ℕ) → n ≡ o ++ view_front s at → Adds (say (title s.view ∷ []) ∷ []) o n
adds_front s at o n e =
    let l = title_label at s.unit in
    adds_before (say (title s.view ∷ [])) o n (text l (joined (title s.view ∷ []))) (group_text s.view at ++ path class.Frame (frame_of s))
    (record { at = l.at; is_text = text_said l (joined (title s.view ∷ [])) })
    (mute_both (group_text s.view at) (path class.Frame (frame_of s)) (mute_group s.view at) (mute_path class.Frame (frame_of s))) e

-- the bar, and what it says
pub last_bar : {A E : Type 0} (r : Result A E) (at : Spot) (u grain wide : ℤ) (o n : List ℕ) → OnOk r (n ≡ o ++ bar_text at u grain wide)
    → OnOk r (Adds (say (thousandths (bar_of (int_div_euclid wide (pos 4)) *ℤ grain) ∷ codes " mm; third-angle projection" ∷ []) ∷ []) o n)
last_bar (Ok a) at u grain wide o n e =
    let long = bar_of (int_div_euclid wide (pos 4)) in
    let words = thousandths (long *ℤ grain) ∷ codes " mm; third-angle projection" ∷ [] in
    adds_after (say words) o n (path class.Cross (bar_line at (pos 5 *ℤ u) long)) (text (bar_label at u long) (joined words))
    (mute_path class.Cross (bar_line at (pos 5 *ℤ u) long)) (record { at = (bar_label at u long).at; is_text = text_said (bar_label at u long) (joined words) }) e
last_bar (Err x) at u grain wide o n e = e

regroup : (o t name c f e : List ℕ) → (((o ++ t) ++ name) ++ (c ++ (f ++ []))) ++ e ≡ o ++ (t ++ ((name ++ (c ++ f)) ++ e))
regroup o t name c f e = simp (append_assoc, append-nil)

-- the title, in four pieces
pub last_title : {A E : Type 0} (r : Result A E) (name first o p q s n : List ℕ) → p ≡ o ++ codes "<title>" → q ≡ p ++ name
    → s ≡ q ++ (codes ": " ++ (first ++ [])) → OnOk r (n ≡ s ++ codes "</title>\n") → OnOk r (Adds (Title (name ++ (codes ": " ++ first)) ∷ []) o n)
last_title (Ok a) name first o p q s n e f g h =
    let words = name ++ (codes ": " ++ first) in
    let c = codes ": " ++ (first ++ []) in
    adds_said (Title words) o n (codes "<title>" ++ (words ++ codes "</title>\n")) refl
    (h ∙ ap (λ l. l ++ codes "</title>\n") (g ∙ ap (λ l. l ++ c) (f ∙ ap (λ l. l ++ name) e))
    ∙ regroup o (codes "<title>") name (codes ": ") first (codes "</title>\n"))
last_title (Err x) name first o p q s n e f g h = h

-- ---- the whole

says_all : (ss : List Saying) (o n : List ℕ) → o ≡ [] → Adds ss o n → Says ss n
says_all ss o n e h =
    let f : h.more ≡ n = sym (h.new_is ∙ ap (λ l. l ++ h.more) e) in
    subst (Says ss) f h.says

-- what was appended to nothing, appended to something
appended : (ss : List Saying) (a h o n : List ℕ) → a ≡ [] → Adds ss a h → n ≡ o ++ h → Adds ss o n
appended ss a h o n e k f = record { more = k.more; says = k.says; new_is = f ∙ ap (λ l. o ++ l) (k.new_is ∙ ap (λ l. l ++ k.more) e) }

module _ (f : Filing) (stopped : List ℕ) (is_drawn : Bool) (w : Window) (top front side : Drawn) (contact : Option Contact) (points : List Pointed) where
  -- a sheet with so many lines in its heading, and with so much room
  abbrev parts : (lines : ℕ) → Room → List Saying
  parts lines room =
      (title_said f stopped ∷ []) ++ (heading f stopped is_drawn contact ++ (views f stopped w top front side (length points)
      ++ (tables f (used_of w top front side) (ticks_in w) room points ++ (bar_said w ++ block_if f f.paper lines (length points) w))))

  -- the parts: the head, the ground, the beginning of what stands in a frame, the heading, the views, the tables and the foot
  pub whole_said : (lines : ℕ) (room : Room) (o p q r s t u n a h b k : List ℕ) → lines ≡ heading_lines f stopped is_drawn contact
      → room ≡ room_of f.paper lines (length points) w → o ≡ [] → a ≡ [] → b ≡ [] → Adds (title_said f stopped ∷ []) o p → Adds [] p q → Adds [] q r
      → Adds (heading f stopped is_drawn contact) a h → s ≡ r ++ h → Adds (views f stopped w top front side (length points)) s t
      → Adds (tables f (used_of w top front side) (ticks_in w) room points) b k → u ≡ t ++ k
      → Adds (bar_said w ++ block_if f f.paper lines (length points) w) u n → Says (whole f stopped is_drawn w top front side contact points) n
  unfolding whole
  whole_said lines room o p q r s t u n a h b k lines_are room_is eo ea eb head ground begun above es drawn rows eu foot =
      let title = title_said f stopped ∷ [] in
      let upper = heading f stopped is_drawn contact in
      let middle = views f stopped w top front side (length points) in
      let right = tables f (used_of w top front side) (ticks_in w) room points in
      let lower = bar_said w ++ block_if f f.paper lines (length points) w in
      let all : Says (parts lines room) n = says_all (title ++ (upper ++ (middle ++ (right ++ lower)))) o n eo
      (adds_both title (upper ++ (middle ++ (right ++ lower))) o p n head
      (adds_both [] (upper ++ (middle ++ (right ++ lower))) p q n ground
      (adds_both [] (upper ++ (middle ++ (right ++ lower))) q r n begun
      (adds_both upper (middle ++ (right ++ lower)) r s n (appended upper a h r s ea above es)
      (adds_both middle (right ++ lower) s t n drawn
      (adds_both right lower t u n (appended right b k t u eb rows eu) foot)))))) in
      let roomy : Says (parts lines (room_of f.paper lines (length points) w)) n = subst (λ x. Says (parts lines x) n) room_is all in
      subst (λ x. Says (parts x (room_of f.paper x (length points) w)) n) lines_are roomy

module _ (f : Filing) where
  -- with what the views of a window show of marks and points, where the end is drawn or isn't
  abbrev with_views : Bool → List PlacedMark → List Pointed → Window → List ℕ → List Saying
  with_views d marks points w stopped =
      whole f stopped d w (drawn_at d (scope_of w Top) f.part f.held marks points) (drawn_at d (scope_of w Front) f.part f.held marks points)
      (drawn_at d (scope_of w Side) f.part f.held marks points) (contact_of marks) points

  module _ (marks : List PlacedMark) (points : List Pointed) (round w : Window) (lines : ℕ) (stopped : List ℕ) (d : Bool) (top front side : Drawn)
      (marks_are : marks ≡ marks_shown f) (points_are : points ≡ points_shown f) (round_is : round ≡ window_round f.part f.held marks f.is_close)
      (lines_are : (words : List ℕ) → lines ≡ heading_lines f words d (contact_of marks)) (window_is : w ≡ window_on f.paper lines (length points) round)
      (stopped_is : stopped ≡ stop_words f) (end_is : d ≡ has_end f)
      (top_is : top ≡ drawn_at d (scope_of w Top) f.part f.held marks points) (front_is : front ≡ drawn_at d (scope_of w Front) f.part f.held marks points)
      (side_is : side ≡ drawn_at d (scope_of w Side) f.part f.held marks points) where
    same_views : whole f stopped d w top front side (contact_of marks) points ≡ with_views d marks points w stopped
    same_views =
        ap (λ x. whole f stopped d w x front side (contact_of marks) points) top_is
        ∙ ap (λ x. whole f stopped d w (drawn_at d (scope_of w Top) f.part f.held marks points) x side (contact_of marks) points) front_is
        ∙ ap (λ x. whole f stopped d w (drawn_at d (scope_of w Top) f.part f.held marks points) (drawn_at d (scope_of w Front) f.part f.held marks points) x
        (contact_of marks) points) side_is

    -- the window that these marks and points have
    abbrev window_with : Bool → List PlacedMark → List Pointed → Window
    window_with d marks points =
        window_on f.paper (heading_lines f (stop_words f) d (contact_of marks)) (length points) (window_round f.part f.held marks f.is_close)

    same_window : w ≡ window_of f
    same_window =
        window_is ∙ ap (λ x. window_on f.paper lines (length points) x) round_is
        ∙ ap (λ x. window_on f.paper x (length points) (window_round f.part f.held marks f.is_close)) (lines_are (stop_words f))
        ∙ ap (λ x. window_with d x points) marks_are ∙ ap (λ x. window_with d (marks_shown f) x) points_are
        ∙ ap (λ x. window_with x (marks_shown f) (points_shown f)) end_is

    same_content : whole f stopped d w top front side (contact_of marks) points ≡ content f
    unfolding content
    same_content =
        same_views ∙ ap (with_views d marks points w) stopped_is ∙ ap (λ x. with_views d marks points x (stop_words f)) same_window
        ∙ ap (λ x. with_views d x points (window_of f) (stop_words f)) marks_are
        ∙ ap (λ x. with_views d (marks_shown f) x (window_of f) (stop_words f)) points_are
        ∙ ap (λ x. with_views x (marks_shown f) (points_shown f) (window_of f) (stop_words f)) end_is

    pub content_said : {A E : Type 0} (r : Result A E) (bytes : A → List ℕ)
        → IfOk r (λ v. Says (whole f stopped d w top front side (contact_of marks) points) (bytes v)) → IfOk r (λ v. Says (content f) (bytes v))
    content_said r bytes h = subst (λ said. IfOk r (λ v. Says said (bytes v))) same_content h
