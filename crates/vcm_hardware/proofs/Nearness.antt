-- What is read of a description lies near its turning centre, and its angles are at most half a turn.
use Rattle.std.proofs.Common.{◌≡◌, ℕ, ℤ, pos, negsuc, ◌+◌, ◌*◌, ◌≤◌, ◌≤ℤ◌, Bool, true, false, List, [], ◌∷◌, ◌++◌, length, Option, Some, None, Result, Ok, Err, arith, refl, subst}
use Rattle.std.specs.Prelude.{⊤, unsigned_abs, not, nat_lt, int_le, int_lt, int_rem, int_div, ◌&&◌, ◌||◌, if◌then◌else◌}
use Rattle.std.specs.Int.{int_max}
use Rattle.std.specs.List.{AllByRecursion}
use Rattle.std.specs.Ordering.{int_eq}
use Rattle.std.specs.Option.{option_and_then}
use Rattle.std.specs.Str.{is_utf8}
use Rattle.std.proofs.lemmas.Int.{ints, clamps}
use Rattle.std.proofs.lemmas.Bool.{and_parts}
use Rattle.toml.specs.Data.{Data, Items, no_items, item, Members, get_member, as_table, as_integer}
use Rattle.toml.specs.Parse.{parse_document}
use Rattle.vcm_num.specs.declared.point.Point.{Point}
use Rattle.vcm_num.specs.Point.{coordinate}
use Rattle.vcm_spec.specs.Results.{◌>>=◌}
use Rattle.vcm_part.specs.PartFile.{point_of}
use Rattle.vcm_hardware.specs.declared.angle.Along.{Along}
use Rattle.vcm_hardware.specs.declared.description.Place.{Place}
use Rattle.vcm_hardware.specs.declared.description.StillBox.{StillBox}
use Rattle.vcm_hardware.specs.declared.description.Cylinder.{Cylinder}
use Rattle.vcm_hardware.specs.declared.description.Ball.{Ball}
use Rattle.vcm_hardware.specs.declared.description.Choice.{Choice}
use Rattle.vcm_hardware.specs.declared.fault.HardwareKey.{HardwareKey}
use Rattle.vcm_hardware.specs.declared.fault.HardwareKey.TheVariants as keys
use Rattle.vcm_hardware.specs.declared.fault.Where.{Where}
use Rattle.vcm_hardware.specs.declared.fault.Where.TheVariants as stand
use Rattle.vcm_hardware.specs.declared.fault.Refusal.{Refusal}
use Rattle.vcm_hardware.specs.declared.fault.Refusal.TheVariants.{NotToml, OutOfRange, NotAlongAxis, TooManyBoxes, DuplicateName, UnknownTip, NotAStep, DuplicateNumber}
use Rattle.vcm_hardware.specs.Described.{Hanging, Described}
use Rattle.vcm_hardware.specs.Intervals.{size}
use Rattle.vcm_hardware.specs.Boxes.{box_count}
use Rattle.vcm_hardware.specs.Keys.{key_word, file_keys, part_keys, tip_keys, probe_keys}
use Rattle.vcm_hardware.specs.HardwareFile.{only, refused_if, differs_once, text_at, name_at, probe_name_at, number_or, turn_at, variable_at, rows_at, head_of, is_name_taken, is_number_taken, place_of_tip, or_refused, number_between, number_of, number_in, number_at, is_close, place_in, place_at, angle_of, angle_in, angle_at, part_in, ball_in, choice_in, by_table, part_of, ball_of, choice_of, all_behind, hanging_of, described_of_table, described_of_document, described_of, is_ball_taken, fitting}
use Rattle.vcm_hardware.specs.ProbeFile.{steps_of, most_steps}
use Rattle.vcm_hardware.specs.Swings.{whole_reach, swing_by, swing_slabs}
use Rattle.vcm_hardware.specs.Holding.{IsCovered}
use Rattle.vcm_hardware.specs.SwingHolding.{Angle, IsAngle, IsUpTo, IsOfSome}
use Rattle.vcm_hardware.proofs.Within.{IsClosePlace, IsClosePart, IsCloseBall}
use Rattle.vcm_hardware.proofs.Swinging.{swung, whole_swing_holds}

-- ---- steps that went well

-- what was read, if it was, is so
abbrev Gives : {A : Type 0} → (A → Type 0) → Result A Refusal → Type 0
Gives P (Ok x) = P x
Gives P (Err r) = ⊤

-- a step of which something is known
known_gives : {A B : Type 0} (Q : A → Type 0) (P : B → Type 0) (r : Result A Refusal) (f : A → Result B Refusal) → Gives Q r → ((x : A) → Q x → Gives P (f x)) → Gives P (r >>= f)
known_gives Q P (Ok x) f q h = h x q
known_gives Q P (Err e) f q h = tt

pub given : {A : Type 0} (P : A → Type 0) (r : Result A Refusal) (x : A) → Gives P r → r ≡ Ok x → P x
given P r x h e = subst (λ (q : Result _ Refusal). Gives P q) e h

-- ---- numbers and places

tests : (a b : ℤ) → int_lt a b ≡ false → b ≤ℤ a
tests a b h = grind (arith, ints)

pub record IsFrom (least most z : ℤ) : Type 0 where
  pub low : least ≤ℤ z
  pub high : z ≤ℤ most

between_gives : (o : Option ℤ) (place : Where) (k : HardwareKey) (least most : ℤ) → Gives (IsFrom least most) (number_between o place k least most)
between_gives None place k least most = tt
between_gives (Some z) place k least most = by (int_lt z least) (int_lt most z) (tests z least) (tests most z)
  where
    by : (a b : Bool) → (a ≡ false → least ≤ℤ z) → (b ≡ false → z ≤ℤ most) → Gives (IsFrom least most) (if a || b then Err (OutOfRange place k) else Ok z)
    by true b h i = tt
    by false true h i = tt
    by false false h i = record { low = h refl; high = i refl }

number_of_gives : (d : Data) (place : Where) (k : HardwareKey) (least most : ℤ) → Gives (IsFrom least most) (number_of d place k least most)
unfolding number_of
number_of_gives d place k least most = between_gives (as_integer d) place k least most

number_gives : (t : Members) (place : Where) (k : HardwareKey) (least most : ℤ) → Gives (IsFrom least most) (number_at t place k least most)
unfolding number_at
number_gives t place k least most = by (get_member (key_word k) t)
  where
    by : (o : Option Data) → Gives (IsFrom least most) (number_in o place k least most)
    by None = tt
    by (Some d) = number_of_gives d place k least most

angle_of_gives : (d : Data) (place : Where) (k : HardwareKey) → Gives (IsFrom (negsuc 179999) (pos 180000)) (angle_of d place k)
unfolding angle_of
angle_of_gives d place k =
    known_gives (IsFrom (negsuc 179999) (pos 180000)) (IsFrom (negsuc 179999) (pos 180000)) (number_of d place k (negsuc 179999) (pos 180000)) _
    (number_of_gives d place k (negsuc 179999) (pos 180000)) (λ z h. by z h (int_eq (int_rem z (pos 7500)) (pos 0)))
  where
    by : (z : ℤ) → IsFrom (negsuc 179999) (pos 180000) z → (b : Bool) → Gives (IsFrom (negsuc 179999) (pos 180000)) (if b then Ok z else Err (NotAStep place k))
    by z h true = h
    by z h false = tt

angle_gives : (t : Members) (place : Where) (k : HardwareKey) → Gives (IsFrom (negsuc 179999) (pos 180000)) (angle_at t place k)
unfolding angle_at
angle_gives t place k = by (get_member (key_word k) t)
  where
    by : (o : Option Data) → Gives (IsFrom (negsuc 179999) (pos 180000)) (angle_in o place k)
    by None = tt
    by (Some d) = angle_of_gives d place k

close_one : (z : ℤ) → is_close z ≡ true → unsigned_abs z ≤ 1000000
close_one z h =
    let both = and_parts (int_le (negsuc 999999) z) (int_le z (pos 1000000)) h in
    by z (at_least z both.0) (at_most z both.1)
  where
    at_least : (z : ℤ) → int_le (negsuc 999999) z ≡ true → negsuc 999999 ≤ℤ z
    at_least z h = grind (arith, ints)

    at_most : (z : ℤ) → int_le z (pos 1000000) ≡ true → z ≤ℤ pos 1000000
    at_most z h = grind (arith, ints)

    by : (z : ℤ) → negsuc 999999 ≤ℤ z → z ≤ℤ pos 1000000 → unsigned_abs z ≤ 1000000
    by z h k = omega (arith, ints)

place_gives : (t : Members) (place : Where) (k : HardwareKey) → Gives IsClosePlace (place_at t place k)
unfolding place_at
place_gives t place k = in_it (option_and_then point_of (get_member (key_word k) t))
  where
    by : (x y z : ℤ) (a b c : Bool) → (a ≡ true → unsigned_abs x ≤ 1000000) → (b ≡ true → unsigned_abs y ≤ 1000000) → (c ≡ true → unsigned_abs z ≤ 1000000)
        → Gives IsClosePlace (or_refused (OutOfRange place k) (if a && b && c then Some (record { x = x; y = y; z = z }) else None))
    by x y z true true true hx hy hz = record { x = hx refl; y = hy refl; z = hz refl }
    by x y z true true false hx hy hz = tt
    by x y z true false c hx hy hz = tt
    by x y z false b c hx hy hz = tt

    in_it : (o : Option Point) → Gives IsClosePlace (place_in o place k)
    in_it None = tt
    in_it (Some p) =
        by (coordinate p 0) (coordinate p 1) (coordinate p 2) (is_close (coordinate p 0)) (is_close (coordinate p 1)) (is_close (coordinate p 2))
        (close_one (coordinate p 0)) (close_one (coordinate p 1)) (close_one (coordinate p 2))

-- ---- parts, balls and probes

part_ends : (called : List ℕ) (f t : Place) → IsClosePlace f → IsClosePlace t → (along : Result ⊤ Refusal) (diameter own : Result ℤ Refusal)
    → Gives (IsFrom (pos 0) (pos 1000000)) diameter
    → Gives IsClosePart (along >>= λ a. diameter >>= λ d. own >>= λ o. Ok (record { name = called; from = f; to = t; diameter = d; step = o }))
part_ends called f t hf ht (Err e) diameter own hd = tt
part_ends called f t hf ht (Ok a) (Err e) own hd = tt
part_ends called f t hf ht (Ok a) (Ok d) (Err e) hd = tt
part_ends called f t hf ht (Ok a) (Ok d) (Ok o) hd = record { from = hf; to = ht; some = hd.low; most = hd.high }

part_steps : (number : ℕ) (checked : Result ⊤ Refusal) (name : Result (List ℕ) Refusal) (from to : Result Place Refusal) (diameter own : Result ℤ Refusal)
    → Gives IsClosePlace from → Gives IsClosePlace to → Gives (IsFrom (pos 0) (pos 1000000)) diameter
    → Gives IsClosePart (checked >>= λ c. name >>= λ called. from >>= λ f. to >>= λ t. refused_if (not (differs_once f t)) (NotAlongAxis number) >>= λ a. diameter >>= λ d.
    own >>= λ o. Ok (record { name = called; from = f; to = t; diameter = d; step = o }))
part_steps number (Err e) name from to diameter own hf ht hd = tt
part_steps number (Ok c) (Err e) from to diameter own hf ht hd = tt
part_steps number (Ok c) (Ok called) (Err e) to diameter own hf ht hd = tt
part_steps number (Ok c) (Ok called) (Ok f) (Err e) diameter own hf ht hd = tt
part_steps number (Ok c) (Ok called) (Ok f) (Ok t) diameter own hf ht hd =
    part_ends called f t hf ht (refused_if (not (differs_once f t)) (NotAlongAxis number)) diameter own hd

part_gives : (step : ℤ) (number : ℕ) (t : Members) → Gives IsClosePart (part_in step number t)
unfolding part_in
part_gives step number t =
    part_steps number (only part_keys t (stand.Part number)) (name_at t (stand.Part number)) (place_at t (stand.Part number) keys.From) (place_at t (stand.Part number) keys.To)
    (number_at t (stand.Part number) keys.Diameter (pos 0) (pos 1000000)) (number_or t (stand.Part number) keys.Step (pos 100) (pos 1000000) step)
    (place_gives t (stand.Part number) keys.From) (place_gives t (stand.Part number) keys.To) (number_gives t (stand.Part number) keys.Diameter (pos 0) (pos 1000000))

module _ (above : List Ball) (number : ℕ) where
  ball_steps : (checked : Result ⊤ Refusal) (name : Result (List ℕ) Refusal) (place : Result Place Refusal) (diameter : Result ℤ Refusal)
      → Gives IsClosePlace place → Gives (IsFrom (pos 0) (pos 100000)) diameter
      → Gives IsCloseBall (checked >>= λ c. name >>= λ called. place >>= λ p. diameter >>= λ d.
      if is_ball_taken called above then Err (DuplicateName (stand.Tip number)) else Ok (record { name = called; at = p; diameter = d }))
  ball_steps (Err e) name place diameter hp hd = tt
  ball_steps (Ok c) (Err e) place diameter hp hd = tt
  ball_steps (Ok c) (Ok called) (Err e) diameter hp hd = tt
  ball_steps (Ok c) (Ok called) (Ok p) (Err e) hp hd = tt
  ball_steps (Ok c) (Ok called) (Ok p) (Ok d) hp hd = by (is_ball_taken called above)
    where
      wider : (z : ℤ) → z ≤ℤ pos 100000 → z ≤ℤ pos 1000000
      wider z h = omega (arith, ints)

      by : (b : Bool) → Gives IsCloseBall (if b then Err (DuplicateName (stand.Tip number)) else Ok (record { name = called; at = p; diameter = d }))
      by true = tt
      by false = record { place = hp; some = hd.low; most = wider d hd.high }

  ball_gives : (t : Members) → Gives IsCloseBall (ball_in above number t)
  unfolding ball_in
  ball_gives t =
      ball_steps (only tip_keys t (stand.Tip number)) (name_at t (stand.Tip number)) (place_at t (stand.Tip number) keys.At)
      (number_at t (stand.Tip number) keys.Diameter (pos 0) (pos 100000)) (place_gives t (stand.Tip number) keys.At)
      (number_gives t (stand.Tip number) keys.Diameter (pos 0) (pos 100000))

-- A of a probe is at most half a turn, to either side
abbrev pub IsTurned : Choice → Type 0
IsTurned c = IsFrom (negsuc 179999) (pos 180000) c.a

fitting_gives : (h : Hanging) (number : ℕ) (c : Choice) → IsTurned c → Gives IsTurned (fitting h number c)
fitting_gives h number c turned = by (nat_lt 64 (box_count h c))
  where
    by : (b : Bool) → Gives IsTurned (if b then Err (TooManyBoxes number (box_count h c)) else Ok c)
    by true = tt
    by false = turned

module _ (h : Hanging) (above : List Choice) (number : ℕ) where
  choice_ends : (called tip : List ℕ) (own a b : ℤ) → IsFrom (negsuc 179999) (pos 180000) a → (other new : Result ⊤ Refusal) (ball : Result ℕ Refusal)
      → Gives IsTurned (other >>= λ o. new >>= λ n. ball >>= λ i. fitting h number (record { name = called; number = own; tip = i; a = a; b = b }))
  choice_ends called tip own a b ha (Err e) new ball = tt
  choice_ends called tip own a b ha (Ok o) (Err e) ball = tt
  choice_ends called tip own a b ha (Ok o) (Ok n) (Err e) = tt
  choice_ends called tip own a b ha (Ok o) (Ok n) (Ok i) = fitting_gives h number (record { name = called; number = own; tip = i; a = a; b = b }) ha

  choice_steps : (checked : Result ⊤ Refusal) (name : Result (List ℕ) Refusal) (own : Result ℤ Refusal) (tip : Result (List ℕ) Refusal) (a b : Result ℤ Refusal)
      → Gives (IsFrom (negsuc 179999) (pos 180000)) a
      → Gives IsTurned (checked >>= λ c. name >>= λ called. own >>= λ given. tip >>= λ held. a >>= λ first. b >>= λ second.
      refused_if (is_name_taken called above) (DuplicateName (stand.Probe number)) >>= λ other. refused_if (is_number_taken given above) (DuplicateNumber number) >>= λ new.
      or_refused (UnknownTip number) (place_of_tip held h.balls) >>= λ ball. fitting h number (record { name = called; number = given; tip = ball; a = first; b = second }))
  choice_steps (Err e) name own tip a b ha = tt
  choice_steps (Ok c) (Err e) own tip a b ha = tt
  choice_steps (Ok c) (Ok called) (Err e) tip a b ha = tt
  choice_steps (Ok c) (Ok called) (Ok given) (Err e) a b ha = tt
  choice_steps (Ok c) (Ok called) (Ok given) (Ok held) (Err e) b ha = tt
  choice_steps (Ok c) (Ok called) (Ok given) (Ok held) (Ok first) (Err e) ha = tt
  choice_steps (Ok c) (Ok called) (Ok given) (Ok held) (Ok first) (Ok second) ha =
      choice_ends called held given first second ha (refused_if (is_name_taken called above) (DuplicateName (stand.Probe number)))
      (refused_if (is_number_taken given above) (DuplicateNumber number)) (or_refused (UnknownTip number) (place_of_tip held h.balls))

  choice_gives : (t : Members) → Gives IsTurned (choice_in h above number t)
  unfolding choice_in
  choice_gives t =
      choice_steps (only probe_keys t (stand.Probe number)) (probe_name_at t (stand.Probe number)) (number_or t (stand.Probe number) keys.Number (pos 1) (pos 999999) (pos number))
      (text_at t (stand.Probe number) keys.Tip) (angle_at t (stand.Probe number) keys.A) (angle_at t (stand.Probe number) keys.B) (angle_gives t (stand.Probe number) keys.A)

-- ---- rows

table_gives : {A : Type 0} (P : A → Type 0) (k : HardwareKey) (read : Members → Result A Refusal) → ((t : Members) → Gives P (read t)) → (o : Option Members) → Gives P (by_table k read o)
table_gives P k read h None = tt
table_gives P k read h (Some t) = h t

one_more : {A : Type 0} (P : A → Type 0) (xs : List A) (x : A) → AllByRecursion P xs → P x → AllByRecursion P (xs ++ x ∷ [])
one_more P [] x h p = (p, tt)
one_more P (y ∷ ys) x h p = (h.0, one_more P ys x h.1 p)

rows_give : {A : Type 0} (P : A → Type 0) (read : List A → Data → Result A Refusal) → ((above : List A) (d : Data) → Gives P (read above d)) → (above : List A) (ds : Items)
    → AllByRecursion P above → Gives (AllByRecursion P) (all_behind read above ds)
unfolding all_behind
rows_give P read each above no_items h = h
rows_give P read each above (item d ds) h =
    known_gives P (AllByRecursion P) (read above d) (λ x. all_behind read (above ++ x ∷ []) ds) (each above d)
    (λ x p. rows_give P read each (above ++ x ∷ []) ds (one_more P above x h p))

part_row : (step : ℤ) (above : List Cylinder) (d : Data) → Gives IsClosePart (part_of step above d)
unfolding part_of
part_row step above d = table_gives IsClosePart keys.Part (part_in step (length above + 1)) (part_gives step (length above + 1)) (as_table d)

ball_row : (above : List Ball) (d : Data) → Gives IsCloseBall (ball_of above d)
unfolding ball_of
ball_row above d = table_gives IsCloseBall keys.Tip (ball_in above (length above + 1)) (ball_gives above (length above + 1)) (as_table d)

choice_row : (h : Hanging) (above : List Choice) (d : Data) → Gives IsTurned (choice_of h above d)
unfolding choice_of
choice_row h above d = table_gives IsTurned keys.Probe (choice_in h above (length above + 1)) (choice_gives h above (length above + 1)) (as_table d)

-- ---- a description

pub record IsNear (h : Hanging) : Type 0 where
  pub parts : AllByRecursion IsClosePart h.parts
  pub balls : AllByRecursion IsCloseBall h.balls

pub record IsDescribed (d : Described) : Type 0 where
  pub near : IsNear d.hanging
  pub turned : AllByRecursion IsTurned d.choices

hanging_steps : (step turn : ℤ) (head_rows part_rows tip_rows : Result Items Refusal)
    → Gives IsNear (head_rows >>= λ hs. all_behind head_of [] hs >>= λ heads. part_rows >>= λ ps. all_behind (part_of step) [] ps >>= λ parts. tip_rows >>= λ ts.
    all_behind ball_of [] ts >>= λ balls. Ok (record { turn = turn; heads = heads; parts = parts; balls = balls }))
hanging_steps step turn (Err e) part_rows tip_rows = tt
hanging_steps step turn (Ok hs) part_rows tip_rows = by_heads (all_behind head_of [] hs) part_rows
  where
    by_balls : (heads : List StillBox) (parts : List Cylinder) → AllByRecursion IsClosePart parts → (o : Result (List Ball) Refusal) → Gives (AllByRecursion IsCloseBall) o
        → Gives IsNear (o >>= λ balls. Ok (record { turn = turn; heads = heads; parts = parts; balls = balls }))
    by_balls heads parts hp (Err e) hb = tt
    by_balls heads parts hp (Ok balls) hb = record { parts = hp; balls = hb }

    by_tips : (heads : List StillBox) (parts : List Cylinder) → AllByRecursion IsClosePart parts → (o : Result Items Refusal)
        → Gives IsNear (o >>= λ ts. all_behind ball_of [] ts >>= λ balls. Ok (record { turn = turn; heads = heads; parts = parts; balls = balls }))
    by_tips heads parts hp (Err e) = tt
    by_tips heads parts hp (Ok ts) = by_balls heads parts hp (all_behind ball_of [] ts) (rows_give IsCloseBall ball_of ball_row [] ts tt)

    by_parts : (heads : List StillBox) (o : Result (List Cylinder) Refusal) → Gives (AllByRecursion IsClosePart) o
        → Gives IsNear (o >>= λ parts. tip_rows >>= λ ts. all_behind ball_of [] ts >>= λ balls. Ok (record { turn = turn; heads = heads; parts = parts; balls = balls }))
    by_parts heads (Err e) hp = tt
    by_parts heads (Ok parts) hp = by_tips heads parts hp tip_rows

    by_heads : (o : Result (List StillBox) Refusal) (ps : Result Items Refusal)
        → Gives IsNear (o >>= λ heads. ps >>= λ ps. all_behind (part_of step) [] ps >>= λ parts. tip_rows >>= λ ts. all_behind ball_of [] ts >>= λ balls.
        Ok (record { turn = turn; heads = heads; parts = parts; balls = balls }))
    by_heads (Err e) ps = tt
    by_heads (Ok heads) (Err e) = tt
    by_heads (Ok heads) (Ok ps) = by_parts heads (all_behind (part_of step) [] ps) (rows_give IsClosePart (part_of step) (part_row step) [] ps tt)

hanging_gives : (step turn : ℤ) (t : Members) → Gives IsNear (hanging_of step turn t)
unfolding hanging_of
hanging_gives step turn t = hanging_steps step turn (rows_at t keys.Head 0 32) (rows_at t keys.Part 1 32) (rows_at t keys.Tip 1 32)

table_steps : (t : Members) (checked : Result ⊤ Refusal) (step turn : Result ℤ Refusal) (variable : Result (Option (List ℕ)) Refusal) (probes : Result Items Refusal)
    → Gives IsDescribed (checked >>= λ c. step >>= λ s. turn >>= λ r. variable >>= λ v. hanging_of s r t >>= λ hanging. probes >>= λ rows.
    all_behind (choice_of hanging) [] rows >>= λ choices. Ok (record { variable = v; hanging = hanging; choices = choices }))
table_steps t (Err e) step turn variable probes = tt
table_steps t (Ok c) (Err e) turn variable probes = tt
table_steps t (Ok c) (Ok s) (Err e) variable probes = tt
table_steps t (Ok c) (Ok s) (Ok r) (Err e) probes = tt
table_steps t (Ok c) (Ok s) (Ok r) (Ok v) probes = by_hanging (hanging_of s r t) (hanging_gives s r t) probes
  where
    by_choices : (hanging : Hanging) → IsNear hanging → (o : Result (List Choice) Refusal) → Gives (AllByRecursion IsTurned) o
        → Gives IsDescribed (o >>= λ choices. Ok (record { variable = v; hanging = hanging; choices = choices }))
    by_choices hanging near (Err e) turned = tt
    by_choices hanging near (Ok choices) turned = record { near = near; turned = turned }

    by_hanging : (o : Result Hanging Refusal) → Gives IsNear o → (probes : Result Items Refusal)
        → Gives IsDescribed (o >>= λ hanging. probes >>= λ rows. all_behind (choice_of hanging) [] rows >>= λ choices. Ok (record { variable = v; hanging = hanging; choices = choices }))
    by_hanging (Err e) near probes = tt
    by_hanging (Ok hanging) near (Err e) = tt
    by_hanging (Ok hanging) near (Ok rows) = by_choices hanging near (all_behind (choice_of hanging) [] rows) (rows_give IsTurned (choice_of hanging) (choice_row hanging) [] rows tt)

table_is : (t : Members) → Gives IsDescribed (described_of_table t)
unfolding described_of_table
table_is t = table_steps t (only file_keys t stand.Top) (number_at t stand.Top keys.Step (pos 100) (pos 1000000)) (turn_at t) (variable_at t) (rows_at t keys.Probe 1 64)

document_is : (o : Option Members) → Gives IsDescribed (described_of_document o)
document_is None = tt
document_is (Some t) = table_is t

pub described_is : (bytes : List ℕ) (d : Described) → described_of bytes ≡ Ok d → IsDescribed d
unfolding described_of
described_is bytes d e = given IsDescribed (described_of bytes) d (by (is_utf8 bytes)) e
  where
    by : (b : Bool) → Gives IsDescribed (if b then described_of_document (parse_document bytes) else Err NotToml)
    by true = document_is (parse_document bytes)
    by false = tt

-- ---- how far A is turned

step_small : (z : ℤ) → IsFrom (negsuc 179999) (pos 180000) z → (pos 0 ≤ℤ size (int_div z (pos 7500))) × (size (int_div z (pos 7500)) ≤ℤ pos 24)
step_small z h = by (int_div z (pos 7500)) (few z h.low h.high)
  where
    few : (z : ℤ) → negsuc 179999 ≤ℤ z → z ≤ℤ pos 180000 → unsigned_abs (int_div z (pos 7500)) ≤ 24
    few (pos n) low high = omega (arith, ints, high)
    few (negsuc n) low high = omega (arith, ints, low)

    by : (q : ℤ) → unsigned_abs q ≤ 24 → (pos 0 ≤ℤ size q) × (size q ≤ℤ pos 24)
    by q h = (omega (arith, ints, clamps), omega (arith, ints, clamps))

pub steps_small : (most : ℤ) (cs : List Choice) → pos 0 ≤ℤ most → most ≤ℤ pos 24 → AllByRecursion IsTurned cs → (pos 0 ≤ℤ most_steps most cs) × (most_steps most cs ≤ℤ pos 24)
steps_small most [] low high h = (low, high)
steps_small most (c ∷ cs) low high h =
    let own = step_small c.a h.0 in
    steps_small (int_max most (steps_of c)) cs (more most (steps_of c) low) (fewer most (steps_of c) high own.1) h.1
  where
    more : (x y : ℤ) → pos 0 ≤ℤ x → pos 0 ≤ℤ int_max x y
    more x y h = omega (arith, ints, clamps)

    fewer : (x y : ℤ) → x ≤ℤ pos 24 → y ≤ℤ pos 24 → int_max x y ≤ℤ pos 24
    fewer x y h k = omega (arith, ints, clamps)

-- the swing holds what turns of a description that is read
pub swing_holds_read : (bytes : List ℕ) (d : Described) → described_of bytes ≡ Ok d → (a b : Angle) → IsAngle a → IsAngle b → IsUpTo (most_steps (pos 0) d.choices) a
    → (s : ℕ) (p : Along → ℤ) → IsOfSome d.hanging.parts d.hanging.balls s p
    → IsCovered (swing_slabs (swing_by (whole_reach d.hanging.parts d.hanging.balls) (most_steps (pos 0) d.choices))) (s * (a.over * b.over)) (swung a b p)
swing_holds_read bytes d read a b on_a on_b up s p there =
    let is = described_is bytes d read in
    let few = steps_small (pos 0) d.choices (omega (arith, ints)) (omega (arith, ints)) is.turned in
    whole_swing_holds (most_steps (pos 0) d.choices) few.0 few.1 a b on_a on_b up d.hanging.parts d.hanging.balls is.near.parts is.near.balls s p there
