-- The list of all strips, one strip after the other.
use Rattle.std.proofs.Common.{◌≡◌, ℕ, zero, suc, ℤ, ◌+◌, ◌-◌, ◌*◌, ◌<◌, ◌≤◌, Bool, true, false, List, [], ◌∷◌, ◌++◌, length, drop, get_or, Some, None}
use Rattle.std.proofs.Common.{slice_get, All, refl, sym, ap, subst, ◌∙◌, arith, inl, inr, append_assoc, map, drop-cons, length-append, add-one}
use Rattle.std.proofs.Math.ListN.{get_or-append, drop_of_length-le}
use Rattle.std.proofs.Math.Seq.{get_or-append_seam}
use Rattle.std.proofs.lemmas.List.{get_or-append-add, append-nil, length-map}
use Rattle.std.proofs.lemmas.List.Elements.{All-nil, All-cons, All-append}
use Rattle.std.proofs.lemmas.Bool.{cases_lt, le-leb, and_from}
use Rattle.vcm_spec.specs.declared.workpiece.Block3.{Block3}
use Rattle.vcm_motion.specs.Strips.{stands_in, numbered, standing, listed_below, starts_to, start_of, listed_in}
use Rattle.vcm_motion.specs.declared.layout.Span.{Span}
use Rattle.vcm_motion.specs.inner.Listed.{IsListed, AreStrips}
use Rattle.vcm_motion.specs.inner.Spans.{span_at, has_strip, having}
use Rattle.vcm_motion.proofs.InOrder.{no_block, read_at}

-- no more stand in a strip than there are
pub standing_length : (low : ℤ) (width s n : ℕ) (blocks : List Block3) → length (standing low width s n blocks) ≤ length blocks
standing_length low width s n [] = omega arith
standing_length low width s n (b ∷ bs) = by (stands_in low width s b) (standing_length low width s (n + 1) bs)
  where
    by : (t : Bool) → length (standing low width s (n + 1) bs) ≤ length bs → length (numbered t n (standing low width s (n + 1) bs)) ≤ suc (length bs)
    by true h = omega arith
    by false h = omega arith

-- their numbers are those of blocks
pub standing_within : (low : ℤ) (width s n m : ℕ) (blocks : List Block3) → n + length blocks ≤ m → All (λ i. i < m) (standing low width s n blocks)
standing_within low width s n m [] le = All-nil (λ i. i < m)
standing_within low width s n m (b ∷ bs) le = by (stands_in low width s b) (standing_within low width s (n + 1) m bs (omega arith))
  where
    by : (t : Bool) → All (λ i. i < m) (standing low width s (n + 1) bs) → All (λ i. i < m) (numbered t n (standing low width s (n + 1) bs))
    by true h = All-cons (λ i. i < m) n _ (omega arith) h
    by false h = h

-- a block that stands in the strip is among them
pub stands_listed : (low : ℤ) (width s n : ℕ) (blocks : List Block3) (j : ℕ) (block : Block3) → slice_get blocks j ≡ Some block → stands_in low width s block ≡ true →
    IsListed (standing low width s n blocks) 0 (length (standing low width s n blocks)) (n + j)
stands_listed low width s n [] j block at stands = absurd (let no : None ≡ Some block = at in cc)
stands_listed low width s n (b ∷ bs) zero block at stands =
    let same : b ≡ block = cc in by (stands_in low width s b) (subst (λ (x : Block3). stands_in low width s x ≡ true) (sym same) stands)
  where
    by : (t : Bool) → t ≡ true → IsListed (numbered t n (standing low width s (n + 1) bs)) 0 (length (numbered t n (standing low width s (n + 1) bs))) (n + zero)
    by true e = record { place = 0; after = omega arith; before = omega arith; is = omega arith }
    by false e = absurd (let no : false ≡ true = e in cc)
stands_listed low width s n (b ∷ bs) (suc j) block at stands = by (stands_in low width s b) (stands_listed low width s (n + 1) bs j block at stands)
  where
    by : (t : Bool) → IsListed (standing low width s (n + 1) bs) 0 (length (standing low width s (n + 1) bs)) (n + 1 + j) →
        IsListed (numbered t n (standing low width s (n + 1) bs)) 0 (length (numbered t n (standing low width s (n + 1) bs))) (n + suc j)
    by true h = record { place = suc h.place; after = omega arith; before = (let b = h.before in omega arith); is = h.is ∙ omega arith }
    by false h = record { place = h.place; after = h.after; before = h.before; is = h.is ∙ omega arith }

-- what is listed behind others
kept_behind : (xs ys : List ℕ) (a b j : ℕ) → IsListed ys a b j → IsListed (xs ++ ys) (length xs + a) (length xs + b) j
kept_behind xs ys a b j h =
    let after = h.after in
    let before = h.before in
    record { place = length xs + h.place; after = omega arith; before = omega arith; is = get_or-append-add xs ys h.place 0 ∙ h.is }

-- and what is listed before others
kept_front : (xs ys : List ℕ) (a b j : ℕ) → b ≤ length xs → IsListed xs a b j → IsListed (xs ++ ys) a b j
kept_front xs ys a b j le h =
    let before = h.before in
    record { place = h.place; after = h.after; before = h.before; is = get_or-append xs ys 0 h.place (omega arith) ∙ h.is }

-- the list grows from strip to strip
pub below_grows : (low : ℤ) (width : ℕ) (blocks : List Block3) (s t : ℕ) → s ≤ t → length (listed_below low width blocks s) ≤ length (listed_below low width blocks t)
below_grows low width blocks s zero le = let e : s ≡ 0 = omega arith in subst (λ k. length (listed_below low width blocks k) ≤ 0) (sym e) (omega arith)
below_grows low width blocks s (suc t) le = elim (cases_lt s (suc t)) [
  | inl l ↦
      let before = below_grows low width blocks s t (omega arith) in
      let more = length-append (listed_below low width blocks t) (standing low width t 0 blocks) in omega arith
  | inr l ↦
      let e : s ≡ suc t = omega arith in subst (λ k. length (listed_below low width blocks k) ≤ length (listed_below low width blocks (suc t))) (sym e) (omega arith)
]

-- what is listed in the strips below s is listed in all
below_kept : (low : ℤ) (width : ℕ) (blocks : List Block3) (s t : ℕ) → s ≤ t → (a b j : ℕ) → b ≤ length (listed_below low width blocks s) →
    IsListed (listed_below low width blocks s) a b j → IsListed (listed_below low width blocks t) a b j
below_kept low width blocks s zero le a b j within h = let e : s ≡ 0 = omega arith in subst (λ k. IsListed (listed_below low width blocks k) a b j) e h
below_kept low width blocks s (suc t) le a b j within h = elim (cases_lt s (suc t)) [
  | inl l ↦
      let grows = below_grows low width blocks s t (omega arith) in
      kept_front (listed_below low width blocks t) (standing low width t 0 blocks) a b j (omega arith) (below_kept low width blocks s t (omega arith) a b j within h)
  | inr l ↦ let e : s ≡ suc t = omega arith in subst (λ k. IsListed (listed_below low width blocks k) a b j) e h
]

-- no more than all blocks in each strip
pub below_most : (low : ℤ) (width : ℕ) (blocks : List Block3) → length blocks ≤ 4096 → (s : ℕ) → length (listed_below low width blocks s) ≤ s * 4096
below_most low width blocks few zero = omega arith
below_most low width blocks few (suc s) =
    let before = below_most low width blocks few s in
    let most = standing_length low width s 0 blocks in
    let more = length-append (listed_below low width blocks s) (standing low width s 0 blocks) in omega arith

below_within : (low : ℤ) (width : ℕ) (blocks : List Block3) (s : ℕ) → All (λ i. i < length blocks) (listed_below low width blocks s)
below_within low width blocks zero = All-nil (λ i. i < length blocks)
below_within low width blocks (suc s) =
    All-append (λ i. i < length blocks) (listed_below low width blocks s) (standing low width s 0 blocks) (below_within low width blocks s)
    (standing_within low width s 0 (length blocks) blocks (omega arith))

pub starts_length : (low : ℤ) (width : ℕ) (blocks : List Block3) (s : ℕ) → length (starts_to low width blocks s) ≡ s + 1
starts_length low width blocks zero = refl
starts_length low width blocks (suc s) =
    let before = starts_length low width blocks s in
    let more = length-append (starts_to low width blocks s) (length (listed_below low width blocks (suc s)) ∷ []) in omega arith

-- a strip begins behind all those below it
pub start_is : (low : ℤ) (width : ℕ) (blocks : List Block3) (s t : ℕ) → s ≤ t → start_of (starts_to low width blocks t) s ≡ length (listed_below low width blocks s)
start_is low width blocks s zero le =
    let e : s ≡ 0 = omega arith in subst (λ k. start_of (0 ∷ []) k ≡ length (listed_below low width blocks k)) (sym e) refl
start_is low width blocks s (suc t) le = elim (cases_lt s (suc t)) [
  | inl l ↦
      let count = starts_length low width blocks t in
      get_or-append (starts_to low width blocks t) _ 0 s (omega arith) ∙ start_is low width blocks s t (omega arith)
  | inr l ↦
      let e : s ≡ suc t = omega arith in
      let count = starts_length low width blocks t in
      let last : length (starts_to low width blocks t) ≡ suc t = omega arith in
      subst (λ k. start_of (starts_to low width blocks (suc t)) k ≡ length (listed_below low width blocks k)) (sym e)
      (subst (λ k. get_or (starts_to low width blocks (suc t)) k 0 ≡ length (listed_below low width blocks (suc t))) last
      (get_or-append_seam (starts_to low width blocks t) (length (listed_below low width blocks (suc t))) [] 0))
]

-- a block is listed in each strip that it stands in
strip_listed : (low : ℤ) (width : ℕ) (blocks : List Block3) (j : ℕ) (block : Block3) → slice_get blocks j ≡ Some block → (s : ℕ) → s < 64 → stands_in low width s block ≡ true →
    IsListed (listed_below low width blocks 64) (length (listed_below low width blocks s)) (length (listed_below low width blocks (suc s))) j
strip_listed low width blocks j block at s l stands =
    let here : IsListed (standing low width s 0 blocks) 0 (length (standing low width s 0 blocks)) j =
    subst (IsListed (standing low width s 0 blocks) 0 (length (standing low width s 0 blocks))) (omega arith) (stands_listed low width s 0 blocks j block at stands) in
    let behind = kept_behind (listed_below low width blocks s) (standing low width s 0 blocks) 0 (length (standing low width s 0 blocks)) j here in
    let more = length-append (listed_below low width blocks s) (standing low width s 0 blocks) in
    let all = below_kept low width blocks (suc s) 64 (omega arith) _ _ j (omega arith) behind in
    let after = all.after in
    let before = all.before in
    record { place = all.place; after = omega arith; before = omega arith; is = all.is }

-- the list and where its strips begin are as a search wants them
pub are_strips : (low : ℤ) (width : ℕ) → 0 < width → (blocks : List Block3) → AreStrips blocks low width (starts_to low width blocks 64) (listed_below low width blocks 64)
are_strips low width wide blocks = record {
  wide = wide;
  count = starts_length low width blocks 64;
  rising = λ s t le within.
      let one = start_is low width blocks s 64 (omega arith) in
      let two = start_is low width blocks t 64 (omega arith) in
      let grows = below_grows low width blocks s t le in omega arith;
  ends = (let last = start_is low width blocks 64 64 (omega arith) in omega arith);
  places = below_within low width blocks 64;
  each = λ j block at s from to.
      let within : s < 64 = omega arith in
      let stands = and_from _ _ (le-leb _ _ from) (le-leb _ _ to) in
      let listed = strip_listed low width blocks j block at s within stands in
      let one = start_is low width blocks s 64 (omega arith) in
      let two = start_is low width blocks (s + 1) 64 (omega arith) in
      let next : suc s ≡ s + 1 = omega arith in
      let same : length (listed_below low width blocks (suc s)) ≡ length (listed_below low width blocks (s + 1)) = ap (λ k. length (listed_below low width blocks k)) next in
      let after = listed.after in
      let before = listed.before in
      record { place = listed.place; after = omega arith; before = omega arith; is = listed.is };
}

-- the strips of one more block
pub spans_more : (low : ℤ) (width : ℕ) (blocks : List Block3) (n : ℕ) (spans longer whole : List Span) → n < length blocks → longer ≡ spans ++ (span_at low width (read_at blocks n) ∷ []) →
    spans ++ map (span_at low width) (drop n blocks) ≡ whole → longer ++ map (span_at low width) (drop (n + 1) blocks) ≡ whole
spans_more low width blocks n spans longer whole l more h =
    let next : drop n blocks ≡ read_at blocks n ∷ drop (n + 1) blocks = drop-cons blocks n no_block l ∙ ap (λ k. read_at blocks n ∷ drop k blocks) (sym (add-one n)) in
    ap (λ xs. xs ++ map (span_at low width) (drop (n + 1) blocks)) more
    ∙ append_assoc spans (span_at low width (read_at blocks n) ∷ []) (map (span_at low width) (drop (n + 1) blocks))
    ∙ ap (λ bs. spans ++ map (span_at low width) bs) (sym next) ∙ h

-- the strips of all blocks
pub spans_all : (low : ℤ) (width : ℕ) (blocks : List Block3) (n : ℕ) (spans whole : List Span) → length blocks ≤ n →
    spans ++ map (span_at low width) (drop n blocks) ≡ whole → spans ≡ whole
spans_all low width blocks n spans whole le h =
    sym (append-nil spans) ∙ ap (λ bs. spans ++ map (span_at low width) bs) (sym (drop_of_length-le blocks le)) ∙ h

-- there are as many as blocks
pub spans_few : (low : ℤ) (width : ℕ) (blocks : List Block3) (spans : List Span) → length blocks ≤ 4096 → spans ≡ map (span_at low width) blocks → length spans ≤ 4096
spans_few low width blocks spans few e = (let l = ap length e in let m = length-map blocks (span_at low width) in omega (arith, l, m, few))

-- what is read past the end
abbrev no_span : Span
no_span = record { first = 0; last = 0 }

-- the strips that are read at n
abbrev pub span_read : List Span → ℕ → Span
span_read spans n = get_or spans n no_span

-- the strips of the next block, and of those behind it
next_of : (spans : List Span) (n : ℕ) → n < length spans → drop n spans ≡ span_read spans n ∷ drop (n + 1) spans
next_of spans n l = drop-cons spans n no_span l ∙ ap (λ k. span_read spans n ∷ drop k spans) (sym (add-one n))

-- one more block of a strip
pub fill_more : (s : ℕ) (spans : List Span) (n : ℕ) (order whole : List ℕ) → n < length spans → has_strip s (span_read spans n) ≡ true →
    order ++ having s n (drop n spans) ≡ whole → (order ++ (n ∷ [])) ++ having s (n + 1) (drop (n + 1) spans) ≡ whole
fill_more s spans n order whole l has h =
    append_assoc order (n ∷ []) (having s (n + 1) (drop (n + 1) spans))
    ∙ ap (λ t. order ++ numbered t n (having s (n + 1) (drop (n + 1) spans))) (sym has)
    ∙ ap (λ bs. order ++ having s n bs) (sym (next_of spans n l)) ∙ h

-- a block of other strips
pub fill_same : (s : ℕ) (spans : List Span) (n : ℕ) (order whole : List ℕ) → n < length spans → has_strip s (span_read spans n) ≡ false →
    order ++ having s n (drop n spans) ≡ whole → order ++ having s (n + 1) (drop (n + 1) spans) ≡ whole
fill_same s spans n order whole l has h =
    ap (λ t. order ++ numbered t n (having s (n + 1) (drop (n + 1) spans))) (sym has)
    ∙ ap (λ bs. order ++ having s n bs) (sym (next_of spans n l)) ∙ h

-- all blocks of a strip
pub fill_all : (s : ℕ) (spans : List Span) (n : ℕ) (order whole : List ℕ) → length spans ≤ n →
    order ++ having s n (drop n spans) ≡ whole → order ≡ whole
fill_all s spans n order whole le h =
    sym (append-nil order) ∙ ap (λ bs. order ++ having s n bs) (sym (drop_of_length-le spans le)) ∙ h

-- those that have the strip are those that stand in it
having_standing : (low : ℤ) (width s n : ℕ) (blocks : List Block3) → having s n (map (span_at low width) blocks) ≡ standing low width s n blocks
having_standing low width s n [] = refl
having_standing low width s n (b ∷ bs) = ap (numbered (stands_in low width s b) n) (having_standing low width s (n + 1) bs)

-- so what is added of the strips of all blocks is what stands there
pub filled : (low : ℤ) (width s : ℕ) (blocks : List Block3) (spans : List Span) (order longer : List ℕ) → spans ≡ map (span_at low width) blocks →
    longer ≡ order ++ having s 0 spans → longer ≡ order ++ standing low width s 0 blocks
filled low width s blocks spans order longer e h = h ∙ ap (λ xs. order ++ having s 0 xs) e ∙ ap (λ xs. order ++ xs) (having_standing low width s 0 blocks)

-- the strips below s are listed
pub record AreListed (low : ℤ) (width : ℕ) (blocks : List Block3) (s : ℕ) (order starts : List ℕ) : Type 0 where
  pub ordered : order ≡ listed_below low width blocks s
  pub started : starts ≡ starts_to low width blocks s

-- one more strip
pub listed_more : (low : ℤ) (width : ℕ) (blocks : List Block3) (s : ℕ) (order starts longer more : List ℕ) → AreListed low width blocks s order starts →
    longer ≡ order ++ standing low width s 0 blocks → more ≡ starts ++ (length longer ∷ []) → AreListed low width blocks (s + 1) longer more
listed_more low width blocks s order starts longer more h filled begun =
    let listed : longer ≡ listed_below low width blocks (suc s) = filled ∙ ap (λ xs. xs ++ standing low width s 0 blocks) h.ordered in
    let noted : more ≡ starts_to low width blocks (suc s) =
    begun ∙ ap (λ xs. xs ++ (length longer ∷ [])) h.started ∙ ap (λ xs. starts_to low width blocks s ++ (length xs ∷ [])) listed in
    subst (λ k. AreListed low width blocks k longer more) (sym (add-one s)) (record { ordered = listed; started = noted })

-- all strips
pub all_listed : (low low' : ℤ) (width width' : ℕ) (blocks : List Block3) (s : ℕ) (order starts : List ℕ) → AreListed low width blocks s order starts → 64 ≤ s → s ≤ 64 → low ≡ low' → width ≡ width' →
    AreListed low' width' blocks 64 order starts
all_listed low low' width width' blocks s order starts h least most same wide =
    let all : s ≡ 64 = omega arith in
    subst (λ l. AreListed l width' blocks 64 order starts) same (subst (λ w. AreListed low w blocks 64 order starts) wide (subst (λ k. AreListed low width blocks k order starts) all h))

-- their number fits
pub listed_short : (low : ℤ) (width : ℕ) (blocks : List Block3) (s : ℕ) (order starts longer : List ℕ) → length blocks ≤ 4096 → s < 64 → AreListed low width blocks s order starts →
    longer ≡ order ++ standing low width s 0 blocks → length longer ≤ 262144
listed_short low width blocks s order starts longer few l h filled =
    let listed : longer ≡ listed_below low width blocks (suc s) = filled ∙ ap (λ xs. xs ++ standing low width s 0 blocks) h.ordered in
    let most = below_most low width blocks few (suc s) in
    subst (λ xs. length xs ≤ 262144) (sym listed) (omega arith)

-- how many places the strips from s to t have
pub count_is : (low : ℤ) (width : ℕ) (blocks : List Block3) (starts : List ℕ) (s t : ℕ) → starts ≡ starts_to low width blocks 64 → s ≤ 63 → t ≤ 63 →
    start_of starts (t + 1) - start_of starts s ≡ listed_in low width blocks s t
count_is low width blocks starts s t e one two =
    let first = start_is low width blocks s 64 (omega arith) in
    let last = start_is low width blocks (t + 1) 64 (omega arith) in
    subst (λ xs. start_of xs (t + 1) - start_of xs s ≡ listed_in low width blocks s t) (sym e) (omega arith)
