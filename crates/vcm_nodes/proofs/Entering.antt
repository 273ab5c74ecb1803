-- Labels within reach that stand in a table, where none stands twice: the jumps are judged as by the list of all.
use Rattle.std.proofs.Common.{◌≡◌, ℕ, zero, suc, ◌≤◌, Bool, true, false, List, [], ◌∷◌, ◌++◌, length, take, refl, sym, ap, ◌∙◌, subst, inl, inr, arith}
use Rattle.std.specs.Prelude.{not, ◌&&◌, ◌||◌, if◌then◌else◌, Some}
use Rattle.vcm_lines.specs.declared.fault.FaultCode.{FaultCode}
use Rattle.vcm_lines.specs.declared.fault.FaultCode.TheVariants.{UnknownName, JumpInward}
use Rattle.vcm_lines.specs.declared.fault.SourceFault.{SourceFault}
use Rattle.vcm_lines.specs.Fault.{NoMemoryOr}
use Rattle.vcm_spec.specs.Program.{Label, Node, Block, Cases, simple, label, jump, choice, choice_else, do_loop, meas, select, ending, done, no_more, one_case, default, is_same_label}
use Rattle.vcm_spec.specs.Program.{then as chain}
use Rattle.vcm_nodes.specs.inner.SameLabels.{same_label}
use Rattle.vcm_nodes.specs.Jumps.{Jump, own_labels, node_jumps, jumps_in, jumps_among, is_among, BreaksJumps}
use Rattle.vcm_nodes.specs.inner.Judging.{AllReach, IsFirst, with_label, with_labels}

-- ---- what is among labels with others

or_assoc : (a b c : Bool) → ((a || b) || c) ≡ (a || (b || c))
or_assoc true b c = refl
or_assoc false b c = refl

among_append : (ls ms : List Label) (l : Label) → is_among (ls ++ ms) l ≡ (is_among ls l || is_among ms l)
among_append [] ms l = refl
among_append (k ∷ ls) ms l = ap (λ t. is_same_label l k || t) (among_append ls ms l) ∙ sym (or_assoc (is_same_label l k) (is_among ls l) (is_among ms l))

or_nothing : (a b c : Bool) → (b ≡ true → a ≡ true) → (a || c) ≡ (a || (b || c))
or_nothing true b c f = refl
or_nothing false true c f = absurd (let e = f refl in cc)
or_nothing false false c f = refl

-- one label more
one_more : (ls ms : List Label) (m l : Label) → is_among (with_label ls m ++ ms) l ≡ is_among (ls ++ m ∷ ms) l
one_more ls ms m l = by (is_among ls m) refl
  where
    by : (b : Bool) → is_among ls m ≡ b → is_among ((if b then ls else ls ++ m ∷ []) ++ ms) l ≡ is_among (ls ++ m ∷ ms) l
    by true e =
        among_append ls ms l
        ∙ or_nothing (is_among ls l) (is_same_label l m) (is_among ms l) (λ s. ap (is_among ls) (same_label l m s) ∙ e)
        ∙ sym (among_append ls (m ∷ ms) l)
    by false e =
        among_append (ls ++ m ∷ []) ms l ∙ ap (λ t. t || is_among ms l) (among_append ls (m ∷ []) l)
        ∙ joined (is_among ls l) (is_same_label l m) (is_among ms l)
        ∙ sym (among_append ls (m ∷ ms) l)
      where
        joined : (a b c : Bool) → ((a || (b || false)) || c) ≡ (a || (b || c))
        joined true b c = refl
        joined false true c = refl
        joined false false c = refl

pub among_with : (ls ms : List Label) (l : Label) → is_among (with_labels ls ms) l ≡ is_among (ls ++ ms) l
among_with ls [] l = sym (among_append ls [] l ∙ none (is_among ls l))
  where
    none : (a : Bool) → (a || false) ≡ a
    none true = refl
    none false = refl
among_with ls (m ∷ ms) l = among_with (with_label ls m) ms l ∙ one_more ls ms m l

-- ---- the labels that were there first stay in front

front_one : (n : ℕ) (ls : List Label) (m : Label) → n ≤ length ls → take n (with_label ls m) ≡ take n ls
front_one n ls m le = by (is_among ls m)
  where
    front : (n : ℕ) (ls : List Label) → n ≤ length ls → take n (ls ++ m ∷ []) ≡ take n ls
    front zero ls le = refl
    front (suc n) [] le = absurd (omega (arith, le))
    front (suc n) (l ∷ ls) le = ap (λ t. l ∷ t) (front n ls (omega (arith, le)))

    by : (b : Bool) → take n (if b then ls else ls ++ m ∷ []) ≡ take n ls
    by true = refl
    by false = front n ls le

longer : (n : ℕ) (ls : List Label) (m : Label) → n ≤ length ls → n ≤ length (with_label ls m)
longer n ls m le = by (is_among ls m)
  where
    more : (ls : List Label) → length (ls ++ m ∷ []) ≡ suc (length ls)
    more [] = refl
    more (l ∷ ls) = ap suc (more ls)

    by : (b : Bool) → n ≤ length (if b then ls else ls ++ m ∷ [])
    by true = le
    by false = (let e = more ls in omega (arith, le, e))

front_all : (n : ℕ) (ls ms : List Label) → n ≤ length ls → take n (with_labels ls ms) ≡ take n ls
front_all n ls [] le = refl
front_all n ls (m ∷ ms) le = front_all n (with_label ls m) ms (longer n ls m le) ∙ front_one n ls m le

take_whole : (ls : List Label) → take (length ls) ls ≡ ls
take_whole [] = refl
take_whole (l ∷ ls) = ap (λ t. l ∷ t) (take_whole ls)

-- the labels of an inner block are given up again
pub given_up : (ls ms now : List Label) (n : ℕ) → now ≡ with_labels ls ms → n ≡ length ls → take n now ≡ ls
given_up ls ms now n e l = ap (take n) e ∙ ap (λ k. take k (with_labels ls ms)) l ∙ front_all (length ls) ls ms (omega arith) ∙ take_whole ls

-- ---- jumps with the same labels within reach

-- the same labels are among these and those
pub record AreSame (ls ms : List Label) : Type 0 where
  pub same : (l : Label) → is_among ls l ≡ is_among ms l

pub entered_same : (ls ms : List Label) → AreSame (with_labels ls ms) (ls ++ ms)
entered_same ls ms = record { same = among_with ls ms }

more_same : (ls ms own : List Label) → AreSame ls ms → AreSame (ls ++ own) (ms ++ own)
more_same ls ms own s = record { same = λ l. among_append ls own l ∙ ap (λ t. t || is_among own l) (s.same l) ∙ sym (among_append ms own l) }

-- these jumps are those, but for the way in which the labels within reach are written
abbrev pub AreAlike : List Jump → List Jump → Type 0
AreAlike [] ks = ks ≡ []
AreAlike (j ∷ js) [] = ⊥
AreAlike (j ∷ js) (k ∷ ks) = (j.line ≡ k.line) × (j.to ≡ k.to) × AreSame j.reach k.reach × AreAlike js ks

alike_append : (js ks js' ks' : List Jump) → AreAlike js ks → AreAlike js' ks' → AreAlike (js ++ js') (ks ++ ks')
alike_append [] ks js' ks' a b = subst (λ l. AreAlike js' (l ++ ks')) (sym a) b
alike_append (j ∷ js) [] js' ks' a b = absurd a
alike_append (j ∷ js) (k ∷ ks) js' ks' a b = (a.0, a.1, a.2, alike_append js ks js' ks' a.3 b)

mutual
  node_alike : (n : Node) (ls ms : List Label) → AreSame ls ms → AreAlike (node_jumps n ls) (node_jumps n ms)
  node_alike (simple line what) ls ms s = refl
  node_alike (label line l) ls ms s = refl
  node_alike (jump line l) ls ms s = (refl, refl, s, refl)
  node_alike (choice line test first close) ls ms s = block_alike first (ls ++ own_labels first) (ms ++ own_labels first) (more_same ls ms (own_labels first) s)
  node_alike (choice_else line test first mid second close) ls ms s =
      alike_append (jumps_in first (ls ++ own_labels first)) (jumps_in first (ms ++ own_labels first)) (jumps_in second (ls ++ own_labels second)) (jumps_in second (ms ++ own_labels second))
      (block_alike first (ls ++ own_labels first) (ms ++ own_labels first) (more_same ls ms (own_labels first) s))
      (block_alike second (ls ++ own_labels second) (ms ++ own_labels second) (more_same ls ms (own_labels second) s))
  node_alike (do_loop line v x y z body close) ls ms s = block_alike body (ls ++ own_labels body) (ms ++ own_labels body) (more_same ls ms (own_labels body) s)
  node_alike (meas line f body close) ls ms s = block_alike body (ls ++ own_labels body) (ms ++ own_labels body) (more_same ls ms (own_labels body) s)
  node_alike (select line v cases close) ls ms s = cases_alike cases ls ms s
  node_alike (ending line) ls ms s = refl

  pub block_alike : (b : Block) (ls ms : List Label) → AreSame ls ms → AreAlike (jumps_in b ls) (jumps_in b ms)
  block_alike done ls ms s = refl
  block_alike (chain n b) ls ms s = alike_append (node_jumps n ls) (node_jumps n ms) (jumps_in b ls) (jumps_in b ms) (node_alike n ls ms s) (block_alike b ls ms s)

  cases_alike : (cs : Cases) (ls ms : List Label) → AreSame ls ms → AreAlike (jumps_among cs ls) (jumps_among cs ms)
  cases_alike no_more ls ms s = refl
  cases_alike (one_case line v b close rest) ls ms s =
      alike_append (jumps_in b (ls ++ own_labels b)) (jumps_in b (ms ++ own_labels b)) (jumps_among rest ls) (jumps_among rest ms)
      (block_alike b (ls ++ own_labels b) (ms ++ own_labels b) (more_same ls ms (own_labels b) s)) (cases_alike rest ls ms s)
  cases_alike (default line b close) ls ms s = block_alike b (ls ++ own_labels b) (ms ++ own_labels b) (more_same ls ms (own_labels b) s)

-- ---- they are judged alike

pub reach_alike : (all : List Label) (js ks : List Jump) → AreAlike js ks → AllReach all js → AllReach all ks
reach_alike all [] ks a h = subst (AllReach all) (sym a) tt
reach_alike all (j ∷ js) [] a h = absurd a
reach_alike all (j ∷ js) (k ∷ ks) a h = (
  ap (is_among all) (sym a.1) ∙ h.0,
  sym (a.2.same k.to) ∙ ap (is_among j.reach) (sym a.1) ∙ h.1,
  reach_alike all js ks a.3 h.2,
)

breaks_alike : (all : List Label) (before other : List Jump) (j k : Jump) (code : FaultCode) → j.to ≡ k.to → AreSame j.reach k.reach
    → BreaksJumps all before (Some j) code → BreaksJumps all other (Some k) code
breaks_alike all before other j k UnknownName e s b = ap (λ l. not (is_among all l)) (sym e) ∙ b
breaks_alike all before other j k JumpInward e s b =
    ap (λ l. is_among all l && not (is_among k.reach l)) (sym e) ∙ ap (λ t. is_among all j.to && not t) (sym (s.same j.to)) ∙ b
breaks_alike all before other j k _ e s b = b

-- the jumps up to a place, that one, and those behind it, in both
record IsCut (before : List Jump) (j : Jump) (after ks : List Jump) : Type 0 where
  front : List Jump
  here : Jump
  rest : List Jump
  cut : ks ≡ front ++ here ∷ rest
  front_alike : AreAlike before front
  line : j.line ≡ here.line
  to : j.to ≡ here.to
  reach : AreSame j.reach here.reach

cut_alike : (before : List Jump) (j : Jump) (after ks : List Jump) → AreAlike (before ++ j ∷ after) ks → IsCut before j after ks
cut_alike [] j after [] a = absurd a
cut_alike [] j after (k ∷ ks) a = record { front = []; here = k; rest = ks; cut = refl; front_alike = refl; line = a.0; to = a.1; reach = a.2 }
cut_alike (b ∷ before) j after [] a = absurd a
cut_alike (b ∷ before) j after (k ∷ ks) a =
    let c = cut_alike before j after ks a.3 in
    record { front = k ∷ c.front; here = c.here; rest = c.rest; cut = ap (λ l. k ∷ l) c.cut; front_alike = (a.0, a.1, a.2, c.front_alike); line = c.line; to = c.to; reach = c.reach }

pub first_alike : (all : List Label) (js ks : List Jump) (f : SourceFault) → AreAlike js ks → IsFirst all js f → IsFirst all ks f
first_alike all js ks f a i =
    let c = cut_alike i.before i.at_fault i.after ks (subst (λ l. AreAlike l ks) i.cut a) in
    record {
      before = c.front;
      at_fault = c.here;
      after = c.rest;
      cut = c.cut;
      reached = reach_alike all i.before c.front c.front_alike i.reached;
      broken = breaks_alike all i.before c.front i.at_fault c.here f.code c.to c.reach i.broken;
      told = i.told ∙ c.line;
    }

-- ---- a block whose labels were added to those within reach

pub entered_reach : (all reach : List Label) (b : Block) → AllReach all (jumps_in b (with_labels reach (own_labels b))) → AllReach all (jumps_in b (reach ++ own_labels b))
entered_reach all reach b h =
    reach_alike all (jumps_in b (with_labels reach (own_labels b))) (jumps_in b (reach ++ own_labels b))
    (block_alike b (with_labels reach (own_labels b)) (reach ++ own_labels b) (entered_same reach (own_labels b))) h

pub entered_told : (all reach : List Label) (b : Block) (f : SourceFault) → NoMemoryOr (IsFirst all (jumps_in b (with_labels reach (own_labels b)))) f
    → NoMemoryOr (IsFirst all (jumps_in b (reach ++ own_labels b))) f
entered_told all reach b f (inl e) = inl e
entered_told all reach b f (inr p) =
    inr (first_alike all (jumps_in b (with_labels reach (own_labels b))) (jumps_in b (reach ++ own_labels b)) f
    (block_alike b (with_labels reach (own_labels b)) (reach ++ own_labels b) (entered_same reach (own_labels b))) p)
