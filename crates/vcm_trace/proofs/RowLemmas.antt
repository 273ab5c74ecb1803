-- What following a run has written is what is told of it, or a front of that.
use Rattle.std.proofs.Common.{◌≡◌, ℕ, zero, suc, ◌+◌, ◌-◌, ◌<◌, ◌≤◌, ◌==◌, Bool, true, false, List, [], ◌∷◌, ◌++◌, length, take, slice_get, Option, Some, None}
use Rattle.std.proofs.Common.{refl, sym, ap, ◌∙◌, subst, arith, append_assoc, length-append}
use Rattle.std.proofs.lemmas.List.{append-nil}
use Rattle.std.proofs.lemmas.Grind.{flat_map-append}
use Rattle.std.specs.Prelude.{if◌then◌else◌, flat_map}
use Rattle.std.specs.Io.KnownBytes.{Appends}
use Rattle.vcm_num.specs.Written.{AppendsFront}
use Rattle.vcm_num.proofs.KnownWrites.{appends_nothing, appends_more}
use Rattle.vcm_spec.specs.declared.stop.StopPlace.{StopPlace}
use Rattle.vcm_spec.specs.Workpiece.{Workpiece}
use Rattle.vcm_code.specs.declared.code.Code.{Code}
use Rattle.vcm_spec.specs.Setup.{setup_of}
use Rattle.vcm_code.specs.CodeTable.{code_steps}
use Rattle.vcm_machine.specs.declared.ran.End.TheVariants as ends
use Rattle.vcm_machine.specs.declared.ran.Ran.{Ran}
use Rattle.vcm_machine.specs.Running.{Running, started, later, RunEnded, HasRun}
use Rattle.vcm_steps.specs.Passages.{Passage, state_after, steps_taken, passages, IsBroken}
use Rattle.vcm_steps.proofs.PassageLemmas.{rest_of, taken_most, state_stopped, passages_stopped}
use Rattle.vcm_steps.specs.declared.fault.Unfinished.{Unfinished}
use Rattle.vcm_steps.specs.declared.fault.Unfinished.TheVariants as faults
use Rattle.vcm_trace.specs.Rows.{RunRows, rows_front, open_row, last_row, rows_text, written_before, written_with, IsWritten, IsHalted, IsCutOff, IsNotWritten}
use Rattle.vcm_trace.specs.Framed.{Frames, FramedStep, framed_step, no_frames, frames_behind, framed}
use Rattle.vcm_trace.specs.inner.Going.{HasRows, HasBroken}
use Rattle.vcm_trace.proofs.FramedLemmas.{framed_append, row_more}

-- ---- bytes

-- a front that ends in the first part
front_append : (k : ℕ) (xs ys : List ℕ) → k < length xs → take k (xs ++ ys) ≡ take k xs
front_append k [] ys l = absurd (omega arith)
front_append zero (x ∷ xs) ys l = refl
front_append (suc k) (x ∷ xs) ys l = ap (λ l. x ∷ l) (front_append k xs ys (omega arith))

-- a front that ends behind it
take_after : (xs ys : List ℕ) (k : ℕ) → take (length xs + k) (xs ++ ys) ≡ xs ++ take k ys
take_after [] ys k = ap (λ n. take n ys) (let e : 0 + k ≡ k = omega arith in e)
take_after (x ∷ xs) ys k = ap (λ n. take n (x ∷ xs ++ ys)) (let e : suc (length xs) + k ≡ suc (length xs + k) = omega arith in e) ∙ ap (λ l. x ∷ l) (take_after xs ys k)

-- so many bytes of the second part, and the third one behind it
below_all : (xs ys rest zs : List ℕ) (k : ℕ) → (xs ++ ys) ++ rest ≡ zs → k < length ys → length xs + k < length zs
below_all xs ys rest zs k e l = rw (← e) (omega (arith, length-append (xs ++ ys) rest, length-append xs ys, l))

-- the first part and so many bytes of the second are a front of all
front_is : (xs ys rest zs : List ℕ) (k : ℕ) → (xs ++ ys) ++ rest ≡ zs → k < length ys → xs ++ take k ys ≡ take (length xs + k) zs
front_is xs ys rest zs k e l =
    let within : length xs + k < length (xs ++ ys) = omega (arith, length-append xs ys, l) in
    sym (take_after xs ys k) ∙ sym (front_append (length xs + k) (xs ++ ys) rest within) ∙ ap (take (length xs + k)) e

-- one more row, and a front of it
module _ (row : FramedStep → List ℕ) (fs : Frames) (a b d : Option (List ℕ)) (ps : List Passage) (p : Passage) (h : HasRows row fs a b ps) where
  pub one_row : Appends b d (row (framed_step (frames_behind fs ps) p)) → HasRows row fs a d (ps ++ p ∷ [])
  one_row k = appends_more a b d _ _ _ (row_more row fs ps p) h k

  pub part_of_row : AppendsFront b d (row (framed_step (frames_behind fs ps) p)) → HasBroken row fs a d ps p (faults.Write p.count)
  part_of_row k = (refl, (k.0, k.1, appends_more a b d _ _ _ refl h k.2))

module _ (t : RunRows) (part : Workpiece) (c : Code) where
  -- ---- texts

  abbrev first : Frames
  first = no_frames c.tables

  abbrev rows_along : List Passage → List ℕ
  rows_along ps = flat_map (t.row c.tables) (framed first ps)

  abbrev lines : ℕ → List ℕ
  lines k = rows_along (passages part c k)

  -- the rows of more steps
  more_rows : (ps qs : List Passage) → rows_along ps ++ flat_map (t.row c.tables) (framed (frames_behind first ps) qs) ≡ rows_along (ps ++ qs)
  more_rows ps qs =
      sym (flat_map-append (t.row c.tables) (framed first ps) (framed (frames_behind first ps) qs)) ∙ ap (flat_map (t.row c.tables)) (sym (framed_append first ps qs))

  -- what a trace begins with
  text_front : (n k : ℕ) → k ≤ n → (rest : List ℕ) × (rows_front t part c k ++ rest ≡ rows_text t part c n)
  text_front n k l =
      let r = rest_of part c k (n - k) in
      let end = last_row t c (steps_taken part c n) (state_after part c n) (state_after part c n).world.stop in
      let more = flat_map (t.row c.tables) (framed (frames_behind first (passages part c k)) r.0) in
      let all : k + (n - k) ≡ n = omega (arith, l) in
      let joined = more_rows (passages part c k) r.0 ∙ ap rows_along r.1 ∙ ap lines all in (
        more ++ end,
        sym (append_assoc (rows_front t part c k) more end) ∙ ap (λ x. x ++ end) (append_assoc t.before (lines k) more) ∙ ap (λ x. (t.before ++ x) ++ end) joined,
      )

  before_short : (k : ℕ) → length (written_before t part c k) ≤ length (rows_front t part c k)
  before_short zero = omega arith
  before_short (suc k) =
      let r = rest_of part c k 1 in
      let more = flat_map (t.row c.tables) (framed (frames_behind first (passages part c k)) r.0) in
      let e = ap (λ l. length (t.before ++ l)) (more_rows (passages part c k) r.0 ∙ ap rows_along r.1 ∙ ap lines (let q : k + 1 ≡ suc k = omega arith in q)) in
      omega (arith, e, length-append t.before (lines k), length-append t.before (lines k ++ more), length-append (lines k) more)

  with_either : (n k size : ℕ) → size < length (rows_text t part c n) → size < length (rows_front t part c k) → size < length (written_with t part c n k)
  with_either n k size p q = by (k == n)
    where
      by : (b : Bool) → size < length (if b then rows_text t part c n else rows_front t part c k)
      by true = p
      by false = q

  with_all : (n k size : ℕ) → k ≡ n → size < length (rows_text t part c n) → size < length (written_with t part c n k)
  with_all n k size e p =
      let same : (n == n) ≡ true = grind arith in
      let both : (k == n) ≡ true = ap (λ i. i == n) e ∙ same in
      subst (λ b. size < length (if b then rows_text t part c n else rows_front t part c k)) (sym both) p

  -- ---- where it broke off

  -- the line of a step could not be written
  pub broken_off : (n : ℕ) (a b d : Option (List ℕ)) (f : Unfinished) → Appends a b t.before → IsBroken n part c (λ ps p. HasBroken (t.row c.tables) first b d ps p f)
      → IsNotWritten t part c n f a d
  broken_off n a b d faults.NoMemory h i = absurd i.broken
  broken_off n a b d (faults.Memory done) h i = absurd i.broken
  broken_off n a b d (faults.Write done) h i =
      let k = i.done in
      let xs = rows_front t part c k in
      let ys = t.row c.tables (framed_step (frames_behind first (passages part c k)) i.last) in
      let j = i.broken.1.0 in
      let l = i.broken.1.1 in
      let r = text_front n (suc k) (let t = taken_most part c n in let u = i.taken in omega (arith, t, u)) in
      let line : xs ++ ys ≡ rows_front t part c (suc k) =
      append_assoc t.before (lines k) ys
      ∙ ap (λ x. t.before ++ x) (row_more (t.row c.tables) first (passages part c k) i.last ∙ ap rows_along (sym i.passages_are)) in
      let text = ap (λ x. x ++ r.0) line ∙ r.1 in
      let below = below_all xs ys r.0 (rows_text t part c n) j text l in
      let within = subst (λ z. length xs + j < length z) line (omega (arith, length-append xs ys, l)) in
      subst (λ q. IsCutOff t part c n q a d) (sym (i.broken.0 ∙ i.count_is)) (record {
        taken = i.taken;
        front = (length xs + j, below, appends_more a b d _ _ _ (sym (append_assoc t.before (lines k) (take j ys)) ∙ front_is xs ys r.0 (rows_text t part c n) j text l) h i.broken.1.2);
        begun = omega arith;
        unfinished = with_either n (suc k) (length xs + j) below within;
      })

  -- the header could not be written
  pub not_begun : (n : ℕ) (a b : Option (List ℕ)) → AppendsFront a b t.before → IsCutOff t part c n 0 a b
  not_begun n a b h =
      let none : List ℕ = [] in
      let r = text_front n 0 (omega arith) in
      let text : (none ++ t.before) ++ r.0 ≡ rows_text t part c n = ap (λ x. x ++ r.0) (sym (append-nil t.before)) ∙ r.1 in
      let below = below_all none t.before r.0 (rows_text t part c n) h.0 text h.1 in
      let within = subst (λ l. length none + h.0 < length l) (sym (append-nil t.before)) (omega (arith, h.1)) in
      record {
        taken = omega arith;
        front = (length none + h.0, below, appends_more a a b none _ _ (front_is none t.before r.0 (rows_text t part c n) h.0 text h.1) (appends_nothing a) h.2);
        begun = omega arith;
        unfinished = with_either n 0 (length none + h.0) below within;
      }

  -- ---- ends

  module _ (n : ℕ) (old m : Running) (ran : Ran) (is : old ≡ started part c) (run : HasRun n old m ran) (a b d : Option (List ℕ)) (h : Appends a b t.before)
      (w : HasRows (t.row c.tables) first b d (passages part c ran.done)) where
    ended : RunEnded n (started part c) m ran.done ran.end
    ended = subst (λ o. RunEnded n o m ran.done ran.end) is run.ended

    state : m.state ≡ state_after part c ran.done
    state = ap (λ r. r.state) run.new_is ∙ ap (λ o. code_steps (setup_of o.part o.code.tables) o.code.statements ran.done o.state) is

    written : Appends a d (rows_front t part c ran.done)
    written = appends_more a b d _ _ _ refl h w

    -- memory was refused to a step
    pub halted : ran.end ≡ ends.NoMemory → IsHalted t part c n ran.done a d
    halted e = record {
      halted = subst (λ o. RunEnded n (started part c) (later ran.done o) ran.done ends.NoMemory) is
          (subst (λ r. RunEnded n (started part c) r ran.done ends.NoMemory) run.new_is (subst (λ x. RunEnded n (started part c) m ran.done x) e ended));
      written = written;
    }

    -- it has stopped
    pub has_stopped : (stop : Option StopPlace) → ran.end ≡ ends.Stopped → stop ≡ m.state.world.stop → IsWritten t part c n stop a d
    has_stopped stop e s =
        let r = subst (λ x. RunEnded n (started part c) m ran.done x) e ended in
        let here : (state_after part c ran.done).world.stop ≡ Some r.1.0 = ap (λ x. x.world.stop) (sym state) ∙ r.1.1 in
        let far = state_stopped part c n ran.done r.0 in
        let there : (state_after part c n).world.stop ≡ Some r.1.0 = ap (λ x. x.world.stop) far ∙ here in
        let text : rows_front t part c ran.done ≡ rows_text t part c n =
        sym (append-nil (rows_front t part c ran.done))
        ∙ ap (λ ps. (t.before ++ rows_along ps) ++ []) (sym (passages_stopped part c n ran.done r.1.0 r.0 here))
        ∙ ap (λ o. rows_front t part c n ++ last_row t c (steps_taken part c n) (state_after part c n) o) (sym there) in
        record { stop_is = s ∙ r.1.1 ∙ sym there; written = subst (λ l. Appends a d l) text written }

    -- all steps were taken
    module _ (e : ran.end ≡ ends.Count) (z : Option (List ℕ)) where
      counted : (ran.done ≡ n) × (n ≡ steps_taken part c n) × (m.state.world.stop ≡ None)
      counted = subst (λ x. RunEnded n (started part c) m ran.done x) e ended

      open_stop : (state_after part c n).world.stop ≡ None
      open_stop = ap (λ i. (state_after part c i).world.stop) (sym counted.0) ∙ ap (λ x. x.world.stop) (sym state) ∙ counted.2

      abbrev rest : List ℕ
      rest = open_row t ran.done m.state (slice_get c.statements m.state.next)

      text : rows_front t part c ran.done ++ rest ≡ rows_text t part c n
      text =
          ap (λ s. rows_front t part c ran.done ++ open_row t ran.done s (slice_get c.statements s.next)) state
          ∙ ap (λ i. rows_front t part c i ++ open_row t i (state_after part c i) (slice_get c.statements (state_after part c i).next)) counted.0
          ∙ ap (λ i. rows_front t part c n ++ open_row t i (state_after part c n) (slice_get c.statements (state_after part c n).next)) counted.1
          ∙ ap (λ o. rows_front t part c n ++ last_row t c (steps_taken part c n) (state_after part c n) o) (sym open_stop)

      pub is_open : Appends d z rest → IsWritten t part c n None a z
      is_open k = record { stop_is = sym open_stop; written = appends_more a d z _ _ _ text written k }

      pub cut_last : AppendsFront d z rest → IsCutOff t part c n ran.done a z
      cut_last k =
          let xs = rows_front t part c ran.done in
          let whole = append-nil (xs ++ rest) ∙ text in
          let below = below_all xs rest [] (rows_text t part c n) k.0 whole k.1 in
          record {
            taken = (let p = counted.0 in let q = counted.1 in omega (arith, p, q));
            front = (length xs + k.0, below, appends_more a d z _ _ _ (front_is xs rest [] (rows_text t part c n) k.0 whole k.1) written k.2);
            begun = (let s = before_short ran.done in omega (arith, s));
            unfinished = with_all n ran.done (length xs + k.0) counted.0 below;
          }
