-- The code that stands for what is left to do.
use Rattle.std.proofs.Common.{◌≡◌, ℕ, zero, suc, ◌+◌, ◌<◌, ◌≤◌, ◌≢◌, List, [], ◌∷◌, length, Option, Some, None, false, refl, sym, ap, ◌∙◌, subst, arith, ⊎_elim}
use Rattle.std.specs.Prelude.{ℤ, IsTrue, slice_get, slice_set}
use Rattle.std.proofs.lemmas.Option.{slice_get-get_or, slice_get_within, get_or_from_slice_get}
use Rattle.std.proofs.lemmas.List.{get_or-set_same, get_or-set_other}
use Rattle.std.proofs.Math.ListN.{length-set}
use Rattle.vcm_spec.specs.Setup.{Setup}
use Rattle.vcm_spec.specs.World.{World}
use Rattle.vcm_spec.specs.Control.{is_zero}
use Rattle.vcm_spec.specs.Program.{Label as Name, Node, Block, label, sizes, node_at, number_at, label_index}
use Rattle.vcm_spec.specs.Table.{Entry, Rest, Closes, Loop, State, drop_if_none, front, number_of, land_in, landing}
use Rattle.vcm_spec.specs.Whole.{is_closed, IsAround, Jumps}
use Rattle.vcm_spec.proofs.Labels.{missed}
use Rattle.vcm_code.specs.declared.pair.Pair.{Pair}
use Rattle.vcm_code.specs.declared.op.Op.TheVariants.{EndDo}
use Rattle.vcm_code.specs.Code.{Op, CodeStatement, statement}
use Rattle.vcm_code.specs.CodeTable.{pair, CodeState, code_state, do_op, fetched, op_prints, next_prints}
use Rattle.vcm_asm.specs.inner.Depth.{Deep}
use Rattle.vcm_asm.specs.Assembled.{marks, block_code}
use Rattle.vcm_asm.proofs.Place.{HasAt, past_end, Marked, marked_at, label_at}

-- the blocks that hold what is left to do
abbrev pub scopes : List Entry → List Block
scopes [] = []
scopes (Rest b base i ∷ es) = b ∷ scopes es
scopes (Closes n ∷ es) = scopes es
scopes (Loop at v b c lim inc ∷ es) = scopes es

pub get_set_other : (ps : List Pair) (i j : ℕ) (p x : Pair) → i < j → slice_get ps i ≡ Some x → slice_get (slice_set ps j p) i ≡ Some x
get_set_other ps i j p x lt e =
    let within = slice_get_within ps i x e in
    let room : i < length (slice_set ps j p) = omega (arith, length-set ps j p) in
    let apart : i ≢ j = omega arith in
    slice_get-get_or (slice_set ps j p) i x room ∙ ap Some (get_or-set_other ps j i p x apart ∙ get_or_from_slice_get ps i x x e)

pub get_set_same : (ps : List Pair) (j : ℕ) (p : Pair) → j < length ps → slice_get (slice_set ps j p) j ≡ Some p
get_set_same ps j p lt =
    let room : j < length (slice_set ps j p) = omega (arith, length-set ps j p) in
    slice_get-get_or (slice_set ps j p) j p room ∙ ap Some (get_or-set_same ps j p p lt)

-- the last entry is the program, before its end
abbrev pub BottomEntry : Entry → Type 0
BottomEntry (Rest b base i) = ((n : Node) × (node_at b i ≡ Some n)) × IsTrue (is_closed b)
BottomEntry (Closes n) = ⊥
BottomEntry (Loop at v b c lim inc) = ⊥

abbrev pub Bottom : List Entry → Type 0
Bottom [] = ⊥
Bottom (e ∷ []) = BottomEntry e
Bottom (e ∷ (f ∷ es)) = Bottom (f ∷ es)

pub bottom_push : (e : Entry) (es : List Entry) → Bottom es → Bottom (e ∷ es)
bottom_push e [] h = absurd h
bottom_push e (f ∷ es) h = h

pub bottom_pop : (e : Entry) (es : List Entry) → (BottomEntry e → ⊥) → Bottom (e ∷ es) → Bottom es
bottom_pop e [] not h = absurd (not h)
bottom_pop e (f ∷ es) not h = h

pub bottom_move : (b : Block) (base i j : ℕ) (es : List Entry) → (IsTrue (is_closed b) → (n : Node) × (node_at b j ≡ Some n)) → Bottom (Rest b base i ∷ es) → Bottom (Rest b base j ∷ es)
bottom_move b base i j [] go h = (go h.1, h.1)
bottom_move b base i j (f ∷ es) go h = h

pub bottom_outer : (l : Name) (e : Entry) (es : List Entry) → IsAround l (scopes es) → Bottom (e ∷ es) → Bottom es
bottom_outer l e [] r h = absurd r
bottom_outer l e (f ∷ es) r h = h

-- what stands in front is no rest at its end
abbrev pub Live : List Entry → Type 0
Live [] = ⊥
Live (Rest b base i ∷ es) = (n : Node) × (node_at b i ≡ Some n)
Live (Closes n ∷ es) = Unit {0}
Live (Loop at v b c lim inc ∷ es) = Unit {0}

pub bottom_dropped : (b : Block) (base i : ℕ) (es : List Entry) → node_at b i ≡ None → Bottom (Rest b base i ∷ es) → Bottom es
bottom_dropped b base i [] e h = absurd (node_none (node_at b i) (h.0).0 e (h.0).1)
  where
    node_none : (o : Option Node) (n : Node) → o ≡ None → o ≡ Some n → ⊥
    node_none o n e f = cc
bottom_dropped b base i (f ∷ es) e h = h

module _ (setup : Setup) (code : List CodeStatement) (to : Name → ℕ) where
  -- a block that is assembled and accepted, within `d` loops
  pub record Placed (d base : ℕ) (b : Block) (around : List Block) : Type 0 where
    pub has : HasAt code base (block_code to b d base)
    pub jumps : Jumps b (b ∷ around)
    pub marked : Marked to (marks b base)
    pub deep : Deep b d

  -- the statement there does nothing but go on elsewhere
  pub record Goes (pc target : ℕ) : Type 0 where
    pub silent : next_prints (slice_get code pc) ≡ false
    pub goes : (w : World) (ps : List Pair) → fetched setup (slice_get code pc) w pc ps ≡ code_state w target ps

  -- an ENDDO
  pub record Turns (ps : List Pair) (d pc at v : ℕ) (b : Block) (c : ℕ) (lim inc : ℤ) : Type 0 where
    pub number : pc ≡ at + 1 + sizes b
    pub op : slice_get code pc ≡ Some (statement c (EndDo v d (at + 1)))
    pub saved : slice_get ps d ≡ Some (pair lim inc)
    pub moves : is_zero inc ≡ false

  -- the code at `pc` is what is left to do, within `d` loops whose limits and increments stand in the first `d` pairs
  abbrev pub Sits : List Pair → List Entry → ℕ → ℕ → Type 0
  Sits ps [] d pc = Unit {0}
  Sits ps (Rest b base i ∷ es) d pc = (pc ≡ number_at b base i) × Placed d base b (scopes es) × Sits ps es d (base + sizes b)
  Sits ps (Closes n ∷ es) d pc = (pc ≡ n) × (target : ℕ) × Goes pc target × Sits ps es d target
  Sits ps (Loop at v b c lim inc ∷ es) zero pc = ⊥
  Sits ps (Loop at v b c lim inc ∷ es) (suc d) pc = Turns ps d pc at v b c lim inc × Placed (suc d) (at + 1) b (scopes es) × Sits ps es d (pc + 1)

  -- setting a pair that no entry uses
  pub sits_set : (ps : List Pair) (j : ℕ) (p : Pair) (es : List Entry) (d pc : ℕ) → d ≤ j → Sits ps es d pc → Sits (slice_set ps j p) es d pc
  sits_set ps j p [] d pc le h = tt
  sits_set ps j p (Rest b base i ∷ es) d pc le h = (h.0, h.1, sits_set ps j p es d (base + sizes b) le h.2)
  sits_set ps j p (Closes n ∷ es) d pc le h = (h.0, h.1, h.2, sits_set ps j p es d h.1 le h.3)
  sits_set ps j p (Loop at v b c lim inc ∷ es) zero pc le h = absurd h
  sits_set ps j p (Loop at v b c lim inc ∷ es) (suc d) pc le h =
      let below : d < j = omega arith in
      let t = h.0 in
      (record { number = t.number; op = t.op; saved = get_set_other ps d j p (pair lim inc) below t.saved; moves = t.moves }, h.1, sits_set ps j p es d (pc + 1) (omega arith) h.2)

  pub goes_by : (pc target line : ℕ) (op : Op) → slice_get code pc ≡ Some (statement line op) → op_prints op ≡ false
      → ((w : World) (ps : List Pair) → do_op setup op line w pc ps ≡ code_state w target ps) → Goes pc target
  goes_by pc target line op e q h = record { silent = ap next_prints e ∙ q; goes = λ w ps. ap (λ o. fetched setup o w pc ps) e ∙ h w ps }

  -- a label's entry
  pub landed : (l : Name) (ps : List Pair) (es : List Entry) (d pc : ℕ) → Sits ps es d pc → IsAround l (scopes es) → Bottom es → (d' : ℕ) × Sits ps (landing l es) d' (to l) × Bottom (landing l es)
  landed l ps [] d pc h r bot = absurd bot
  landed l ps (Rest b base i ∷ es) d pc h r bot = here (λ r'. landed l ps es d (base + sizes b) h.2 r' (bottom_outer l (Rest b base i) es r' bot)) (label_index b l) refl
    where
      at_label : (k : ℕ) → label_index b l ≡ Some k → to l ≡ number_at b base k
      at_label k e = let f = label_at b l k e in (marked_at to b base k (label f.0 l) f.1 (h.1).marked).0

      here : (IsAround l (scopes es) → (d' : ℕ) × Sits ps (landing l es) d' (to l) × Bottom (landing l es)) → (o : Option ℕ) → label_index b l ≡ o → (d' : ℕ)
          × Sits ps (land_in o b base es (landing l es)) d' (to l) × Bottom (land_in o b base es (landing l es))
      here next None e =
          let r' : IsAround l (scopes es) = ⊎_elim (λ (x : (k : ℕ) × (line : ℕ) × (node_at b k ≡ Some (label line l))). absurd (missed b l e x.0 x.1 x.2)) (λ x. x) r in
          next r'
      here next (Some k) e = (d, (at_label k e, h.1, h.2), bottom_move b base i k es (λ c. let f = label_at b l k e in (label f.0 l, f.1)) bot)
  landed l ps (Closes n ∷ es) d pc h r bot = landed l ps es d h.1 h.3 r (bottom_outer l (Closes n) es r bot)
  landed l ps (Loop at v b c lim inc ∷ es) zero pc h r bot = absurd h
  landed l ps (Loop at v b c lim inc ∷ es) (suc d) pc h r bot = landed l ps es d (pc + 1) h.2 r (bottom_outer l (Loop at v b c lim inc) es r bot)

  pub in_front : (ps : List Pair) (es : List Entry) (d pc : ℕ) → Sits ps es d pc → Bottom es → Sits ps (front es) d pc × Bottom (front es) × Live (front es)
  in_front ps [] d pc h bot = absurd bot
  in_front ps (Rest b base i ∷ es) d pc h bot = here (λ k. in_front ps es d (base + sizes b) h.2 k) (node_at b i) refl
    where
      here : (Bottom es → Sits ps (front es) d (base + sizes b) × Bottom (front es) × Live (front es)) → (o : Option Node) → node_at b i ≡ o
          → Sits ps (drop_if_none o (front es) (Rest b base i ∷ es)) d pc × Bottom (drop_if_none o (front es) (Rest b base i ∷ es))
          × Live (drop_if_none o (front es) (Rest b base i ∷ es))
      here next None e =
          let r = next (bottom_dropped b base i es e bot) in
          (subst (λ n. Sits ps (front es) d n) (sym (h.0 ∙ past_end b base i e)) r.0, r.1, r.2)
      here next (Some n) e = (h, bot, (n, e))
  in_front ps (Closes n ∷ es) d pc h bot = (h, bot, tt)
  in_front ps (Loop at v b c lim inc ∷ es) d pc h bot = (h, bot, tt)

  pub number_is : (ps : List Pair) (es : List Entry) (d pc : ℕ) → Sits ps es d pc → Live es → pc ≡ number_of es
  number_is ps [] d pc h live = absurd live
  number_is ps (Rest b base i ∷ es) d pc h live = h.0
  number_is ps (Closes n ∷ es) d pc h live = h.0
  number_is ps (Loop at v b c lim inc ∷ es) zero pc h live = absurd h
  number_is ps (Loop at v b c lim inc ∷ es) (suc d) pc h live = (h.0).number

  -- the table's state and the code's, at one
  pub record Matched (s : State) (m : CodeState) : Type 0 where
    pub world : m.world ≡ s.world
    pub depth : ℕ
    pub sits : Sits m.pairs s.entries depth m.next
    pub bottom : Bottom s.entries
    pub room : length m.pairs ≡ 32
