-- Jumps that are judged one by one: lists of them put together.
use Rattle.std.proofs.Common.{◌≡◌, ℕ, zero, suc, ◌<◌, Bool, true, false, List, [], ◌∷◌, ◌++◌, length, take, drop, Some, refl, sym, ap, ◌∙◌, subst, append_assoc, inl, inr, arith}
use Rattle.std.specs.Prelude.{not, ◌&&◌, slice_get}
use Rattle.std.proofs.lemmas.List.{append-nil}
use Rattle.vcm_lines.specs.declared.fault.FaultCode.{FaultCode}
use Rattle.vcm_lines.specs.declared.fault.FaultCode.TheVariants.{UnknownName, JumpInward}
use Rattle.vcm_lines.specs.declared.fault.SourceFault.{SourceFault}
use Rattle.vcm_lines.specs.Fault.{NoMemoryOr}
use Rattle.vcm_spec.specs.Phase.{IsClean, IsCleanBelow, FirstFault}
use Rattle.vcm_spec.specs.Program.{Label, Node, Block, done, then}
use Rattle.vcm_spec.proofs.PhaseLemmas.{clean_done, fault_at}
use Rattle.vcm_nodes.specs.Jumps.{Jump, node_jumps, jumps_in, is_among, BreaksJumps, jumps_line}
use Rattle.vcm_nodes.specs.inner.Judging.{AllReach, IsFirst}

pub all_append : (all : List Label) (js ks : List Jump) → AllReach all js → AllReach all ks → AllReach all (js ++ ks)
all_append all [] ks h k = k
all_append all (j ∷ js) ks h k = (h.0, h.1, all_append all js ks h.2 k)

pub first_front : (all : List Label) (js ks : List Jump) (f : SourceFault) → IsFirst all js f → IsFirst all (js ++ ks) f
first_front all js ks f i = record {
  before = i.before;
  at_fault = i.at_fault;
  after = i.after ++ ks;
  cut = ap (λ l. l ++ ks) i.cut ∙ append_assoc i.before (i.at_fault ∷ i.after) ks;
  reached = i.reached;
  broken = i.broken;
  told = i.told;
}

pub first_behind : (all : List Label) (js ks : List Jump) (f : SourceFault) → AllReach all js → IsFirst all ks f → IsFirst all (js ++ ks) f
first_behind all js ks f h i = record {
  before = js ++ i.before;
  at_fault = i.at_fault;
  after = i.after;
  cut = ap (λ l. js ++ l) i.cut ∙ sym (append_assoc js i.before (i.at_fault ∷ i.after));
  reached = all_append all js i.before h i.reached;
  broken = i.broken;
  told = i.told;
}

-- ---- a block, node by node

-- the nodes before the rest are judged
pub record IsJudged (all reach : List Label) (b rest : Block) : Type 0 where
  pub before : List Jump
  pub reached : AllReach all before
  pub cut : jumps_in b reach ≡ before ++ jumps_in rest reach

pub judged_more : (all reach : List Label) (b : Block) (n : Node) (rest : Block) → IsJudged all reach b (then n rest) → AllReach all (node_jumps n reach) → IsJudged all reach b rest
judged_more all reach b n rest i h = record {
  before = i.before ++ node_jumps n reach;
  reached = all_append all i.before (node_jumps n reach) i.reached h;
  cut = i.cut ∙ sym (append_assoc i.before (node_jumps n reach) (jumps_in rest reach));
}

pub judged_fault : (all reach : List Label) (b : Block) (n : Node) (rest : Block) (f : SourceFault) → IsJudged all reach b (then n rest)
    → NoMemoryOr (IsFirst all (node_jumps n reach)) f → NoMemoryOr (IsFirst all (jumps_in b reach)) f
judged_fault all reach b n rest f i (inl e) = inl e
judged_fault all reach b n rest f i (inr p) =
    inr (subst (λ js. IsFirst all js f) (sym i.cut)
    (first_behind all i.before (node_jumps n reach ++ jumps_in rest reach) f i.reached (first_front all (node_jumps n reach) (jumps_in rest reach) f p)))

pub judged_all : (all reach : List Label) (b : Block) → IsJudged all reach b done → AllReach all (jumps_in b reach)
judged_all all reach b i = subst (AllReach all) (sym (i.cut ∙ append-nil i.before)) i.reached

-- ---- two blocks

pub second_fault : (all : List Label) (js ks : List Jump) (f : SourceFault) → AllReach all js → NoMemoryOr (IsFirst all ks) f → NoMemoryOr (IsFirst all (js ++ ks)) f
second_fault all js ks f h (inl e) = inl e
second_fault all js ks f h (inr p) = inr (first_behind all js ks f h p)

-- ---- one jump

not_true : (b : Bool) → b ≡ true → not b ≡ true → ⊥
not_true true e f = absurd cc
not_true false e f = absurd cc

and_not : (b c : Bool) → c ≡ true → (b && not c) ≡ true → ⊥
and_not true true e f = absurd cc
and_not true false e f = absurd cc
and_not false c e f = absurd cc

-- a jump that reaches its label breaks no rule
pub unbroken : (all : List Label) (before : List Jump) (j : Jump) (code : FaultCode) → is_among all j.to ≡ true → is_among j.reach j.to ≡ true → BreaksJumps all before (Some j) code → ⊥
unbroken all before j UnknownName h k b = not_true (is_among all j.to) h b
unbroken all before j JumpInward h k b = and_not (is_among all j.to) (is_among j.reach j.to) k b
unbroken all before j _ h k b = b

inward : (b c : Bool) → b ≡ true → c ≡ false → (b && not c) ≡ true
inward true false e f = refl
inward true true e f = absurd cc
inward false c e f = absurd cc

unknown : (b : Bool) → b ≡ false → not b ≡ true
unknown false e = refl
unknown true e = absurd cc

pub is_unknown : (all : List Label) (j : Jump) → is_among all j.to ≡ false → BreaksJumps all [] (Some j) UnknownName
is_unknown all j e = unknown (is_among all j.to) e

pub is_inward : (all : List Label) (j : Jump) → is_among all j.to ≡ true → is_among j.reach j.to ≡ false → BreaksJumps all [] (Some j) JumpInward
is_inward all j e f = inward (is_among all j.to) (is_among j.reach j.to) e f

pub first_here : (all : List Label) (j : Jump) (f : SourceFault) → BreaksJumps all [] (Some j) f.code → f.line ≡ j.line → IsFirst all (j ∷ []) f
first_here all j f b t = record { before = []; at_fault = j; after = []; cut = refl; reached = tt; broken = b; told = t }

-- ---- the phase

-- the jumps so far don't matter
same_break : (all : List Label) (before other : List Jump) (j : Jump) (code : FaultCode) → BreaksJumps all before (Some j) code → BreaksJumps all other (Some j) code
same_break all before other j UnknownName b = b
same_break all before other j JumpInward b = b
same_break all before other j _ b = b

reach_front : (all : List Label) (js rest : List Jump) → AllReach all js → (k : ℕ) → k < length js → (before : List Jump) (code : FaultCode)
    → BreaksJumps all before (slice_get (js ++ rest) k) code → ⊥
reach_front all [] rest h k l before code b = absurd (omega (arith, l))
reach_front all (j ∷ js) rest h zero l before code b = unbroken all before j code h.0 h.1 b
reach_front all (j ∷ js) rest h (suc k) l before code b = reach_front all js rest h.2 k (omega (arith, l)) before code b

place : (before : List Jump) (j : Jump) (js : List Jump) → drop (length before) (before ++ j ∷ js) ≡ j ∷ js
place [] j js = refl
place (b ∷ before) j js = place before j js

clean_front : (all : List Label) (js rest : List Jump) → AllReach all js → IsCleanBelow (BreaksJumps all) (js ++ rest) (length js)
clean_front all js rest h = record { unbroken = λ k code l b. reach_front all js rest h k l (take k (js ++ rest)) code b }

-- the first fault of the phase
pub first_fault : (all : List Label) (js : List Jump) (f : SourceFault) → IsFirst all js f → FirstFault (BreaksJumps all) jumps_line js f.code f.line
first_fault all js f i =
    subst (λ l. FirstFault (BreaksJumps all) jumps_line l f.code f.line) (sym i.cut)
    (fault_at (BreaksJumps all) jumps_line (i.before ++ i.at_fault ∷ i.after) (length i.before) i.at_fault i.after f.code f.line (place i.before i.at_fault i.after)
    (clean_front all i.before (i.at_fault ∷ i.after) i.reached)
    (same_break all i.before (take (length i.before) (i.before ++ i.at_fault ∷ i.after)) i.at_fault f.code i.broken) i.told)

-- none is broken
pub all_clean : (all : List Label) (js : List Jump) → AllReach all js → IsClean (BreaksJumps all) js
all_clean all js h =
    clean_done (BreaksJumps all) js (length js) (omega arith) (subst (λ l. IsCleanBelow (BreaksJumps all) l (length js)) (append-nil js) (clean_front all js [] h)) (λ code b. b)

pub phase_fault : (all : List Label) (js : List Jump) (f : SourceFault) → NoMemoryOr (IsFirst all js) f → NoMemoryOr (λ g. FirstFault (BreaksJumps all) jumps_line js g.code g.line) f
phase_fault all js f (inl e) = inl e
phase_fault all js f (inr p) = inr (first_fault all js f p)

pub from_not : (b : Bool) → not b ≡ true → b ≡ false
from_not false e = refl
from_not true e = absurd cc
