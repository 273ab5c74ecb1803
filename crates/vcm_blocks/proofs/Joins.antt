-- What the steps of the command come to.
use Rattle.std.proofs.Common.{◌≡◌, ap, refl, sym, ◌∙◌, ℕ, suc, List, [], ◌∷◌, ◌++◌, Option, Some, None, Result, Ok, Err, IfOk, slice_get}
use Rattle.vcm_spec.specs.declared.workpiece.Block3.{Block3}
use Rattle.vcm_spec.specs.declared.workpiece.Bounds.{Bounds}
use Rattle.vcm_spec.specs.Workpiece.{Workpiece}
use Rattle.vcm_part.specs.declared.fault.PartFault.{PartFault}
use Rattle.vcm_part.specs.PartFile.{part_of}
use Rattle.vcm_mesh.specs.declared.triangle.Triangle.{Triangle}
use Rattle.vcm_mesh.specs.declared.placing.Placing.{Placing}
use Rattle.vcm_mesh.specs.Meshes.{mesh_of}
use Rattle.vcm_covering.specs.Parting.{Corners}
use Rattle.vcm_covering.specs.Covering.{Covers}
use Rattle.vcm_cover.specs.Models.{corners}
use Rattle.vcm_blocks.specs.declared.fault.BlocksFault.{BlocksFault}
use Rattle.vcm_blocks.specs.declared.fault.BlocksFault.TheVariants.{NoMemory, Part, Model, Refused}
use Rattle.vcm_blocks.specs.Adding.{base_of, bounds_round, box_of, IsAdded, PartStands, Refuses}
use Rattle.vcm_blocks.specs.inner.Steps.{workpiece, Adds, PartReads, ModelReads, IsLate}

-- the index of an element behind others
abbrev behind : List Block3 → ℕ → ℕ
behind [] i = i
behind (u ∷ us) i = suc (behind us i)

get_behind : (us vs : List Block3) (i : ℕ) → slice_get (us ++ vs) (behind us i) ≡ slice_get vs i
get_behind [] vs i = refl
get_behind (u ∷ us) vs i = get_behind us vs i

-- blocks cover what some of them cover
pub more_cover : (us vs : List Block3) (ts : List Corners) → Covers vs ts → Covers (us ++ vs) ts
more_cover us vs ts h t k s x p =
    let c = h t k s x p in
    record { index = behind us c.index; block = c.block; stands = get_behind us vs c.index ∙ c.stands; inside = c.inside }

-- a workpiece that was read
abbrev pub given : Bounds → List Block3 → Result Workpiece PartFault
given b bs = Ok (workpiece b bs)

pub base_is : (bytes : List ℕ) (w : Workpiece) (b : Bounds) (bs : List Block3) → part_of bytes ≡ Ok w → b ≡ w.bounds → bs ≡ w.blocks → part_of bytes ≡ given b bs
base_is bytes w b bs h e f = h ∙ ap (λ (x : Bounds). given x w.blocks) (sym e) ∙ ap (λ (xs : List Block3). given b xs) (sym f)

pub alone_is : (b : Bounds) (around : Block3) (us ts : List Triangle) → b ≡ bounds_round around → around ≡ box_of us → us ≡ ts → base_of None ts ≡ given b []
alone_is b around us ts e f g =
    ap (λ (x : Bounds). given x []) (sym (e ∙ ap bounds_round f ∙ ap (λ (xs : List Triangle). bounds_round (box_of xs)) g))

pub mesh_is : (placing : Placing) (model : List ℕ) (us ts : List Triangle) → mesh_of placing model ≡ Ok us → ts ≡ us → mesh_of placing model ≡ Ok ts
mesh_is placing model us ts h e = rw e h

pub adds_from : {X E : Type 0} (text : X → List ℕ) (b : Bounds) (own : List Block3) (ts : List Triangle) (blocks held : List Block3) (r : Result X E) → blocks ≡ held → Covers held (corners ts)
    → IfOk r (λ w. part_of (text w) ≡ Ok (workpiece b (own ++ blocks))) → IfOk r (λ w. Adds b own ts (text w))
adds_from text b own ts blocks held (Ok w) e h k = record { blocks = blocks; reads = k; held = rw e h }
adds_from text b own ts blocks held (Err x) e h k = k

module _ (part : Option (List ℕ)) (placing : Placing) (model : List ℕ) where
  pub is_added : {X E : Type 0} (text : X → List ℕ) (b : Bounds) (own : List Block3) (ts : List Triangle) (r : Result X E) → mesh_of placing model ≡ Ok ts
      → base_of part ts ≡ Ok (workpiece b own) → IfOk r (λ w. Adds b own ts (text w)) → IfOk r (λ w. IsAdded part placing model (text w))
  is_added text b own ts (Ok w) m p h = record {
    triangles = ts;
    base = workpiece b own;
    blocks = h.blocks;
    model_is = m;
    base_is = p;
    reads = h.reads;
    held = h.held;
    covered = more_cover own h.blocks (corners ts) h.held;
  }
  is_added text b own ts (Err e) m p h = h

  pub model_refuses : {X : Type 0} (view : X → List Triangle) (f : BlocksFault) → PartStands part → ModelReads view placing model (Err f) → Refuses part placing model f
  model_refuses view NoMemory s h = tt
  model_refuses view (Part x) s h = absurd h
  model_refuses view (Model r) s h = (s, h)
  model_refuses view (Refused r) s h = absurd h

  pub late_refuses : (ts : List Triangle) (f : BlocksFault) → PartStands part → mesh_of placing model ≡ Ok ts → IsLate f → Refuses part placing model f
  late_refuses ts NoMemory s m h = tt
  late_refuses ts (Part x) s m h = absurd h
  late_refuses ts (Model r) s m h = absurd h
  late_refuses ts (Refused r) s m h = (s, (ts, m))

pub part_refuses : (bytes : List ℕ) (placing : Placing) (model : List ℕ) (f : BlocksFault) → PartReads bytes (Err f) → Refuses (Some bytes) placing model f
part_refuses bytes placing model NoMemory h = tt
part_refuses bytes placing model (Part x) h = h
part_refuses bytes placing model (Model r) h = absurd h
part_refuses bytes placing model (Refused r) h = absurd h
