-- Rows one after the other, as a loop reads them.
use Rattle.std.proofs.Common.{◌≡◌, ℕ, suc, ◌+◌, ◌<◌, ◌≤◌, true, List, [], ◌∷◌, ◌++◌, length, get_or, drop, Result, Ok, Err, refl, sym, ap, ◌∙◌, append_assoc}
use Rattle.std.proofs.lemmas.List.{append-nil, drop_all}
use Rattle.std.proofs.lemmas.List.Folds.{list_all-append}
use Rattle.toml.specs.Data.{item}
use Rattle.toml.specs.View.{view, items_view}
use Rattle.toml.specs.declared.value.Value.{Value}
use Rattle.toml.proofs.Views.{items_view-drop}
use Rattle.vcm_spec.specs.declared.workpiece.Block3.{Block3}
use Rattle.vcm_part.specs.declared.fault.PartFault.{PartFault}
use Rattle.vcm_part.specs.declared.fault.NotRead.{NotRead}
use Rattle.vcm_part.specs.declared.fault.NotRead.TheVariants as not_read
use Rattle.std.specs.List.{list_all}
use Rattle.vcm_spec.specs.Workpiece.{is_block}
use Rattle.vcm_spec.specs.Results.{◌>>=◌}
use Rattle.vcm_part.specs.PartFile.{block_of, blocks_from, count}
use Rattle.vcm_part.specs.inner.NotRead.{Fails}

abbrev pub with_front : List Block3 → Result (List Block3) PartFault → Result (List Block3) PartFault
with_front front read = read >>= λ x. Ok (front ++ x)

regroup : (front : List Block3) (b : Block3) (read : Result (List Block3) PartFault) → with_front front (read >>= λ x. Ok (b ∷ x)) ≡ with_front (front ++ b ∷ []) read
regroup front b (Ok x) = ap Ok (simp append_assoc)
regroup front b (Err f) = refl

pub goes_on : (front : List Block3) (vs : List Value) (i : ℕ) (v : Value) (b : Block3) (total : Result (List Block3) PartFault) → i < length vs → get_or vs i v ≡ v → block_of (i + 1) (view v) ≡ Ok b
    → with_front front (blocks_from (i + 1) (items_view (drop i vs))) ≡ total → with_front (front ++ b ∷ []) (blocks_from (i + 1 + 1) (items_view (drop (i + 1) vs))) ≡ total
unfolding blocks_from
goes_on front vs i v b total lt at h so_far =
    let e : items_view (drop i vs) ≡ item (view v) (items_view (drop (i + 1) vs)) = rw (items_view-drop vs i v lt, at) refl in
    let one : with_front front (blocks_from (i + 1) (items_view (drop i vs))) ≡ with_front (front ++ b ∷ [])
    (blocks_from (i + 1 + 1) (items_view (drop (i + 1) vs))) = rw (e, h) (regroup front b (blocks_from (i + 1 + 1) (items_view (drop (i + 1) vs)))) in
    sym one ∙ so_far

pub ends : (e : NotRead) (front : List Block3) (vs : List Value) (i : ℕ) (v : Value) (total : Result (List Block3) PartFault) → i < length vs → get_or vs i v ≡ v → Fails e (block_of (i + 1) (view v))
    → with_front front (blocks_from (i + 1) (items_view (drop i vs))) ≡ total → Fails e total
unfolding blocks_from
ends not_read.Memory front vs i v total lt at h so_far = tt
ends (not_read.Fault f) front vs i v total lt at h so_far =
    let e : items_view (drop i vs) ≡ item (view v) (items_view (drop (i + 1) vs)) = rw (items_view-drop vs i v lt, at) refl in
    let one : with_front front (blocks_from (i + 1) (items_view (drop i vs))) ≡ Err f = rw (e, h) refl in
    sym so_far ∙ one

pub is_done : (front : List Block3) (vs : List Value) (i : ℕ) (total : Result (List Block3) PartFault) → length vs ≤ i
    → with_front front (blocks_from (i + 1) (items_view (drop i vs))) ≡ total → total ≡ Ok front
unfolding blocks_from
is_done front vs i total le so_far =
    let one : with_front front (blocks_from (i + 1) (items_view (drop i vs))) ≡ Ok front = rw (drop_all i vs le) (ap Ok (append-nil front)) in
    sym so_far ∙ one

pub count_rows : (vs : List Value) → count (items_view vs) ≡ length vs
count_rows [] = refl
count_rows (v ∷ vs) = ap suc (count_rows vs)

-- one more that is a block
pub all_push : (bs : List Block3) (b : Block3) → list_all is_block bs ≡ true → is_block b ≡ true → list_all is_block (bs ++ b ∷ []) ≡ true
all_push bs b h k = rw (list_all-append, h) (rw k refl)
