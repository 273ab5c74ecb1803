-- Fields that are read one by one.
use Rattle.std.proofs.Common.{Bor, ◌≡◌, ℕ, suc, ◌<◌, ◌≤◌, Bool, true, false, cond, eqb, List, [], ◌∷◌, ◌++◌, length, map, take, drop, refl, sym, ap, ◌∙◌, append_assoc, arith}
use Rattle.std.specs.Prelude.{◌&&◌, not}
use Rattle.std.specs.List.{onto_first}
use Rattle.std.proofs.lemmas.Bool.{and_parts, eqb-true}
use Rattle.std.proofs.lemmas.List.{map-append}
use Rattle.vcm_sentences.specs.Parted.{Place, outside, passed, ends_field, fields_from, fields_in}
use Rattle.vcm_sentences.specs.inner.Parting.{field_len}
use Rattle.vcm_sentences.specs.Laws.{with_commas}

not_quoted : (q : Bool) → not q ≡ true → q ≡ false
not_quoted true e = absurd cc
not_quoted false e = refl

-- the byte that ends a field stands outside of all, and so does what stands behind it
behind_outside : (p : Place) (b : ℕ) → ends_field p b ≡ true → passed p b ≡ outside
behind_outside p b e =
    let c = and_parts (eqb b 44 && not p.is_quoted) (eqb p.depth 0) e in
    let q = and_parts (eqb b 44) (not p.is_quoted) c.0 in
    rw (eqb-true b 44 q.0) (by_place p.is_quoted p.depth refl refl (not_quoted p.is_quoted q.1) (eqb-true p.depth 0 c.1))
  where
    by_place : (quoted : Bool) (depth : ℕ) → p.is_quoted ≡ quoted → p.depth ≡ depth → quoted ≡ false → depth ≡ 0 → passed p 44 ≡ outside
    by_place quoted depth f g out none = rw (f, out) (ap (λ (d : ℕ). record { is_quoted = false; depth = d }) (g ∙ none))

cut_by : (t : Bool) (p : Place) (b : ℕ) (bs : List ℕ) → ends_field p b ≡ t
    → (field_len (passed p b) bs < length bs → fields_from (passed p b) bs ≡ take (field_len (passed p b) bs) bs ∷ fields_in (drop (suc (field_len (passed p b) bs)) bs))
    → field_len p (b ∷ bs) < length (b ∷ bs) → fields_from p (b ∷ bs) ≡ take (field_len p (b ∷ bs)) (b ∷ bs) ∷ fields_in (drop (suc (field_len p (b ∷ bs))) (b ∷ bs))
cut_by true p b bs e more less = rw e (ap (λ (q : Place). [] ∷ fields_from q bs) (behind_outside p b e))
cut_by false p b bs e more less = rw e (ap (onto_first b) (more (let k : suc (field_len (passed p b) bs) < suc (length bs) = rw e at less in omega (arith, k))))

-- the first field, where a comma ends it
fields_cut : (p : Place) (bs : List ℕ) → field_len p bs < length bs → fields_from p bs ≡ take (field_len p bs) bs ∷ fields_in (drop (suc (field_len p bs)) bs)
fields_cut p [] less = absurd (omega arith)
fields_cut p (b ∷ bs) less = cut_by (ends_field p b) p b bs refl (fields_cut (passed p b) bs) less

last_by : (t : Bool) (p : Place) (b : ℕ) (bs : List ℕ) → ends_field p b ≡ t → (length bs ≤ field_len (passed p b) bs → fields_from (passed p b) bs ≡ bs ∷ [])
    → length (b ∷ bs) ≤ field_len p (b ∷ bs) → fields_from p (b ∷ bs) ≡ (b ∷ bs) ∷ []
last_by true p b bs e more all = let k : suc (length bs) ≤ 0 = rw e at all in absurd (omega (arith, k))
last_by false p b bs e more all = rw e (ap (onto_first b) (more (let k : suc (length bs) ≤ suc (field_len (passed p b) bs) = rw e at all in omega (arith, k))))

-- the last field
fields_last : (p : Place) (bs : List ℕ) → length bs ≤ field_len p bs → fields_from p bs ≡ bs ∷ []
fields_last p [] all = refl
fields_last p (b ∷ bs) all = last_by (ends_field p b) p b bs refl (fields_last (passed p b) bs) all

-- What is known once the fields in front of what is left are read.
pub record AreFields (rest : List ℕ) (done : List (List ℕ)) (left : List ℕ) (end : ℕ) : Type 0 where
  pub first : end ≡ field_len outside left
  pub fields : done ++ fields_in left ≡ fields_in rest

pub field_more : (rest : List ℕ) (done more : List (List ℕ)) (left after : List ℕ) (end next : ℕ) → end < length left → after ≡ drop (suc end) left
    → more ≡ done ++ take end left ∷ [] → next ≡ field_len outside after → AreFields rest done left end → AreFields rest more after next
field_more rest done more left after end next less is added len s =
    let cut = fields_cut outside left (rw (← s.first) less) in
    record {
      first = len;
      fields = ap (λ (fs : List (List ℕ)). fs ++ fields_in after) added ∙ append_assoc done (take end left ∷ []) (fields_in after)
          ∙ ap (λ (t : List ℕ). done ++ take end left ∷ fields_in t) is ∙ ap (λ (n : ℕ). done ++ take n left ∷ fields_in (drop (suc n) left)) s.first
          ∙ ap (λ (fs : List (List ℕ)). done ++ fs) (sym cut) ∙ s.fields;
    }

pub fields_done : (rest : List ℕ) (done more : List (List ℕ)) (left : List ℕ) (end : ℕ) → length left ≤ end → more ≡ done ++ left ∷ [] → AreFields rest done left end
    → more ≡ fields_in rest
fields_done rest done more left end all added s = added ∙ ap (λ (fs : List (List ℕ)). done ++ fs) (sym (fields_last outside left (rw (← s.first) all))) ∙ s.fields

-- one more field is kept
pub pushed : (old new : List (Bor (List ℕ))) (field : Bor (List ℕ)) (text : List ℕ) → new ≡ old ++ field ∷ [] → field.now ≡ text
    → map (λ f. f.now) new ≡ map (λ f. f.now) old ++ text ∷ []
pushed old new field text e is = ap (map (λ f. f.now)) e ∙ map-append (λ f. f.now) old (field ∷ []) ∙ ap (λ (t : List ℕ). map (λ f. f.now) old ++ t ∷ []) is

-- ---- fields with their commas

ends_comma : (p : Place) (b : ℕ) → ends_field p b ≡ true → b ≡ 44
ends_comma p b e =
    let c = and_parts (eqb b 44 && not p.is_quoted) (eqb p.depth 0) e in
    let q = and_parts (eqb b 44) (not p.is_quoted) c.0 in
    eqb-true b 44 q.0

fields_some : (p : Place) (bs : List ℕ) → (f : List ℕ) × (fs : List (List ℕ)) × (fields_from p bs ≡ f ∷ fs)
fields_some p [] = ([], [], refl)
fields_some p (b ∷ bs) = some_by (ends_field p b) (fields_from (passed p b) bs)
  where
    some_by : (t : Bool) (fs : List (List ℕ)) → (f : List ℕ) × (gs : List (List ℕ)) × (cond t ([] ∷ fs) (onto_first b fs) ≡ f ∷ gs)
    some_by true fs = ([], fs, refl)
    some_by false [] = (b ∷ [], [], refl)
    some_by false (f ∷ fs) = (b ∷ f, fs, refl)

comma_before : (fs : List (List ℕ)) (f : List ℕ) (gs : List (List ℕ)) → fs ≡ f ∷ gs → with_commas ([] ∷ fs) ≡ 44 ∷ with_commas fs
comma_before fs f gs e = rw e refl

byte_before : (b : ℕ) (fs : List (List ℕ)) (f : List ℕ) (gs : List (List ℕ)) → fs ≡ f ∷ gs → with_commas (onto_first b fs) ≡ b ∷ with_commas fs
byte_before b fs f [] e = rw e refl
byte_before b fs f (g ∷ gs) e = rw e refl

ends_here : (p : Place) (b : ℕ) (bs : List ℕ) → ends_field p b ≡ true → fields_from p (b ∷ bs) ≡ [] ∷ fields_from (passed p b) bs
ends_here p b bs e = rw e refl

goes_here : (p : Place) (b : ℕ) (bs : List ℕ) → ends_field p b ≡ false → fields_from p (b ∷ bs) ≡ onto_first b (fields_from (passed p b) bs)
goes_here p b bs e = rw e refl

whole_by : (t : Bool) (p : Place) (b : ℕ) (bs : List ℕ) → ends_field p b ≡ t → with_commas (fields_from (passed p b) bs) ≡ bs → with_commas (fields_from p (b ∷ bs)) ≡ b ∷ bs
whole_by true p b bs e h = let s = fields_some (passed p b) bs in
    ap with_commas (ends_here p b bs e) ∙ comma_before (fields_from (passed p b) bs) s.0 s.1 s.2 ∙ ap (λ (t : List ℕ). 44 ∷ t) h ∙ ap (λ (c : ℕ). c ∷ bs) (sym (ends_comma p b e))
whole_by false p b bs e h = let s = fields_some (passed p b) bs in
    ap with_commas (goes_here p b bs e) ∙ byte_before b (fields_from (passed p b) bs) s.0 s.1 s.2 ∙ ap (λ (t : List ℕ). b ∷ t) h

fields_whole_from : (p : Place) (bs : List ℕ) → with_commas (fields_from p bs) ≡ bs
fields_whole_from p [] = refl
fields_whole_from p (b ∷ bs) = whole_by (ends_field p b) p b bs refl (fields_whole_from (passed p b) bs)

pub fields_whole : (rest : List ℕ) → with_commas (fields_in rest) ≡ rest
fields_whole rest = fields_whole_from outside rest
