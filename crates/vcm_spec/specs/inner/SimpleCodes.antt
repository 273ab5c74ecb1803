-- Simple statements as stored data, by which two of them are told apart. E is the form of expressions.
use Rattle.std.proofs.Common.{◌≡◌, ℕ, zero, suc, List, [], ◌∷◌, Option, Some, None, refl}
use Rattle.std.specs.Coded.{Coded}
use base.Stored.{Gv, gnil, gnum, gcons}
use Rattle.vcm_num.specs.contracts.axis.Axis as axis
use Rattle.vcm_num.specs.declared.axis.Axis.{Axis}
use Rattle.vcm_spec.specs.contracts.words.FeatureWord as feature_word
use Rattle.vcm_spec.specs.contracts.words.FrameAxis as frame_axis
use Rattle.vcm_spec.specs.contracts.words.Quarters as quarters
use Rattle.vcm_spec.specs.contracts.words.Setting as setting
use Rattle.vcm_spec.specs.contracts.words.Source as source
use Rattle.vcm_spec.specs.Simple.{Simple}
use Rattle.vcm_spec.specs.declared.simple.Simple.TheVariants.{Goto, GoHome, Assign, Feat, PtMeas, SnSet, Trans, Rotate, Recall, Obtain, Output, Text}

-- bytes
abbrev pub bytes_code : List ℕ → Gv
bytes_code [] = gnil
bytes_code (x ∷ xs) = gcons (gnum x) (bytes_code xs)

pub bytes_inj : (x y : List ℕ) → bytes_code x ≡ bytes_code y → x ≡ y
bytes_inj [] [] e = refl
bytes_inj (x ∷ xs) (y ∷ ys) e = let h : bytes_code xs ≡ bytes_code ys = cc in let k = bytes_inj xs ys h in cc
bytes_inj _ _ e = cc

-- a direction, if there is one
abbrev pub given_code : Option Axis → Gv
given_code None = gnil
given_code (Some d) = gcons gnil (axis.the_row.coded.code d)

pub given_inj : (x y : Option Axis) → given_code x ≡ given_code y → x ≡ y
given_inj None None e = refl
given_inj (Some x) (Some y) e =
    let h : axis.the_row.coded.code x ≡ axis.the_row.coded.code y = cc in let k = axis.the_row.coded.inj x y h in cc
given_inj _ _ e = cc

-- a tag in front of fields
abbrev pub tag : ℕ → Gv
tag zero = gnil
tag (suc n) = gcons gnil (tag n)

module _ {E : Type 0} (c : Coded E) where
  abbrev pub three : E → E → E → Gv
  three x y z = gcons (c.code x) (gcons (c.code y) (c.code z))

  abbrev pub simple_code : Simple E → Gv
  simple_code (Goto x y z) = gcons (tag 0) (three x y z)
  simple_code GoHome = gcons (tag 1) gnil
  simple_code (Assign v e) = gcons (tag 2) (gcons (gnum v) (c.code e))
  simple_code (Feat i x y z d) = gcons (tag 3) (gcons (gnum i) (gcons (three x y z) (axis.the_row.coded.code d)))
  simple_code (PtMeas i x y z d) = gcons (tag 4) (gcons (gnum i) (gcons (three x y z) (given_code d)))
  simple_code (SnSet which e) = gcons (tag 5) (gcons (setting.the_row.coded.code which) (c.code e))
  simple_code (Trans i x y z) = gcons (tag 6) (gcons (gnum i) (three x y z))
  simple_code (Rotate i a n) = gcons (tag 7) (gcons (gnum i) (gcons (frame_axis.the_row.coded.code a) (quarters.the_row.coded.code n)))
  simple_code (Recall i) = gcons (tag 8) (gnum i)
  simple_code (Obtain v s i w) = gcons (tag 9) (gcons (gnum v) (gcons (source.the_row.coded.code s) (gcons (gnum i) (feature_word.the_row.coded.code w))))
  simple_code (Output s i) = gcons (tag 10) (gcons (source.the_row.coded.code s) (gnum i))
  simple_code (Text bytes) = gcons (tag 11) (bytes_code bytes)

  pub simple_inj : (x y : Simple E) → simple_code x ≡ simple_code y → x ≡ y
  simple_inj (Goto x y z) (Goto k l m) e =
      let h1 : c.code x ≡ c.code k = cc in let h2 : c.code y ≡ c.code l = cc in let h3 : c.code z ≡ c.code m = cc in
      let k1 = c.inj x k h1 in let k2 = c.inj y l h2 in let k3 = c.inj z m h3 in cc
  simple_inj GoHome GoHome e = refl
  simple_inj (Assign v x) (Assign w y) e = let h : c.code x ≡ c.code y = cc in let k = c.inj x y h in cc
  simple_inj (Feat i x y z d) (Feat j k l m f) e =
      let h1 : c.code x ≡ c.code k = cc in let h2 : c.code y ≡ c.code l = cc in let h3 : c.code z ≡ c.code m = cc in
      let k1 = c.inj x k h1 in let k2 = c.inj y l h2 in let k3 = c.inj z m h3 in
      let h4 : axis.the_row.coded.code d ≡ axis.the_row.coded.code f = cc in let k4 = axis.the_row.coded.inj d f h4 in cc
  simple_inj (PtMeas i x y z d) (PtMeas j k l m f) e =
      let h1 : c.code x ≡ c.code k = cc in let h2 : c.code y ≡ c.code l = cc in let h3 : c.code z ≡ c.code m = cc in
      let k1 = c.inj x k h1 in let k2 = c.inj y l h2 in let k3 = c.inj z m h3 in
      let h4 : given_code d ≡ given_code f = cc in let k4 = given_inj d f h4 in cc
  simple_inj (SnSet s x) (SnSet t y) e =
      let h : c.code x ≡ c.code y = cc in let k = c.inj x y h in
      let h4 : setting.the_row.coded.code s ≡ setting.the_row.coded.code t = cc in let k4 = setting.the_row.coded.inj s t h4 in cc
  simple_inj (Trans i x y z) (Trans j k l m) e =
      let h1 : c.code x ≡ c.code k = cc in let h2 : c.code y ≡ c.code l = cc in let h3 : c.code z ≡ c.code m = cc in
      let k1 = c.inj x k h1 in let k2 = c.inj y l h2 in let k3 = c.inj z m h3 in cc
  simple_inj (Rotate i a n) (Rotate j b m) e =
      let h1 : frame_axis.the_row.coded.code a ≡ frame_axis.the_row.coded.code b = cc in let k1 = frame_axis.the_row.coded.inj a b h1 in
      let h2 : quarters.the_row.coded.code n ≡ quarters.the_row.coded.code m = cc in let k2 = quarters.the_row.coded.inj n m h2 in cc
  simple_inj (Recall i) (Recall j) e = cc
  simple_inj (Obtain v s i w) (Obtain v' s' i' w') e =
      let h4 : source.the_row.coded.code s ≡ source.the_row.coded.code s' = cc in let k4 = source.the_row.coded.inj s s' h4 in
      let h5 : feature_word.the_row.coded.code w ≡ feature_word.the_row.coded.code w' = cc in let k5 = feature_word.the_row.coded.inj w w' h5 in cc
  simple_inj (Output s i) (Output s' i') e =
      let h4 : source.the_row.coded.code s ≡ source.the_row.coded.code s' = cc in let k4 = source.the_row.coded.inj s s' h4 in cc
  simple_inj (Text x) (Text y) e = let h : bytes_code x ≡ bytes_code y = cc in let k = bytes_inj x y h in cc
  simple_inj _ _ e = cc
