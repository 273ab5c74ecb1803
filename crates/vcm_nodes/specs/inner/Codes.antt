-- Structured programs as stored data, by which two of them are told apart.
use Rattle.std.specs.Prelude.{◌≡◌, ℕ, ℤ, List, refl}
use Rattle.std.specs.Coded.{Coded, coded_ℕ, coded_ℤ, coded_list}
use base.Stored.{Gv, gnil, gnum, gcons}
use Rattle.vcm_spec.specs.Program.{Label, Node, Block, Cases, simple, label, jump, choice, choice_else, do_loop, meas, select, ending, done, then}
use Rattle.vcm_spec.specs.Program.{no_more, one_case, default}
use Rattle.vcm_spec.specs.inner.SimpleCodes.{simple_code, simple_inj}
use Rattle.vcm_expr.specs.inner.Codes.{tree_code, tree_inj, tree_coded}

-- the code of a text
abbrev pub bytes : Coded (List ℕ)
bytes = coded_list coded_ℕ

-- a label as stored data
abbrev pub label_code : Label → Gv
label_code l = gcons (bytes.code l.name) (gnum l.expansion)

-- a label of this name and expansion
abbrev label_of : List ℕ → ℕ → Label
label_of name expansion = record { name = name; expansion = expansion }

-- labels that are stored alike are equal
pub label_inj : (x y : Label) → label_code x ≡ label_code y → x ≡ y
label_inj x y e =
    let g : bytes.code x.name ≡ bytes.code y.name = cc in let h = bytes.inj x.name y.name g in
    let k : x.expansion ≡ y.expansion = cc in
    let same : label_of x.name x.expansion ≡ label_of y.name y.expansion = rw (h, k) refl in
    same

-- a node as stored data, a block, and the blocks of a SELECT
abbrev mutual
  pub node_code : Node → Gv
  node_code (simple x0 x1) = gcons (gcons gnil (gcons gnil (gcons gnil gnil))) (gcons (gnum x0) (gcons (simple_code tree_coded x1) gnil))
  node_code (label x0 x1) = gcons (gcons (gcons gnil gnil) (gcons gnil (gcons gnil gnil))) (gcons (gnum x0) (gcons (label_code x1) gnil))
  node_code (jump x0 x1) = gcons (gcons gnil (gcons (gcons gnil gnil) (gcons gnil gnil))) (gcons (gnum x0) (gcons (label_code x1) gnil))
  node_code (choice x0 x1 x2 x3) =
      gcons (gcons (gcons gnil gnil) (gcons (gcons gnil gnil) (gcons gnil gnil)))
      (gcons (gnum x0) (gcons (tree_code x1) (gcons (block_code x2) (gcons (gnum x3) gnil))))
  node_code (choice_else x0 x1 x2 x3 x4 x5) =
      gcons (gcons gnil (gcons gnil (gcons (gcons gnil gnil) gnil)))
      (gcons (gnum x0) (gcons (tree_code x1) (gcons (block_code x2) (gcons (gnum x3) (gcons (block_code x4) (gcons (gnum x5) gnil))))))
  node_code (do_loop x0 x1 x2 x3 x4 x5 x6) =
      gcons (gcons (gcons gnil gnil) (gcons gnil (gcons (gcons gnil gnil) gnil)))
      (gcons (gnum x0) (gcons (gnum x1) (gcons (tree_code x2)
      (gcons (tree_code x3) (gcons (tree_code x4) (gcons (block_code x5) (gcons (gnum x6) gnil)))))))
  node_code (meas x0 x1 x2 x3) =
      gcons (gcons gnil (gcons (gcons gnil gnil) (gcons (gcons gnil gnil) gnil)))
      (gcons (gnum x0) (gcons (gnum x1) (gcons (block_code x2) (gcons (gnum x3) gnil))))
  node_code (select x0 x1 x2 x3) = gcons gnil (gcons (gnum x0) (gcons (tree_code x1) (gcons (cases_code x2) (gcons (gnum x3) gnil))))
  node_code (ending x0) = gcons (gcons (gcons gnil gnil) (gcons (gcons gnil gnil) (gcons (gcons gnil gnil) gnil))) (gcons (gnum x0) gnil)

  pub block_code : Block → Gv
  block_code done = gnil
  block_code (then n b) = gcons (node_code n) (block_code b)

  pub cases_code : Cases → Gv
  cases_code no_more = gnil
  cases_code (one_case x0 x1 x2 x3 x4) =
      gcons (gcons gnil gnil) (gcons (gnum x0) (gcons (coded_ℤ.code x1) (gcons (block_code x2) (gcons (gnum x3) (gcons (cases_code x4) gnil)))))
  cases_code (default x0 x1 x2) = gcons gnil (gcons (gnum x0) (gcons (block_code x1) (gcons (gnum x2) gnil)))

-- those that are stored alike are equal
mutual
  pub node_inj : (x y : Node) → node_code x ≡ node_code y → x ≡ y
  node_inj (simple x0 x1) (simple y0 y1) e =
      let h0 : x0 ≡ y0 = cc in
      let g1 : (simple_code tree_coded x1) ≡ (simple_code tree_coded y1) = cc in let h1 = simple_inj tree_coded x1 y1 g1 in cc
  node_inj (label x0 x1) (label y0 y1) e =
      let h0 : x0 ≡ y0 = cc in
      let g1 : (label_code x1) ≡ (label_code y1) = cc in let h1 = label_inj x1 y1 g1 in cc
  node_inj (jump x0 x1) (jump y0 y1) e =
      let h0 : x0 ≡ y0 = cc in
      let g1 : (label_code x1) ≡ (label_code y1) = cc in let h1 = label_inj x1 y1 g1 in cc
  node_inj (choice x0 x1 x2 x3) (choice y0 y1 y2 y3) e =
      let h0 : x0 ≡ y0 = cc in
      let g1 : (tree_code x1) ≡ (tree_code y1) = cc in let h1 = tree_inj x1 y1 g1 in
      let g2 : (block_code x2) ≡ (block_code y2) = cc in let h2 = block_inj x2 y2 g2 in
      let h3 : x3 ≡ y3 = cc in cc
  node_inj (choice_else x0 x1 x2 x3 x4 x5) (choice_else y0 y1 y2 y3 y4 y5) e =
      let h0 : x0 ≡ y0 = cc in
      let g1 : (tree_code x1) ≡ (tree_code y1) = cc in let h1 = tree_inj x1 y1 g1 in
      let g2 : (block_code x2) ≡ (block_code y2) = cc in let h2 = block_inj x2 y2 g2 in
      let h3 : x3 ≡ y3 = cc in
      let g4 : (block_code x4) ≡ (block_code y4) = cc in let h4 = block_inj x4 y4 g4 in
      let h5 : x5 ≡ y5 = cc in cc
  node_inj (do_loop x0 x1 x2 x3 x4 x5 x6) (do_loop y0 y1 y2 y3 y4 y5 y6) e =
      let h0 : x0 ≡ y0 = cc in
      let h1 : x1 ≡ y1 = cc in
      let g2 : (tree_code x2) ≡ (tree_code y2) = cc in let h2 = tree_inj x2 y2 g2 in
      let g3 : (tree_code x3) ≡ (tree_code y3) = cc in let h3 = tree_inj x3 y3 g3 in
      let g4 : (tree_code x4) ≡ (tree_code y4) = cc in let h4 = tree_inj x4 y4 g4 in
      let g5 : (block_code x5) ≡ (block_code y5) = cc in let h5 = block_inj x5 y5 g5 in
      let h6 : x6 ≡ y6 = cc in cc
  node_inj (meas x0 x1 x2 x3) (meas y0 y1 y2 y3) e =
      let h0 : x0 ≡ y0 = cc in
      let h1 : x1 ≡ y1 = cc in
      let g2 : (block_code x2) ≡ (block_code y2) = cc in let h2 = block_inj x2 y2 g2 in
      let h3 : x3 ≡ y3 = cc in cc
  node_inj (select x0 x1 x2 x3) (select y0 y1 y2 y3) e =
      let h0 : x0 ≡ y0 = cc in
      let g1 : (tree_code x1) ≡ (tree_code y1) = cc in let h1 = tree_inj x1 y1 g1 in
      let g2 : (cases_code x2) ≡ (cases_code y2) = cc in let h2 = cases_inj x2 y2 g2 in
      let h3 : x3 ≡ y3 = cc in cc
  node_inj (ending x0) (ending y0) e =
      let h0 : x0 ≡ y0 = cc in cc
  node_inj _ _ e = cc

  pub block_inj : (x y : Block) → block_code x ≡ block_code y → x ≡ y
  block_inj done done e = refl
  block_inj (then n b) (then m c) e =
      let g : node_code n ≡ node_code m = cc in let h = node_inj n m g in
      let k : block_code b ≡ block_code c = cc in let l = block_inj b c k in cc
  block_inj _ _ e = cc

  pub cases_inj : (x y : Cases) → cases_code x ≡ cases_code y → x ≡ y
  cases_inj no_more no_more e = refl
  cases_inj (one_case x0 x1 x2 x3 x4) (one_case y0 y1 y2 y3 y4) e =
      let h0 : x0 ≡ y0 = cc in
      let g1 : (coded_ℤ.code x1) ≡ (coded_ℤ.code y1) = cc in let h1 = coded_ℤ.inj x1 y1 g1 in
      let g2 : (block_code x2) ≡ (block_code y2) = cc in let h2 = block_inj x2 y2 g2 in
      let h3 : x3 ≡ y3 = cc in
      let g4 : (cases_code x4) ≡ (cases_code y4) = cc in let h4 = cases_inj x4 y4 g4 in cc
  cases_inj (default x0 x1 x2) (default y0 y1 y2) e =
      let h0 : x0 ≡ y0 = cc in
      let g1 : (block_code x1) ≡ (block_code y1) = cc in let h1 = block_inj x1 y1 g1 in
      let h2 : x2 ≡ y2 = cc in cc
  cases_inj _ _ e = cc

-- so programs have a code
abbrev pub block_coded : Coded Block
block_coded = record { code = block_code; inj = block_inj }

abbrev pub cases_coded : Coded Cases
cases_coded = record { code = cases_code; inj = cases_inj }
