-- A code that is in range and has its widths fits table by table, and the other way round.
use Rattle.std.proofs.Common.{◌≡◌, ◌<◌, ◌^◌, Bool, true, false, IsTrue, List, [], ◌∷◌, refl}
use Rattle.std.specs.Prelude.{not, ◌||◌}
use Rattle.std.specs.List.{AllByRecursion}
use Rattle.vcm_spec.specs.Setup.{Variable as Entry}
use Rattle.vcm_items.specs.Names.{AreNamed}
use Rattle.vcm_code.specs.declared.code.Code.{Code}
use Rattle.vcm_code.specs.declared.version.Version.{Version}
use Rattle.vcm_code.specs.declared.version.Version.TheVariants.{One, Two}
use Rattle.vcm_code.specs.Code.{CodeStatement}
use Rattle.vcm_code.specs.Words.{word_of, is_of_select, has_word}
use Rattle.vcm_code.specs.Ranges.{IsRanged, AllInRange, has_selection, IsOfVersion}
use Rattle.vcm_code.proofs.Shapes.{both_in, first_in, second_in}
use Rattle.vcm_fields.specs.Widths.{HasWidth, LineHasWidths}
use Rattle.vcm_fields.specs.inner.Fitting.{FitsLine, FitsEntry}
use Rattle.vcm_image.specs.inner.Fitted.{TablesFit}
use Rattle.vcm_image.specs.Whole.{FitsImage}

-- ---- versions

neither : (a b : Bool) → not a ≡ true → b ≡ false → (a || b) ≡ false
neither true b e f = absurd cc
neither false b e f = f

lines_version : (v : Version) (ss : List CodeStatement) → AllByRecursion (FitsLine v) ss → IsOfVersion v ss
lines_version Two ss h = tt
lines_version One [] h = refl
lines_version One (s ∷ ss) h = neither (is_of_select (word_of s.op)) (has_selection ss) h.0.0 (lines_version One ss h.1)

apart : (a b : Bool) → (a || b) ≡ false → (not a ≡ true) × (b ≡ false)
apart true b e = absurd cc
apart false b e = (refl, e)

-- a version that has these statements has the first word of them, and the others
of_version_next : (v : Version) (s : CodeStatement) (ss : List CodeStatement) → IsOfVersion v (s ∷ ss) → IsTrue (has_word v (word_of s.op)) × IsOfVersion v ss
of_version_next Two s ss h = (refl, tt)
of_version_next One s ss h = apart (is_of_select (word_of s.op)) (has_selection ss) h

-- ---- statements

lines_range : (v : Version) (ss : List CodeStatement) → AllByRecursion (FitsLine v) ss → AllInRange ss
lines_range v [] h = tt
lines_range v (s ∷ ss) h = (first_in IsRanged HasWidth s.op h.0.1.1, lines_range v ss h.1)

lines_wide : (v : Version) (ss : List CodeStatement) → AllByRecursion (FitsLine v) ss → AllByRecursion LineHasWidths ss
lines_wide v [] h = tt
lines_wide v (s ∷ ss) h = ((h.0.1.0, second_in IsRanged HasWidth s.op h.0.1.1), lines_wide v ss h.1)

lines_fit : (v : Version) (ss : List CodeStatement) → IsOfVersion v ss → AllInRange ss → AllByRecursion LineHasWidths ss → AllByRecursion (FitsLine v) ss
lines_fit v [] h r w = tt
lines_fit v (s ∷ ss) h r w =
    (let p = of_version_next v s ss h in ((p.0, (w.0.0, both_in IsRanged HasWidth s.op r.0 w.0.1)), lines_fit v ss p.1 r.1 w.1))

-- ---- variables

named : (vs : List Entry) → AllByRecursion FitsEntry vs → AreNamed vs
named [] h = tt
named (v ∷ vs) h = (h.0.1, named vs h.1)

wide : (vs : List Entry) → AllByRecursion FitsEntry vs → AllByRecursion (λ v. v.expansion < 2 ^ 32) vs
wide [] h = tt
wide (v ∷ vs) h = (h.0.0, wide vs h.1)

entries_fit : (vs : List Entry) → AreNamed vs → AllByRecursion (λ v. v.expansion < 2 ^ 32) vs → AllByRecursion FitsEntry vs
entries_fit [] n w = tt
entries_fit (v ∷ vs) n w = ((w.0, n.0), entries_fit vs n.1 w.1)

-- ---- codes

pub tables_fit : (c : Code) → FitsImage c → TablesFit c
tables_fit c h = record {
  variables = (h.range.variables.0, entries_fit c.tables.variables h.range.variables.1 h.widths.variables);
  features = h.range.features;
  frames = h.range.frames;
  statements = (h.range.statements.0, lines_fit c.version c.statements h.range.version h.range.statements.1 h.widths.statements);
}

pub fits_by_tables : (c : Code) → TablesFit c → FitsImage c
fits_by_tables c h = record {
  range = record {
    variables = (h.variables.0, named c.tables.variables h.variables.1);
    features = h.features;
    frames = h.frames;
    statements = (h.statements.0, lines_range c.version c.statements h.statements.1);
    version = lines_version c.version c.statements h.statements.1;
  };
  widths = record { variables = wide c.tables.variables h.variables.1; statements = lines_wide c.version c.statements h.statements.1 };
}
