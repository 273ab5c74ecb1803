-- An image is read as it is spelled.
use Rattle.std.proofs.Common.{◌≡◌, ℕ, ◌^◌, ◌<◌, ◌≤◌, ◌==◌, Bool, true, false, List, [], ◌++◌, length, Result, Ok, Err, refl, sym, ap, subst, ◌∙◌, arith}
use Rattle.std.proofs.lemmas.Bool.{eqb-true}
use Rattle.std.proofs.lemmas.List.{append-nil, nil_from_length}
use Rattle.std.specs.Prelude.{IfOk, ◌||◌, if◌then◌else◌}
use Rattle.std.specs.List.{flat_map, AllByRecursion}
use Rattle.std.specs.Int.{Width, w16, w32, to_le_bytes}
use Rattle.vcm_items.specs.NameBytes.{IsName}
use Rattle.vcm_code.specs.declared.version.Version.{Version}
use Rattle.vcm_code.specs.declared.version.Version.TheVariants.{One, Two}
use Rattle.vcm_code.specs.declared.code.Code.{Code}
use Rattle.vcm_fields.specs.declared.fault.ImageFault.{ImageFault}
use Rattle.vcm_fields.specs.declared.fault.ImageFault.TheVariants.{BadMagic, BadVersion, BadField, Trailing}
use Rattle.vcm_fields.specs.inner.Fitting.{FitsEntry, FitsLine}
use Rattle.vcm_fields.specs.Spelling.{short, long, entry, name, line}
use Rattle.vcm_fields.specs.Readers.{GivesOrNoMemory, tested, after, number_at}
use Rattle.vcm_fields.proofs.Inverse.{IsBytes, Reads, bind_ok, guard_met, reads_as, reads_both, reads_via, reads_tested, reads_after, reads_times}
use Rattle.vcm_fields.proofs.NumberInverse.{reads_short, reads_long}
use Rattle.vcm_fields.proofs.TextParts.{reads_name, most, most_back}
use Rattle.vcm_fields.proofs.StatementParts.{reads_line}
use Rattle.vcm_fields.proofs.Parts.{reads_entry}
use Rattle.vcm_image.specs.declared.counts.Counts.{Counts}
use Rattle.vcm_image.proofs.ByTables.{tables_fit, fits_by_tables}
use Rattle.vcm_image.specs.Whole.{FitsImage, counts_of, version_number, magic, is_version, version_of, version_at, header, spelling, is_number, at_most, header_at, body_at, ended, code_at}

is_that : (m n : ℕ) → is_number m n ≡ true → n ≡ m
is_that m n e = eqb-true n m e

is_itself : (m : ℕ) → is_number m m ≡ true
is_itself m = grind arith

reads_that : (w : Width) (limit : ℕ) → Reads (number_at w) (to_le_bytes w) (λ n. n < limit) → (fault : ImageFault) (m : ℕ) → m < limit
    → Reads (tested fault (is_number m) (number_at w)) (to_le_bytes w) (λ n. n ≡ m)
reads_that w limit r fault m lt = reads_tested r fault (is_number m) (λ n. n ≡ m) (λ n h e. is_that m n e)
    (λ n h. (subst (λ (k : ℕ). k < limit) (sym h) lt, subst (λ (k : ℕ). is_number m k ≡ true) (sym h) (is_itself m)))

reads_most : (w : Width) (limit : ℕ) → Reads (number_at w) (to_le_bytes w) (λ n. n < limit) → (m : ℕ) → m < limit → Reads (tested BadField (at_most m) (number_at w)) (to_le_bytes w) (λ n. n ≤ m)
reads_most w limit r m lt = reads_tested r BadField (at_most m) (λ n. n ≤ m) (λ n h e. most m n e) (λ n h. (omega (arith, h, lt), most_back m n h))

-- ---- the version

number_back : (n : ℕ) → is_version n ≡ true → version_number (version_of n) ≡ n
number_back n e = by (n == 1) refl (n == 2) refl e
  where
    by : (a : Bool) → (n == 1) ≡ a → (b : Bool) → (n == 2) ≡ b → (a || b) ≡ true → version_number (if a then One else Two) ≡ n
    by true f b g h = sym (eqb-true n 1 f)
    by false f true g h = sym (eqb-true n 2 g)
    by false f false g h = absurd cc

version_small : (n : ℕ) → is_version n ≡ true → n < 2 ^ 16
version_small n e = by (n == 1) refl (n == 2) refl e
  where
    by : (a : Bool) → (n == 1) ≡ a → (b : Bool) → (n == 2) ≡ b → (a || b) ≡ true → n < 2 ^ 16
    by true f b g h = (let k = eqb-true n 1 f in omega arith)
    by false f true g h = (let k = eqb-true n 2 g in omega arith)
    by false f false g h = absurd cc

version_back : (v : Version) → (version_of (version_number v) ≡ v) × (is_version (version_number v) ≡ true)
version_back One = (refl, refl)
version_back Two = (refl, refl)

any_version : Version → Type 0
any_version v = Unit {0}

reads_version : Reads version_at (λ v. short (version_number v)) any_version
unfolding any_version
reads_version = reads_via (reads_tested reads_short BadVersion is_version (λ n. is_version n ≡ true) (λ n h e. e) (λ n h. (version_small n h, h)))
    version_of version_number (λ v. short (version_number v)) any_version
    (λ n h. ap short (number_back n h)) (λ n h. tt) (λ v h. (let b = version_back v in (b.0, refl, b.1)))

unfoldable pub FitsCounts : Counts → Type 0
FitsCounts n = (n.variables ≤ 4096) × ((n.features ≤ 4096) × ((n.frames ≤ 4096) × (n.statements ≤ 20000)))

pub reads_header : Reads header_at header FitsCounts
unfolding header_at FitsCounts any_version
reads_header = reads_via
    (reads_both (reads_that w32 (2 ^ 32) reads_long BadMagic magic (omega arith))
    (reads_both reads_version
    (reads_both (reads_most w16 (2 ^ 16) reads_short 4096 (omega arith))
    (reads_both (reads_most w16 (2 ^ 16) reads_short 4096 (omega arith))
    (reads_both (reads_most w16 (2 ^ 16) reads_short 4096 (omega arith))
    (reads_most w32 (2 ^ 32) reads_long 20000 (omega arith)))))))
    (λ h. record { version = h.1.0; variables = h.1.1.0; features = h.1.1.1.0; frames = h.1.1.1.1.0; statements = h.1.1.1.1.1 })
    (λ n. (magic, (n.version, (n.variables, (n.features, (n.frames, n.statements))))))
    header FitsCounts
    (λ h f. ap (λ (m : ℕ). long m ++ (short (version_number h.1.0) ++ (short h.1.1.0 ++ (short h.1.1.1.0 ++ (short h.1.1.1.1.0 ++ long h.1.1.1.1.1))))) (sym f.0))
    (λ h f. f.1.1) (λ n f. (refl, refl, (refl, (tt, f))))

body : Code → List ℕ
body c = flat_map entry c.tables.variables ++ (flat_map name c.tables.features ++ (flat_map name c.tables.frames ++ flat_map line c.statements))

FitsBody : Code → Type 0
FitsBody c = AllByRecursion FitsEntry c.tables.variables × (AllByRecursion IsName c.tables.features × (AllByRecursion IsName c.tables.frames × AllByRecursion (FitsLine c.version) c.statements))

reads_body : (n : Counts) → Reads (body_at n) body (λ c. (counts_of c ≡ n) × FitsBody c)
unfolding body_at body FitsBody
reads_body n = reads_via
    (reads_both (reads_times reads_entry n.variables) (reads_both (reads_times reads_name n.features) (reads_both (reads_times reads_name n.frames) (reads_times (reads_line n.version) n.statements))))
    (λ c. record { version = n.version; tables = record { variables = c.0; features = c.1.0; frames = c.1.1.0 }; statements = c.1.1.1 })
    (λ c. (c.tables.variables, (c.tables.features, (c.tables.frames, c.statements)))) body (λ c. (counts_of c ≡ n) × FitsBody c)
    (λ c h. refl)
    (λ c h. (counts_same h.0.0 h.1.0.0 h.1.1.0.0 h.1.1.1.0, (h.0.1, (h.1.0.1, (h.1.1.0.1, h.1.1.1.1)))))
    (λ c h. (
      ap (λ (v : Version). record { version = v; tables = c.tables; statements = c.statements }) (sym (ap (λ (m : Counts). m.version) h.0)),
      refl,
      (
        (ap (λ (m : Counts). m.variables) h.0, h.1.0),
        (
          (ap (λ (m : Counts). m.features) h.0, h.1.1.0),
          (
            (ap (λ (m : Counts). m.frames) h.0, h.1.1.1.0),
            (ap (λ (m : Counts). m.statements) h.0, subst (λ (v : Version). AllByRecursion (FitsLine v) c.statements) (ap (λ (m : Counts). m.version) h.0) h.1.1.1.1),
          ),
        ),
      ),
    )
    )
  where
    counts_same : {a b c d : ℕ} → a ≡ n.variables → b ≡ n.features → c ≡ n.frames → d ≡ n.statements → record { version = n.version; variables = a; features = b; frames = c; statements = d } ≡ n
    counts_same e f g h = rw (e, f, g, h) refl

pub reads_code : Reads (after header_at body_at) spelling FitsImage
unfolding FitsCounts body FitsBody
reads_code = reads_as (reads_after reads_header counts_of reads_body) spelling FitsImage (λ c. refl)
    (λ c h. fits_by_tables c (record { variables = (h.0.0, h.1.0); features = (h.0.1.0, h.1.1.0); frames = (h.0.1.1.0, h.1.1.1.0); statements = (h.0.1.1.1, h.1.1.1.1) }))
    (λ c h. (let t = tables_fit c h in ((t.variables.0, (t.features.0, (t.frames.0, t.statements.0))), (t.variables.1, (t.features.1, (t.frames.1, t.statements.1))))))

-- the two laws
pub code_takes : (bytes : List ℕ) (c : Code) → IsBytes bytes → code_at bytes ≡ Ok c → FitsImage c × (bytes ≡ spelling c)
unfolding code_at
code_takes bytes c fits e =
    let a = bind_ok (after header_at body_at bytes) ended c e in
    let g = guard_met (length a.0.1 == 0) Trailing a.0.0 c a.2 in
    let t = reads_code.takes bytes a.0 fits a.1 in
    let nothing : a.0.1 ≡ [] = nil_from_length a.0.1 (eqb-true _ _ g.0) in
    let whole : bytes ≡ spelling a.0.0 = t.0.parts ∙ ap (λ (r : List ℕ). spelling a.0.0 ++ r) nothing ∙ append-nil (spelling a.0.0) in
    subst (λ (v : Code). FitsImage v × (bytes ≡ spelling v)) g.1 (t.1, whole)

pub code_again : (c : Code) → FitsImage c → code_at (spelling c) ≡ Ok c
unfolding code_at
code_again c fits =
    let back : after header_at body_at (spelling c) ≡ Ok (c, []) = ap (after header_at body_at) (sym (append-nil (spelling c))) ∙ reads_code.again c [] fits in
    rw back refl

pub is_found : (bytes : List ℕ) (r : Result Code ImageFault) → IsBytes bytes → GivesOrNoMemory (λ c. c) r (code_at bytes) → IfOk r (λ c. FitsImage c × (bytes ≡ spelling c))
is_found bytes (Ok c) fits given = code_takes bytes c fits given
is_found bytes (Err e) fits given = tt
