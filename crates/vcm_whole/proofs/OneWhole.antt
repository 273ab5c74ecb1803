-- A text is put as one program.
use Rattle.std.proofs.Common.{◌≡◌, ℕ, Bool, true, false, List, length, Option, inl, inr, sym, ap, ◌∙◌, subst}
use Rattle.vcm_lines.specs.declared.logical.Logical.{Logical}
use Rattle.vcm_lines.specs.Statements.{lines_of, kept_lines, grouped}
use Rattle.vcm_lines.proofs.OneReading.{one_statements}
use Rattle.vcm_spec.specs.Setup.{Tables}
use Rattle.vcm_spec.specs.Program.{Block}
use Rattle.vcm_forms.specs.declared.statement.Statement.{Statement}
use Rattle.vcm_macro.specs.declared.placed.Placed.{Placed}
use Rattle.vcm_macro.proofs.Answered.{expansion as one_expanded}
use Rattle.vcm_tree.specs.Acceptance.{ReadsLines, IsAccepted}
use Rattle.vcm_tree.proofs.AcceptanceLaws.{one_parsed, one_program, not_refused}
use Rattle.vcm_program.specs.Program.{Parsed}
use Rattle.vcm_program.specs.declared.accepted.Noticed.{Noticed}
use Rattle.vcm_code.specs.declared.code.Code.{Code}
use Rattle.vcm_code.specs.declared.version.Version.{Version}
use Rattle.vcm_code.specs.Code.{CodeStatement}
use Rattle.vcm_code.specs.Ranges.{version_for}
use Rattle.vcm_image.specs.Whole.{spelling}
use Rattle.vcm_asm.specs.Simulation.{IsAssembled}
use Rattle.vcm_run.specs.Built.{IsBuilt, IsBuiltPlaced, IsImageOf}
use Rattle.vcm_run.proofs.OneRun.{one_build}
use Rattle.vcm_remarks.specs.declared.remark.NumberedRemark.{NumberedRemark}
use Rattle.vcm_plain.specs.declared.unit.Lengths.{Lengths}
use Rattle.vcm_plain.specs.declared.unit.Unit.TheVariants.{Millimetre}
use Rattle.vcm_plain.specs.Plain.{plain}
use Rattle.vcm_plain.specs.Units.{all_in, lengths_of}
use Rattle.vcm_given.specs.declared.choices.Choices.{Choices}
use Rattle.vcm_kept.specs.Guarding.{guarded}
use Rattle.vcm_said.specs.All.{said_all}
use Rattle.vcm_given.specs.Unused.{unused}
use Rattle.vcm_kept.specs.Put.{placed_in}
use Rattle.vcm_whole.specs.declared.whole.Facts.{Facts}
use Rattle.vcm_whole.specs.declared.frames.FrameLine.{FrameLine}
use Rattle.vcm_whole.specs.Whole.{ReadsPlain, statements_of, Expands, stays, HasToBeCarried, IsPut, as_written, as_carried, is_rewritten}
use Rattle.vcm_given.specs.declared.tips.OtherTip.{OtherTip}
use Rattle.vcm_given.specs.declared.missing.MissingProbe.{MissingProbe}
use Rattle.vcm_given.specs.Tips.{other_tips}
use Rattle.vcm_given.specs.Missing.{missing_probes}
use Rattle.vcm_whole.specs.declared.readings.Readings.{Readings}
use Rattle.vcm_whole.specs.Readings.{readings_of}
use Rattle.vcm_whole.specs.Losses.{lossy_lines, says_unit, says_mode, says_sensor, unlooked}
use Rattle.vcm_whole.specs.Frames.{named_frames}
use Rattle.vcm_whole.specs.Laws.{IsPutOnce, WholesAreOne, IsAsWritten, AcceptedTextsStay}

-- ---- images of programs

abbrev code : Version → Tables → List CodeStatement → Code
code version tables statements = record { version = version; tables = tables; statements = statements }

-- a program is assembled to one code
one_code : (program : Block) (tables : Tables) (c d : Code) → IsAssembled program tables c → IsAssembled program tables d → c ≡ d
one_code program tables c d h k =
    let statements = h.statements_are ∙ sym k.statements_are in
    let version = h.version_is ∙ ap version_for statements ∙ sym k.version_is in
    let names = h.tables_are ∙ sym k.tables_are in
    let same : code c.version c.tables c.statements ≡ code d.version d.tables d.statements =
    ap (λ x. code x c.tables c.statements) version ∙ ap (λ x. code d.version x c.statements) names ∙ ap (code d.version d.tables) statements in
    same

-- and has one image
one_image : (p q : Parsed) (bytes more : List ℕ) → p ≡ q → IsImageOf p bytes → IsImageOf q more → bytes ≡ more
one_image p q bytes more e h k =
    let assembled = subst (λ (x : Parsed). IsAssembled x.program x.tables h.code) e h.assembled in
    h.spelled ∙ ap spelling (one_code q.program q.tables h.code k.code assembled k.assembled) ∙ sym k.spelled

-- expanded statements have one image and one list of notices
one_placed : (ss : List Statement) (all : List Placed) (bytes more : List ℕ) (ns ms : List Noticed) → IsBuiltPlaced ss all bytes ns → IsBuiltPlaced ss all more ms
    → (bytes ≡ more) × (ns ≡ ms)
one_placed ss all bytes more ns ms h k =
    let e : h.parsed ≡ k.parsed = one_parsed ss all h.parsed k.parsed h.accepted.program.is k.accepted.program.is in (
      one_image h.parsed k.parsed bytes more e h.image k.image,
      h.notices_are ∙ ap (λ (p : Parsed). p.notices) e ∙ sym k.notices_are,
    )

-- ---- how a text is put

-- a text that stays as it is written, and is a program of the language, needn't be carried
not_both : (c : Choices) (text bytes : List ℕ) (ps : List Placed) (ns : List Noticed) → stays c ps ≡ true → IsBuilt text bytes ns → HasToBeCarried c text ps → ⊥
not_both c text bytes ps ns s built (inl e) = (let f : true ≡ false = sym s ∙ e in absurd cc)
not_both c text bytes ps ns s built (inr (f, refused)) = not_refused text built.parsed f built.accepted refused

pub put_once : IsPutOnce
put_once c text ss ps bytes more ns ms rs qs w v (as_written s h r x) (as_written t k q y) =
    let e = one_build text bytes more ns ms h k in (e.0, e.1, r ∙ sym q, x ∙ sym y)
put_once c text ss ps bytes more ns ms rs qs w v (as_written s h r x) (as_carried has k q y) = absurd (not_both c text bytes ps ns s h has)
put_once c text ss ps bytes more ns ms rs qs w v (as_carried has h r x) (as_written t k q y) = absurd (not_both c text more ps ms t k has)
put_once c text ss ps bytes more ns ms rs qs w v (as_carried has h r x) (as_carried also k q y) =
    let e = one_placed ss (placed_in (guarded ps)) bytes more ns ms h k in (e.0, e.1, r ∙ sym q, x ∙ sym y)

-- ---- how it is read

one_lines : (text : List ℕ) (ls ms : List Logical) → ReadsLines text ls → ReadsLines text ms → ls ≡ ms
one_lines text ls ms h k = one_statements (grouped (kept_lines (lines_of text))) ls ms h.lines k.lines

one_measure : (text : List ℕ) (u v : Lengths) (ls ms : List Logical) → ReadsPlain text u ls → ReadsPlain text v ms → u ≡ v
one_measure text u v ls ms h k = h.lengths_are ∙ ap lengths_of (one_lines (plain (all_in Millimetre) text) h.written k.written h.as_written k.as_written) ∙ sym k.lengths_are

one_reading : (text : List ℕ) (u v : Lengths) (ls ms : List Logical) → ReadsPlain text u ls → ReadsPlain text v ms → ls ≡ ms
one_reading text u v ls ms h k =
    one_lines (plain v text) ls ms (subst (λ x. ReadsLines (plain x text) ls) (one_measure text u v ls ms h k) h.read) k.read

one_expansion : (c : Choices) (text : List ℕ) (u v : Lengths) (ls ms : List Logical) (ps qs : List Placed) → Expands c text u ls ps → Expands c text v ms qs → ps ≡ qs
one_expansion c text u v ls ms ps qs h k =
    let e = one_reading text u v ls ms h.read k.read in
    one_expanded (statements_of c text ms) ps qs (rw (ap (statements_of c text) e) at h.is_expanded) k.is_expanded

-- what is told, by its parts
abbrev facts_of : Lengths → Bool → List ℕ → Option (List ℕ) → List FrameLine → ℕ → (written unit mode sensor : Bool) → List OtherTip → List MissingProbe → List (List ℕ) → Readings → Facts
facts_of u r losses unused frames n written unit mode sensor tips missing unlooked readings = record {
  lengths = u;
  is_rewritten = r;
  losses = losses;
  unused = unused;
  frames = frames;
  statements = n;
  is_as_written = written;
  says_unit = unit;
  says_mode = mode;
  says_sensor = sensor;
  tips = tips;
  missing = missing;
  unlooked = unlooked;
  readings = readings;
}

-- two that are the same in each part are the same
same_facts : (f g : Facts) → f.lengths ≡ g.lengths → f.is_rewritten ≡ g.is_rewritten → f.losses ≡ g.losses → f.unused ≡ g.unused
    → f.frames ≡ g.frames → f.statements ≡ g.statements → f.is_as_written ≡ g.is_as_written → f.says_unit ≡ g.says_unit → f.says_mode ≡ g.says_mode
    → f.says_sensor ≡ g.says_sensor → f.tips ≡ g.tips → f.missing ≡ g.missing → f.unlooked ≡ g.unlooked → f.readings ≡ g.readings → f ≡ g
same_facts f g u r l un fr n w su sm ss t mi ul re =
    let e : facts_of f.lengths f.is_rewritten f.losses f.unused f.frames f.statements f.is_as_written f.says_unit f.says_mode f.says_sensor f.tips f.missing f.unlooked f.readings
    ≡ facts_of g.lengths g.is_rewritten g.losses g.unused g.frames g.statements g.is_as_written g.says_unit g.says_mode g.says_sensor g.tips g.missing g.unlooked g.readings =
    ap (λ x. facts_of x f.is_rewritten f.losses f.unused f.frames f.statements f.is_as_written f.says_unit f.says_mode f.says_sensor f.tips f.missing f.unlooked f.readings) u
    ∙ ap (λ x. facts_of g.lengths x f.losses f.unused f.frames f.statements f.is_as_written f.says_unit f.says_mode f.says_sensor f.tips f.missing f.unlooked f.readings) r
    ∙ ap (λ x. facts_of g.lengths g.is_rewritten x f.unused f.frames f.statements f.is_as_written f.says_unit f.says_mode f.says_sensor f.tips f.missing f.unlooked f.readings) l
    ∙ ap (λ x. facts_of g.lengths g.is_rewritten g.losses x f.frames f.statements f.is_as_written f.says_unit f.says_mode f.says_sensor f.tips f.missing f.unlooked f.readings) un
    ∙ ap (λ x. facts_of g.lengths g.is_rewritten g.losses g.unused x f.statements f.is_as_written f.says_unit f.says_mode f.says_sensor f.tips f.missing f.unlooked f.readings) fr
    ∙ ap (λ x. facts_of g.lengths g.is_rewritten g.losses g.unused g.frames x f.is_as_written f.says_unit f.says_mode f.says_sensor f.tips f.missing f.unlooked f.readings) n
    ∙ ap (λ x. facts_of g.lengths g.is_rewritten g.losses g.unused g.frames g.statements x f.says_unit f.says_mode f.says_sensor f.tips f.missing f.unlooked f.readings) w
    ∙ ap (λ x. facts_of g.lengths g.is_rewritten g.losses g.unused g.frames g.statements g.is_as_written x f.says_mode f.says_sensor f.tips f.missing f.unlooked f.readings) su
    ∙ ap (λ x. facts_of g.lengths g.is_rewritten g.losses g.unused g.frames g.statements g.is_as_written g.says_unit x f.says_sensor f.tips f.missing f.unlooked f.readings) sm
    ∙ ap (λ x. facts_of g.lengths g.is_rewritten g.losses g.unused g.frames g.statements g.is_as_written g.says_unit g.says_mode x f.tips f.missing f.unlooked f.readings) ss
    ∙ ap (λ x. facts_of g.lengths g.is_rewritten g.losses g.unused g.frames g.statements g.is_as_written g.says_unit g.says_mode g.says_sensor x f.missing f.unlooked f.readings) t
    ∙ ap (λ x. facts_of g.lengths g.is_rewritten g.losses g.unused g.frames g.statements g.is_as_written g.says_unit g.says_mode g.says_sensor g.tips x f.unlooked f.readings) mi
    ∙ ap (λ x. facts_of g.lengths g.is_rewritten g.losses g.unused g.frames g.statements g.is_as_written g.says_unit g.says_mode g.says_sensor g.tips g.missing x f.readings) ul
    ∙ ap (λ x. facts_of g.lengths g.is_rewritten g.losses g.unused g.frames g.statements g.is_as_written g.says_unit g.says_mode g.says_sensor g.tips g.missing g.unlooked x) re in
    e

pub wholes_are_one : WholesAreOne
wholes_are_one c text bytes more ns ms rs qs facts told h k =
    let unit = one_measure text facts.lengths told.lengths h.lines k.lines h.expands.read k.expands.read in
    let lines = one_reading text facts.lengths told.lengths h.lines k.lines h.expands.read k.expands.read in
    let expanded = one_expansion c text facts.lengths told.lengths h.lines k.lines h.expanded k.expanded h.expands k.expands in
    let first : IsPut c text (statements_of c text k.lines) k.expanded bytes ns rs facts.is_as_written =
    subst (λ l. IsPut c text (statements_of c text l) k.expanded bytes ns rs facts.is_as_written) lines
    (subst (λ p. IsPut c text (statements_of c text h.lines) p bytes ns rs facts.is_as_written) expanded h.put) in
    let e = put_once c text (statements_of c text k.lines) k.expanded bytes more ns ms rs qs facts.is_as_written told.is_as_written first k.put in (
      e.0,
      e.1,
      e.2,
      same_facts facts told unit
          (h.rewritten_is ∙ ap (is_rewritten text) unit ∙ sym k.rewritten_is)
          (h.losses_are ∙ ap (λ l. lossy_lines (statements_of c text l)) lines ∙ sym k.losses_are)
          (h.unused_is ∙ ap (λ l. unused c l (said_all l)) lines ∙ sym k.unused_is)
          (h.frames_are ∙ ap (λ l. named_frames (statements_of c text l)) lines ∙ sym k.frames_are)
          (h.count_is ∙ ap length lines ∙ sym k.count_is)
          e.3
          (h.unit_said ∙ ap says_unit lines ∙ sym k.unit_said)
          (h.mode_said ∙ ap says_mode lines ∙ sym k.mode_said)
          (h.sensor_said ∙ ap says_sensor lines ∙ sym k.sensor_said)
          (h.tips_are ∙ ap (other_tips c.probes c.tip) lines ∙ sym k.tips_are)
          (h.missing_are ∙ ap (missing_probes c.probes) lines ∙ sym k.missing_are)
          (h.unlooked_are ∙ ap unlooked lines ∙ sym k.unlooked_are)
          (h.readings_are ∙ ap (λ l. readings_of l (statements_of c text l)) lines ∙ sym k.readings_are),
    )

-- ---- texts of the language

-- a text that stays as it is written, and is accepted, is put as it is written
as_accepted : (c : Choices) (text bytes : List ℕ) (ss : List Statement) (ps : List Placed) (ns : List Noticed) (rs : List NumberedRemark) (facts : Facts) (p : Parsed)
    → IsAccepted text p → stays c ps ≡ true → IsPut c text ss ps bytes ns rs facts.is_as_written → IsAsWritten p bytes ns rs facts
as_accepted c text bytes ss ps ns rs facts p accepted stay (as_written s h r w) =
    let e : h.parsed ≡ p = one_program text h.parsed p h.accepted accepted in record {
      image = subst (λ (x : Parsed). IsImageOf x bytes) e h.image;
      notices_are = h.notices_are ∙ ap (λ (x : Parsed). x.notices) e;
      no_remarks = r;
      written = w;
    }
as_accepted c text bytes ss ps ns rs facts p accepted stay (as_carried (inl e) h r w) = (let f : true ≡ false = sym stay ∙ e in absurd cc)
as_accepted c text bytes ss ps ns rs facts p accepted stay (as_carried (inr (f, refused)) h r w) = absurd (not_refused text p f accepted refused)

pub accepted_texts_stay : AcceptedTextsStay
accepted_texts_stay c text bytes ns rs facts p ls ps accepted expands stay h =
    let expanded = one_expansion c text facts.lengths facts.lengths ls h.lines ps h.expanded expands h.expands in
    as_accepted c text bytes (statements_of c text h.lines) h.expanded ns rs facts p accepted (ap (stays c) (sym expanded) ∙ stay) h.put
