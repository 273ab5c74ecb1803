use Rattle.std.proofs.Common.{◌≡◌, List}
use Rattle.std.proofs.lemmas.Result.{err_from_is_err_and}
use Rattle.vcm_forms.specs.declared.statement.Statement.{Statement}
use Rattle.vcm_program.specs.Program.{Parsed}
use Rattle.vcm_tree.specs.Program.{notices_of}
use Rattle.vcm_tree.specs.Acceptance.{ReadsProgram, IsAcceptedPlaced}
use Rattle.vcm_tree.proofs.Accepting.{names_refused, jumps_refused_all, placed_whole}
use Rattle.vcm_tree.proofs.phases.accept_placed.Goals as goal

pub returns-in_err-draft-clause-refused : goal.returns-in_err-draft-clause-refused
returns-in_err-draft-clause-refused c =
    let p = err_from_is_err_and c.from_residual.result c.from_residual.ensures.1 in
    rw (p.1, p.2) (names_refused c.args.notices.items c.args.all.items _ c.in_err-draft.ensures.fault)

pub new-requires : goal.new-requires
new-requires c =
    let d = c.in_ok-draft.draft in
    let ss = c.requires.written.0 in
    let parsed : Parsed = record { program = d.tree; tables = d.names; notices = d.notices.items } in
    let program : ReadsProgram ss c.args.all.items parsed = record {
      clean = c.in_ok-draft.ensures.clean;
      is = c.in_ok-draft.ensures.program ss c.requires.written.1;
    } in
    placed_whole ss c.args.all.items parsed c.requires.lettered c.requires.ended c.requires.few program c.in-Ok.ensures.clean

pub returns-in-Ok-clause-accepted : goal.returns-in-Ok-clause-accepted
returns-in-Ok-clause-accepted c =
    let d = c.in_ok-draft.draft in
    let parsed : Parsed = record { program = d.tree; tables = d.names; notices = d.notices.items } in
    let all : (ss : List Statement) → c.args.notices.items ≡ notices_of ss → IsAcceptedPlaced ss c.args.all.items parsed =
    λ ss same. record {
      program = record { clean = c.in_ok-draft.ensures.clean; is = c.in_ok-draft.ensures.program ss same };
      jumps = c.in-Ok.ensures.clean;
    } in
    rw c.new.ensures all

pub returns-in-Err-clause-refused : goal.returns-in-Err-clause-refused
returns-in-Err-clause-refused c =
    let d = c.in_ok-draft.draft in
    let parsed : Parsed = record { program = d.tree; tables = d.names; notices = d.notices.items } in
    jumps_refused_all c.args.notices.items c.args.all.items parsed _
    (λ ss same. record { clean = c.in_ok-draft.ensures.clean; is = c.in_ok-draft.ensures.program ss same }) c.in-Err.ensures.fault
