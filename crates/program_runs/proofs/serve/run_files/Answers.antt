use Rattle.std.proofs.Common.{Ok, Err, refl, ap, ◌∙◌}
use Rattle.driver_connect.specs.declared.table.TableDriver.{TableDriver}
use Rattle.boot_core.specs.Machines.{CoreValue, certifying_state, prepared_placements, preparing_state}
use Rattle.program_runs.proofs.Served.{runs_file, faults_file, same_meanings}
use Rattle.program_runs.proofs.serve.run_files.Goals as goal

pub returns-in-Err-read_machine : goal.returns-in-Err-read_machine
returns-in-Err-read_machine g c =
    faults_file (g.M.Read.remaining c.args.machine) c.in-Ok.bytes.items c.in-Err-read_machine.fault _ _ c.in-Ok.ensures.ok (rw c.as_slice.ensures.value at c.in-Err-read_machine.ensures) refl

pub returns-in-Ok-run : goal.returns-in-Ok-run
returns-in-Ok-run g c =
    let handed = ap (λ (v : CoreValue TableDriver). v.given.drivers) c.in-Ok-prepare.ensures.ok ∙ ap (λ (v : CoreValue TableDriver). v.given.drivers) c.certify.ensures ∙ ap (λ (v : CoreValue TableDriver). v.given.drivers) c.in-Ok-new.ensures in
    let started = ap (λ (v : CoreValue TableDriver). v.state) c.in-Ok-prepare.ensures.ok ∙ ap (λ (v : CoreValue TableDriver). preparing_state prepared_placements v.state) c.certify.ensures ∙ ap (λ (v : CoreValue TableDriver). preparing_state prepared_placements (certifying_state c.args.certify v.state)) c.in-Ok-new.ensures in
    runs_file c.args.certify (g.M.Read.remaining c.args.machine) (g.T.Read.remaining c.args.trace) c.in-Ok.bytes.items _ _ _ _ _ _ (Ok tt) c.in-Ok.ensures.ok (rw c.as_slice.ensures.value at c.in-Ok-read_machine.ensures)
    (same_meanings _ (λ d. refl) _ _ handed) started c.in-Ok-run.ensures.ends

pub returns : goal.returns
returns g c =
    let handed = ap (λ (v : CoreValue TableDriver). v.given.drivers) c.in-Ok-prepare.ensures.ok ∙ ap (λ (v : CoreValue TableDriver). v.given.drivers) c.certify.ensures ∙ ap (λ (v : CoreValue TableDriver). v.given.drivers) c.in-Ok-new.ensures in
    let started = ap (λ (v : CoreValue TableDriver). v.state) c.in-Ok-prepare.ensures.ok ∙ ap (λ (v : CoreValue TableDriver). preparing_state prepared_placements v.state) c.certify.ensures ∙ ap (λ (v : CoreValue TableDriver). preparing_state prepared_placements (certifying_state c.args.certify v.state)) c.in-Ok-new.ensures in
    runs_file c.args.certify (g.M.Read.remaining c.args.machine) (g.T.Read.remaining c.args.trace) c.in-Ok.bytes.items _ _ _ _ _ _ (Err c.in-Err-run.fault) c.in-Ok.ensures.ok (rw c.as_slice.ensures.value at c.in-Ok-read_machine.ensures)
    (same_meanings _ (λ d. refl) _ _ handed) started c.in-Err-run.ensures.ends
