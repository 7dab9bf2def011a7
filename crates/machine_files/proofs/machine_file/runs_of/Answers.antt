use Rattle.std.proofs.Common.{◌∙◌, sym, inr, ap}
use Rattle.machine_files.specs.declared.faults.MachineFault.TheVariants as fault
use Rattle.machine_files.specs.MachineText.{member_run, or_descriptor}
use Rattle.machine_files.proofs.EachMember.{with_front-none, member-read, member-refused, all-read}
use Rattle.machine_files.proofs.machine_file.runs_of.Goals as goal

pub loop-number-init : goal.loop-number-init
loop-number-init c = rw c.new-runs.ensures.items (with_front-none _)

pub returns-in-Err : goal.returns-in-Err
returns-in-Err c =
    inr (sym c.loop-number.invariant ∙ member-refused (λ n d. or_descriptor n (member_run d)) c.args.members.now c.loop-number.number c.index-members-number.result c.loop-number-test.true c.index-members-number.is c.loop-number.runs.items (fault.Descriptor c.loop-number.number c.in-Err.field)
    (ap (or_descriptor c.loop-number.number) (sym c.member_run.ensures ∙ c.in-Err.is)))

pub loop-number-preserved : goal.loop-number-preserved
loop-number-preserved c =
    rw c.in_ok-push-in-Ok.ensures.items (sym (member-read (λ n d. or_descriptor n (member_run d)) c.args.members.now c.loop-number.number c.index-members-number.result c.loop-number-test.true c.index-members-number.is c.loop-number.runs.items c.in-Ok.run'
    (ap (or_descriptor c.loop-number.number) (sym c.member_run.ensures ∙ c.in-Ok.is))) ∙ c.loop-number.invariant)

pub returns : goal.returns
returns c = sym c.loop-number.invariant ∙ all-read (λ n d. or_descriptor n (member_run d)) c.args.members.now c.loop-number.number c.loop-number.runs.items c.loop-number-test.false
