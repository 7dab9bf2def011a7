use Rattle.std.proofs.Common.{◌∙◌, sym, inr, ap, map}
use Rattle.std.proofs.lemmas.List.{map-append}
use Rattle.machine_files.specs.declared.faults.MachineFault.TheVariants as fault
use Rattle.machine_files.specs.DriverText.{listed, listed_result, member_driver, or_driver}
use Rattle.machine_files.proofs.EachMember.{with_front-none, member-read, member-refused, all-read}
use Rattle.machine_files.proofs.machine_file.drivers_in.Goals as goal

pub loop-number-init : goal.loop-number-init
loop-number-init c = rw c.new-drivers.ensures.items (with_front-none _)

pub returns-in-Err : goal.returns-in-Err
returns-in-Err c =
    inr (sym c.loop-number.invariant ∙ member-refused (λ n d. or_driver n (member_driver d)) c.args.members.now c.loop-number.number c.index-members-number.result c.loop-number-test.true c.index-members-number.is (map listed c.loop-number.drivers.items) (fault.Driver c.loop-number.number c.in-Err.field)
    (ap (or_driver c.loop-number.number) (sym c.member_driver.ensures ∙ ap listed_result c.in-Err.is)))

pub loop-number-preserved : goal.loop-number-preserved
loop-number-preserved c =
    rw (c.in_ok-push-in-Ok.ensures.items, map-append) (sym (member-read (λ n d. or_driver n (member_driver d)) c.args.members.now c.loop-number.number c.index-members-number.result c.loop-number-test.true c.index-members-number.is (map listed c.loop-number.drivers.items) (listed c.in-Ok.driver)
    (ap (or_driver c.loop-number.number) (sym c.member_driver.ensures ∙ ap listed_result c.in-Ok.is))) ∙ c.loop-number.invariant)

pub returns : goal.returns
returns c = sym c.loop-number.invariant ∙ all-read (λ n d. or_driver n (member_driver d)) c.args.members.now c.loop-number.number (map listed c.loop-number.drivers.items) c.loop-number-test.false
