use Rattle.std.proofs.Common.{List, ℕ, subst, ◌∙◌}
use Rattle.boot_calls.specs.declared.calls.Call.TheVariants as call
use Rattle.c_interface.specs.Served.{AnswersNumber}
use Rattle.c_interface.proofs.LongLists.{first_are_enough}
use Rattle.c_interface.proofs.efi_core.EfiCore.install_multiple.Goals as goal

pub returns : goal.returns
returns g c =
    let before = c.args.self.now in
    let after = c.install_pairs.new.self in
    let handle = c.args.handle.now in
    let first =
    subst (λ (pairs : List (List ℕ × ℕ)). AnswersNumber before (call.InstallMultipleProtocolInterfaces handle pairs) handle c.install_pairs.result c.install_pairs.new.handle after) (c.as_slice.ensures.value ∙ c.first_pairs-pairs.ensures) c.install_pairs.ensures in
    first_are_enough before after handle c.args.interfaces.now handle c.install_pairs.result c.install_pairs.new.handle first
