use Rattle.std.proofs.Common.{List, ℕ, subst, ◌∙◌}
use Rattle.c_interface.specs.Removals.{AnswersUninstalls}
use Rattle.c_interface.proofs.LongRemovals.{first_removed}
use Rattle.c_interface.proofs.efi_core.EfiCore.uninstall_multiple.Goals as goal

pub returns : goal.returns
returns g c =
    let before = c.args.self.now in
    let after = c.uninstall_pairs.new.self in
    let first = subst (λ (pairs : List (List ℕ × ℕ)). AnswersUninstalls before c.args.handle pairs c.uninstall_pairs.result after) (c.as_slice.ensures.value ∙ c.first_pairs-pairs.ensures) c.uninstall_pairs.ensures in
    first_removed before after c.args.handle c.args.interfaces.now c.uninstall_pairs.result first
