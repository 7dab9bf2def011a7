use Rattle.std.proofs.Common.{rules, ◌≡◌, ◌∙◌, refl, sym, false, is_none, length, None, Some}
use Rattle.device_path_locate.specs.DevicePaths.{path_in}
use Rattle.c_interface.proofs.InstalledPaths.{installed_at, one_read}
use Rattle.c_interface.proofs.efi_core.EfiCore.install_path.Goals as goal

pub returns-in-Some-block : goal.returns-in-Some-block
returns-in-Some-block g c =
    let path = c.args.path.now in
    let some : is_none c.read_path.result ≡ false = search rules in
    let found = one_read c.read_path.result (path_in path) c.read_path.ensures some in
    installed_at c.args.self.now c.make_call.new.self c.return_status-status.new.self c.install_at.new.self path found.0 (length path) c.in-Some.placed (Some c.in-Some-block.block) (c.args.handle.now, c.args.address.now) _ c.install_at.result
    found.1 refl c.in-Some.ensures.made c.return_status-status.ensures.core (sym c.in-Some-block.is ∙ c.number_in-block.ensures) c.install_at.ensures

pub returns-in-None : goal.returns-in-None
returns-in-None g c =
    let path = c.args.path.now in
    let some : is_none c.read_path.result ≡ false = search rules in
    let found = one_read c.read_path.result (path_in path) c.read_path.ensures some in
    installed_at c.args.self.now c.make_call.new.self c.return_status-status.new.self c.return_status-status.new.self path found.0 (length path) c.in-Some.placed None (c.args.handle.now, c.args.address.now) _ c.return_status-status.result
    found.1 refl c.in-Some.ensures.made c.return_status-status.ensures.core (sym c.in-None.is ∙ c.number_in-block.ensures) (c.return_status-status.ensures.status, refl, refl)
