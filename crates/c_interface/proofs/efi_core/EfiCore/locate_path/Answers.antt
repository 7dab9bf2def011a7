use Rattle.std.proofs.Common.{ℕ, refl, sym, ap, ◌∙◌}
use Rattle.page_ranges.specs.Statuses.{status_number}
use Rattle.c_machines.specs.Guids.{guid_in}
use Rattle.c_interface.specs.Replies.{returned_status}
use Rattle.c_interface.specs.Paths.{found_or}
use Rattle.c_interface.proofs.LocatedHere.{located_here}
use Rattle.c_interface.proofs.efi_core.EfiCore.locate_path.Goals.{in-Ok, in-Err}
use Rattle.c_interface.proofs.efi_core.EfiCore.locate_path.Goals as goal

pub returns : goal.returns
returns g c =
    let before : ℕ × ℕ = (c.args.device.now, c.args.matched.now) in
    let path = c.args.path.now in
    let begun = c.self.view_is ∙ c.begin.ensures.core in
    elim c.match-locate_path.branch [
      | in-Ok w ↦ located_here c.args.self.now _ _ c.uuid.result (guid_in c.args.guid.now) path c.locate_path.result before _ _ begun c.uuid.ensures c.locate_path.ensures.step c.locate_path.ensures.given refl refl refl refl
          (w.result-is ∙ w.number.ensures ∙ ap (λ found. status_number (returned_status found)) (sym w.in-Ok.is))
          ((λ i. (w.device-is i, w.matched-is i)) ∙ ap (found_or before) (sym w.in-Ok.is))
      | in-Err w ↦ located_here c.args.self.now _ _ c.uuid.result (guid_in c.args.guid.now) path c.locate_path.result before _ _ begun c.uuid.ensures c.locate_path.ensures.step c.locate_path.ensures.given refl refl refl refl
          (w.result-is ∙ w.number-in-Err.ensures ∙ ap (λ found. status_number (returned_status found)) (sym w.in-Err.is))
          ((λ i. (w.device-is i, w.matched-is i)) ∙ ap (found_or before) (sym w.in-Err.is))
    ]
