use Rattle.std.proofs.Common.{◌∙◌, subst}
use Rattle.placement_certificate.specs.Certificates.{IsTrueLeast}
use Rattle.placement_chooser.proofs.offers.least_beside.Goals as goal

pub returns-clause-least : goal.returns-clause-least
returns-clause-least g c =
    let r = c.args.request.now in
    let o = c.least_beside.result in
    subst (λ d. IsTrueLeast c.args.free.memory r d o) (c.block_of-entry.ensures ∙ c.run.ensures) (subst (λ m. IsTrueLeast m r c.block_of-entry.result o) c.requires.memory c.least_beside.ensures.least)
