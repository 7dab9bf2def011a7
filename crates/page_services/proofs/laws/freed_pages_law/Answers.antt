use Rattle.page_services.proofs.Granules.{freed_names, freed_owned}
use Rattle.page_services.proofs.laws.freed_pages_law.Goals as goal

pub returns : goal.returns
returns c = λ b address pages done new is frees. (freed_names b address pages is, freed_owned b address pages is frees.0.1 frees.1)
