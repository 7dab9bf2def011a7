use Rattle.placement_certificate.proofs.Places.{first_permitted, first_price}
use Rattle.placement_certificate.proofs.laws.first_page_law.Goals as goal

pub returns : goal.returns
returns c = λ m r e p one proper good entry i permitted. (first_permitted m r e p proper good entry i permitted one, first_price m r e p proper good entry i permitted one)
