-- The counts of open items, by computing.
use Rattle.std.proofs.Common.{◌≡◌, ℕ, List, [], ◌∷◌, refl}
use Rattle.open_agents.specs.declared.items.OpenRecord.{OpenRecord}
use Rattle.open_agents.specs.OpenItems.{with_item}

abbrev item : ℕ → OpenRecord
item count = record { handle = 1; guid = 7 ∷ []; agent = 2; controller = 0; attributes = 2; count = count }

-- what is open once the interface is opened again
abbrev opened : List OpenRecord → List OpenRecord
opened opens = with_item 1 (7 ∷ []) 2 0 2 opens

new : opened [] ≡ item 1 ∷ []
new = refl

again : opened (item 1 ∷ []) ≡ item 2 ∷ []
again = refl

last : opened (item 4294967294 ∷ []) ≡ item 4294967295 ∷ []
last = refl

at_the_end : opened (item 4294967295 ∷ []) ≡ item 4294967295 ∷ []
at_the_end = refl
