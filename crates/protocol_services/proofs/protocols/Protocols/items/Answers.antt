use Rattle.std.proofs.Common.{sym, ◌∙◌, ◌≡◌, ◌<◌, true, false, List, [], ◌∷◌, length, refl, arith}
use Rattle.protocol_services.proofs.protocols.Protocols.items.Goals as goal

some_listed : {X : Type 0} (xs : List X) → (xs ≡ [] → ⊥) → 0 < length xs
some_listed [] h = absurd (h refl)
some_listed (x ∷ xs) h = omega arith

pub returns-then-is_none : goal.returns-then-is_none
returns-then-is_none g c = rw (← c.self.view_is) (sym c.interface.ensures.there ∙ c.if-is_none.ensures)

pub returns-in-Ok : goal.returns-in-Ok
returns-in-Ok g c = rw (← c.self.view_is) (sym c.interface.ensures.there ∙ c.if-is_none.ensures, c.in-Ok.ensures.items)

pub returns-in-Err : goal.returns-in-Err
returns-in-Err g c = rw (← c.self.view_is) (sym c.interface.ensures.there ∙ c.if-is_none.ensures, some_listed _ (λ e. let w : false ≡ true = c.in-Err.ensures.none e in cc))
