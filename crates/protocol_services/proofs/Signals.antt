-- The events of pairs that are installed one after the other.
use Rattle.std.proofs.Common.{◌≡◌, ℕ, ◌+◌, ◌<◌, ◌≤◌, List, [], ◌∷◌, ◌++◌, length, take, get_or, sym, ap, ap₂, ◌∙◌, append-nil, arith}
use Rattle.std.proofs.lemmas.Grind.{flat_map-append}
use Rattle.std.proofs.lemmas.List.{take_more}
use Rattle.protocol_notify.specs.Registrations.{events_for}
use Rattle.protocol_notify.specs.declared.notify.Registration.{Registration}
use Rattle.protocol_services.specs.Installing.{signaled}

-- a single pair
pub signaled_one : (rs : List Registration) (pairs : List (List ℕ × ℕ)) (p : List ℕ × ℕ) → 1 ≤ length pairs → length pairs < 2 → p ≡ get_or pairs 0 p → events_for rs p.0 ≡ signaled rs pairs
signaled_one rs [] p least below is = absurd (omega arith)
signaled_one rs (q ∷ []) p least below is = ap (λ (r : List ℕ × ℕ). events_for rs r.0) is ∙ sym (append-nil (events_for rs q.0))
signaled_one rs (q ∷ r ∷ more) p least below is = absurd (omega arith)

-- one pair more
pub signaled_more : (rs : List Registration) (pairs : List (List ℕ × ℕ)) (k : ℕ) (p : List ℕ × ℕ) (done more : List ℕ) → k < length pairs → p ≡ get_or pairs k p
    → done ≡ signaled rs (take k pairs) → more ≡ events_for rs p.0 → done ++ more ≡ signaled rs (take (k + 1) pairs)
signaled_more rs pairs k p done more low is d m =
    let item : List ℕ × ℕ = get_or pairs k p in
    let f : List ℕ × ℕ → List ℕ = λ q. events_for rs q.0 in
    let last : f item ++ [] ≡ f p = append-nil (f item) ∙ ap f (sym is) in
    ap₂ (λ (a b : List ℕ). a ++ b) d m
    ∙ sym (ap (λ (ps : List (List ℕ × ℕ)). signaled rs ps) (take_more pairs k p low) ∙ flat_map-append f (take k pairs) (item ∷ []) ∙ ap (λ (t : List ℕ). signaled rs (take k pairs) ++ t) last)
