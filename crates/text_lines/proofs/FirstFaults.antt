-- Steps of a reading that went well.
use Rattle.std.proofs.Common.{◌≡◌, Bool, true, false, cond, Option, Some, None, Result, Ok, Err, refl}
use Rattle.text_lines.specs.FirstFault.{◌>>=◌, or_fault}

-- where two steps give a value, the first does
pub bind_ok : {A B E : Type 0} (r : Result A E) (f : A → Result B E) (y : B) → (r >>= f) ≡ Ok y → (x : A) × (r ≡ Ok x) × (f x ≡ Ok y)
bind_ok (Ok x) f y e = (x, refl, e)
bind_ok (Err g) f y e = absurd (cc)

-- where there is no fault, what is asked for is there
pub found : {A E : Type 0} (g : E) (o : Option A) (x : A) → or_fault g o ≡ Ok x → o ≡ Some x
found g None x e = absurd (cc)
found g (Some y) x e = cc

-- where there is no fault, its test does not hold
pub chosen_right : {A E : Type 0} (b : Bool) (g : E) (r : Result A E) (y : A) → cond b (Err g) r ≡ Ok y → r ≡ Ok y
chosen_right true g r y e = absurd (cc)
chosen_right false g r y e = e
