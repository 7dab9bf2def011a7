-- What holds of results, one way or the other.
use Rattle.std.proofs.Common.{Result, Ok, Err, OnOk, OnErr}

-- what holds holds of an error
pub on_err : {T E : Type 0} (result : Result T E) (P : Type 0) → P → OnErr result P
on_err (Ok value) P p = tt
on_err (Err error) P p = p

pub when_ok : {T E : Type 0} (result : Result T E) (P Q : Type 0) → (P → Q) → OnOk result P → OnOk result Q
when_ok (Ok value) P Q f p = f p
when_ok (Err error) P Q f p = tt

pub either_way : {T E : Type 0} (result : Result T E) (P Q C : Type 0) → OnOk result P → OnErr result Q → (P → C) → (Q → C) → C
either_way (Ok value) P Q C p q f g = f p
either_way (Err error) P Q C p q f g = g q
