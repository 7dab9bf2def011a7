-- Lists as bytes: one item more, and how long they are.
use Rattle.std.proofs.Common.{◌≡◌, ℕ, ◌+◌, ◌*◌, ◌<◌, List, [], ◌∷◌, ◌++◌, flat_map, get_or, length, take, refl, ap, ◌∙◌, append-nil, arith}
use Rattle.std.proofs.lemmas.Grind.{flat_map-append}
use Rattle.std.proofs.lemmas.List.{length-append, take_more}
use Rattle.byteorder.specs.Endian.{little_bytes}
use Rattle.open_agents.specs.declared.items.OpenItem.{OpenItem}
use Rattle.protocol_services.specs.ListBytes.{entry_of, handle_bytes, item_bytes}

-- one item more
pub one_more : {X : Type 0} (f : X → List ℕ) (xs : List X) (k : ℕ) (d : X) → k < length xs → flat_map f (take (k + 1) xs) ≡ flat_map f (take k xs) ++ f (get_or xs k d)
one_more f xs k d low =
    ap (λ ys. flat_map f ys) (take_more xs k d low)
    ∙ flat_map-append f (take k xs) (get_or xs k d ∷ [])
    ∙ ap (λ (t : List ℕ). flat_map f (take k xs) ++ t) (append-nil (f (get_or xs k d)))

-- a list of handles takes 8 bytes for each, one of open items 24
pub handle_bytes-length : (handles : List ℕ) → length (handle_bytes handles) ≡ 8 * length handles
handle_bytes-length [] = refl
handle_bytes-length (n ∷ handles) =
    let eight : length (little_bytes 8 n) ≡ 8 = refl in
    omega (arith, length-append (little_bytes 8 n) (handle_bytes handles), eight, handle_bytes-length handles)

pub item_bytes-length : (items : List OpenItem) → length (item_bytes items) ≡ 24 * length items
item_bytes-length [] = refl
item_bytes-length (i ∷ items) =
    let entry : length (entry_of i) ≡ 24 = refl in
    omega (arith, length-append (entry_of i) (item_bytes items), entry, item_bytes-length items)
