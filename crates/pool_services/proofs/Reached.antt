-- Small facts of the extents and their rooms that calls ask for.
use Rattle.std.proofs.Common.{◌≡◌, ℕ, zero, suc, ◌+◌, ◌<◌, List, [], ◌∷◌, drop, length, map, set, refl, sym, ap, ◌∙◌, arith, subst}
use Rattle.std.proofs.lemmas.List.{get_or-drop, length-drop, length-map}
use Rattle.pool_services.specs.declared.rooms.Room.{Room}
use Rattle.pool_services.specs.Extents.{Extent, AreExtents}
use Rattle.pool_services.specs.Searches.{IsAt}
use Rattle.pool_services.specs.Rooms.{AreBounded, IsRoomAt, room_of}

pub rooms-reach : (rs : List Room) (es : List Extent) (i : ℕ) → rs ≡ map room_of es → i < length es → i < length rs
rooms-reach rs es i e l = omega (arith, l, ap (λ (zs : List Room). length zs) e ∙ length-map es room_of)

same-extents : (es : List Extent) (i : ℕ) (x y : Extent) → IsAt es i x → y ≡ x → set es i y ≡ es
same-extents [] i x y h q = refl
same-extents (e ∷ es) zero x y h q = ap (λ (z : Extent). z ∷ es) (q ∙ h.1)
same-extents (e ∷ es) (suc i) x y h q = ap (λ (zs : List Extent). e ∷ zs) (same-extents es i x y (omega (arith, h.0), h.1) q)

pub same-rooms : (rs : List Room) (es : List Extent) (i : ℕ) (x y : Extent) → AreExtents es → rs ≡ map room_of es → IsAt es i x → y ≡ x → AreExtents (set es i y) × (rs ≡ map room_of (set es i y))
same-rooms rs es i x y a e h q =
    let s = same-extents es i x y h q in
    (subst AreExtents (sym s) a, e ∙ sym (ap (λ (zs : List Extent). map room_of zs) s))

pub moved : (new old es : List Extent) → new ≡ old → old ≡ es → new ≡ es
moved new old es e v = e ∙ v

-- rooms from an index on are bounded as all are
pub bounded-rest : (rs new : List Room) (bounds : List ℕ) (at : ℕ) → AreBounded rs bounds → new ≡ drop at rs → AreBounded new bounds
bounded-rest rs new bounds at b e i r h =
    let t : IsRoomAt (drop at rs) i r = subst (λ (zs : List Room). IsRoomAt zs i r) e h in
    b (at + i) r (omega (arith, t.0, length-drop at rs), t.1 ∙ get_or-drop at rs i r)
