-- The rooms of extents, through what the calls do to these.
use Rattle.std.proofs.Common.{◌≡◌, ℕ, zero, suc, ◌+◌, ◌-◌, ◌≤◌, add-one, max, Bool, true, false, cond, List, [], ◌∷◌, ◌++◌, length, map, take, drop, set, Option, Some, None, refl, sym, ap, ◌∙◌, arith, subst, nat_le}
use Rattle.std.specs.List.{AllByRecursion, insert}
use Rattle.std.specs.List.Sorted.{IsPartitionedBy}
use Rattle.std.proofs.lemmas.List.{drop-map, length-map, map-set, take-map}
use Rattle.raw_pool.specs.Bytes.{put}
use Rattle.raw_pool.specs.Blocks.{Block, cells_for, end_of, longest_run}
use Rattle.pool_services.specs.declared.rooms.Room.{Room}
use Rattle.pool_services.specs.Extents.{Extent, AreBlocks, AreExtents, address_of, cells_in, is_within, written_in}
use Rattle.pool_services.specs.Searches.{IsAt, IsFirstWithRoom, has_run, place, written_if}
use Rattle.pool_services.specs.Rooms.{HasLongestAt, IsFirstServing, IsRoomAt, NoneServes, room_of, serves}
use Rattle.pool_services.proofs.ExtentLists.{Falls, falls, partitioned}
use Rattle.pool_services.proofs.ExtentChanges.{same-at}

-- ---- how long a run is

from-within : (cells from : ℕ) (bs : List Block) → AreBlocks cells from bs → from ≤ cells
from-within cells from [] h = h
from-within cells from (b ∷ bs) h = omega (arith, h.0, from-within cells (end_of b) bs h.2)

pub longest-within : (cells from : ℕ) (bs : List Block) → AreBlocks cells from bs → longest_run cells from bs ≤ cells
longest-within cells from [] h = omega arith
longest-within cells from (b ∷ bs) h = omega (arith, longest-within cells (end_of b) bs h.2, from-within cells (end_of b) bs h.2)

longest-case : (w : Bool) (cells from : ℕ) (bytes : List ℕ) (b : Block) (bs ws : List Block) → longest_run cells (end_of b) ws ≡ longest_run cells (end_of b) bs →
    longest_run cells from (cond w (record { first = b.first; size = b.size; bytes = bytes } ∷ bs) (b ∷ ws)) ≡ longest_run cells from (b ∷ bs)
longest-case true cells from bytes b bs ws e = refl
longest-case false cells from bytes b bs ws e = ap (λ (n : ℕ). max (b.first - from) n) e

longest-written-in : (cells from first address : ℕ) (bytes : List ℕ) (bs : List Block) → longest_run cells from (written_in first address bytes bs) ≡ longest_run cells from bs
longest-written-in cells from first address bytes [] = refl
longest-written-in cells from first address bytes (b ∷ bs) =
    longest-case (is_within first address b) cells from (put b.bytes (address - address_of first b.first) bytes) b bs (written_in first address bytes bs) (longest-written-in cells (end_of b) first address bytes bs)

abbrev room : ℕ → ℕ → ℕ → Room
room f t n = record { first = f; mtype = t; longest = n }

pub room-written : (done : Bool) (address : ℕ) (bytes : List ℕ) (e : Extent) → room_of (written_if done address bytes e) ≡ room_of e
room-written true address bytes e = ap (λ (n : ℕ). room e.first e.mtype n) (longest-written-in (cells_in e.pages) 0 e.first address bytes e.blocks)
room-written false address bytes e = refl

-- ---- how many begin at or below a page

all-rooms : (P : Room → Type 0) (es : List Extent) → AllByRecursion (λ (e : Extent). P (room_of e)) es → AllByRecursion P (map room_of es)
all-rooms P [] a = tt
all-rooms P (e ∷ es) a = (a.0, all-rooms P es a.1)

rooms-fall : (p : Room → Bool) (es : List Extent) → Falls (λ (e : Extent). p (room_of e)) es → Falls p (map room_of es)
rooms-fall p [] f = tt
rooms-fall p (e ∷ es) f = ((λ n. all-rooms (λ (r : Room). p r ≡ false) es (f.0 n)), rooms-fall p es f.1)

pub rooms-in-order : (page : ℕ) (rs : List Room) (es : List Extent) → AreExtents es → rs ≡ map room_of es → Falls (λ (r : Room). nat_le r.first page) rs
rooms-in-order page rs es a e = subst (λ (zs : List Room). Falls (λ (r : Room). nat_le r.first page) zs) (sym e) (rooms-fall (λ (r : Room). nat_le r.first page) es (falls page es a))

pub rooms-parted : (page : ℕ) (rs : List Room) (es : List Extent) → AreExtents es → rs ≡ map room_of es → IsPartitionedBy (λ (r : Room). nat_le r.first page) rs
rooms-parted page rs es a e =
    subst (λ (zs : List Room). IsPartitionedBy (λ (r : Room). nat_le r.first page) zs) (sym e)
    (partitioned (λ (r : Room). nat_le r.first page) (map room_of es) (rooms-fall (λ (r : Room). nat_le r.first page) es (falls page es a)))

place-map : (p : Room → Bool) (es : List Extent) → place p (map room_of es) ≡ place (λ (e : Extent). p (room_of e)) es
place-map p [] = refl
place-map p (e ∷ es) = ap (λ (n : ℕ). cond (p (room_of e)) (suc n) 0) (place-map p es)

pub rooms-place : (page : ℕ) (rs : List Room) (es : List Extent) → rs ≡ map room_of es → place (λ (r : Room). nat_le r.first page) rs ≡ place (λ (e : Extent). nat_le e.first page) es
rooms-place page rs es e = ap (λ (zs : List Room). place (λ (r : Room). nat_le r.first page) zs) e ∙ place-map (λ (r : Room). nat_le r.first page) es

pub rooms-within : (rs : List Room) (es : List Extent) (n : ℕ) → rs ≡ map room_of es → n ≤ length rs → n ≤ length es
rooms-within rs es n e l = omega (arith, l, ap (λ (zs : List Room). length zs) e ∙ length-map es room_of)

-- ---- the first that serves

none-returned : (t cells : ℕ) (es : List Extent) (n : ℕ) → NoneServes t cells (map room_of es) n → AllByRecursion (λ (e : Extent). has_run t cells e ≡ false) (take n es)
none-returned t cells [] zero h = tt
none-returned t cells [] (suc n) h = tt
none-returned t cells (e ∷ es) zero h = tt
none-returned t cells (e ∷ es) (suc n) h = (
  h 0 (room_of e) (omega arith) (omega arith, refl),
  none-returned t cells es n (λ k q u r. h (suc k) q (omega (arith, u)) (omega (arith, r.0), r.1)),
)

all-returned : (t cells : ℕ) (es : List Extent) → NoneServes t cells (map room_of es) (length (map room_of es)) → AllByRecursion (λ (e : Extent). has_run t cells e ≡ false) es
all-returned t cells [] h = tt
all-returned t cells (e ∷ es) h = (
  h 0 (room_of e) (omega arith) (omega arith, refl),
  all-returned t cells es (λ k q u r. h (suc k) q (omega (arith, u)) (omega (arith, r.0), r.1)),
)

extent-at : (es : List Extent) (i : ℕ) (r : Room) → IsRoomAt (map room_of es) i r → (e : Extent) × IsAt es i e × (room_of e ≡ r)
extent-at [] i r h = absurd (omega (arith, h.0))
extent-at (e ∷ es) zero r h = (e, (omega arith, refl), sym h.1)
extent-at (e ∷ es) (suc i) r h = let (x, a, q) = extent-at es i r (omega (arith, h.0), h.1) in (x, (omega (arith, a.0), a.1), q)

returned : (t cells : ℕ) (es : List Extent) (o : Option ℕ) → IsFirstServing t cells (map room_of es) o → IsFirstWithRoom t cells es o
returned t cells es None h = all-returned t cells es h
returned t cells es (Some i) (r, a, s, n) =
    let (e, x, q) = extent-at es i r a in
    (e, x, ap (λ (z : Room). serves t cells z) q ∙ s, none-returned t cells es i n)

pub first-returned : (t size cells : ℕ) (o : Option ℕ) (rs : List Room) (es : List Extent) → rs ≡ map room_of es → cells ≡ cells_for size → IsFirstServing t cells rs o → IsFirstWithRoom t (cells_for size) es o
first-returned t size cells o rs es e c h =
    returned t (cells_for size) es o (subst (λ (zs : List Room). IsFirstServing t (cells_for size) zs o) e (subst (λ (k : ℕ). IsFirstServing t k rs o) c h))

-- ---- one changes, comes or goes

pub rooms-set : (rs new : List Room) (es : List Extent) (i : ℕ) (y : Extent) (r : Room) → rs ≡ map room_of es → r ≡ room_of y → new ≡ set rs i r → new ≡ map room_of (set es i y)
rooms-set rs new es i y r e q n =
    n ∙ ap (λ (z : Room). set rs i z) q ∙ ap (λ (zs : List Room). set zs i (room_of y)) e ∙ sym (map-set room_of es i y)

pub rooms-longest : (rs new : List Room) (es : List Extent) (i n : ℕ) (x y : Extent) → rs ≡ map room_of es → IsAt es i x → y.first ≡ x.first → y.mtype ≡ x.mtype → n ≡ (room_of y).longest → HasLongestAt i n rs new → new ≡ map room_of (set es i y)
rooms-longest rs new es i n x y e t f m q (r, h, w) =
    let (z, u, v) = extent-at es i r (subst (λ (zs : List Room). IsRoomAt zs i r) e h) in
    let same = same-at es i z x u t in
    let f' : r.first ≡ y.first = ap (λ (p : Room). p.first) (sym v) ∙ ap (λ (p : Extent). p.first) same ∙ sym f in
    let m' : r.mtype ≡ y.mtype = ap (λ (p : Room). p.mtype) (sym v) ∙ ap (λ (p : Extent). p.mtype) same ∙ sym m in
    rooms-set rs new es i y (room r.first r.mtype n) e (ap (λ (k : ℕ). room k r.mtype n) f' ∙ ap (λ (k : ℕ). room y.first k n) m' ∙ ap (λ (k : ℕ). room y.first y.mtype k) q) w

set-alike : (es : List Extent) (i : ℕ) (x y : Extent) → IsAt es i x → room_of y ≡ room_of x → map room_of (set es i y) ≡ map room_of es
set-alike [] i x y h q = refl
set-alike (e ∷ es) zero x y h q = ap (λ (r : Room). r ∷ map room_of es) (q ∙ ap room_of h.1)
set-alike (e ∷ es) (suc i) x y h q = ap (λ (rs : List Room). room_of e ∷ rs) (set-alike es i x y (omega (arith, h.0), h.1) q)

pub rooms-written : (rs : List Room) (es : List Extent) (i : ℕ) (x y : Extent) (done : Bool) (address : ℕ) (bytes : List ℕ) → rs ≡ map room_of es → IsAt es i x → y ≡ written_if done address bytes x → rs ≡ map room_of (set es i y)
rooms-written rs es i x y done address bytes e h w = e ∙ sym (set-alike es i x y h (ap room_of w ∙ room-written done address bytes x))

gone : (es : List Extent) (i : ℕ) → take i (map room_of es) ++ drop (suc i) (map room_of es) ≡ map room_of (take i es ++ drop (suc i) es)
gone [] zero = refl
gone [] (suc i) = refl
gone (e ∷ es) zero = refl
gone (e ∷ es) (suc i) = ap (λ (rs : List Room). room_of e ∷ rs) (gone es i)

pub rooms-gone : (rs new : List Room) (es left : List Extent) (i : ℕ) → rs ≡ map room_of es → new ≡ take i rs ++ drop (i + 1) rs → left ≡ take i es ++ drop (i + 1) es → new ≡ map room_of left
rooms-gone rs new es left i e n l =
    n ∙ ap (λ (zs : List Room). take i zs ++ drop (i + 1) zs) e ∙ ap (λ (k : ℕ). take i (map room_of es) ++ drop k (map room_of es)) (add-one i) ∙ gone es i
    ∙ ap (λ (ys : List Extent). map room_of ys) (sym (l ∙ ap (λ (k : ℕ). take i es ++ drop k es) (add-one i)))

inserted : (es : List Extent) (i : ℕ) (e : Extent) → insert (map room_of es) i (room_of e) ≡ map room_of (insert es i e)
inserted [] zero e = refl
inserted [] (suc i) e = refl
inserted (x ∷ xs) zero e = refl
inserted (x ∷ xs) (suc i) e = ap (λ (rs : List Room). room_of x ∷ rs) (inserted xs i e)

pub rooms-inserted : (rs new : List Room) (es more : List Extent) (i : ℕ) (e : Extent) (r : Room) → rs ≡ map room_of es → r ≡ room_of e → new ≡ insert rs i r → more ≡ insert es i e → new ≡ map room_of more
rooms-inserted rs new es more i e r q s n m =
    n ∙ ap (λ (z : Room). insert rs i z) s ∙ ap (λ (zs : List Room). insert zs i (room_of e)) q ∙ inserted es i e ∙ ap (λ (ys : List Extent). map room_of ys) (sym m)

pub rooms-front : (rs new : List Room) (es left : List Extent) (i : ℕ) → rs ≡ map room_of es → new ≡ take i rs → left ≡ take i es → new ≡ map room_of left
rooms-front rs new es left i e n l = n ∙ ap (take i) e ∙ take-map room_of i es ∙ ap (map room_of) (sym l)

pub rooms-rest : (rs new : List Room) (es left : List Extent) (i : ℕ) → rs ≡ map room_of es → new ≡ drop i rs → left ≡ drop i es → new ≡ map room_of left
rooms-rest rs new es left i e n l = n ∙ ap (drop i) e ∙ drop-map room_of i es ∙ ap (map room_of) (sym l)
