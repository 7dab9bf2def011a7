-- Extents in groups: what is so of one group is so of all extents, at an index among them.
use Rattle.std.proofs.Common.{◌≡◌, ℕ, zero, suc, ◌+◌, ◌-◌, ◌/◌, ◌<◌, ◌≤◌, nat_le, Bool, true, false, inl, inr, List, [], ◌∷◌, ◌++◌, length, map, take, drop, set, get_or, Option, Some, None, is_some, refl, sym, ap, ◌∙◌, arith, subst, add-one, le-leb}
use Rattle.std.specs.List.{AllByRecursion, find, insert}
use Rattle.std.specs.List.Sorted.{IsPartitionedBy, IsPartitionPoint}
use Rattle.std.proofs.lemmas.Bool.{cases_lt, cases_Bool, lt-leb, leb-false, leb-true}
use Rattle.std.proofs.lemmas.List.{append-nil, append_assoc, drop-append-le, get_or-append-add, get_or-map, get_or_append_left, length-append, length-map, set-append_left, set-append_right, take-append-drop, take-append-le}
use Rattle.std.proofs.Math.Seq.{drop-append-add, take-append-add}
use Rattle.std.proofs.lemmas.List.Concat.{flat_map-append}
use Rattle.page_ranges.proofs.Members.{all_append, all_append_left, all_append_right, all_implied}
use Rattle.pool_services.specs.Extents.{Extent, AreExtents, cells_in, with_extent}
use Rattle.pool_services.specs.Groups.{AreUsed, IsGroupOf, first_page, joined, rows_of, without_extent}
use Rattle.pool_services.specs.Listed.{blocks_of, is_from, listed}
use Rattle.pool_services.specs.Searches.{HoldsAddress, IsAt, IsHolder}
use Rattle.pool_services.specs.declared.extent_group.ExtentGroup.{ExtentGroup}
use Rattle.pool_services.specs.declared.listed.PoolBlock.{PoolBlock}
use Rattle.pool_services.proofs.ExtentLists.{Falls, partitioned}
use Rattle.pool_services.proofs.ListedBlocks.{find_behind, find_front, low_none}

-- the extents of the group at an index
abbrev pub row : List (List Extent) → ℕ → List Extent
row rows k = get_or rows k []

-- ---- a list of rows in three parts

pub joined-append : (xs ys : List (List Extent)) → joined (xs ++ ys) ≡ joined xs ++ joined ys
joined-append xs ys = flat_map-append (λ es. es) xs ys

pub parts : (rows : List (List Extent)) (k : ℕ) → k < length rows → joined rows ≡ joined (take k rows) ++ (row rows k ++ joined (drop (suc k) rows))
parts [] k l = absurd (omega (arith, l))
parts (r ∷ rs) zero l = refl
parts (r ∷ rs) (suc k) l = ap (λ es. r ++ es) (parts rs k (omega (arith, l))) ∙ sym (append_assoc r (joined (take k rs)) (row rs k ++ joined (drop (suc k) rs)))

pub set-parts : (rows : List (List Extent)) (k : ℕ) (y : List Extent) → k < length rows → joined (set rows k y) ≡ joined (take k rows) ++ (y ++ joined (drop (suc k) rows))
set-parts [] k y l = absurd (omega (arith, l))
set-parts (r ∷ rs) zero y l = refl
set-parts (r ∷ rs) (suc k) y l = ap (λ es. r ++ es) (set-parts rs k y (omega (arith, l))) ∙ sym (append_assoc r (joined (take k rs)) (y ++ joined (drop (suc k) rs)))

-- ---- one extent of a group among all

at-parts : (a g c : List Extent) (i : ℕ) (e : Extent) → IsAt g i e → IsAt (a ++ (g ++ c)) (length a + i) e
at-parts a g c i e h = (
  omega (arith, h.0, length-append a (g ++ c), length-append g c),
  h.1 ∙ sym (get_or-append-add a (g ++ c) i e ∙ get_or_append_left g c e i h.0),
)

pub at-all : (rows : List (List Extent)) (k i : ℕ) (e : Extent) → k < length rows → IsAt (row rows k) i e → IsAt (joined rows) (length (joined (take k rows)) + i) e
at-all rows k i e l h =
    subst (λ es. IsAt es (length (joined (take k rows)) + i) e) (sym (parts rows k l)) (at-parts (joined (take k rows)) (row rows k) (joined (drop (suc k) rows)) i e h)

set-in-parts : (a g c : List Extent) (i : ℕ) (y : Extent) → i < length g → set (a ++ (g ++ c)) (length a + i) y ≡ a ++ (set g i y ++ c)
set-in-parts a g c i y l =
    let n : length a + i - length a ≡ i = omega arith in
    set-append_right a (g ++ c) (length a) (length a + i) y refl (omega arith) ∙ ap (λ j. a ++ set (g ++ c) j y) n ∙ ap (λ es. a ++ es) (set-append_left g c i y l)

pub set-all : (rows : List (List Extent)) (k i : ℕ) (y : Extent) → k < length rows → i < length (row rows k) →
    joined (set rows k (set (row rows k) i y)) ≡ set (joined rows) (length (joined (take k rows)) + i) y
set-all rows k i y l h =
    let a = joined (take k rows) in let c = joined (drop (suc k) rows) in
    set-parts rows k (set (row rows k) i y) l ∙ sym (ap (λ es. set es (length a + i) y) (parts rows k l) ∙ set-in-parts a (row rows k) c i y h)

pub take-in-parts : (a g c : List Extent) (i : ℕ) → i ≤ length g → take (length a + i) (a ++ (g ++ c)) ≡ a ++ take i g
take-in-parts a g c i l = take-append-add a (g ++ c) i ∙ ap (λ es. a ++ es) (take-append-le i g c l)

gone-in-parts : (a g c : List Extent) (i : ℕ) → i < length g → without_extent (length a + i) (a ++ (g ++ c)) ≡ a ++ (without_extent i g ++ c)
gone-in-parts a g c i l =
    let n : length a + i + 1 ≡ length a + (i + 1) = omega arith in
    let front : take (length a + i) (a ++ (g ++ c)) ≡ a ++ take i g = take-in-parts a g c i (omega (arith, l)) in
    let back : drop (length a + i + 1) (a ++ (g ++ c)) ≡ drop (i + 1) g ++ c = ap (λ j. drop j (a ++ (g ++ c))) n ∙ drop-append-add a (g ++ c) (i + 1) ∙ drop-append-le (i + 1) g c (omega (arith, l)) in
    ap (λ es. es ++ drop (length a + i + 1) (a ++ (g ++ c))) front ∙ ap (λ es. (a ++ take i g) ++ es) back
    ∙ append_assoc a (take i g) (drop (i + 1) g ++ c) ∙ ap (λ es. a ++ es) (sym (append_assoc (take i g) (drop (i + 1) g) c))

pub gone-all : (rows : List (List Extent)) (k i : ℕ) → k < length rows → i < length (row rows k) →
    joined (set rows k (without_extent i (row rows k))) ≡ without_extent (length (joined (take k rows)) + i) (joined rows)
gone-all rows k i l h =
    let a = joined (take k rows) in let c = joined (drop (suc k) rows) in
    set-parts rows k (without_extent i (row rows k)) l ∙ sym (ap (λ es. without_extent (length a + i) es) (parts rows k l) ∙ gone-in-parts a (row rows k) c i h)

-- the rows up to one, and it
more-suc : (rows : List (List Extent)) (k : ℕ) → k < length rows → joined (take (suc k) rows) ≡ joined (take k rows) ++ row rows k
more-suc [] k l = absurd (omega (arith, l))
more-suc (r ∷ rs) zero l = append-nil r
more-suc (r ∷ rs) (suc k) l = ap (λ es. r ++ es) (more-suc rs k (omega (arith, l))) ∙ sym (append_assoc r (joined (take k rs)) (row rs k))

pub joined-more : (rows : List (List Extent)) (k : ℕ) → k < length rows → joined (take (k + 1) rows) ≡ joined (take k rows) ++ row rows k
joined-more rows k l = ap (λ j. joined (take j rows)) (add-one k) ∙ more-suc rows k l

pub all-rows : (rows : List (List Extent)) (k : ℕ) → length rows ≤ k → take k rows ≡ rows
all-rows [] zero l = refl
all-rows [] (suc k) l = refl
all-rows (r ∷ rs) zero l = absurd (omega (arith, l))
all-rows (r ∷ rs) (suc k) l = ap (λ xs. r ∷ xs) (all-rows rs k (omega (arith, l)))

pub set-row-same : (rows : List (List Extent)) (k : ℕ) → set rows k (row rows k) ≡ rows
set-row-same [] k = refl
set-row-same (r ∷ rs) zero = refl
set-row-same (r ∷ rs) (suc k) = ap (λ xs. r ∷ xs) (set-row-same rs k)

-- ---- extents that are apart

pub apart-right : (xs ys : List Extent) → AreExtents (xs ++ ys) → AreExtents ys
apart-right [] ys a = a
apart-right (x ∷ xs) ys a = apart-right xs ys a.2

pub apart-left : (xs ys : List Extent) → AreExtents (xs ++ ys) → AreExtents xs
apart-left [] ys a = tt
apart-left (x ∷ xs) ys a = (a.0, all_append_left (λ y. x.first + x.pages ≤ y.first) xs ys a.1, apart-left xs ys a.2)

pub apart-row : (rows : List (List Extent)) (k : ℕ) → k < length rows → AreExtents (joined rows) → AreExtents (row rows k)
apart-row rows k l a =
    apart-left (row rows k) (joined (drop (suc k) rows)) (apart-right (joined (take k rows)) (row rows k ++ joined (drop (suc k) rows)) (subst AreExtents (parts rows k l) a))

-- all extents before one end at or below its first page
pub ends-before : (xs : List Extent) (e : Extent) (ys : List Extent) → AreExtents (xs ++ e ∷ ys) → AllByRecursion (λ x. x.first + x.pages ≤ e.first) xs
ends-before [] e ys a = tt
ends-before (x ∷ xs) e ys a = ((all_append_right (λ y. x.first + x.pages ≤ y.first) xs (e ∷ ys) a.1).0, ends-before xs e ys a.2)

-- all extents from one on begin above a page below its first
pub begins-above : (page : ℕ) (e : Extent) (ys : List Extent) → AreExtents (e ∷ ys) → page < e.first → AllByRecursion (λ x. page < x.first) (e ∷ ys)
begins-above page e ys a l = (l, all_implied (λ x. e.first + e.pages ≤ x.first) (λ x. page < x.first) (λ x h. omega (arith, h, l)) ys a.1)

-- ---- the group of a page

all-drop : {X : Type 0} (P : X → Type 0) (xs : List X) → AllByRecursion P xs → AllByRecursion P (drop 1 xs)
all-drop P [] a = tt
all-drop P (x ∷ xs) a = a.1

all-at-row : (P : List Extent → Type 0) (rows : List (List Extent)) (k : ℕ) → k < length rows → AllByRecursion P rows → P (row rows k)
all-at-row P [] k l a = absurd (omega (arith, l))
all-at-row P (r ∷ rs) zero l a = a.0
all-at-row P (r ∷ rs) (suc k) l a = all-at-row P rs k (omega (arith, l)) a.1

pub used-at : (rows : List (List Extent)) (k : ℕ) → AreUsed rows → 0 < k → k < length rows → 0 < length (row rows k)
used-at [] k u h l = absurd (omega (arith, l))
used-at (r ∷ rs) zero u h l = absurd (omega (arith, h))
used-at (r ∷ rs) (suc k) u h l = all-at-row (λ es. 0 < length es) rs k (omega (arith, l)) u

-- the extents behind some of which the first begins above a page
later : (page : ℕ) (es rest : List Extent) → AreExtents (es ++ rest) → nat_le (first_page es) page ≡ false → AllByRecursion (λ x. page < x.first) rest
later page [] rest a n = let z : true ≡ false = rw (le-leb 0 page (omega arith)) at n in absurd cc
later page (e ∷ es) rest a n = all_append_right (λ x. page < x.first) (e ∷ es) rest (begins-above page e (es ++ rest) a (leb-false e.first page n))

begins-false : (page : ℕ) (es rest : List Extent) → AllByRecursion (λ x. page < x.first) (es ++ rest) → 0 < length es → nat_le (first_page es) page ≡ false
begins-false page [] rest a l = absurd (omega (arith, l))
begins-false page (e ∷ es) rest a l = lt-leb e.first page a.0

-- a group whose first extent begins at or below a page
abbrev pub is-begun : {A : Type 0} → ℕ → ExtentGroup A → Bool
is-begun page g = nat_le (first_page g.extents.items) page

rows-above : {A : Type 0} (page : ℕ) (gs : List (ExtentGroup A)) → AllByRecursion (λ x. page < x.first) (joined (rows_of gs)) → AllByRecursion (λ es. 0 < length es) (rows_of gs) → AllByRecursion (λ g. is-begun page g ≡ false) gs
rows-above page [] a u = tt
rows-above page (g ∷ gs) a u = (begins-false page g.extents.items (joined (rows_of gs)) a u.0, rows-above page gs (all_append_right (λ x. page < x.first) g.extents.items (joined (rows_of gs)) a) u.1)

groups-fall : {A : Type 0} (page : ℕ) (gs : List (ExtentGroup A)) → AreExtents (joined (rows_of gs)) → AreUsed (rows_of gs) → Falls (is-begun page) gs
groups-fall page [] a u = tt
groups-fall page (g ∷ gs) a u = (
  λ n. rows-above page gs (later page g.extents.items (joined (rows_of gs)) a n) u,
  groups-fall page gs (apart-right g.extents.items (joined (rows_of gs)) a) (all-drop (λ es. 0 < length es) (rows_of gs) u),
)

pub groups-parted : {A : Type 0} (page : ℕ) (gs : List (ExtentGroup A)) → AreExtents (joined (rows_of gs)) → AreUsed (rows_of gs) → IsPartitionedBy (is-begun page) gs
groups-parted page gs a u = partitioned (is-begun page) gs (groups-fall page gs a u)

-- the extents before a group that begins at or below a page
ended-below : (page : ℕ) (rows : List (List Extent)) (k : ℕ) (es : List Extent) → AreExtents (joined rows) → k < length rows → row rows k ≡ es → 0 < length es → first_page es ≤ page → AllByRecursion (λ x. x.first + x.pages ≤ page) (joined (take k rows))
ended-below page rows k [] a l e u f = absurd (omega (arith, u))
ended-below page rows k (x ∷ xs) a l e u f =
    let c = joined (drop (suc k) rows) in
    let w : AreExtents (joined (take k rows) ++ x ∷ (xs ++ c)) = subst AreExtents (parts rows k l ∙ ap (λ es. joined (take k rows) ++ (es ++ c)) e) a in
    all_implied (λ y. y.first + y.pages ≤ x.first) (λ y. y.first + y.pages ≤ page) (λ y h. omega (arith, h, f)) (joined (take k rows)) (ends-before (joined (take k rows)) x (xs ++ c) w)

joined-from : (rows : List (List Extent)) (k : ℕ) → k < length rows → joined (drop k rows) ≡ row rows k ++ joined (drop (suc k) rows)
joined-from [] k l = absurd (omega (arith, l))
joined-from (r ∷ rs) zero l = refl
joined-from (r ∷ rs) (suc k) l = joined-from rs k (omega (arith, l))

-- the extents from a group on that begins above a page
begun-above : (page : ℕ) (rows : List (List Extent)) (k : ℕ) (es : List Extent) → AreExtents (joined rows) → k < length rows → row rows k ≡ es → 0 < length es → page < first_page es → AllByRecursion (λ x. page < x.first) (joined (drop k rows))
begun-above page rows k [] a l e u f = absurd (omega (arith, u))
begun-above page rows k (x ∷ xs) a l e u f =
    let c = joined (drop (suc k) rows) in
    let w : AreExtents (x ∷ (xs ++ c)) = apart-right (joined (take k rows)) (x ∷ (xs ++ c)) (subst AreExtents (parts rows k l ∙ ap (λ es. joined (take k rows) ++ (es ++ c)) e) a) in
    subst (AllByRecursion (λ (y : Extent). page < y.first)) (sym (joined-from rows k l ∙ ap (λ es. es ++ c) e)) (begins-above page x (xs ++ c) w f)

pub row-of : {A : Type 0} (gs : List (ExtentGroup A)) (k : ℕ) (g : ExtentGroup A) → k < length gs → row (rows_of gs) k ≡ (get_or gs k g).extents.items
row-of {A = A} gs k g l = get_or-map (λ (x : ExtentGroup A). x.extents.items) gs k g [] l

pub nothing-behind : (rows : List (List Extent)) (k : ℕ) → length rows ≤ k → joined (drop k rows) ≡ []
nothing-behind [] zero l = refl
nothing-behind [] (suc k) l = refl
nothing-behind (r ∷ rs) zero l = absurd (omega (arith, l))
nothing-behind (r ∷ rs) (suc k) l = nothing-behind rs k (omega (arith, l))

some-group : {A : Type 0} (gs : List (ExtentGroup A)) (k : ℕ) → k < length gs → ExtentGroup A
some-group [] k l = absurd (omega (arith, l))
some-group (g ∷ gs) k l = g

pub up-to : {A : Type 0} (page n k : ℕ) (gs : List (ExtentGroup A)) → AreExtents (joined (rows_of gs)) → AreUsed (rows_of gs) → n ≤ length gs → k ≡ n - 1 →
    IsPartitionPoint (λ g. is-begun page g ≡ true) (λ g. is-begun page g ≡ false) gs n → IsGroupOf page (rows_of gs) k
up-to page n k gs a u l e h =
    let rows = rows_of gs in let long : length rows ≡ length gs = length-map gs (λ g. g.extents.items) in
    record {
      within = λ some. omega (arith, some, long, l, e);
      below = elim (cases_lt 1 n) [
        | inl many ↦
            let within : k < length gs = omega (arith, many, l, e) in let there : k < n = omega (arith, many, e) in let behind : 0 < k = omega (arith, many, e) in
            let g = some-group gs k within in let b : is-begun page (get_or gs k g) ≡ true = h.0 k g (omega arith) there in
            ended-below page rows k (get_or gs k g).extents.items a (omega (arith, within, long)) (row-of gs k g within)
            (subst (λ es. 0 < length es) (row-of gs k g within) (used-at rows k u behind (omega (arith, within, long)))) (leb-true (first_page (get_or gs k g).extents.items) page b)
        | inr few ↦ let none : k ≡ 0 = omega (arith, few, e) in subst (λ j. AllByRecursion (λ (x : Extent). x.first + x.pages ≤ page) (joined (take j rows))) (sym none) tt
      ];
      above = elim (cases_lt (suc k) (length gs)) [
        | inl within ↦
            let g = some-group gs (suc k) within in let b : is-begun page (get_or gs (suc k) g) ≡ false = h.1 (suc k) g (omega (arith, e)) within in
            begun-above page rows (suc k) (get_or gs (suc k) g).extents.items a (omega (arith, within, long)) (row-of gs (suc k) g within)
            (subst (λ es. 0 < length es) (row-of gs (suc k) g within) (used-at rows (suc k) u (omega arith) (omega (arith, within, long)))) (leb-false (first_page (get_or gs (suc k) g).extents.items) page b)
        | inr over ↦ subst (AllByRecursion (λ (x : Extent). page < x.first)) (sym (nothing-behind rows (suc k) (omega (arith, over, long)))) tt
      ];
    }

-- ---- the holder of an address

not-below : (address : ℕ) (es : List Extent) → AllByRecursion (λ e. e.first + e.pages ≤ (address - 8) / 4096) es → AllByRecursion (λ e. ¬ HoldsAddress e address) es
not-below address es a = all_implied (λ e. e.first + e.pages ≤ (address - 8) / 4096) (λ e. ¬ HoldsAddress e address) (λ e l u. omega (arith, l, u.0, u.1)) es a

not-above : (address : ℕ) (es : List Extent) → AllByRecursion (λ e. (address - 8) / 4096 < e.first) es → AllByRecursion (λ e. ¬ HoldsAddress e address) es
not-above address es a = all_implied (λ e. (address - 8) / 4096 < e.first) (λ e. ¬ HoldsAddress e address) (λ e l u. omega (arith, l, u.0)) es a

pub holder-none : (address k : ℕ) (rows : List (List Extent)) → IsGroupOf ((address - 8) / 4096) rows k → k < length rows → IsHolder (row rows k) address None → IsHolder (joined rows) address None
holder-none address k rows g l h =
    let a = joined (take k rows) in let c = joined (drop (suc k) rows) in
    subst (AllByRecursion (λ (e : Extent). ¬ HoldsAddress e address)) (sym (parts rows k l))
    (all_append (λ e. ¬ HoldsAddress e address) a (row rows k ++ c) (not-below address a g.below) (all_append (λ e. ¬ HoldsAddress e address) (row rows k) c h (not-above address c g.above)))

pub holder-some : (address k i : ℕ) (rows : List (List Extent)) → k < length rows → IsHolder (row rows k) address (Some i) → IsHolder (joined rows) address (Some (length (joined (take k rows)) + i))
holder-some address k i rows l (e, h, u) = (e, at-all rows k i e l h, u)

-- ---- blocks from an address on

blocks-append : (xs ys : List Extent) → blocks_of (xs ++ ys) ≡ blocks_of xs ++ blocks_of ys
blocks-append xs ys = flat_map-append (λ e. map (listed e) e.blocks) xs ys

none-before : (address : ℕ) (es : List Extent) → AreExtents es → AllByRecursion (λ e. e.first + e.pages ≤ address / 4096) es → find (is_from address) (blocks_of es) ≡ None
none-before address [] a b = refl
none-before address (e ∷ es) a b =
    find_behind (is_from address) (map (listed e) e.blocks) (blocks_of es) (low_none (cells_in e.pages) 0 address e e.blocks a.0.blocks (omega (arith, b.0)))
    ∙ none-before address es a.2 b.1

pub blocks-from : (address k : ℕ) (rows : List (List Extent)) → AreExtents (joined rows) → IsGroupOf (address / 4096) rows k → find (is_from address) (blocks_of (joined rows)) ≡ find (is_from address) (blocks_of (joined (drop k rows)))
blocks-from address k rows a g =
    let split : joined rows ≡ joined (take k rows) ++ joined (drop k rows) = sym (ap joined (take-append-drop k rows)) ∙ joined-append (take k rows) (drop k rows) in
    ap (λ es. find (is_from address) (blocks_of es)) split ∙ ap (find (is_from address)) (blocks-append (joined (take k rows)) (joined (drop k rows)))
    ∙ find_behind (is_from address) (blocks_of (joined (take k rows))) (blocks_of (joined (drop k rows))) (none-before address (joined (take k rows)) (apart-left (joined (take k rows)) (joined (drop k rows)) (subst AreExtents split a)) g.below)

abbrev blocks-here : ℕ → (k : ℕ) → List (List Extent) → Type 0
blocks-here address k rows = find (is_from address) (blocks_of (joined (drop k rows))) ≡ find (is_from address) (blocks_of (row rows k) ++ blocks_of (joined (drop (suc k) rows)))

split-here : (address k : ℕ) (rows : List (List Extent)) → k < length rows → blocks-here address k rows
split-here address k rows l =
    ap (λ es. find (is_from address) (blocks_of es)) (joined-from rows k l) ∙ ap (find (is_from address)) (blocks-append (row rows k) (joined (drop (suc k) rows)))

pub blocks-in-group : (address k : ℕ) (rows : List (List Extent)) (o : Option PoolBlock) → k < length rows → o ≡ find (is_from address) (blocks_of (row rows k)) → is_some o ≡ true → o ≡ find (is_from address) (blocks_of (joined (drop k rows)))
blocks-in-group address k rows None l e s = absurd cc
blocks-in-group address k rows (Some b) l e s = sym (split-here address k rows l ∙ find_front (is_from address) (blocks_of (row rows k)) (blocks_of (joined (drop (suc k) rows))) b (sym e))

pub blocks-behind : (address k : ℕ) (rows : List (List Extent)) (o : Option PoolBlock) → k < length rows → o ≡ find (is_from address) (blocks_of (row rows k)) → is_some o ≡ false →
    find (is_from address) (blocks_of (joined (drop k rows))) ≡ find (is_from address) (blocks_of (joined (drop (k + 1) rows)))
blocks-behind address k rows None l e s =
    split-here address k rows l ∙ find_behind (is_from address) (blocks_of (row rows k)) (blocks_of (joined (drop (suc k) rows))) (sym e)
    ∙ ap (λ j. find (is_from address) (blocks_of (joined (drop j rows)))) (sym (add-one k))
blocks-behind address k rows (Some b) l e s = absurd cc

-- ---- one extent more, and one less

after-lower : (e : Extent) (a es : List Extent) → AllByRecursion (λ x. x.first + x.pages ≤ e.first) a → with_extent e (a ++ es) ≡ a ++ with_extent e es
after-lower e [] es h = refl
after-lower e (x ∷ xs) es h = rw (le-leb x.first e.first (omega (arith, h.0))) (ap (λ ys. x ∷ ys) (after-lower e xs es h.1))

before-higher : (e : Extent) (g c : List Extent) → AllByRecursion (λ x. e.first < x.first) c → with_extent e (g ++ c) ≡ with_extent e g ++ c
before-higher e [] [] h = refl
before-higher e [] (x ∷ xs) h = rw (lt-leb x.first e.first h.0) refl
before-higher e (x ∷ xs) c h = elim (cases_Bool (nat_le x.first e.first)) [
  | inl t ↦ rw t (ap (λ ys. x ∷ ys) (before-higher e xs c h))
  | inr t ↦ rw t refl
]

pub some-more : (e : Extent) (es : List Extent) → 0 < length (with_extent e es)
some-more e [] = omega arith
some-more e (x ∷ xs) = elim (cases_Bool (nat_le x.first e.first)) [
  | inl t ↦ rw t (omega arith)
  | inr t ↦ rw t (omega arith)
]

pub more-all : (rows : List (List Extent)) (k : ℕ) (e : Extent) → k < length rows → IsGroupOf e.first rows k → joined (set rows k (with_extent e (row rows k))) ≡ with_extent e (joined rows)
more-all rows k e l g =
    let a = joined (take k rows) in let c = joined (drop (suc k) rows) in
    set-parts rows k (with_extent e (row rows k)) l ∙ ap (λ es. a ++ es) (sym (before-higher e (row rows k) c g.above)) ∙ sym (after-lower e a (row rows k ++ c) g.below) ∙ ap (with_extent e) (sym (parts rows k l))

all-set-rows : (P : List Extent → Type 0) (rows : List (List Extent)) (k : ℕ) (y : List Extent) → AllByRecursion P rows → P y → AllByRecursion P (set rows k y)
all-set-rows P [] k y a p = tt
all-set-rows P (r ∷ rs) zero y a p = (p, a.1)
all-set-rows P (r ∷ rs) (suc k) y a p = (a.0, all-set-rows P rs k y a.1 p)

pub used-set : (rows : List (List Extent)) (k : ℕ) (y : List Extent) → AreUsed rows → (0 < k → 0 < length y) → AreUsed (set rows k y)
used-set [] k y u h = tt
used-set (r ∷ rs) zero y u h = u
used-set (r ∷ rs) (suc k) y u h = all-set-rows (λ es. 0 < length es) rs k y u (h (omega arith))

pub used-same : (rows : List (List Extent)) (k : ℕ) (y : List Extent) → AreUsed rows → k < length rows → length y ≡ length (row rows k) → AreUsed (set rows k y)
used-same rows k y u l e = used-set rows k y u (λ h. omega (arith, e, used-at rows k u h l))

all-gone-rows : (P : List Extent → Type 0) (rows : List (List Extent)) (k : ℕ) → AllByRecursion P rows → AllByRecursion P (take k rows ++ drop (suc k) rows)
all-gone-rows P [] zero a = tt
all-gone-rows P [] (suc k) a = tt
all-gone-rows P (r ∷ rs) zero a = a.1
all-gone-rows P (r ∷ rs) (suc k) a = (a.0, all-gone-rows P rs k a.1)

-- a group that has no extent goes
pub used-gone : (rows : List (List Extent)) (k : ℕ) → AreUsed rows → 0 < k → AreUsed (take k rows ++ drop (suc k) rows)
used-gone [] zero u h = tt
used-gone [] (suc k) u h = tt
used-gone (r ∷ rs) zero u h = absurd (omega (arith, h))
used-gone (r ∷ rs) (suc k) u h = all-gone-rows (λ es. 0 < length es) rs k u

pub joined-gone : (rows : List (List Extent)) (k : ℕ) → k < length rows → joined (take k rows ++ drop (suc k) rows) ≡ joined (set rows k [])
joined-gone rows k l = joined-append (take k rows) (drop (suc k) rows) ∙ sym (set-parts rows k [] l)

-- ---- a group in two

pub joined-split : (rows : List (List Extent)) (k n : ℕ) → k < length rows → joined (insert (set rows k (take n (row rows k))) (suc k) (drop n (row rows k))) ≡ joined rows
joined-split [] k n l = absurd (omega (arith, l))
joined-split (r ∷ []) zero n l = sym (append_assoc (take n r) (drop n r) []) ∙ ap (λ es. es ++ []) (take-append-drop n r)
joined-split (r ∷ (s ∷ rs)) zero n l = sym (append_assoc (take n r) (drop n r) (joined (s ∷ rs))) ∙ ap (λ es. es ++ joined (s ∷ rs)) (take-append-drop n r)
joined-split (r ∷ rs) (suc k) n l = ap (λ es. r ++ es) (joined-split rs k n (omega (arith, l)))

all-more-rows : (P : List Extent → Type 0) (rows : List (List Extent)) (k : ℕ) (y : List Extent) → AllByRecursion P rows → P y → AllByRecursion P (insert rows k y)
all-more-rows P [] zero y a p = (p, tt)
all-more-rows P [] (suc k) y a p = (p, tt)
all-more-rows P (r ∷ rs) zero y a p = (p, a)
all-more-rows P (r ∷ rs) (suc k) y a p = (a.0, all-more-rows P rs k y a.1 p)

pub used-split : (rows : List (List Extent)) (k : ℕ) (y z : List Extent) → AreUsed rows → 0 < length y → 0 < length z → k < length rows → AreUsed (insert (set rows k y) (suc k) z)
used-split [] k y z u a b l = absurd (omega (arith, l))
used-split (r ∷ rs) zero y z u a b l = all-more-rows (λ es. 0 < length es) rs 0 z u b
used-split (r ∷ rs) (suc k) y z u a b l = all-more-rows (λ es. 0 < length es) (set rs k y) (suc k) z (all-set-rows (λ es. 0 < length es) rs k y u a) b
