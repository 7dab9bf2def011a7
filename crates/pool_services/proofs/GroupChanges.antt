-- What changes in a group, as a change of all extents.
use Rattle.std.proofs.Common.{◌≡◌, ℕ, zero, suc, ◌+◌, ◌/◌, ◌<◌, ◌≤◌, Bool, false, List, [], ◌∷◌, ◌++◌, length, take, drop, set, get_or, Option, Some, None, refl, sym, ap, ◌∙◌, add-one, arith, subst}
use Rattle.std.specs.List.{AllByRecursion, insert}
use Rattle.std.proofs.lemmas.Grind.{get_or-set_at}
use Rattle.std.proofs.lemmas.List.{drop-map, drop-set-lt, get_or-append-add, get_or_append_left, length-drop, length-map, length-set, length-take, map-append, map-set, take-map, take-set}
use Rattle.raw_pool.specs.Blocks.{without_block}
use Rattle.pool_services.specs.Extents.{Extent, AreExtents, with_blocks, with_extent}
use Rattle.pool_services.specs.Groups.{AreApart, AreUsed, HasPlace, HasPlaceAt, IsGroupOf, joined, rows_of, without_extent}
use Rattle.pool_services.specs.Regions.{with_block_at}
use Rattle.pool_services.specs.Searches.{HoldsAddress, IsAt, IsFirstWithRoom, IsFreedAt, IsGivenIn, IsHolder, IsTakenAt, IsWrittenAt, IsWrittenIn, has_run, written_if}
use Rattle.pool_services.specs.Spots.{IsFreedFrom, IsHolderIn, index_of}
use Rattle.pool_services.specs.declared.extent_group.ExtentGroup.{ExtentGroup}
use Rattle.pool_services.specs.declared.extent_groups.Spot.{Spot}
use Rattle.pool_services.specs.declared.extents.Freed.{Freed}
use Rattle.pool_services.specs.declared.extents.Freed.TheVariants.{Back, Last, NoBlock}
use Rattle.pool_services.proofs.ExtentChanges.{are-returned, are-taken, cell-block, found-none, found-some, given-returned, held-at, written-returned}
use Rattle.pool_services.proofs.ExtentLists.{set-same}
use Rattle.page_ranges.proofs.Members.{all_append}
use Rattle.pool_services.proofs.GroupLists.{all-rows, apart-row, at-all, gone-all, joined-gone, joined-more, joined-split, more-all, parts, row, row-of, set-all, set-parts, set-row-same, take-in-parts, used-gone, used-same, used-set, used-split}

-- ---- the group at an index

pub group-row : {A : Type 0} (gs : List (ExtentGroup A)) (k : ℕ) (g : ExtentGroup A) → k < length gs → g ≡ get_or gs k g → row (rows_of gs) k ≡ g.extents.items
group-row {A = A} gs k g l e = row-of gs k g l ∙ sym (ap (λ (x : ExtentGroup A). x.extents.items) e)

pub count-rows : {A : Type 0} (gs : List (ExtentGroup A)) → length (rows_of gs) ≡ length gs
count-rows gs = length-map gs (λ g. g.extents.items)

pub in-groups : {A : Type 0} (gs : List (ExtentGroup A)) (k : ℕ) → k < length (rows_of gs) → k < length gs
in-groups gs k l = omega (arith, l, count-rows gs)

pub in-rows : {A : Type 0} (gs : List (ExtentGroup A)) (k n : ℕ) → n ≡ length gs → k < n → k < length (rows_of gs)
in-rows gs k n e l = omega (arith, l, e, count-rows gs)

pub order-at : {A : Type 0} (gs : List (ExtentGroup A)) (k : ℕ) (g : ExtentGroup A) → AreExtents (joined (rows_of gs)) → k < length gs → g ≡ get_or gs k g → AreExtents g.extents.items
order-at gs k g a l e = subst AreExtents (group-row gs k g l e) (apart-row (rows_of gs) k (omega (arith, l, count-rows gs)) a)

pub rows-set : {A : Type 0} (gs : List (ExtentGroup A)) (k : ℕ) (y : ExtentGroup A) → rows_of (set gs k y) ≡ set (rows_of gs) k y.extents.items
rows-set gs k y = map-set (λ g. g.extents.items) gs k y

-- an extent at a spot is that of its group
pub at-group : (rows : List (List Extent)) (k i : ℕ) (e : Extent) → k < length rows → i < length (row rows k) → IsAt (joined rows) (length (joined (take k rows)) + i) e → IsAt (row rows k) i e
at-group rows k i e l h t =
    let a = joined (take k rows) in let c = joined (drop (suc k) rows) in let g = row rows k in
    (h, t.1 ∙ ap (λ es. get_or es (length a + i) e) (parts rows k l) ∙ get_or-append-add a (g ++ c) i e ∙ get_or_append_left g c e i h)

-- ---- one extent changes

same-row : (rows : List (List Extent)) (k : ℕ) (new : List Extent) → k < length rows → new ≡ row rows k → joined (set rows k new) ≡ joined rows
same-row rows k new l e = set-parts rows k new l ∙ ap (λ es. joined (take k rows) ++ (es ++ joined (drop (suc k) rows))) e ∙ sym (parts rows k l)

changed : (rows : List (List Extent)) (k i : ℕ) (y : Extent) (new : List Extent) → k < length rows → i < length (row rows k) → new ≡ set (row rows k) i y → joined (set rows k new) ≡ set (joined rows) (length (joined (take k rows)) + i) y
changed rows k i y new l h e = ap (λ es. joined (set rows k es)) e ∙ set-all rows k i y l h

pub taken-all : (rows : List (List Extent)) (k i size : ℕ) (result : Option ℕ) (new : List Extent) → k < length rows → i < length (row rows k) → IsTakenAt i size (row rows k) result new →
    IsTakenAt (length (joined (take k rows)) + i) size (joined rows) result (joined (set rows k new))
taken-all rows k i size None new l h (n, f) = (same-row rows k new l n, λ e t. f e (at-group rows k i e l h t))
taken-all rows k i size (Some address) new l h (e, c, t, f, a, n) = (e, c, at-all rows k i e l t, f, a, changed rows k i (with_block_at c size e) new l h n)

pub taken-length : (g new : List Extent) (i size : ℕ) (result : Option ℕ) → IsTakenAt i size g result new → length new ≡ length g
taken-length g new i size None (n, f) = ap (λ es. length es) n
taken-length g new i size (Some address) (e, c, t, f, a, n) = ap (λ es. length es) n ∙ length-set g i (with_block_at c size e)

pub freed-all : (rows : List (List Extent)) (k i address : ℕ) (freed : Freed) (new : List Extent) → k < length rows → i < length (row rows k) → IsFreedAt i address (row rows k) freed new →
    IsFreedAt (length (joined (take k rows)) + i) address (joined rows) freed (joined (set rows k new))
freed-all rows k i address freed new l h (e, y, t, f, n) = (e, y, at-all rows k i e l t, f, changed rows k i y new l h n)

pub written-all : (rows : List (List Extent)) (k i address : ℕ) (bytes : List ℕ) (done : Bool) (new : List Extent) → k < length rows → i < length (row rows k) → IsWrittenAt i address bytes (row rows k) done new →
    IsWrittenAt (length (joined (take k rows)) + i) address bytes (joined rows) done (joined (set rows k new))
written-all rows k i address bytes done new l h (e, t, r, n) = (e, at-all rows k i e l t, r, changed rows k i (written_if done address bytes e) new l h n)

-- ---- what is so of all extents then

pub taken-apart : (es new : List Extent) (i size : ℕ) (result : Option ℕ) → AreExtents es → IsTakenAt i size es result new → AreExtents new
taken-apart es new i size None a (n, f) = subst AreExtents (sym n) a
taken-apart es new i size (Some address) a (e, c, t, f, d, n) = subst AreExtents (sym n) (are-taken es i size c e (with_block_at c size e) a t refl f)

pub freed-length : (g new : List Extent) (i address : ℕ) (freed : Freed) → IsFreedAt i address g freed new → length new ≡ length g
freed-length g new i address freed (e, y, t, f, n) = ap (λ es. length es) n ∙ length-set g i y

held : (address i : ℕ) (es : List Extent) (e : Extent) → IsHolder es address (Some i) → IsAt es i e → HoldsAddress e address
held address i es e h t = (held-at address es i e h t.1).1

stays : (rows : List (List Extent)) (k i : ℕ) (e y : Extent) (new : List Extent) → IsAt (row rows k) i e → y ≡ e → new ≡ set (row rows k) i y → set rows k new ≡ rows
stays rows k i e y new t q n = ap (λ es. set rows k es) (n ∙ ap (λ (z : Extent). set (row rows k) i z) q ∙ set-same (row rows k) i e t) ∙ set-row-same rows k

pub freed-from : (rows : List (List Extent)) (s : Spot) (address : ℕ) (freed : Freed) (new : List Extent) → AreExtents (joined rows) → IsHolderIn address rows (Some s) → IsFreedAt s.at address (row rows s.group) freed new →
    IsFreedFrom s address rows freed (set rows s.group new)
freed-from rows s address NoBlock new a h (e, y, t, (f, q), n) =
    let u = at-all rows s.group s.at e h.0.0 t in
    (found-none address (joined rows) (index_of rows s) e a u (held address (index_of rows s) (joined rows) e h.1 u) f, stays rows s.group s.at e y new t q n)
freed-from rows s address Back new a h (e, y, t, (c, f, m, q), n) =
    let es = joined rows in let i = index_of rows s in let u = at-all rows s.group s.at e h.0.0 t in
    let b : set es i (with_blocks (without_block c e.blocks) e) ≡ joined (set rows s.group new) = sym (changed rows s.group s.at y new h.0.0 h.0.1 n ∙ ap (λ (z : Extent). set es i z) q) in
    (c, found-some address es i c e a u (held address i es e h.1 u) f, subst (IsGivenIn i c es) b (given-returned es i c e a u (cell-block e.first address c e.blocks f) m))
freed-from rows s address (Last c) new a h (e, y, t, (f, m, q), n) =
    let es = joined rows in let i = index_of rows s in let u = at-all rows s.group s.at e h.0.0 t in
    (found-some address es i c e a u (held address i es e h.1 u) f, (e, u, m), stays rows s.group s.at e y new t q n)

pub written-in : (es new : List Extent) (i address : ℕ) (bytes : List ℕ) (done : Bool) → AreExtents es → IsHolder es address (Some i) → IsWrittenAt i address bytes es done new → IsWrittenIn address bytes es done new
written-in es new i address bytes done a h (e, t, r, n) = subst (IsWrittenIn address bytes es done) (sym n) (written-returned address bytes es i e (written_if done address bytes e) done a h t.1 r refl)

pub written-apart : (es new : List Extent) (i address : ℕ) (bytes : List ℕ) (done : Bool) → AreExtents es → IsHolder es address (Some i) → IsWrittenAt i address bytes es done new → AreExtents new
written-apart es new i address bytes done a h (e, t, r, n) = subst AreExtents (sym n) (are-returned address bytes es i e (written_if done address bytes e) done a h t.1 r refl)

pub written-length : (g new : List Extent) (i address : ℕ) (bytes : List ℕ) (done : Bool) → IsWrittenAt i address bytes g done new → length new ≡ length g
written-length g new i address bytes done (e, t, r, n) = ap (λ es. length es) n ∙ length-set g i (written_if done address bytes e)

-- ---- a group in the place of another

module _ {A : Type 0} (gs : List (ExtentGroup A)) (k : ℕ) (g new : ExtentGroup A) (l : k < length gs) (e : g ≡ get_or gs k g) where
  within : k < length (rows_of gs)
  within = omega (arith, l, count-rows gs)

  joined-set : joined (set (rows_of gs) k new.extents.items) ≡ joined (rows_of (set gs k new))
  joined-set = sym (ap joined (rows-set gs k new))

  pub spot-in : (i : ℕ) → i < length g.extents.items → i < length (row (rows_of gs) k)
  spot-in i h = subst (λ es. i < length es) (sym (group-row gs k g l e)) h

  pub in-spot : (i : ℕ) → i < length (row (rows_of gs) k) → i < length g.extents.items
  in-spot i h = subst (λ es. i < length es) (group-row gs k g l e) h

  pub at-all-groups : (i : ℕ) (x : Extent) → IsAt g.extents.items i x → IsAt (joined (rows_of gs)) (length (joined (take k (rows_of gs))) + i) x
  at-all-groups i x h = at-all (rows_of gs) k i x within (subst (λ es. IsAt es i x) (sym (group-row gs k g l e)) h)

  pub taken-groups : (i size : ℕ) (result : Option ℕ) → i < length g.extents.items → IsTakenAt i size g.extents.items result new.extents.items →
      IsTakenAt (length (joined (take k (rows_of gs))) + i) size (joined (rows_of gs)) result (joined (rows_of (set gs k new)))
  taken-groups i size result h t =
      subst (IsTakenAt (length (joined (take k (rows_of gs))) + i) size (joined (rows_of gs)) result) joined-set
      (taken-all (rows_of gs) k i size result new.extents.items within (spot-in i h) (subst (λ es. IsTakenAt i size es result new.extents.items) (sym (group-row gs k g l e)) t))

  pub freed-groups : (i address : ℕ) (freed : Freed) → i < length g.extents.items → IsFreedAt i address g.extents.items freed new.extents.items →
      IsFreedAt (length (joined (take k (rows_of gs))) + i) address (joined (rows_of gs)) freed (joined (rows_of (set gs k new)))
  freed-groups i address freed h t =
      subst (IsFreedAt (length (joined (take k (rows_of gs))) + i) address (joined (rows_of gs)) freed) joined-set
      (freed-all (rows_of gs) k i address freed new.extents.items within (spot-in i h) (subst (λ es. IsFreedAt i address es freed new.extents.items) (sym (group-row gs k g l e)) t))

  pub written-groups : (i address : ℕ) (bytes : List ℕ) (done : Bool) → i < length g.extents.items → IsWrittenAt i address bytes g.extents.items done new.extents.items →
      IsWrittenAt (length (joined (take k (rows_of gs))) + i) address bytes (joined (rows_of gs)) done (joined (rows_of (set gs k new)))
  written-groups i address bytes done h t =
      subst (IsWrittenAt (length (joined (take k (rows_of gs))) + i) address bytes (joined (rows_of gs)) done) joined-set
      (written-all (rows_of gs) k i address bytes done new.extents.items within (spot-in i h) (subst (λ es. IsWrittenAt i address bytes es done new.extents.items) (sym (group-row gs k g l e)) t))

  pub gone-groups : (i : ℕ) → i < length g.extents.items → new.extents.items ≡ without_extent i g.extents.items →
      joined (rows_of (set gs k new)) ≡ without_extent (length (joined (take k (rows_of gs))) + i) (joined (rows_of gs))
  gone-groups i h n =
      sym joined-set ∙ ap (λ es. joined (set (rows_of gs) k es)) (n ∙ ap (λ es. without_extent i es) (sym (group-row gs k g l e))) ∙ gone-all (rows_of gs) k i within (spot-in i h)

  pub more-groups : (x : Extent) → IsGroupOf x.first (rows_of gs) k → new.extents.items ≡ with_extent x g.extents.items → joined (rows_of (set gs k new)) ≡ with_extent x (joined (rows_of gs))
  more-groups x t n = sym joined-set ∙ ap (λ es. joined (set (rows_of gs) k es)) (n ∙ ap (with_extent x) (sym (group-row gs k g l e))) ∙ more-all (rows_of gs) k x within t

  pub used-groups : AreUsed (rows_of gs) → length new.extents.items ≡ length g.extents.items → AreUsed (rows_of (set gs k new))
  used-groups u n =
      subst AreUsed (sym (rows-set gs k new)) (used-same (rows_of gs) k new.extents.items u within (n ∙ ap (λ es. length es) (sym (group-row gs k g l e))))

  pub used-some : AreUsed (rows_of gs) → (0 < k → 0 < length new.extents.items) → AreUsed (rows_of (set gs k new))
  used-some u n = subst AreUsed (sym (rows-set gs k new)) (used-set (rows_of gs) k new.extents.items u n)

  pub same-groups : new.extents.items ≡ g.extents.items → rows_of (set gs k new) ≡ rows_of gs
  same-groups n = rows-set gs k new ∙ ap (λ es. set (rows_of gs) k es) (n ∙ sym (group-row gs k g l e)) ∙ set-row-same (rows_of gs) k

pub freed-spot : {A : Type 0} (gs : List (ExtentGroup A)) (s : Spot) (g new : ExtentGroup A) (address : ℕ) (freed : Freed) → AreExtents (joined (rows_of gs)) → IsHolderIn address (rows_of gs) (Some s) → g ≡ get_or gs s.group g →
    IsFreedAt s.at address g.extents.items freed new.extents.items → IsFreedFrom s address (rows_of gs) freed (rows_of (set gs s.group new))
freed-spot gs s g new address freed a h e f =
    subst (IsFreedFrom s address (rows_of gs) freed) (sym (rows-set gs s.group new))
    (freed-from (rows_of gs) s address freed new.extents.items a h (subst (λ es. IsFreedAt s.at address es freed new.extents.items) (sym (group-row gs s.group g (in-groups gs s.group h.0.0) e)) f))

rows-insert : {A : Type 0} (gs : List (ExtentGroup A)) (k : ℕ) (y : ExtentGroup A) → rows_of (insert gs k y) ≡ insert (rows_of gs) k y.extents.items
rows-insert [] zero y = refl
rows-insert [] (suc k) y = refl
rows-insert (g ∷ gs) zero y = refl
rows-insert (g ∷ gs) (suc k) y = ap (λ xs. g.extents.items ∷ xs) (rows-insert gs k y)

-- a group in two
pub split-rows : {A : Type 0} (gs : List (ExtentGroup A)) (k n : ℕ) (g lower upper : ExtentGroup A) → k < length gs → g ≡ get_or gs k g → lower.extents.items ≡ take n g.extents.items → upper.extents.items ≡ drop n g.extents.items →
    rows_of (insert (set gs k lower) (k + 1) upper) ≡ insert (set (rows_of gs) k (take n (row (rows_of gs) k))) (suc k) (drop n (row (rows_of gs) k))
split-rows gs k n g lower upper l e a b =
    let r = group-row gs k g l e in
    ap (λ j. rows_of (insert (set gs k lower) j upper)) (add-one k) ∙ rows-insert (set gs k lower) (suc k) upper ∙ ap (λ xs. insert xs (suc k) upper.extents.items) (rows-set gs k lower)
    ∙ ap (λ es. insert (set (rows_of gs) k es) (suc k) upper.extents.items) (a ∙ ap (λ es. take n es) (sym r)) ∙ ap (λ es. insert (set (rows_of gs) k (take n (row (rows_of gs) k))) (suc k) es) (b ∙ ap (λ es. drop n es) (sym r))

pub holder-in : (rows : List (List Extent)) (k i address : ℕ) → k < length rows → i < length (row rows k) → IsHolder (joined rows) address (Some (length (joined (take k rows)) + i)) → IsHolder (row rows k) address (Some i)
holder-in rows k i address l h (e, t, u) = (e, at-group rows k i e l h t, u)

-- ---- the first that has room

pub first-in : (t cells k i : ℕ) (rows : List (List Extent)) → k < length rows → AllByRecursion (λ e. has_run t cells e ≡ false) (joined (take k rows)) → IsFirstWithRoom t cells (row rows k) (Some i) →
    IsFirstWithRoom t cells (joined rows) (Some (length (joined (take k rows)) + i))
first-in t cells k i rows l none (e, h, r, b) =
    let a = joined (take k rows) in let c = joined (drop (suc k) rows) in
    let front : take (length a + i) (joined rows) ≡ a ++ take i (row rows k) = ap (take (length a + i)) (parts rows k l) ∙ take-in-parts a (row rows k) c i (omega (arith, h.0)) in
    (e, at-all rows k i e l h, r, subst (AllByRecursion (λ (x : Extent). has_run t cells x ≡ false)) (sym front) (all_append (λ x. has_run t cells x ≡ false) a (take i (row rows k)) none b))

-- ---- a group is split, or the first one made

pub same-split : {A : Type 0} (old gs : List (ExtentGroup A)) (k : ℕ) (g new : ExtentGroup A) → k < length old → gs ≡ old → g ≡ get_or gs k g → new.extents.items ≡ g.extents.items → rows_of (set gs k new) ≡ rows_of old
same-split old gs k g new l n e s = same-groups gs k g new (omega (arith, l, ap (λ xs. length xs) n)) e s ∙ ap rows_of n

split-at : {A : Type 0} (old gs new : List (ExtentGroup A)) (k n : ℕ) (g lower upper : ExtentGroup A) → k < length old → gs ≡ old → g ≡ get_or gs k g → lower.extents.items ≡ take n g.extents.items → upper.extents.items ≡ drop n g.extents.items →
    new ≡ insert (set gs k lower) (k + 1) upper → rows_of new ≡ insert (set (rows_of old) k (take n (row (rows_of old) k))) (suc k) (drop n (row (rows_of old) k))
split-at old gs new k n g lower upper l s e a b i =
    ap rows_of i ∙ split-rows gs k n g lower upper (omega (arith, l, ap (λ xs. length xs) s)) e a b ∙ ap (λ xs. insert (set (rows_of xs) k (take n (row (rows_of xs) k))) (suc k) (drop n (row (rows_of xs) k))) s

pub split-extents : {A : Type 0} (old gs new : List (ExtentGroup A)) (k n : ℕ) (g lower upper : ExtentGroup A) → k < length old → gs ≡ old → g ≡ get_or gs k g → lower.extents.items ≡ take n g.extents.items → upper.extents.items ≡ drop n g.extents.items →
    new ≡ insert (set gs k lower) (k + 1) upper → joined (rows_of new) ≡ joined (rows_of old)
split-extents old gs new k n g lower upper l s e a b i =
    ap joined (split-at old gs new k n g lower upper l s e a b i) ∙ joined-split (rows_of old) k n (omega (arith, l, count-rows old))

halves : (n m : ℕ) → 2 ≤ n → m ≡ n / 2 → (0 < m) × (m < n)
halves n m h e = (omega (arith, h, e), omega (arith, h, e))

pub split-apart : {A : Type 0} (old gs new : List (ExtentGroup A)) (k n : ℕ) (g lower upper : ExtentGroup A) → k < length old → gs ≡ old → g ≡ get_or gs k g → lower.extents.items ≡ take n g.extents.items → upper.extents.items ≡ drop n g.extents.items →
    new ≡ insert (set gs k lower) (k + 1) upper → AreApart old → 2 ≤ length (row (rows_of old) k) → n ≡ length (row (rows_of old) k) / 2 → AreApart new
split-apart old gs new k n g lower upper l s e a b i p m h =
    let q = split-at old gs new k n g lower upper l s e a b i in let w = halves (length (row (rows_of old) k)) n m h in let r = row (rows_of old) k in (
      subst AreExtents (sym (split-extents old gs new k n g lower upper l s e a b i)) p.0,
      subst AreUsed (sym q) (used-split (rows_of old) k (take n r) (drop n r) p.1 (omega (arith, w.0, w.1, length-take n r)) (omega (arith, w.1, length-drop n r)) (omega (arith, l, count-rows old))),
    )

none-of : {A : Type 0} (gs : List (ExtentGroup A)) → length gs ≡ 0 → gs ≡ []
none-of [] e = refl
none-of (g ∷ gs) e = absurd (omega (arith, e))

pub begun-extents : {A : Type 0} (old new : List (ExtentGroup A)) (g : ExtentGroup A) → length old ≡ 0 → new ≡ old ++ g ∷ [] → g.extents.items ≡ [] → joined (rows_of new) ≡ joined (rows_of old)
begun-extents old new g z n e = ap (λ xs. joined (rows_of xs)) (n ∙ ap (λ xs. xs ++ g ∷ []) (none-of old z)) ∙ ap (λ es. es ++ []) e ∙ sym (ap (λ xs. joined (rows_of xs)) (none-of old z))

pub begun-apart : {A : Type 0} (old new : List (ExtentGroup A)) (g : ExtentGroup A) → length old ≡ 0 → new ≡ old ++ g ∷ [] → g.extents.items ≡ [] → AreApart new
begun-apart old new g z n e =
    let one : new ≡ g ∷ [] = n ∙ ap (λ xs. xs ++ g ∷ []) (none-of old z) in (
      subst AreExtents (sym (begun-extents old new g z n e ∙ ap (λ xs. joined (rows_of xs)) (none-of old z))) tt,
      subst (λ xs. AreUsed (rows_of xs)) (sym one) tt,
    )

pub half-of : {A : Type 0} (old gs : List (ExtentGroup A)) (k n : ℕ) (g : ExtentGroup A) → k < length old → gs ≡ old → g ≡ get_or gs k g → n ≡ length g.extents.items → n / 2 ≡ length (row (rows_of old) k) / 2
half-of old gs k n g l s e c =
    ap (λ m. m / 2) (c ∙ sym (ap (λ es. length es) (group-row gs k g (omega (arith, l, ap (λ xs. length xs) s)) e)) ∙ ap (λ xs. length (row (rows_of xs) k)) s)

pub place-at : {A : Type 0} (gs : List (ExtentGroup A)) (k : ℕ) (new : ExtentGroup A) → k < length gs → HasPlace new → HasPlaceAt (set gs k new) k
place-at gs k new l p = (
  omega (arith, l, length-set gs k new),
  λ g e. subst HasPlace (sym (e ∙ get_or-set_at gs k k new g refl l)) p,
)

pub same-apart : {A : Type 0} (old new : List (ExtentGroup A)) → rows_of new ≡ rows_of old → AreApart old → AreApart new
same-apart old new s a = (subst (λ rows. AreExtents (joined rows)) (sym s) a.0, subst AreUsed (sym s) a.1)

-- ---- an extent is taken out

no-items : (es : List Extent) → length es ≡ 0 → es ≡ []
no-items [] e = refl
no-items (x ∷ xs) e = absurd (omega (arith, e))

rows-gone : {A : Type 0} (gs new : List (ExtentGroup A)) (k : ℕ) (g : ExtentGroup A) → new ≡ take k (set gs k g) ++ drop (k + 1) (set gs k g) → rows_of new ≡ take k (rows_of gs) ++ drop (suc k) (rows_of gs)
rows-gone {A = A} gs new k g n =
    let f : ExtentGroup A → List Extent = λ x. x.extents.items in
    ap rows_of (n ∙ ap (λ xs. xs ++ drop (k + 1) (set gs k g)) (take-set gs k g) ∙ ap (λ xs. take k gs ++ xs) (drop-set-lt (k + 1) gs k g (omega arith)) ∙ ap (λ j. take k gs ++ drop j gs) (add-one k))
    ∙ map-append f (take k gs) (drop (suc k) gs) ∙ ap (λ rows. rows ++ rows_of (drop (suc k) gs)) (sym (take-map f k gs)) ∙ ap (λ rows. take k (rows_of gs) ++ rows) (sym (drop-map f (suc k) gs))

pub bare-gone : {A : Type 0} (gs new : List (ExtentGroup A)) (k : ℕ) (g : ExtentGroup A) → k < length gs → length g.extents.items ≡ 0 → new ≡ take k (set gs k g) ++ drop (k + 1) (set gs k g) → joined (rows_of new) ≡ joined (rows_of (set gs k g))
bare-gone gs new k g l z n =
    ap joined (rows-gone gs new k g n) ∙ joined-gone (rows_of gs) k (omega (arith, l, count-rows gs)) ∙ ap (λ es. joined (set (rows_of gs) k es)) (sym (no-items g.extents.items z)) ∙ sym (ap joined (rows-set gs k g))

pub bare-used : {A : Type 0} (gs new : List (ExtentGroup A)) (k : ℕ) (g : ExtentGroup A) → AreUsed (rows_of gs) → 0 < k → new ≡ take k (set gs k g) ++ drop (k + 1) (set gs k g) → AreUsed (rows_of new)
bare-used gs new k g u h n = subst AreUsed (sym (rows-gone gs new k g n)) (used-gone (rows_of gs) k u h)

pub none-more : (t cells k : ℕ) (rows : List (List Extent)) (es : List Extent) → k < length rows → row rows k ≡ es → AllByRecursion (λ e. has_run t cells e ≡ false) (joined (take k rows)) → AllByRecursion (λ e. has_run t cells e ≡ false) es →
    AllByRecursion (λ e. has_run t cells e ≡ false) (joined (take (k + 1) rows))
none-more t cells k rows es l r a b =
    subst (AllByRecursion (λ (e : Extent). has_run t cells e ≡ false)) (sym (joined-more rows k l ∙ ap (λ xs. joined (take k rows) ++ xs) r)) (all_append (λ e. has_run t cells e ≡ false) (joined (take k rows)) es a b)

pub none-at-all : (t cells k : ℕ) (rows : List (List Extent)) → length rows ≤ k → AllByRecursion (λ e. has_run t cells e ≡ false) (joined (take k rows)) → AllByRecursion (λ e. has_run t cells e ≡ false) (joined rows)
none-at-all t cells k rows l a = subst (λ xs. AllByRecursion (λ (e : Extent). has_run t cells e ≡ false) (joined xs)) (all-rows rows k l) a

pub same-row-of : {A : Type 0} (old gs : List (ExtentGroup A)) (k : ℕ) (g : ExtentGroup A) → rows_of gs ≡ rows_of old → k < length gs → g ≡ get_or gs k g → row (rows_of old) k ≡ g.extents.items
same-row-of old gs k g s l e = ap (λ rows. row rows k) (sym s) ∙ group-row gs k g l e

pub in-old : {A : Type 0} (old gs : List (ExtentGroup A)) (k : ℕ) → rows_of gs ≡ rows_of old → k < length (rows_of old) → k < length gs
in-old old gs k s l = in-groups gs k (subst (λ rows. k < length rows) (sym s) l)

pub in-row-of : {A : Type 0} (old gs : List (ExtentGroup A)) (k i : ℕ) (g : ExtentGroup A) → rows_of gs ≡ rows_of old → k < length gs → g ≡ get_or gs k g → i < length (row (rows_of old) k) → i < length g.extents.items
in-row-of old gs k i g s l e h = subst (λ es. i < length es) (same-row-of old gs k g s l e) h
