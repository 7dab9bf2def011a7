-- The map of a memory is the list of its maximal blocks.
use Rattle.std.proofs.Common.{◌≡◌, ℕ, suc, ◌+◌, ◌-◌, ◌<◌, ◌≤◌, true, false, cond, ◌&&◌, eqb, List, [], ◌∷◌, ◌++◌, Contains, Option, Some, None, inl, inr, true≢false, refl, sym, subst, ◌∙◌, arith}
use Rattle.std.specs.List.{AllByRecursion}
use Rattle.std.proofs.lemmas.Bool.{ne_eqb, eq-eqb, eqb-true, cases_eq, cases_lt, cases_Bool, and_parts, and_from, and_left}
use Rattle.page_ranges.specs.declared.ranges.Descriptor.{Descriptor}
use Rattle.page_ranges.specs.MemoryTypes.{page_count}
use Rattle.page_ranges.specs.Memory.{Page, page_at, page_below, IsAscending, IsProperPage, IsProperMemory}
use Rattle.page_ranges.specs.MemoryMap.{block_of, goes_on_in, with_page_below, memory_map, IsLike, IsIn, IsMaximalBlock, AreInOrder}
use Rattle.page_ranges.proofs.Lookups.{AllFrom, AllFrom-lower, page_at-hit, page_at-miss, page_at-absent, page_below-hit, page_below-miss, page_below-absent, page_below-page_at, page_at-number, page_at-all}
use Rattle.page_ranges.proofs.Members.{member_first, member_later, member_behind, member_cases, member_none, member_all, all_implied}

-- ---- a page that goes on in a block

pub goes_on_parts : (x : Page) (b : Descriptor) → goes_on_in x b ≡ true → (x.number + 1 ≡ b.first) × (x.mtype ≡ b.mtype) × (x.attributes ≡ b.attributes)
goes_on_parts x b e =
    let h = and_parts (eqb (x.number + 1) b.first && eqb x.mtype b.mtype) (eqb x.attributes b.attributes) e in
    let k = and_parts (eqb (x.number + 1) b.first) (eqb x.mtype b.mtype) h.0 in
    (eqb-true (x.number + 1) b.first k.0, eqb-true x.mtype b.mtype k.1, eqb-true x.attributes b.attributes h.1)

pub goes_on_from : (x : Page) (b : Descriptor) → x.number + 1 ≡ b.first → x.mtype ≡ b.mtype → x.attributes ≡ b.attributes → goes_on_in x b ≡ true
goes_on_from x b e f g = and_from _ _ (and_from _ _ (eq-eqb (x.number + 1) b.first e) (eq-eqb x.mtype b.mtype f)) (eq-eqb x.attributes b.attributes g)

-- the first block begins with the page
abbrev begins : Page → List Descriptor → Type 0
begins x [] = ⊥
begins x (b ∷ bs) = (b.first ≡ x.number) × (b.mtype ≡ x.mtype) × (b.attributes ≡ x.attributes)

begins-with_page_below : (x : Page) (bs : List Descriptor) → begins x (with_page_below x bs)
begins-with_page_below x [] = (refl, refl, refl)
begins-with_page_below x (b ∷ bs) =
    elim (goes_on_in x b) as (λ c. begins x (cond c (record (block_of x) { pages = b.pages + 1 } ∷ bs) (block_of x ∷ b ∷ bs))) [ true ↦ (refl, refl, refl) | false ↦ (refl, refl, refl) ]

-- ---- what a block is once a page comes below

-- nothing lies below the lowest page
none_below_lowest : (x : Page) (m : List Page) → AllFrom (suc x.number) m → page_below (x ∷ m) x.number ≡ None
none_below_lowest x m a = page_below-absent (x ∷ m) x.number (omega arith, AllFrom-lower x.number (suc x.number) m (omega arith) a)

pub like_other : (b c : Descriptor) (o : Option Page) → b.mtype ≡ c.mtype → b.attributes ≡ c.attributes → IsLike b o → IsLike c o
like_other b c None e f l = l
like_other b c (Some x) e f l = (l.0 ∙ e, l.1 ∙ f)

-- a block stays maximal above a page that does not go on in it
block-kept : (x : Page) (m : List Page) (b : Descriptor) → x.number < b.first → goes_on_in x b ≡ false → IsMaximalBlock m b → IsMaximalBlock (x ∷ m) b
block-kept x m b h f is = record {
  some = is.some;
  all = λ k i. subst (IsLike b) (sym (page_at-miss x m k (omega (arith, i.low)))) (is.all k i);
  none_below = elim (cases_eq (x.number + 1) b.first) [
    | inl e ↦ λ l. let like : IsLike b (Some x) = subst (IsLike b) (page_below-hit x m b.first e) l in true≢false (sym (goes_on_from x b e like.0 like.1) ∙ f)
    | inr n ↦ λ l. is.none_below (subst (IsLike b) (page_below-miss x m b.first n) l)
  ];
  none_above = λ l. is.none_above (subst (IsLike b) (page_at-miss x m (b.first + b.pages) (omega arith)) l);
}

-- the block with the page that goes on in it
block-longer : (x : Page) (m : List Page) (b : Descriptor) → AllFrom (suc x.number) m → goes_on_in x b ≡ true → IsMaximalBlock m b → IsMaximalBlock (x ∷ m) (record (block_of x) { pages = b.pages + 1 })
block-longer x m b a t is =
    let g = goes_on_parts x b t in
    let c : Descriptor = record (block_of x) { pages = b.pages + 1 } in
    record {
      some = omega arith;
      all = λ k i. elim (cases_eq x.number k) [
        | inl e ↦ subst (IsLike c) (sym (page_at-hit x m k e)) (refl, refl)
        | inr n ↦ subst (IsLike c) (sym (page_at-miss x m k n)) (like_other b c _ (sym g.1) (sym g.2) (is.all k (record { low = omega (arith, i.low); high = omega (arith, i.high) })))
      ];
      none_below = λ l. subst (IsLike c) (none_below_lowest x m a) l;
      none_above = λ l.
          let end : x.number + (b.pages + 1) ≡ b.first + b.pages = omega arith in
          let there : IsLike c (page_at m (x.number + (b.pages + 1))) = subst (IsLike c) (page_at-miss x m (x.number + (b.pages + 1)) (omega arith)) l in
          is.none_above (like_other c b _ g.1 g.2 (subst (λ k. IsLike c (page_at m k)) end there));
    }

-- a page that goes on in no block
block-new : (x : Page) (m : List Page) → AllFrom (suc x.number) m → ¬ IsLike (block_of x) (page_at m (x.number + 1)) → IsMaximalBlock (x ∷ m) (block_of x)
block-new x m a n = record {
  some = omega arith;
  all = λ k i. subst (IsLike (block_of x)) (sym (page_at-hit x m k (omega (arith, i.low, i.high)))) (refl, refl);
  none_below = λ l. subst (IsLike (block_of x)) (none_below_lowest x m a) l;
  none_above = λ l. n (subst (IsLike (block_of x)) (page_at-miss x m (x.number + 1) (omega arith)) l);
}

-- blocks that begin farther above stay
blocks-kept : (x : Page) (m : List Page) (bs : List Descriptor) → AllByRecursion (λ b. x.number + 1 < b.first) bs → AllByRecursion (IsMaximalBlock m) bs → AllByRecursion (IsMaximalBlock (x ∷ m)) bs
blocks-kept x m [] l is = tt
blocks-kept x m (b ∷ bs) l is =
    (block-kept x m b (omega (arith, l.0)) (and_left _ _ (and_left _ _ (ne_eqb (x.number + 1) b.first (omega (arith, l.0))))) is.0, blocks-kept x m bs l.1 is.1)

firsts-lower : (j k : ℕ) → j ≤ k → (bs : List Descriptor) → AllByRecursion (λ b. k ≤ b.first) bs → AllByRecursion (λ b. j ≤ b.first) bs
firsts-lower j k h bs a = all_implied (λ b. k ≤ b.first) (λ b. j ≤ b.first) (λ b l. omega arith) bs a

-- where the page does not go on in the first block, the page above it is another
next_unlike : (x y : Page) (m : List Page) (b : Descriptor) (bs : List Descriptor) → x.number < y.number → AllFrom (suc y.number) m → begins y (b ∷ bs) → goes_on_in x b ≡ false → ¬ IsLike (block_of x) (page_at (y ∷ m) (x.number + 1))
next_unlike x y m b bs h a g f = elim (cases_eq y.number (x.number + 1)) [
  | inl e ↦ λ l.
      let like : IsLike (block_of x) (Some y) = subst (IsLike (block_of x)) (page_at-hit y m (x.number + 1) e) l in
      true≢false (sym (goes_on_from x b (sym e ∙ sym g.0) (sym like.0 ∙ sym g.1) (sym like.1 ∙ sym g.2)) ∙ f)
  | inr n ↦ λ l. subst (IsLike (block_of x)) (page_at-absent (y ∷ m) (x.number + 1) (omega arith, AllFrom-lower (suc (x.number + 1)) (suc y.number) m (omega arith) a)) l
]

-- the three together, for one page more
one_page_more : (x y : Page) (m : List Page) (bs : List Descriptor) → AllFrom (suc x.number) (y ∷ m) → AllFrom (suc y.number) m → begins y bs → AllByRecursion (IsMaximalBlock (y ∷ m)) bs → AreInOrder bs →
    AllByRecursion (IsMaximalBlock (x ∷ y ∷ m)) (with_page_below x bs) × AreInOrder (with_page_below x bs)
one_page_more x y m [] a c g is o = absurd g
one_page_more x y m (b ∷ bs) a c g is o =
    let some = is.0.some in
    let far : AllByRecursion (λ d. x.number + 1 < d.first) bs = firsts-lower (suc (x.number + 1)) (b.first + b.pages) (omega (arith, a.0)) bs o.0 in
    let kept = blocks-kept x (y ∷ m) bs far is.1 in
    elim (cases_Bool (goes_on_in x b)) [
      | inl t ↦
          let e = goes_on_parts x b t in
          rw t ((block-longer x (y ∷ m) b a t is.0, kept), (firsts-lower (x.number + (b.pages + 1)) (b.first + b.pages) (omega (arith, e.0)) bs o.0, o.1))
      | inr f ↦
          rw f ((block-new x (y ∷ m) a (next_unlike x y m b bs a.0 c g f), (block-kept x (y ∷ m) b (omega (arith, a.0)) f is.0, kept)), ((omega (arith, a.0), firsts-lower (x.number + 1) (b.first + b.pages) (omega (arith, a.0)) bs o.0), o))
    ]

pub map_blocks : (m : List Page) → IsAscending m → AllByRecursion (IsMaximalBlock m) (memory_map m) × AreInOrder (memory_map m)
map_blocks [] a = (tt, tt)
map_blocks (x ∷ []) a = ((block-new x [] tt (λ l. l), tt), (tt, tt))
map_blocks (x ∷ y ∷ m) a =
    let rest = map_blocks (y ∷ m) a.1 in
    one_page_more x y m (memory_map (y ∷ m)) a.0 a.1.0 (begins-with_page_below y (memory_map m)) rest.0 rest.1

-- each entry of the map is a maximal block
pub entry_is_block : (m : List Page) → IsAscending m → (b : Descriptor) → Contains (memory_map m) b → IsMaximalBlock m b
entry_is_block m a b h = member_all (IsMaximalBlock m) (memory_map m) b (map_blocks m a).0 h

-- ---- each present page is in an entry

in_later : (x : Page) (bs : List Descriptor) (c : Descriptor) (k : ℕ) → Contains bs c → IsIn c k → (d : Descriptor) × Contains (with_page_below x bs) d × IsIn d k
in_later x [] c k h i = absurd (member_none c h)
in_later x (b ∷ bs) c k h i = elim (cases_Bool (goes_on_in x b)) [
  | inl t ↦
      let g = goes_on_parts x b t in
      elim (member_cases b bs c h) [
        | inl e ↦
            let j : IsIn b k = subst (λ d. IsIn d k) (sym e) i in
            rw t (record (block_of x) { pages = b.pages + 1 }, member_first _ bs, record { low = omega (arith, j.low, g.0); high = omega (arith, j.high, g.0) })
        | inr r ↦ rw t (c, member_later _ bs c r, i)
      ]
  | inr f ↦ rw f (c, member_later _ (b ∷ bs) c h, i)
]

in_first : (x : Page) (bs : List Descriptor) → (d : Descriptor) × Contains (with_page_below x bs) d × IsIn d x.number
in_first x [] = (block_of x, member_first (block_of x) [], record { low = omega arith; high = omega arith })
in_first x (b ∷ bs) = elim (cases_Bool (goes_on_in x b)) [
  | inl t ↦ rw t (record (block_of x) { pages = b.pages + 1 }, member_first _ bs, record { low = omega arith; high = omega arith })
  | inr f ↦ rw f (block_of x, member_first _ (b ∷ bs), record { low = omega arith; high = omega arith })
]

pub entry_of_page : (m : List Page) (k : ℕ) (x : Page) → page_at m k ≡ Some x → (b : Descriptor) × Contains (memory_map m) b × IsIn b k
entry_of_page [] k x e = cc
entry_of_page (y ∷ m) k x e = elim (cases_eq y.number k) [
  | inl q ↦ subst (λ j. (b : Descriptor) × Contains (memory_map (y ∷ m)) b × IsIn b j) q (in_first y (memory_map m))
  | inr n ↦
      let c = entry_of_page m k x (sym (page_at-miss y m k n) ∙ e) in
      in_later y (memory_map m) c.0 k c.1 c.2
]

-- ---- maximal blocks that share a page are one

pub like_present : (b : Descriptor) (o : Option Page) → IsLike b o → (x : Page) × (o ≡ Some x)
like_present b None l = absurd l
like_present b (Some x) l = (x, refl)

pub like_both : (b c : Descriptor) (o : Option Page) → IsLike b o → IsLike c o → (b.mtype ≡ c.mtype) × (b.attributes ≡ c.attributes)
like_both b c None l k = absurd l
like_both b c (Some x) l k = (sym l.0 ∙ k.0, sym l.1 ∙ k.1)

begins_first : (m : List Page) (b c : Descriptor) (k : ℕ) → IsMaximalBlock m b → IsMaximalBlock m c → IsIn b k → IsIn c k → b.first ≤ c.first
begins_first m b c k ib ic i j = elim (cases_lt c.first b.first) [
  | inl l ↦
      let t = like_both c b (page_at m k) (ic.all k j) (ib.all k i) in
      let one : IsLike c (page_at m (b.first - 1)) = ic.all (b.first - 1) (record { low = omega arith; high = omega arith }) in
      absurd (ib.none_below (subst (IsLike b) (sym (page_below-page_at m b.first (omega arith))) (like_other c b _ t.0 t.1 one)))
  | inr g ↦ g
]

ends_last : (m : List Page) (b c : Descriptor) (k : ℕ) → IsMaximalBlock m b → IsMaximalBlock m c → IsIn b k → IsIn c k → c.first + c.pages ≤ b.first + b.pages
ends_last m b c k ib ic i j = elim (cases_lt (b.first + b.pages) (c.first + c.pages)) [
  | inl l ↦
      let t = like_both c b (page_at m k) (ic.all k j) (ib.all k i) in
      absurd (ib.none_above (like_other c b _ t.0 t.1 (ic.all (b.first + b.pages) (record { low = omega arith; high = omega arith }))))
  | inr g ↦ g
]

pub same_block : (m : List Page) (b c : Descriptor) (k : ℕ) → IsMaximalBlock m b → IsMaximalBlock m c → IsIn b k → IsIn c k → b ≡ c
same_block m b c k ib ic i j =
    let t = like_both b c (page_at m k) (ib.all k i) (ic.all k j) in
    let low = begins_first m b c k ib ic i j in
    let low' = begins_first m c b k ic ib j i in
    let high = ends_last m b c k ib ic i j in
    let high' = ends_last m c b k ic ib j i in
    let first : b.first ≡ c.first = omega arith in
    let pages : b.pages ≡ c.pages = omega arith in
    λ d. record { mtype = t.0 d; first = first d; pages = pages d; attributes = t.1 d }

-- each maximal block is an entry of the map
pub block_is_entry : (m : List Page) → IsAscending m → (b : Descriptor) → IsMaximalBlock m b → Contains (memory_map m) b
block_is_entry m a b is =
    let here : IsIn b b.first = record { low = omega arith; high = omega (arith, is.some) } in
    let x = like_present b (page_at m b.first) (is.all b.first here) in
    let c = entry_of_page m b.first x.0 x.1 in
    subst (Contains (memory_map m)) (same_block m c.0 b b.first (entry_is_block m a c.0 c.1) is c.2 here) c.1

-- an entry ends where page numbers end, at most
pub entry_end : (m : List Page) → IsProperMemory m → (b : Descriptor) → Contains (memory_map m) b → b.first + b.pages ≤ page_count
entry_end m proper b h =
    let is = entry_is_block m proper.ascending b h in
    let k = b.first + b.pages - 1 in
    let x = like_present b (page_at m k) (is.all k (record { low = omega (arith, is.some); high = omega (arith, is.some) })) in
    omega (arith, is.some, page_at-number m k x.0 x.1, (page_at-all IsProperPage m k x.0 proper.each x.1).number)

-- each entry begins at a page number
pub entry_within : (m : List Page) → IsProperMemory m → (front : List Descriptor) (b : Descriptor) (rest : List Descriptor) → front ++ b ∷ rest ≡ memory_map m → b.first < page_count
entry_within m proper front b rest e =
    let here : Contains (memory_map m) b = subst (λ (bs : List Descriptor). Contains bs b) e (member_behind front b rest) in
    let is = entry_is_block m proper.ascending b here in
    omega (arith, is.some, entry_end m proper b here)
