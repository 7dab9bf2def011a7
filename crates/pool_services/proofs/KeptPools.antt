-- What each call leaves true: extents that are apart, and the pool's pages are theirs.
use Rattle.std.proofs.Common.{◌≡◌, ℕ, suc, ◌+◌, ◌/◌, ◌<◌, ◌≤◌, ◌==◌, cond, inl, inr, List, [], ◌∷◌, ◌++◌, take, length, drop, set, Option, Some, None, Result, Ok, Err, refl, sym, ap, ◌∙◌, subst, add-one, arith}
use Rattle.std.specs.List.{AllByRecursion}
use Rattle.std.proofs.lemmas.Bool.{cases_Bool}
use Rattle.std.proofs.lemmas.Option.{same_Some}
use Rattle.page_ranges.specs.declared.ranges.Owner.{Owner}
use Rattle.page_ranges.specs.declared.ranges.Owner.TheVariants.{Given, Pages, Pool}
use Rattle.page_ranges.specs.declared.ranges.PageRange.{PageRange}
use Rattle.page_ranges.specs.declared.ranges.Run.{Run}
use Rattle.page_ranges.specs.declared.statuses.Status.{Status}
use Rattle.page_ranges.specs.declared.statuses.Status.TheVariants.{InvalidParameter, NotFound, OutOfResources}
use Rattle.page_ranges.specs.MemoryTypes.{conventional, page_size, page_count, pages_below}
use Rattle.page_ranges.specs.Granules.{IsGranule}
use Rattle.page_ranges.specs.Memory.{Page, page_at, AllInRange, IsConventional, IsOwnedBy, IsProperMemory}
use Rattle.page_ranges.specs.Runs.{page_in, pages_of, is_same_owner, IsValidMachine}
use Rattle.page_ranges.proofs.Lookups.{page_at-all}
use Rattle.page_ranges.proofs.Rows.{all-row}
use Rattle.placement_certificate.specs.declared.certificates.Request.{Request}
use Rattle.page_services.specs.declared.page_book.Placed.{Placed}
use Rattle.page_services.specs.PageRules.{Book, Choice, AllocatesPages, FreesPages, IsChosenPlace, IsPlaced, IsInGranules, any_pages, changed_book, freed_range, max_address, placement_request, range_from, whole_pages, whole_request}
use Rattle.page_services.proofs.Choices.{Permits}
use Rattle.page_services.proofs.Granules.{freed_owned}
use Rattle.raw_pool.specs.Blocks.{Block, new_block, with_block, without_block}
use Rattle.pool_services.specs.Extents.{Extent, Place, AreExtents, IsExtent, begins_at, ended, first_fit, has_tail, left_of, max_size, new_extent, range_if_ended, range_of, replaced, tail_in, with_blocks, with_new_block, without, written_in}
use Rattle.pool_services.specs.PoolRules.{Answer, AllocatesPool, FreesPool, IsPut, OwnsExtents, WritesPool, given_if, pool_type}
use Rattle.pool_services.specs.Searches.{HasRoom, IsAt}
use Rattle.pool_services.proofs.ExtentLists.{are-gone, are-set, gone-is, is-extent, set-is, written-is}
use Rattle.pool_services.proofs.ExtentChanges.{are-taken, ended-at, gone-owns, is-given, is-written}
use Rattle.pool_services.proofs.PoolPages.{allocated-none, are-more, free-none, others-keep, owned-extent, owns-more, replaced-type, set-type}
use Rattle.pool_services.proofs.NewExtents.{is-new-extent}
use Rattle.pool_services.proofs.PoolBytes.{held-tail}
use Rattle.pool_services.proofs.BlockBytes.{held-fit, holding}

-- ---- AllocatePages and FreePages

some-pages : (a r : Request) → Some a ≡ Some r → r.pages ≡ a.pages
some-pages a r e = cc

-- the request is for the pages of the call, with those that fill granules
same-pages : (granule kind t pages memory : ℕ) (r : Request) → placement_request granule kind t pages memory ≡ Some r → r.pages ≡ whole_pages granule t pages
same-pages granule kind t pages memory r e = elim (cases_Bool (kind == any_pages)) [
  | inl u ↦ some-pages (whole_request granule t pages page_count) r (rw u at e)
  | inr u ↦ elim (cases_Bool (kind == max_address)) [
    | inl v ↦ some-pages (whole_request granule t pages (pages_below memory)) r (rw (u, v) at e)
    | inr v ↦ let n : None ≡ Some r = rw (u, v) at e in cc
  ]
]

chosen-free : {A : Type 0} (Chosen : Choice) → Permits Chosen → (b : Book) (r : Request) (placed : Placed A) → IsChosenPlace Chosen b r placed → AllInRange b.memory (range_from placed.address r.pages) IsConventional
chosen-free Chosen permits b r placed (start, c, a) =
    let s : start ≡ placed.address / page_size = omega (arith, a) in
    subst (λ (n : ℕ). AllInRange b.memory (record { first = n; pages = r.pages }) IsConventional) s (permits b r start placed.certificate c).conventional

placed-free : {A : Type 0} (Chosen : Choice) → Permits Chosen → (b : Book) (o : Option Request) (t pages memory : ℕ) (placed : Placed A) → ((r : Request) → o ≡ Some r → r.pages ≡ whole_pages b.granule t pages) → IsPlaced Chosen b o t pages memory placed →
    AllInRange b.memory (range_from placed.address (whole_pages b.granule t pages)) IsConventional
placed-free Chosen permits b (Some r) t pages memory placed same h = subst (λ (n : ℕ). AllInRange b.memory (range_from placed.address n) IsConventional) (same r refl) (chosen-free Chosen permits b r placed h)
placed-free Chosen permits b None t pages memory placed same (f, a, n) = subst (λ (at : ℕ). AllInRange b.memory (range_from at (whole_pages b.granule t pages)) IsConventional) (sym a) f.2

pub placed-keeps : {A : Type 0} (Chosen : Choice) → Permits Chosen → (b : Book) (es : List Extent) (kind t pages memory : ℕ) (result : Result (Placed A) Status) (new : Book) →
    IsProperMemory b.memory → OwnsExtents b.memory es → AllocatesPages Chosen b kind t pages memory result new → OwnsExtents new.memory es
placed-keeps Chosen permits b es kind t pages memory (Ok placed) new proper owns (v, h, n) =
    let range : PageRange = range_from placed.address (whole_pages b.granule t pages) in
    let free = placed-free Chosen permits b (placement_request b.granule kind t pages memory) t pages memory placed (same-pages b.granule kind t pages memory) h in
    subst (λ (x : Book). OwnsExtents x.memory es) (sym n) (others-keep b.memory es range t Pages owns refl (free-none b.memory range proper free))
placed-keeps Chosen permits b es kind t pages memory (Err InvalidParameter) new proper owns h = subst (λ (x : Book). OwnsExtents x.memory es) (sym h.1) owns
placed-keeps Chosen permits b es kind t pages memory (Err NotFound) new proper owns h = subst (λ (x : Book). OwnsExtents x.memory es) (sym h.3) owns
placed-keeps Chosen permits b es kind t pages memory (Err OutOfResources) new proper owns h = subst (λ (x : Book). OwnsExtents x.memory es) (sym h.2) owns
placed-keeps Chosen permits b es kind t pages memory (Err status) new proper owns h = absurd h

pub freed-keeps : (b : Book) (es : List Extent) (address pages : ℕ) (result : Result (Unit {0}) Status) (new : Book) → IsInGranules b → OwnsExtents b.memory es → FreesPages b address pages result new → OwnsExtents new.memory es
freed-keeps b es address pages (Ok done) new granules owns (v, h, n) =
    let range : PageRange = freed_range b address pages in
    let freed : AllInRange b.memory range (IsOwnedBy Pages) = freed_owned b address pages granules v.1 h in
    subst (λ (x : Book). OwnsExtents x.memory es) (sym n) (others-keep b.memory es range conventional Given owns refl (allocated-none b.memory range freed))
freed-keeps b es address pages (Err InvalidParameter) new granules owns h = subst (λ (x : Book). OwnsExtents x.memory es) (sym h.1) owns
freed-keeps b es address pages (Err NotFound) new granules owns h = subst (λ (x : Book). OwnsExtents x.memory es) (sym h.2) owns
freed-keeps b es address pages (Err OutOfResources) new granules owns h = subst (λ (x : Book). OwnsExtents x.memory es) (sym h.2) owns
freed-keeps b es address pages (Err status) new granules owns h = absurd h

-- ---- a machine at first

pub all-given : (rs : List Run) → AllByRecursion (λ r. r.owner ≡ Given) rs → AllByRecursion (λ (x : Page). x.owner ≡ Given) (pages_of rs)
all-given [] a = tt
all-given (r ∷ rs) a = all-row (λ (x : Page). x.owner ≡ Given) (pages_of rs) r.range.pages (page_in r.range.first r) (λ k l u. a.0) (all-given rs a.1)

given-none : (m : List Page) (k : ℕ) (p : Option Page) → AllByRecursion (λ (x : Page). x.owner ≡ Given) m → page_at m k ≡ p → pool_type p ≡ None
given-none m k None a e = refl
given-none m k (Some x) a e = ap (λ (o : Owner). cond (is_same_owner o Pool) (Some x.mtype) None) (page_at-all (λ (y : Page). y.owner ≡ Given) m k x a e)

pub given-keeps : (rs : List Run) → IsValidMachine rs → OwnsExtents (pages_of rs) []
given-keeps rs valid k = given-none (pages_of rs) k (page_at (pages_of rs) k) (all-given rs valid.given) refl

-- ---- AllocatePool

same-keeps : (b new_b : Book) (es new : List Extent) → AreExtents es → OwnsExtents b.memory es → new_b ≡ b → new ≡ es → AreExtents new × OwnsExtents new_b.memory new
same-keeps b new_b es new a owns g n =
    (subst AreExtents (sym n) a, subst (λ (x : Book). OwnsExtents x.memory new) (sym g) (subst (OwnsExtents b.memory) (sym n) owns))

fit-keeps : (m : List Page) (es : List Extent) (t size : ℕ) (p : Place) → AreExtents es → OwnsExtents m es → first_fit t size es ≡ Some p → AreExtents (with_new_block p size es) × OwnsExtents m (with_new_block p size es)
fit-keeps m es t size p a owns s =
    let (i, e, h, f, q) = held-fit t size es p s in
    let by : Extent → Extent = λ (z : Extent). with_blocks (with_block (new_block p.cell size) z.blocks) z in
    let new : set es i (by e) ≡ with_new_block p size es = set-is (λ (z : Extent). by z ∷ []) (by e) es i e a h refl ∙ ap (λ (j : ℕ). replaced (begins_at j) (λ (z : Extent). by z ∷ []) es) q in (
      subst AreExtents new (are-taken es i size p.cell e (by e) a h refl (sym f)),
      λ k. owns k ∙ sym (replaced-type k (begins_at p.first) by es (λ z. refl) (λ z. refl)),
    )

put-keeps : (Chosen : Choice) → Permits Chosen → (b new_b : Book) (es new : List Extent) (t size : ℕ) (answer : Answer) (o : Option Place) →
    IsGranule b.granule → IsProperMemory b.memory → AreExtents es → OwnsExtents b.memory es → size ≤ max_size → first_fit t size es ≡ o → IsPut Chosen o b es t size answer new_b new → AreExtents new × OwnsExtents new_b.memory new
put-keeps Chosen permits b new_b es new t size answer (Some p) granule proper a owns s f (d, c, g, n) =
    let k = fit-keeps b.memory es t size p a owns f in same-keeps b new_b (with_new_block p size es) new k.0 k.1 g n
put-keeps Chosen permits b new_b es new t size answer None granule proper a owns s f (start, c, d, g, n) =
    let e : Extent = new_extent b.granule start t size in
    let x = is-new-extent Chosen permits b t size start answer.1 granule s c in (
      subst AreExtents (sym n) (are-more b.memory e es x.0 a owns proper x.1),
      subst (λ (z : Book). OwnsExtents z.memory new) (sym g) (subst (OwnsExtents (changed_book (range_of e) t Pool b).memory) (sym n) (owns-more b.memory e es owns proper x.1)),
    )

pub allocated-keeps : (Chosen : Choice) → Permits Chosen → (b : Book) (es : List Extent) (t size : ℕ) (result : Result Answer Status) (new_b : Book) (new : List Extent) →
    IsGranule b.granule → IsProperMemory b.memory → AreExtents es → OwnsExtents b.memory es → AllocatesPool Chosen b es t size result new_b new → AreExtents new × OwnsExtents new_b.memory new
allocated-keeps Chosen permits b es t size (Ok answer) new_b new granule proper a owns (good, s, put) = put-keeps Chosen permits b new_b es new t size answer (first_fit t size es) granule proper a owns s refl put
allocated-keeps Chosen permits b es t size (Err InvalidParameter) new_b new granule proper a owns h = same-keeps b new_b es new a owns h.1 h.2
allocated-keeps Chosen permits b es t size (Err OutOfResources) new_b new granule proper a owns h = same-keeps b new_b es new a owns h.2 h.3
allocated-keeps Chosen permits b es t size (Err status) new_b new granule proper a owns h = absurd h

-- ---- FreePool

left-keeps : (b new_b : Book) (es new : List Extent) (i c : ℕ) (e : Extent) (ws : List Block) → AreExtents es → OwnsExtents b.memory es → IsAt es i e → without_block c e.blocks ≡ ws →
    new_b ≡ given_if (range_if_ended e ws) b → new ≡ replaced (begins_at e.first) (λ (z : Extent). left_of z (without_block c z.blocks)) es → AreExtents new × OwnsExtents new_b.memory new
left-keeps b new_b es new i c e [] a owns h w g n =
    let by : Extent → List Extent = λ (z : Extent). left_of z (without_block c z.blocks) in
    let l : new ≡ take i es ++ drop (suc i) es = n ∙ sym (gone-is by es i e a h (ap (left_of e) w)) in
    let k : new ≡ take i es ++ drop (i + 1) es = l ∙ ap (λ (j : ℕ). take i es ++ drop j es) (sym (add-one i)) in
    (subst AreExtents (sym l) (are-gone es i a), gone-owns b new_b es i e new a owns h g k)
left-keeps b new_b es new i c e (x ∷ xs) a owns h w g n =
    let by : Extent → List Extent = λ (z : Extent). left_of z (without_block c z.blocks) in
    let y : Extent = with_blocks (x ∷ xs) e in
    let l : new ≡ set es i y = n ∙ sym (set-is by y es i e a h (ap (left_of e) w)) in
    let some : 0 < length (without_block c e.blocks) = omega (arith, ap (λ (ys : List Block). length ys) w) in
    let v : IsExtent y = subst (λ (ys : List Block). IsExtent (with_blocks ys e)) w (is-given e c (is-extent es i e a h) some) in
    same-keeps b new_b (set es i y) new (are-set es i e y a h v refl refl) (λ k. owns k ∙ sym (set-type k es i e y h refl refl)) g l

pub freed-block-keeps : (b : Book) (es : List Extent) (address : ℕ) (result : Result (Unit {0}) Status) (new_b : Book) (new : List Extent) → AreExtents es → OwnsExtents b.memory es →
    FreesPool b es address result new_b new → AreExtents new × OwnsExtents new_b.memory new
freed-block-keeps b es address (Ok done) new_b new a owns (p, s, g, n) =
    let (i, e, h, d, q) = holding address es p s in
    let t : ended p es ≡ range_if_ended e (without_block p.cell e.blocks) = sym (ap (λ (j : ℕ). ended (record { first = j; cell = p.cell }) es) q) ∙ ended-at p.cell es i e a h in
    left-keeps b new_b es new i p.cell e (without_block p.cell e.blocks) a owns h refl
    (g ∙ ap (λ (o : Option PageRange). given_if o b) t)
    (n ∙ ap (λ (j : ℕ). without (record { first = j; cell = p.cell }) es) (sym q))
freed-block-keeps b es address (Err InvalidParameter) new_b new a owns h = same-keeps b new_b es new a owns h.1 h.2
freed-block-keeps b es address (Err OutOfResources) new_b new a owns (p, range, s, t, z, g, n) = same-keeps b new_b es new a owns g n
freed-block-keeps b es address (Err status) new_b new a owns h = absurd h

-- the pages of the extent that ends with the block at a place
range-is : (e : Extent) (bs : List Block) (range : PageRange) → range_if_ended e bs ≡ Some range → range_of e ≡ range
range-is e [] range s = same_Some (range_of e) range s
range-is e (b ∷ bs) range s = absurd cc

ended-in : (es : List Extent) (p : Place) (range : PageRange) → ended p es ≡ Some range → (i : ℕ) × (e : Extent) × IsAt es i e × (range_of e ≡ range)
ended-in [] p range s = absurd cc
ended-in (x ∷ xs) p range s = elim (cases_Bool (begins_at p.first x)) [
  | inl u ↦ (0, x, (omega arith, refl), range-is x (without_block p.cell x.blocks) range (rw u at s))
  | inr u ↦ let (i, e, h, r) = ended-in xs p range (rw u at s) in (suc i, e, (omega (arith, h.0), h.1), r)
]

pub ended-owned : (m : List Page) (es : List Extent) (p : Place) (range : PageRange) → AreExtents es → OwnsExtents m es → ended p es ≡ Some range → (0 < range.pages) × AllInRange m range (IsOwnedBy Pool)
ended-owned m es p range a owns s =
    let (i, e, h, r) = ended-in es p range s in
    let x = is-extent es i e a h in
    (subst (λ (z : PageRange). 0 < z.pages) r x.some, subst (λ (z : PageRange). AllInRange m z (IsOwnedBy Pool)) r (owned-extent m es i e a owns h))

-- ---- bytes written

pub written-keeps : (m : List Page) (es : List Extent) (address : ℕ) (bytes : List ℕ) (result : Result (Unit {0}) Status) (new : List Extent) → AreExtents es → OwnsExtents m es → WritesPool es address bytes result new →
    AreExtents new × OwnsExtents m new
written-keeps m es address bytes (Ok done) new a owns ((t, s, l), n) =
    let (i, e, h, u, d) = held-tail address es t a s in
    let by : Extent → Extent = λ (z : Extent). with_blocks (written_in z.first address bytes z.blocks) z in
    let r : HasRoom (length bytes) (tail_in e.first address e.blocks) = subst (HasRoom (length bytes)) (sym d) l in
    let w : set es i (by e) ≡ new = written-is address bytes es i e a h u r ∙ sym n in (
      subst AreExtents w (are-set es i e (by e) a h (is-written e address bytes (is-extent es i e a h) r) refl refl),
      subst (OwnsExtents m) (sym n) (λ k. owns k ∙ sym (replaced-type k (has_tail address) by es (λ z. refl) (λ z. refl))),
    )
written-keeps m es address bytes (Err InvalidParameter) new a owns h = (subst AreExtents (sym h.1) a, subst (OwnsExtents m) (sym h.1) owns)
written-keeps m es address bytes (Err status) new a owns h = absurd h
