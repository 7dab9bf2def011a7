-- The rules of AllocatePages, of FreePages and of the pool's pages on a memory.
use Rattle.std.specs.Prelude.{◌≡◌, ℕ, ◌+◌, ◌-◌, ◌*◌, ◌<◌, ◌≤◌, ◌/◌, ◌%◌, ◌==◌, Bool, true, false, List, Option, Some, None, Result, Ok, Err, option_map, if◌then◌else◌, min, max}
use Rattle.page_ranges.specs.declared.ranges.Owner.{Owner}
use Rattle.page_ranges.specs.declared.ranges.Owner.TheVariants.{Given, Pages, Pool}
use Rattle.page_ranges.specs.declared.ranges.PageRange.{PageRange}
use Rattle.page_ranges.specs.declared.statuses.Status.{Status}
use Rattle.page_ranges.specs.declared.statuses.Status.TheVariants.{InvalidParameter, NotFound, OutOfResources}
use Rattle.page_ranges.specs.MemoryTypes.{page_size, page_count, pages_below, conventional, is_bad_type}
use Rattle.page_ranges.specs.Granules.{IsGranule, is_granular, granule_for, if_64_bits, rounded}
use Rattle.page_ranges.specs.Memory.{Page, page_at, page_below, IsConventional, IsOwnedBy, AllInRange, retyped}
use Rattle.descriptor_table.specs.Reserves.{Table}
use Rattle.placement_certificate.specs.declared.certificates.Request.{Request}
use Rattle.placement_certificate.specs.Placement.{IsPermittedStart, IsProperRequest}
use Rattle.placement_certificate.specs.Certificates.{CertificateValue, IsTrueCertificate}
use Rattle.page_services.specs.declared.page_book.ChosenStart.{ChosenStart}
use Rattle.page_services.specs.declared.page_book.Placed.{Placed}

-- the memory, the map key, which is 1 at first and one more after each call that changed the type
-- of a page, the granule of the machine, whether certificates are returned, for how many changes of
-- the memory the table has memory reserved, of these how many are for calls of FreePages and how many
-- for ends of extents of the pool, and how many pages AllocatePages placed that FreePages has not
-- freed
pub record Book : Type 0 where
  pub memory : List Page
  pub key : ℕ
  pub granule : ℕ
  pub certifies : Bool
  pub reserved : ℕ
  pub frees : ℕ
  pub ends : ℕ
  pub held : ℕ

-- the book of a table, with all else that it has
abbrev pub book_of : Table → ℕ → ℕ → Bool → ℕ → ℕ → ℕ → Book
book_of t key granule certifies frees ends held = record {
  memory = t.pages;
  key = key;
  granule = granule;
  certifies = certifies;
  reserved = t.reserved;
  frees = frees;
  ends = ends;
  held = held;
}

-- the book of a machine with a granule and a table of memory in which no type has changed, which
-- returns certificates
abbrev pub new_book : ℕ → Table → Book
new_book granule t = record {
  memory = t.pages;
  key = 1;
  granule = granule;
  certifies = true;
  reserved = t.reserved;
  frees = 0;
  ends = 0;
  held = 0;
}

-- the same book, where certificates are returned or not
abbrev pub certifying : Bool → Book → Book
certifying certifies b = record b { certifies = certifies }

-- the book with memory reserved for a number of placements more, and for the frees of what they place
abbrev pub preparing : ℕ → Book → Book
preparing placements b = record b { reserved = b.reserved + 2 * placements }

-- Memory is reserved for a placement and for the free of what it places, besides what the counts of
-- frees and of ends take.
abbrev pub HasReserve : Book → Type 0
HasReserve b = b.frees + b.ends + 2 ≤ b.reserved

-- the page was placed by AllocatePages with a type that fills granules
abbrev pub IsInGranule : Option Page → Type 0
IsInGranule None = ⊥
IsInGranule (Some x) = (x.owner ≡ Pages) × (is_granular x.mtype ≡ true)

-- Where one page of a granule was so placed, all of its pages were.
abbrev pub HasWholeGranules : ℕ → List Page → Type 0
HasWholeGranules granule m =
    (k j : ℕ) → k / granule ≡ j / granule → IsInGranule (page_at m k) → IsInGranule (page_at m j)

-- the book's granule is one that a machine may have, and the pages so placed fill whole granules
pub record IsInGranules (b : Book) : Type 0 where
  pub granule : IsGranule b.granule
  pub whole : HasWholeGranules b.granule b.memory

-- Granules are whole, and memory is reserved for all frees and ends of extents that the book counts.
abbrev pub IsKept : Book → Type 0
IsKept b = IsInGranules b × (b.frees + b.ends ≤ b.reserved)

-- a number of pages from the page of an address on
abbrev pub range_from : ℕ → ℕ → PageRange
range_from address pages = record { first = address / page_size; pages = pages }

abbrev pub IsAligned : ℕ → Type 0
IsAligned address = address % page_size ≡ 0

-- the book after a call that gave the pages of a range another type and an owner
abbrev pub changed_book : PageRange → ℕ → Owner → Book → Book
changed_book range t o b = record b { memory = retyped range t o b.memory; key = b.key + 1 }

-- for how many changes memory is reserved after a placement: what is missing for it and for the free
-- of what it places is reserved first, and one change is taken
abbrev pub placed_reserve : Book → ℕ
placed_reserve b = max b.reserved (b.frees + b.ends + 2) - 1

-- the book after pages were placed in a range for an owner: memory is reserved to free them
abbrev pub placed_book : PageRange → ℕ → Owner → Book → Book
placed_book range t Given b = changed_book range t Given b
placed_book range t Pages b = record (changed_book range t Pages b) {
  reserved = placed_reserve b;
  frees = b.frees + 1;
  held = min page_count (b.held + range.pages);
}
placed_book range t Pool b =
    record (changed_book range t Pool b) { reserved = placed_reserve b; ends = b.ends + 1 }

-- the book after FreePages freed a range: it takes memory that is reserved for one call, if there
-- is, and it is reserved for no more calls than there are pages to free
abbrev pub freed_book : PageRange → Book → Book
freed_book range b = record (changed_book range conventional Given b) {
  reserved = b.reserved - min b.frees 1;
  frees = min (b.frees - 1) (b.held - range.pages);
  held = b.held - range.pages;
}

-- the book after an extent of the pool ended, which takes memory in the same way
abbrev pub ended_book : PageRange → Book → Book
ended_book range b = record (changed_book range conventional Given b) {
  reserved = b.reserved - min b.ends 1;
  ends = b.ends - 1;
}

-- Memory ran out for a call and the book is left; a fact says that none was reserved for the call.
abbrev pub RunsOut : Type 0 → Book → Status → Book → Type 0
RunsOut HasNone b status new = (status ≡ OutOfResources) × (new ≡ b) × HasNone

-- ---- requests

-- how many pages a number of them are once they fill granules of a type
abbrev pub whole_pages : ℕ → ℕ → ℕ → ℕ
whole_pages granule t pages = rounded pages (granule_for t granule)

-- the request on a machine with a granule for a number of pages of a type, up to a limit: its pages
-- fill granules of the type
abbrev pub whole_request : ℕ → ℕ → ℕ → ℕ → Request
whole_request granule t pages limit = record {
  mtype = t;
  pages = whole_pages granule t pages;
  limit = limit;
  granule = granule_for t granule;
}

-- a request, if the number of its pages has at most 64 bits: no memory has more
abbrev pub if_counted : Request → Option Request
if_counted r = option_map (λ n. r) (if_64_bits r.pages)

-- ---- how a start is chosen

-- what is said of a book, a request, the start that is chosen for it and the certificate that is
-- returned with it
abbrev pub Choice : Type 1
Choice = Book → Request → ℕ → Option CertificateValue → Type 0

-- any permitted start
abbrev pub IsAnyStart : Choice
IsAnyStart b r p returned = IsPermittedStart b.memory r p

-- the best start, which is the answer of the true certificate; that is returned with it where the
-- book returns certificates
abbrev pub IsBestChoice : Choice
IsBestChoice b r p returned =
    (c : CertificateValue) × IsTrueCertificate b.memory r c × (c.answer ≡ p)
    × (returned ≡ (if b.certifies then Some c else None))

-- The pages were placed at a start that was chosen for a request.
abbrev pub IsChosenPlace : {A : Type 0} → Choice → Book → Request → Placed A → Type 0
IsChosenPlace Chosen b r placed =
    (start : ℕ) × Chosen b r start placed.certificate × (placed.address ≡ start * page_size)

-- A start that was chosen on a book is the best one for its request, whose pages fill the granules
-- that the book has for its type.
pub record IsChosenOn {A : Type 0} (b : Book) (c : ChosenStart A) : Type 0 where
  pub proper : IsProperRequest c.request
  pub limit : c.request.limit ≤ page_count
  pub granule : c.request.granule ≡ granule_for c.request.mtype b.granule
  pub best : IsBestChoice b c.request c.first c.certificate

-- no start is permitted for a request, unless the book returns certificates, which take memory
abbrev pub FindsNoStart : Book → Request → Type 0
FindsNoStart b r = b.certifies ≡ false → (p : ℕ) → ¬ IsPermittedStart b.memory r p

-- What is known where OUT_OF_RESOURCES is answered: with memory reserved for a placement, no start is
-- permitted for the request, unless a certificate takes memory. A call that names its address leaves
-- no request, and none is refused so while memory is reserved for a placement.
abbrev pub RefusesPages : Book → Option Request → Type 0
RefusesPages b (Some r) = HasReserve b → FindsNoStart b r
RefusesPages b None = ¬ HasReserve b

-- What is answered where pages of an owner are placed for a request, and the book after it: they
-- begin at a start that was chosen, with the type of the request and the owner. OUT_OF_RESOURCES,
-- which leaves the book, means that no start is permitted or that memory ran out, which it does only
-- for a certificate or where none is reserved for a placement.
abbrev pub PlacesPages : {A : Type 0} → Choice → Book → Request → Owner → Result (Placed A) Status
    → Book → Type 0
PlacesPages Chosen b r o (Ok placed) new =
    IsChosenPlace Chosen b r placed
    × (new ≡ placed_book (range_from placed.address r.pages) r.mtype o b)
PlacesPages Chosen b r o (Err OutOfResources) new = (new ≡ b) × RefusesPages b (Some r)
PlacesPages Chosen b r o (Err status) new = ⊥

-- ---- AllocatePages

-- the kinds of AllocatePages: anywhere, up to the byte at an address, and at an address
abbrev pub any_pages : ℕ
any_pages = 0

abbrev pub max_address : ℕ
max_address = 1

abbrev pub fixed_address : ℕ
fixed_address = 2

-- A request that some memory grants: its kind is one of the three, its type is not bad, and it asks
-- for a page at least.
abbrev pub IsValidRequest : ℕ → ℕ → ℕ → Type 0
IsValidRequest kind t pages = (kind ≤ fixed_address) × (is_bad_type t ≡ false) × (0 < pages)

-- What the service is left to place on a machine with a granule: a number of pages of a type,
-- anywhere or up to the byte at an address. A call that names its address leaves no choice.
abbrev pub placement_request : ℕ → ℕ → ℕ → ℕ → ℕ → Option Request
placement_request granule kind t pages memory =
    if kind == any_pages
    then Some (whole_request granule t pages page_count)
    else (if kind == max_address then Some (whole_request granule t pages (pages_below memory))
    else None)

-- Pages of a type may be allocated at an address: the address is that of a page, and of a granule
-- of the type, and the pages are conventional, with those that fill the last granule.
abbrev pub IsFree : Book → ℕ → ℕ → ℕ → Type 0
IsFree b t pages address =
    IsAligned address × ((address / page_size) % granule_for t b.granule ≡ 0)
    × AllInRange b.memory (range_from address (whole_pages b.granule t pages)) IsConventional

-- Where the pages were placed: at the start that was chosen for the request, or else at the address
-- that the call names.
abbrev pub IsPlaced : {A : Type 0} → Choice → Book → Option Request → ℕ → ℕ → ℕ → Placed A → Type 0
IsPlaced Chosen b (Some r) t pages memory placed = IsChosenPlace Chosen b r placed
IsPlaced Chosen b None t pages memory placed =
    IsFree b t pages memory × (placed.address ≡ memory) × (placed.certificate ≡ None)

-- What AllocatePages answers, and the book after it. A refusal leaves the book. OUT_OF_RESOURCES
-- means that memory ran out, which it does only for a certificate or where none is reserved for a
-- placement; for the kinds that name no address it may mean that no start is permitted.
abbrev pub AllocatesPages : {A : Type 0} → Choice → Book → ℕ → ℕ → ℕ → ℕ → Result (Placed A) Status
    → Book → Type 0
AllocatesPages Chosen b kind t pages memory (Ok placed) new =
    IsValidRequest kind t pages
    × IsPlaced Chosen b (placement_request b.granule kind t pages memory) t pages memory placed
    × (new ≡ placed_book (range_from placed.address (whole_pages b.granule t pages)) t Pages b)
AllocatesPages Chosen b kind t pages memory (Err InvalidParameter) new =
    (¬ IsValidRequest kind t pages) × (new ≡ b)
AllocatesPages Chosen b kind t pages memory (Err NotFound) new =
    IsValidRequest kind t pages × (kind ≡ fixed_address) × (¬ IsFree b t pages memory) × (new ≡ b)
AllocatesPages Chosen b kind t pages memory (Err OutOfResources) new =
    IsValidRequest kind t pages × (kind ≡ fixed_address → IsFree b t pages memory) × (new ≡ b)
    × RefusesPages b (placement_request b.granule kind t pages memory)
AllocatesPages Chosen b kind t pages memory (Err status) new = ⊥

-- ---- FreePages

-- A range that a memory may have: aligned, not empty, and not past the last page.
abbrev pub IsValidRange : ℕ → ℕ → Type 0
IsValidRange address pages =
    IsAligned address × (0 < pages) × (address / page_size + pages ≤ page_count)

-- each page of the range was placed by AllocatePages
abbrev pub IsAllocated : List Page → ℕ → ℕ → Type 0
IsAllocated m address pages = AllInRange m (range_from address pages) (IsOwnedBy Pages)

-- the granule that a page lies in, in pages: that of its type, and a page of its own where it is
-- absent
abbrev pub granule_of : ℕ → Option Page → ℕ
granule_of granule None = 1
granule_of granule (Some x) = granule_for x.mtype granule

-- What is freed where a number of pages from the one of an address on are named: these, and at each
-- end the rest of the granule that the page at that end lies in.
abbrev pub freed_range : Book → ℕ → ℕ → PageRange
freed_range b address pages =
    let named = address / page_size in
    let first = named - named % granule_of b.granule (page_at b.memory named) in
    let end =
    rounded (named + pages) (granule_of b.granule (page_below b.memory (named + pages))) in
    record { first = first; pages = end - first }

-- What FreePages answers, and the book after it; a refusal leaves the book. OUT_OF_RESOURCES means
-- that memory ran out, which it does only where none is reserved: each AllocatePages that succeeds
-- reserves memory for one call of FreePages.
abbrev pub FreesPages : Book → ℕ → ℕ → Result (Unit {0}) Status → Book → Type 0
FreesPages b address pages (Ok done) new =
    IsValidRange address pages × IsAllocated b.memory address pages
    × (new ≡ freed_book (freed_range b address pages) b)
FreesPages b address pages (Err InvalidParameter) new = (¬ IsValidRange address pages) × (new ≡ b)
FreesPages b address pages (Err NotFound) new =
    IsValidRange address pages × (¬ IsAllocated b.memory address pages) × (new ≡ b)
FreesPages b address pages (Err OutOfResources) new =
    IsValidRange address pages × IsAllocated b.memory address pages × (new ≡ b) × (b.frees ≡ 0)
FreesPages b address pages (Err status) new = ⊥

-- ---- the pages of the pool

-- the request of the pool on a machine with a granule: any pages
abbrev pub pool_request : ℕ → ℕ → ℕ → Request
pool_request granule t pages = whole_request granule t pages page_count

-- what the pool is answered that takes pages, and the book after it: they are placed with the owner
-- Pool
abbrev pub TakesForPool : {A : Type 0} → Choice → Book → ℕ → ℕ → Result (Placed A) Status → Book
    → Type 0
TakesForPool Chosen b t pages result new =
    PlacesPages Chosen b (pool_request b.granule t pages) Pool result new

-- the book after the pool gave a range back: its pages are conventional; of no pages no type
-- changes, and the key stays
abbrev pub given_back : PageRange → Book → Book
given_back range b = if range.pages == 0 then b else ended_book range b

-- what the pool is answered that gives pages back, and the book after it: OUT_OF_RESOURCES, which
-- leaves the book, means that memory ran out and that none is reserved for the end of an extent
abbrev pub GivesFromPool : Book → PageRange → Result (Unit {0}) Status → Book → Type 0
GivesFromPool b range (Ok done) new = new ≡ given_back range b
GivesFromPool b range (Err OutOfResources) new = (new ≡ b) × (b.ends ≡ 0)
GivesFromPool b range (Err status) new = ⊥
