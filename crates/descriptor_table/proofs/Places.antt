-- A walk along runs, and places among them.
use Rattle.std.proofs.Common.{◌≡◌, ◌≢◌, ℕ, zero, suc, true, false, ◌+◌, ◌<◌, ◌≤◌, List, [], ◌∷◌, length, length-drop, get_or, drop, Option, Some, None, refl, sym, subst, ap, ◌∙◌, arith, IfSome}
use Rattle.std.specs.Prelude.{slice_get}
use Rattle.std.proofs.lemmas.Option.{get_or_from_slice_get, slice_get_within, slice_get-get_or}
use Rattle.page_ranges.specs.declared.ranges.Run.{Run}
use Rattle.page_ranges.specs.Memory.{page_at, IsProperMemory}
use Rattle.page_ranges.specs.Cursors.{IsBlockAt}
use Rattle.page_ranges.specs.MemoryMap.{memory_map, should_be_one}
use Rattle.page_ranges.specs.Runs.{pages_of, AreRuns, AreMaximalRuns}
use Rattle.page_ranges.proofs.RunMaps.{map_apart}
use Rattle.descriptor_table.specs.Tables.{entry_of, EndBy, IsBlockBelow}
use Rattle.descriptor_table.specs.Leaves.{RunPlace, PassesRun, IsPlace, run_before, runs_with_first}
use Rattle.descriptor_table.proofs.FreeRuns.{above_touching, above_gap, above_last, below_touching, below_gap, below_first}
use Rattle.descriptor_table.proofs.EntryRuns.{stretched, entry_to, goes_on_in, ends_before_next, ends_at_last}

pub none_next : (rs : List Run) → slice_get rs 0 ≡ None → rs ≡ []
none_next [] e = refl
none_next (r ∷ rs) e = absurd cc

-- the runs that are to come are the one that is passed now and those after it
pub passed_first : (old new : List Run) (o : Option Run) → PassesRun old o new → old ≡ runs_with_first o new
passed_first old new None p = p.0
passed_first old new (Some r) p = p

-- ---- the runs of an entry

module _ (q last run : Run) (old new : List Run) (next : old ≡ run ∷ new) (runs : AreRuns (last ∷ old)) where
  both : AreRuns (last ∷ run ∷ new)
  both = subst (λ ss. AreRuns (last ∷ ss)) next runs

  pub next_runs : AreRuns (run ∷ new)
  next_runs = both.2

  pub next_from : last.range.first ≤ run.range.first
  next_from = omega (arith, both.1.0)

  pub next_goes_on : should_be_one (entry_of last) (entry_of run) ≡ true → stretched q (memory_map (pages_of (last ∷ old))) ≡ stretched q (memory_map (pages_of (run ∷ new)))
  next_goes_on t = ap (λ ss. stretched q (memory_map (pages_of (last ∷ ss)))) next ∙ goes_on_in q last run new both t

  -- the entry of one run
  pub one_run_entry : should_be_one (entry_of last) (entry_of run) ≡ false → memory_map (pages_of (last ∷ old)) ≡ entry_of last ∷ memory_map (pages_of (run ∷ new))
  one_run_entry f = ap (λ ss. memory_map (pages_of (last ∷ ss))) next ∙ map_apart last run new both.0 both.2.0 f

  pub entry_is_done : should_be_one (entry_of last) (entry_of run) ≡ false → stretched q (memory_map (pages_of (last ∷ old))) ≡ entry_to q last ∷ memory_map (pages_of (run ∷ new))
  entry_is_done f = ap (λ ss. stretched q (memory_map (pages_of (last ∷ ss)))) next ∙ ends_before_next q last run new both f

pub last_entry_done : (q last : Run) (old : List Run) → old ≡ [] → AreRuns (last ∷ old) → stretched q (memory_map (pages_of (last ∷ old))) ≡ entry_to q last ∷ memory_map (pages_of [])
last_entry_done q last old e a = ap (λ ss. stretched q (memory_map (pages_of (last ∷ ss)))) e ∙ ends_at_last q last a.0

-- ---- places by index

pub at_place : (rs : List Run) (i : ℕ) (r : Run) (ss : List Run) → r ∷ ss ≡ drop i rs → (i < length rs) × (slice_get rs i ≡ Some r) × (ss ≡ drop (suc i) rs)
at_place [] zero r ss e = absurd cc
at_place [] (suc i) r ss e = absurd cc
at_place (q ∷ rs) zero r ss e = (omega arith, let same : q ≡ r = cc in ap (λ (x : Run). Some x) same, cc)
at_place (q ∷ rs) (suc i) r ss e = let h = at_place rs i r ss e in (omega (arith, h.0), h.1, h.2)

get_ends : (n : ℕ) (rs : List Run) (i : ℕ) → EndBy n rs → i < length rs → IfSome (slice_get rs i) (λ r. r.range.first + r.range.pages ≤ n)
get_ends n [] i a h = absurd (omega arith)
get_ends n (r ∷ rs) zero a h = a.0
get_ends n (r ∷ rs) (suc i) a h = get_ends n rs i a.1 (omega arith)

before_ends : (n : ℕ) (rs : List Run) (i : ℕ) → EndBy n rs → i ≤ length rs → IfSome (run_before rs i) (λ r. r.range.first + r.range.pages ≤ n)
before_ends n rs zero a h = tt
before_ends n rs (suc i) a h = get_ends n rs i a (omega arith)

-- the run that was passed last ends by the end of all
pub passed_ends : (n : ℕ) (rs : List Run) (p : RunPlace) → EndBy n rs → IsPlace rs p → IfSome p.before (λ r. r.range.first + r.range.pages ≤ n)
passed_ends n rs p a h = subst (λ o. IfSome o (λ r. r.range.first + r.range.pages ≤ n)) (sym h.passed) (before_ends n rs h.index a h.bound)

-- ---- what lies beside a run at a place

module _ (rs ss : List Run) (r : Run) (o : Option Run) (maximal : AreMaximalRuns rs) (proper : IsProperMemory (pages_of rs)) where
  abbrev place : Type 0
  place = IsPlace rs (record { before = o; rest = r ∷ ss })

  here : (p : place) → (p.index < length rs) × (slice_get rs p.index ≡ Some r) × (ss ≡ drop (suc p.index) rs)
  here p = at_place rs p.index r ss p.to_come

  get_next : (xs : List Run) (i : ℕ) → slice_get (drop i xs) 0 ≡ slice_get xs i
  get_next [] zero = refl
  get_next [] (suc i) = refl
  get_next (x ∷ xs) zero = refl
  get_next (x ∷ xs) (suc i) = get_next xs i

  read_run : (i : ℕ) (x : Run) → slice_get rs i ≡ Some x → x ≡ get_or rs i x
  read_run i x e = sym (get_or_from_slice_get rs i x x e)

  -- the run above
  pub above_touches : place → (s : Run) → slice_get ss 0 ≡ Some s → r.range.first + r.range.pages ≡ s.range.first → IsBlockAt (pages_of rs) (r.range.first + r.range.pages) (Some (entry_of s))
  above_touches p s e touch =
      let h = here p in
      let k : p.index + 1 ≡ suc p.index = omega arith in
      let next : slice_get rs (p.index + 1) ≡ Some s = ap (slice_get rs) k ∙ sym (get_next rs (suc p.index)) ∙ ap (λ xs. slice_get xs 0) (sym h.2) ∙ e in
      above_touching rs maximal proper p.index r s (slice_get_within rs (p.index + 1) s next) (read_run p.index r h.1) (read_run (p.index + 1) s next) r h.1 touch

  pub above_is_gap : place → (s : Run) → slice_get ss 0 ≡ Some s → r.range.first + r.range.pages ≢ s.range.first → page_at (pages_of rs) (r.range.first + r.range.pages) ≡ None
  above_is_gap p s e gap =
      let h = here p in
      let k : p.index + 1 ≡ suc p.index = omega arith in
      let next : slice_get rs (p.index + 1) ≡ Some s = ap (slice_get rs) k ∙ sym (get_next rs (suc p.index)) ∙ ap (λ xs. slice_get xs 0) (sym h.2) ∙ e in
      above_gap rs maximal proper p.index r s (slice_get_within rs (p.index + 1) s next) (read_run p.index r h.1) (read_run (p.index + 1) s next) r h.1 gap

  pub above_is_none : place → slice_get ss 0 ≡ None → page_at (pages_of rs) (r.range.first + r.range.pages) ≡ None
  above_is_none p e =
      let h = here p in
      let none = ap length (sym h.2 ∙ none_next ss e) in
      above_last rs maximal proper p.index r (omega (arith, h.0, none, length-drop (suc p.index) rs)) h.1

-- the run below
module _ (rs ss : List Run) (r : Run) (maximal : AreMaximalRuns rs) (proper : IsProperMemory (pages_of rs)) where
  below_at : (i : ℕ) (q : Run) → run_before rs i ≡ Some q → i < length rs → slice_get rs i ≡ Some r → (j : ℕ) × (j + 1 ≡ i) × (slice_get rs j ≡ Some q)
  below_at zero q e h f = absurd cc
  below_at (suc j) q e h f = (j, omega arith, e)

  pub below_touches : (q : Run) → IsPlace rs (record { before = Some q; rest = r ∷ ss }) → q.range.first + q.range.pages ≡ r.range.first → IsBlockBelow (pages_of rs) r.range.first (Some (entry_of q))
  below_touches q p touch =
      let h = at_place rs p.index r ss p.to_come in
      let b = below_at p.index q (sym p.passed) h.0 h.1 in
      let here' : slice_get rs (b.0 + 1) ≡ Some r = ap (slice_get rs) b.1 ∙ h.1 in
      below_touching rs maximal proper b.0 q r (omega (arith, b.1, h.0)) (sym (get_or_from_slice_get rs b.0 q q b.2)) (sym (get_or_from_slice_get rs (b.0 + 1) r r here')) r here' touch

  pub below_is_gap : (q : Run) → IsPlace rs (record { before = Some q; rest = r ∷ ss }) → q.range.first + q.range.pages ≢ r.range.first → IsBlockBelow (pages_of rs) r.range.first None
  below_is_gap q p gap =
      let h = at_place rs p.index r ss p.to_come in
      let b = below_at p.index q (sym p.passed) h.0 h.1 in
      let here' : slice_get rs (b.0 + 1) ≡ Some r = ap (slice_get rs) b.1 ∙ h.1 in
      below_gap rs maximal proper b.0 q r (omega (arith, b.1, h.0)) (sym (get_or_from_slice_get rs b.0 q q b.2)) (sym (get_or_from_slice_get rs (b.0 + 1) r r here')) r here' gap

  first_place : (i : ℕ) → None ≡ run_before rs i → i < length rs → i ≡ 0
  first_place zero e h = refl
  first_place (suc i) e h = absurd (let some = slice_get-get_or rs i r (omega arith) in let both = e ∙ some in cc)

  pub below_is_none : IsPlace rs (record { before = None; rest = r ∷ ss }) → IsBlockBelow (pages_of rs) r.range.first None
  below_is_none p =
      let h = at_place rs p.index r ss p.to_come in
      below_first rs maximal proper p.index r (first_place p.index p.passed h.0) h.1

-- a run that comes next ends by the end of all
pub next_ends : (n : ℕ) (rs ss : List Run) (r : Run) (o : Option Run) → EndBy n rs → IsPlace rs (record { before = o; rest = r ∷ ss }) → r.range.first + r.range.pages ≤ n
next_ends n rs ss r o a p =
    let h = at_place rs p.index r ss p.to_come in
    subst (λ x. IfSome x (λ r. r.range.first + r.range.pages ≤ n)) h.1 (get_ends n rs p.index a h.0)
