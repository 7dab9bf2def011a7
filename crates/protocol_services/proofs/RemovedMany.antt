-- Interfaces that are uninstalled one after the other.
use Rattle.std.proofs.Common.{◌≡◌, ◌∙◌, ℕ, ◌+◌, ◌<◌, ◌≤◌, ◌&&◌, not, Bool, true, false, List, [], ◌∷◌, length, drop, get_or, Option, Some, None, is_some, Result, Ok, Err, inl, inr, refl, sym, ap, arith}
use Rattle.std.proofs.Math.ListN.{drop_of_length-le}
use Rattle.std.proofs.lemmas.Bool.{cases_Bool}
use Rattle.page_ranges.specs.declared.statuses.Status.{Status}
use Rattle.page_ranges.specs.declared.statuses.Status.TheVariants.{AccessDenied, InvalidParameter, OutOfResources}
use Rattle.guid_handles.proofs.SortedLists.{drop_next}
use Rattle.driver_connect.specs.Drivers.{Meaning}
use Rattle.protocol_services.specs.Lists.{Lists, IsRaised}
use Rattle.protocol_services.specs.Removing.{Frees, Uninstalls, can_be_freed, freed, removal_refusal, uninstalled}
use Rattle.protocol_services.specs.RemovingMany.{UninstallsEach, UninstallsMany, all_uninstalled, can_be_uninstalled, max_uninstalled, once_uninstalled, refusal_of_all}
use Rattle.protocol_services.proofs.Freed.{IsPart, freed_part, part_further, part_raised, uninstalled_part}
use Rattle.protocol_services.proofs.Raised.{stays_raised}

-- ---- one of them

served : (refusal : Option Status) (can : Bool) (done : Unit {0}) (u l new : Lists) → Frees {R = Unit {0}} refusal can (λ done. new ≡ u) (Ok done) l new → ((not (is_some refusal) && can) ≡ true) × (new ≡ u)
served (Some r) can done u l new h = absurd h
served None can done u l new h = h

serves : (refusal : Option Status) (can : Bool) (u l : Lists) → (not (is_some refusal) && can) ≡ true → Frees {R = Unit {0}} refusal can (λ done. u ≡ u) (Ok tt) l u
serves (Some r) can u l e = absurd (cc)
serves None can u l e = (e, refl)

refused : (refusal : Option Status) (can : Bool) (Does : Unit {0} → Type 0) (status : Status) (l new : Lists) → Frees refusal can Does (Err status) l new → refusal_of_all status ≡ InvalidParameter → (not (is_some refusal) && can) ≡ false
refused (Some r) can Does status l new h e = refl
refused None can Does AccessDenied l new h e = h.0
refused None can Does OutOfResources l new h e = absurd (cc)
refused None can Does status l new h e = absurd h

-- What can be uninstalled is uninstalled by a call.
pub can_go : (ds : List Meaning) (l : Lists) (handle : ℕ) (p : List ℕ × ℕ) → can_be_uninstalled ds l handle p ≡ true → Uninstalls ds l handle p.0 p.1 (Ok tt) (once_uninstalled handle p l)
can_go ds l handle p e = serves (removal_refusal l.handles handle p.0 p.1) (can_be_freed ds l handle p.0) (once_uninstalled handle p l) l e

-- one went, and the others are to go
pub next_uninstalled : (ds : List Meaning) (handle : ℕ) (p : List ℕ × ℕ) (pairs : List (List ℕ × ℕ)) (done : Unit {0}) (l new : Lists) → Uninstalls ds l handle p.0 p.1 (Ok done) new → all_uninstalled ds handle (p ∷ pairs) l ≡ all_uninstalled ds handle pairs new
next_uninstalled ds handle p pairs done l new h =
    let s = served (removal_refusal l.handles handle p.0 p.1) (can_be_freed ds l handle p.0) done (once_uninstalled handle p l) l new h in
    rw s.0 (ap (λ (m : Lists). all_uninstalled ds handle pairs m) (sym s.1))

-- one is refused, and so are all
pub one_refused : (ds : List Meaning) (handle : ℕ) (p : List ℕ × ℕ) (pairs : List (List ℕ × ℕ)) (status : Status) (l new : Lists) → Uninstalls ds l handle p.0 p.1 (Err status) new → UninstallsEach ds l handle (p ∷ pairs) (Err (refusal_of_all status)) new
one_refused ds handle p pairs OutOfResources l new h = tt
one_refused ds handle p pairs status l new h =
    let f = refused (removal_refusal l.handles handle p.0 p.1) (can_be_freed ds l handle p.0) _ status l new h refl in
    rw f refl

-- ---- a single one

refused_stays : (refusal : Option Status) (can : Bool) (Does : Unit {0} → Type 0) (status : Status) (l new : Lists) → Frees refusal can Does (Err status) l new → new ≡ l
refused_stays (Some r) can Does status l new h = h.1
refused_stays None can Does AccessDenied l new h = h.1
refused_stays None can Does OutOfResources l new h = h
refused_stays None can Does status l new h = absurd h

-- it goes, and so do all
pub alone_gone : (ds : List Meaning) (handle : ℕ) (p : List ℕ × ℕ) (done : Unit {0}) (l new : Lists) → Uninstalls ds l handle p.0 p.1 (Ok done) new → UninstallsMany ds l handle (p ∷ []) (Ok done) new
alone_gone ds handle p done l new h = (omega arith, next_uninstalled ds handle p [] done l new h)

-- it is refused, and all stays
pub alone_refused : (ds : List Meaning) (handle : ℕ) (p : List ℕ × ℕ) (status : Status) (l new : Lists) → Uninstalls ds l handle p.0 p.1 (Err status) new → UninstallsMany ds l handle (p ∷ []) (Err (refusal_of_all status)) new
alone_refused ds handle p OutOfResources l new h = (omega arith, refused_stays (removal_refusal l.handles handle p.0 p.1) (can_be_freed ds l handle p.0) _ OutOfResources l new h)
alone_refused ds handle p status l new h = ((λ few. one_refused ds handle p [] status l new h), refused_stays (removal_refusal l.handles handle p.0 p.1) (can_be_freed ds l handle p.0) _ status l new h)

-- a list of one
pub only_one : (pairs : List (List ℕ × ℕ)) (p : List ℕ × ℕ) → 1 ≤ length pairs → length pairs < 2 → p ≡ get_or pairs 0 p → p ∷ [] ≡ pairs
only_one [] p least below is = absurd (omega arith)
only_one (q ∷ []) p least below is = ap (λ (r : List ℕ × ℕ). r ∷ []) is
only_one (q ∷ r ∷ more) p least below is = absurd (omega arith)

-- ---- what they leave of the other lists

frees_registrations : (refusal : Option Status) (can : Bool) (u : Lists) (result : Result (Unit {0}) Status) (l new : Lists) → u.registrations ≡ l.registrations → Frees refusal can (λ done. new ≡ u) result l new → new.registrations ≡ l.registrations
frees_registrations (Some r) can u (Ok done) l new e h = absurd h
frees_registrations (Some r) can u (Err status) l new e h = ap (λ (x : Lists). x.registrations) h.1
frees_registrations None can u (Ok done) l new e h = ap (λ (x : Lists). x.registrations) h.1 ∙ e
frees_registrations None can u (Err AccessDenied) l new e h = ap (λ (x : Lists). x.registrations) h.1
frees_registrations None can u (Err OutOfResources) l new e h = ap (λ (x : Lists). x.registrations) h
frees_registrations None can u (Err status) l new e h = absurd h

-- a call of UninstallProtocolInterface leaves the registrations
pub uninstalls_keep : (ds : List Meaning) (l : Lists) (handle : ℕ) (guid : List ℕ) (value : ℕ) (result : Result (Unit {0}) Status) (new : Lists) → Uninstalls ds l handle guid value result new → new.registrations ≡ l.registrations
uninstalls_keep ds l handle guid value result new h =
    frees_registrations (removal_refusal l.handles handle guid value) (can_be_freed ds l handle guid) (uninstalled handle guid (freed handle guid l)) result l new (uninstalled_part (freed handle guid l) handle guid).registrations h

-- ---- how far all of them raise the lists

once_part : (handle : ℕ) (p : List ℕ × ℕ) (l : Lists) → IsPart l (once_uninstalled handle p l)
once_part handle p l = part_further l (freed handle p.0 l) (once_uninstalled handle p l) (freed_part l handle p.0) (uninstalled_part (freed handle p.0 l) handle p.0)

all_part : (ds : List Meaning) (handle : ℕ) (pairs : List (List ℕ × ℕ)) (l new : Lists) → all_uninstalled ds handle pairs l ≡ Some new → IsPart l new
all_part ds handle [] l new e =
    let s : l ≡ new = cc in
    rw (← s) record { registrations = refl; numbers = refl; stamps = refl; counts = λ n h. h }
all_part ds handle (p ∷ pairs) l new e = elim (cases_Bool (can_be_uninstalled ds l handle p)) [
  | inl t ↦ let next = once_uninstalled handle p l in part_further l next new (once_part handle p l) (all_part ds handle pairs next new (rw t at e))
  | inr f ↦ let n : None ≡ Some new = rw f at e in absurd (cc)
]

pub all_raised : (ds : List Meaning) (handle : ℕ) (pairs : List (List ℕ × ℕ)) (l new : Lists) → all_uninstalled ds handle pairs l ≡ Some new → IsRaised l new
all_raised ds handle pairs l new e = part_raised l new new (all_part ds handle pairs l new e) (stays_raised new)

-- ---- more than are uninstalled at once

-- What is returned for too many is returned for any other too many.
pub too_many_refused : (ds : List Meaning) (l : Lists) (handle : ℕ) (ps qs : List (List ℕ × ℕ)) (result : Result (Unit {0}) Status) (new : Lists) → max_uninstalled < length ps → max_uninstalled < length qs
    → UninstallsMany ds l handle ps result new → UninstallsMany ds l handle qs result new
too_many_refused ds l handle ps qs (Ok done) new p q h = absurd (omega (arith, p, h.0))
too_many_refused ds l handle ps qs (Err InvalidParameter) new p q h = (λ few. absurd (omega (arith, q, few)), h.1)
too_many_refused ds l handle ps qs (Err OutOfResources) new p q h = absurd (omega (arith, p, h.0))
too_many_refused ds l handle ps qs (Err status) new p q h = absurd h

-- ---- one after the other

-- one of those that are left is refused, and so are all
pub refused_on : (ds : List Meaning) (handle i : ℕ) (p : List ℕ × ℕ) (pairs : List (List ℕ × ℕ)) (status : Status) (start l new : Lists) → i < length pairs → p ≡ get_or pairs i p
    → all_uninstalled ds handle (drop i pairs) l ≡ all_uninstalled ds handle pairs start → Uninstalls ds l handle p.0 p.1 (Err status) new → UninstallsEach ds start handle pairs (Err (refusal_of_all status)) new
refused_on ds handle i p pairs OutOfResources start l new a e same h = tt
refused_on ds handle i p pairs status start l new a e same h =
    sym same ∙ ap (λ (ps : List (List ℕ × ℕ)). all_uninstalled ds handle ps l) (drop_next pairs i p a e) ∙ one_refused ds handle p (drop (i + 1) pairs) status l new h

-- one of those that are left went
pub gone_on : (ds : List Meaning) (handle i : ℕ) (p : List ℕ × ℕ) (pairs : List (List ℕ × ℕ)) (done : Unit {0}) (start l new : Lists) → i < length pairs → p ≡ get_or pairs i p
    → all_uninstalled ds handle (drop i pairs) l ≡ all_uninstalled ds handle pairs start → Uninstalls ds l handle p.0 p.1 (Ok done) new → all_uninstalled ds handle (drop (i + 1) pairs) new ≡ all_uninstalled ds handle pairs start
gone_on ds handle i p pairs done start l new a e same h =
    sym (next_uninstalled ds handle p (drop (i + 1) pairs) done l new h) ∙ sym (ap (λ (ps : List (List ℕ × ℕ)). all_uninstalled ds handle ps l) (drop_next pairs i p a e)) ∙ same

-- all went
pub all_gone : (ds : List Meaning) (handle i : ℕ) (pairs : List (List ℕ × ℕ)) (start l : Lists) → length pairs ≤ i → all_uninstalled ds handle (drop i pairs) l ≡ all_uninstalled ds handle pairs start → all_uninstalled ds handle pairs start ≡ Some l
all_gone ds handle i pairs start l a same = sym same ∙ ap (λ (ps : List (List ℕ × ℕ)). all_uninstalled ds handle ps l) (drop_of_length-le pairs {i = i} a)
