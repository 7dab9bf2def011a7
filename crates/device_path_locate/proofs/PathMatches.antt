-- Paths in the pool, and which of them match.
use Rattle.std.proofs.Common.{◌≡◌, ℕ, ◌+◌, ◌<◌, ◌≤◌, ◌++◌, nat_lt, List, length, take, drop, get_or, IfSome, Option, Some, None, option_map, option_and_then, refl, sym, ap, ◌∙◌, arith, append_assoc, inl, inr, lt-ltb, le-ltb}
use Rattle.std.proofs.lemmas.List.{drop_more, length-append, take_at}
use Rattle.std.proofs.lemmas.Bool.{cases_Bool, cases_lt}
use Rattle.std.specs.List.{concat, cons_option, filter_map}
use Rattle.pool_services.specs.Extents.{Extent, tail_at}
use Rattle.guid_handles.specs.HandleTables.{HandleTable}
use Rattle.device_path_locate.specs.declared.spans.PathSpan.{PathSpan}
use Rattle.device_path_locate.specs.DevicePaths.{Node, end_of_path, first_instance, path_in, span_of}
use Rattle.device_path_locate.specs.Locating.{located_bytes, located_match, located_path, longer_of, longest, path_at, whole_bytes}
use Rattle.device_path_locate.specs.Reading.{IsBestMatch, IsFoundFrom, longer_if, matched_bytes}
use Rattle.device_path_locate.proofs.NodeLists.{begins_with}
use Rattle.device_path_locate.proofs.Fronts.{HasFront, first_front, first_instance_nodes}

-- ---- the bytes of a path that was read

pub spanned : (path : Option (List Node)) (span : PathSpan) → Some span ≡ option_map span_of path → (ns : List Node) × (path ≡ Some ns) × (span ≡ span_of ns)
spanned None span e = absurd cc
spanned (Some ns) span e = (ns, refl, cc)

front_taken : (bytes front : List ℕ) → HasFront bytes front → take (length front) bytes ≡ front
front_taken bytes front h = ap (take (length front)) h.1 ∙ take_at front h.0 (length front) refl

-- a span and the bytes that it reaches over
pub record Reached (bytes : List ℕ) (size : ℕ) (found : Option (List ℕ)) : Type 0 where
  pub within : size + 4 ≤ length bytes
  pub taken : Some (take size bytes) ≡ found

pub whole_read : (bytes : List ℕ) (span : PathSpan) → Some span ≡ option_map span_of (path_in bytes) → Reached bytes span.whole (whole_bytes (path_in bytes))
whole_read bytes span e =
    let s = spanned (path_in bytes) span e in
    let b = begins_with bytes s.0 s.1 in
    let front : HasFront bytes (concat s.0) = (end_of_path ++ b.rest, b.is ∙ append_assoc (concat s.0) end_of_path b.rest) in
    let size : span.whole ≡ length (concat s.0) = ap (λ (x : PathSpan). x.whole) s.2 in
    record {
      within = omega (arith, size, ap length front.1, length-append (concat s.0) (end_of_path ++ b.rest));
      taken = ap (λ (k : ℕ). Some (take k bytes)) size ∙ ap (λ (xs : List ℕ). Some xs) (front_taken bytes (concat s.0) front) ∙ ap whole_bytes (sym s.1);
    }

pub first_read : (bytes : List ℕ) (span : PathSpan) → Some span ≡ option_map span_of (path_in bytes) → Reached bytes span.first_instance (option_map (λ path. concat (first_instance path)) (path_in bytes))
first_read bytes span e =
    let s = spanned (path_in bytes) span e in
    let b = begins_with bytes s.0 s.1 in
    let f = first_front s.0 in
    let first : List ℕ = concat (first_instance s.0) in
    let more : List ℕ = f.0 ++ (end_of_path ++ b.rest) in
    let front : HasFront bytes first =
    (more, b.is ∙ append_assoc (concat s.0) end_of_path b.rest ∙ ap (λ (xs : List ℕ). xs ++ (end_of_path ++ b.rest)) f.1 ∙ append_assoc first f.0 (end_of_path ++ b.rest)) in
    let size : span.first_instance ≡ length first = ap (λ (x : PathSpan). x.first_instance) s.2 in
    record {
      within = omega (arith, size, ap length front.1, length-append first more, length-append f.0 (end_of_path ++ b.rest));
      taken =
          ap (λ (k : ℕ). Some (take k bytes)) size ∙ ap (λ (xs : List ℕ). Some xs) (front_taken bytes first front)
          ∙ ap (option_map (λ (path : List Node). concat (first_instance path))) (sym s.1);
    }

-- ---- the path of a handle

pub path_there : (bytes : List ℕ) (address : ℕ) (es : List Extent) → Some bytes ≡ tail_at address es → path_in bytes ≡ path_at address es
path_there bytes address es e = ap (option_and_then path_in) e

pub from_then : {X Y : Type 0} (f : X → Option Y) (o : Option X) (y : Y) → option_and_then f o ≡ Some y → (x : X) × (o ≡ Some x) × (f x ≡ Some y)
from_then f None y e = absurd cc
from_then f (Some x) y e = (x, refl, e)

-- ---- the longest of some matches

pub longer_none : (m : Option (ℕ × ℕ)) → longer_if m None ≡ m
longer_none None = refl
longer_none (Some m) = refl

longer_assoc : (a b c : Option (ℕ × ℕ)) → longer_if (longer_if a b) c ≡ longer_if a (longer_if b c)
longer_assoc None b c = refl
longer_assoc (Some a) None c = refl
longer_assoc (Some a) (Some b) None = longer_none (longer_of a (Some b))
longer_assoc (Some a) (Some b) (Some d) = elim (cases_lt a.1 b.1) [
  | inl k ↦ elim (cases_lt b.1 d.1) [
    | inl l ↦ rw (lt-ltb a.1 b.1 k, lt-ltb b.1 d.1 l, lt-ltb a.1 d.1 (omega (arith, k, l))) refl
    | inr l ↦ rw (lt-ltb a.1 b.1 k, le-ltb b.1 d.1 l) (rw (lt-ltb a.1 b.1 k) refl)
  ]
  | inr k ↦ elim (cases_lt b.1 d.1) [
    | inl l ↦ rw (le-ltb a.1 b.1 k, lt-ltb b.1 d.1 l) refl
    | inr l ↦ rw (le-ltb a.1 b.1 k, le-ltb b.1 d.1 l, le-ltb a.1 d.1 (omega (arith, k, l))) (rw (le-ltb a.1 b.1 k) refl)
  ]
]

longest-cons : (m : Option (ℕ × ℕ)) (ms : List (ℕ × ℕ)) → longest (cons_option m ms) ≡ longer_if m (longest ms)
longest-cons None ms = refl
longest-cons (Some m) ms = refl

-- a match that is no longer than the best one is passed over
passed : (best real found : Option (ℕ × ℕ)) → IsFoundFrom (λ m. m.1) (matched_bytes best) real found → longer_if best found ≡ longer_if best real
passed best real found (inl e) = ap (longer_if best) e
passed best None found (inr (e, l)) = ap (longer_if best) e
passed None (Some m) found (inr (e, l)) = absurd (omega (arith, l))
passed (Some b) (Some m) found (inr (e, l)) = ap (longer_if (Some b)) e ∙ rw (le-ltb b.1 m.1 (omega (arith, l))) refl

-- one handle more is looked at
pub one_more : (f : ℕ → Option (ℕ × ℕ)) (best found : Option (ℕ × ℕ)) (hs : List ℕ) (k : ℕ) (whole : Option (ℕ × ℕ)) → k < length hs → IsFoundFrom (λ m. m.1) (matched_bytes best) (f (get_or hs k 0)) found →
    longer_if best (longest (filter_map f (drop k hs))) ≡ whole → longer_if (longer_if best found) (longest (filter_map f (drop (k + 1) hs))) ≡ whole
one_more f best found hs k whole l m w =
    let rest : List (ℕ × ℕ) = filter_map f (drop (k + 1) hs) in
    let real : Option (ℕ × ℕ) = f (get_or hs k 0) in
    ap (λ (o : Option (ℕ × ℕ)). longer_if o (longest rest)) (passed best real found m)
    ∙ longer_assoc best real (longest rest)
    ∙ ap (longer_if best) (sym (longest-cons (f (get_or hs k 0)) rest))
    ∙ ap (λ (xs : List ℕ). longer_if best (longest (filter_map f xs))) (sym (drop_more hs k 0 l))
    ∙ w

pub longer_keeps : (P : ℕ × ℕ → Type 0) (a b : Option (ℕ × ℕ)) → IfSome a P → IfSome b P → IfSome (longer_if a b) P
longer_keeps P None b p q = q
longer_keeps P (Some a) None p q = p
longer_keeps P (Some a) (Some b) p q = elim (cases_Bool (nat_lt a.1 b.1)) [
  | inl c ↦ rw c q
  | inr c ↦ rw c p
]

-- ---- the answer

first_held : (path : Option (List Node)) (bytes : List ℕ) → Some bytes ≡ option_map (λ p. concat (first_instance p)) path → (ns : List Node) × (path ≡ Some ns) × (bytes ≡ concat (first_instance ns))
first_held None bytes e = absurd cc
first_held (Some ns) bytes e = (ns, refl, cc)

pub answered : (t : HandleTable) (es : List Extent) (guid bytes nodes : List ℕ) (found : Option (ℕ × ℕ)) → Some nodes ≡ option_map (λ p. concat (first_instance p)) (path_in bytes) →
    IsBestMatch t es guid nodes found → located_match found ≡ located_bytes t es guid bytes
answered t es guid bytes nodes found e b =
    let w = first_held (path_in bytes) nodes e in
    ap located_match (b (first_instance w.0) (first_instance_nodes w.0 ((begins_with bytes w.0 w.1).nodes)) w.2) ∙ ap (located_path t es guid) (sym w.1)
