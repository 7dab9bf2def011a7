-- The nodes that come first, and their bytes.
use Rattle.std.proofs.Common.{◌≡◌, ℕ, ◌++◌, true, false, List, [], ◌∷◌, length, take, drop, get_or, Some, refl, sym, ap, ◌∙◌, arith, append_assoc, inl, inr}
use Rattle.std.proofs.lemmas.List.{append_cancel_left, drop_at, get_or_append_left, length-append, take_at}
use Rattle.std.proofs.lemmas.Bool.{and_from, and_left, and_parts, and_right, cases_Bool}
use Rattle.std.proofs.lemmas.Slice.Eq.{bytes_eq-Decides}
use Rattle.std.specs.List.{AllByRecursion, concat, list_any}
use Rattle.device_path_locate.specs.DevicePaths.{BeginsWith, IsPathNode, Node, bytes_of, end_of_instance, end_of_path, first_instance, has_end_type, is_inner, nodes_from, path_in, same_bytes}
use Rattle.device_path_locate.specs.Locating.{is_front}
use Rattle.device_path_locate.specs.Reading.{IsInstanceNode}
use Rattle.device_path_locate.proofs.NodeLists.{path_here}

-- ---- bytes that begin with a path are read as it

pub no_end : (n : Node) → is_inner n ≡ true → same_bytes n end_of_path ≡ false
no_end n i = elim (cases_Bool (same_bytes n end_of_path)) [
  | inl c ↦ let z : false ≡ true = rw ((bytes_eq-Decides n end_of_path).0 c) at i in absurd cc
  | inr c ↦ c
]

pub node_read : (n : Node) (behind : List ℕ) → IsPathNode n → path_in (n ++ behind) ≡ nodes_from n (path_in behind)
node_read [] behind p = absurd (omega (arith, p.header))
node_read (t ∷ []) behind p = absurd (omega (arith, p.header))
node_read (t ∷ s ∷ []) behind p = absurd (omega (arith, p.header))
node_read (t ∷ s ∷ l ∷ []) behind p = absurd (omega (arith, p.header))
node_read (t ∷ s ∷ l ∷ h ∷ rest) behind p =
    let n : Node = t ∷ s ∷ l ∷ h ∷ rest in
    path_here t s l h (length n) (rest ++ behind) (sym p.returned) p.header
    ∙ ap (λ (xs : List ℕ). nodes_from xs (path_in (drop (length n) (n ++ behind)))) (take_at n behind (length n) refl)
    ∙ ap (λ (xs : List ℕ). nodes_from n (path_in xs)) (drop_at n behind (length n) refl)

pub read_back : (ns : List Node) (rest : List ℕ) → AllByRecursion IsPathNode ns → path_in (bytes_of ns ++ rest) ≡ Some ns
read_back [] rest a = refl
read_back (n ∷ ns) rest a =
    ap path_in (ap (λ (xs : List ℕ). xs ++ rest) (append_assoc n (concat ns) end_of_path) ∙ append_assoc n (bytes_of ns) rest)
    ∙ node_read n (bytes_of ns ++ rest) a.0
    ∙ ap (nodes_from n) (read_back ns rest a.1)
    ∙ rw (no_end n a.0.inner, a.0.inner) refl

pub read_of : (bytes : List ℕ) (ns : List Node) → BeginsWith bytes ns → path_in bytes ≡ Some ns
read_of bytes ns b = ap path_in b.is ∙ read_back ns b.rest b.nodes

-- ---- the front of some nodes, and of their bytes

abbrev pub HasFront : List ℕ → List ℕ → Type 0
HasFront bytes front = (rest : List ℕ) × (bytes ≡ front ++ rest)

pub front_has : (ns ms : List Node) → is_front ns ms ≡ true → HasFront (concat ms) (concat ns)
front_has [] ms e = (concat ms, refl)
front_has (n ∷ ns) [] e = absurd cc
front_has (n ∷ ns) (m ∷ ms) e =
    let p = and_parts (same_bytes n m) (is_front ns ms) e in
    let z : n ≡ m = (bytes_eq-Decides n m).0 p.0 in
    let r = front_has ns ms p.1 in
    (r.0, ap (λ (xs : List ℕ). xs ++ concat ms) (sym z) ∙ ap (λ (xs : List ℕ). n ++ xs) r.1 ∙ sym (append_assoc n (concat ns) r.0))

-- the nodes at the front of the same bytes are the same
same_node : (n m : Node) (behind rest : List ℕ) → IsPathNode n → IsPathNode m → m ++ behind ≡ n ++ rest → (n ≡ m) × (behind ≡ rest)
same_node n m behind rest p q e =
    let at2 : get_or m 2 0 ≡ get_or n 2 0 =
    sym (get_or_append_left m behind 0 2 (omega (arith, q.header))) ∙ ap (λ (xs : List ℕ). get_or xs 2 0) e ∙ get_or_append_left n rest 0 2 (omega (arith, p.header)) in
    let at3 : get_or m 3 0 ≡ get_or n 3 0 =
    sym (get_or_append_left m behind 0 3 (omega (arith, q.header))) ∙ ap (λ (xs : List ℕ). get_or xs 3 0) e ∙ get_or_append_left n rest 0 3 (omega (arith, p.header)) in
    let z : length m ≡ length n = omega (arith, p.returned, q.returned, at2, at3) in
    let same : n ≡ m = sym (take_at n rest (length n) refl) ∙ ap (take (length n)) (sym e) ∙ take_at m behind (length n) z in
    (same, append_cancel_left n behind rest (ap (λ (xs : List ℕ). xs ++ behind) same ∙ e))

pub has_front : (ns ms : List Node) → AllByRecursion IsPathNode ns → AllByRecursion IsPathNode ms → HasFront (concat ms) (concat ns) → is_front ns ms ≡ true
has_front [] ms a b h = refl
has_front (n ∷ ns) [] a b h = absurd (omega (arith, a.0.header, ap length h.1, length-append (n ++ concat ns) h.0, length-append n (concat ns)))
has_front (n ∷ ns) (m ∷ ms) a b h =
    let s = same_node n m (concat ms) (concat ns ++ h.0) a.0 b.0 (h.1 ∙ append_assoc n (concat ns) h.0) in
    and_from (same_bytes n m) (is_front ns ms) ((bytes_eq-Decides n m).1 s.0) (has_front ns ms a.1 b.1 (h.0, s.1))

-- ---- the first instance

-- a node that may be in a path and is no end of an instance has another type
plain_node : (n : Node) → is_inner n ≡ true → same_bytes n end_of_instance ≡ false → has_end_type n ≡ false
plain_node n i e = elim (cases_Bool (has_end_type n)) [
  | inl c ↦ let z : false ≡ true = rw (c, e) at i in absurd cc
  | inr c ↦ c
]

pub first_instance_nodes : (ns : List Node) → AllByRecursion IsPathNode ns → AllByRecursion IsInstanceNode (first_instance ns)
first_instance_nodes [] a = tt
first_instance_nodes (n ∷ ns) a = elim (cases_Bool (same_bytes n end_of_instance)) [
  | inl c ↦ rw c tt
  | inr c ↦ rw c (record { node = a.0; plain = plain_node n a.0.inner c }, first_instance_nodes ns a.1)
]

pub first_front : (ns : List Node) → HasFront (concat ns) (concat (first_instance ns))
first_front [] = ([], refl)
first_front (n ∷ ns) = elim (cases_Bool (same_bytes n end_of_instance)) [
  | inl c ↦ rw c (n ++ concat ns, refl)
  | inr c ↦ let r = first_front ns in rw c (r.0, ap (λ (xs : List ℕ). n ++ xs) r.1 ∙ sym (append_assoc n (concat (first_instance ns)) r.0))
]

-- an end of an instance is no node of a first instance
pub not_first : (path ns : List Node) → list_any (λ n. same_bytes n end_of_instance) path ≡ true → is_front path (first_instance ns) ≡ false
not_first [] ns e = absurd cc
not_first (p ∷ path) [] e = refl
not_first (p ∷ path) (n ∷ ns) e = elim (cases_Bool (same_bytes n end_of_instance)) [
  | inl c ↦ rw c refl
  | inr c ↦ elim (cases_Bool (same_bytes p end_of_instance)) [
    | inl d ↦
        let f : same_bytes p n ≡ false = elim (cases_Bool (same_bytes p n)) [
          | inl g ↦
              let same : n ≡ end_of_instance = sym ((bytes_eq-Decides p n).0 g) ∙ (bytes_eq-Decides p end_of_instance).0 d in
              let z : true ≡ false = sym ((bytes_eq-Decides n end_of_instance).1 same) ∙ c in
              absurd cc
          | inr g ↦ g
        ] in
        rw c (and_left (same_bytes p n) (is_front path (first_instance ns)) f)
    | inr d ↦ rw c (and_right (same_bytes p n) (is_front path (first_instance ns)) (not_first path ns (rw d at e)))
  ]
]
