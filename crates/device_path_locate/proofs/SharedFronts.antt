-- How far a path goes along some nodes.
use Rattle.std.proofs.Common.{◌≡◌, ℕ, ◌+◌, ◌-◌, ◌<◌, ◌≤◌, ◌++◌, true, false, List, [], ◌∷◌, length, take, drop, get_or, IfSome, Option, Some, None, option_map, option_and_then, refl, sym, ap, ◌∙◌, arith, append_assoc, inl, inr}
use Rattle.std.proofs.Math.Seq.{get_or-append_seam, take-add}
use Rattle.std.proofs.lemmas.List.{append-nil, drop_at, get_or-append-add, get_or-take, get_or_append_left, length-append, take-append-drop, take-take, take_at}
use Rattle.std.proofs.lemmas.List.Folds.{concat-append}
use Rattle.std.proofs.lemmas.Bool.{and_parts, cases_Bool, cases_lt}
use Rattle.std.proofs.lemmas.Slice.Eq.{bytes_eq-Decides}
use Rattle.std.specs.List.{AllByRecursion, concat}
use Rattle.page_ranges.proofs.Members.{all_append}
use Rattle.device_path_locate.specs.DevicePaths.{BeginsWith, IsPathNode, Node, bytes_of, end_of_path, nodes_from, path_in, same_bytes, size_of}
use Rattle.device_path_locate.specs.Locating.{is_front, matched_size}
use Rattle.device_path_locate.specs.Reading.{IsBoundary, IsCommonFront, IsInstanceNode}
use Rattle.device_path_locate.proofs.NodeLists.{begins_with}
use Rattle.device_path_locate.proofs.Fronts.{HasFront, front_has, has_front, no_end, node_read, read_of}
use Rattle.device_path_locate.proofs.PathMatches.{from_then}

pub if_some : {X : Type 0} (P : X → Type 0) (o : Option X) → ((x : X) → o ≡ Some x → P x) → IfSome o P
if_some P None f = tt
if_some P (Some x) f = f x refl

pub is_none : {X : Type 0} (o : Option X) → ((x : X) → o ≡ Some x → ⊥) → None ≡ o
is_none None f = refl
is_none (Some x) f = absurd (f x refl)

-- a front of both rows is no longer than what they share
shared : (a b front : List ℕ) (k : ℕ) → IsCommonFront a b k → HasFront a front → HasFront b front → length front ≤ k
shared a b front k c f g = elim (cases_lt k (length front)) [
  | inl l ↦
      absurd (c.ends (omega (arith, l, ap length f.1, length-append front f.0)) (omega (arith, l, ap length g.1, length-append front g.0)) (
      ap (λ (xs : List ℕ). get_or xs k 0) f.1 ∙ get_or_append_left front f.0 0 k l ∙ sym (get_or_append_left front g.0 0 k l) ∙ sym (ap (λ (xs : List ℕ). get_or xs k 0) g.1)))
  | inr l ↦ l
]

-- behind the first nodes of an instance no end begins
behind_front : (ps ns : List Node) → is_front ps ns ≡ true → AllByRecursion IsInstanceNode ns → length (concat ps) < length (concat ns) → get_or (concat ns) (length (concat ps)) 0 ≡ 0x7f → ⊥
behind_front [] [] f a l e = absurd (omega (arith, l))
behind_front (p ∷ ps) [] f a l e = absurd cc
behind_front [] ([] ∷ ns) f a l e = absurd (omega (arith, a.0.node.header))
behind_front [] ((t ∷ n) ∷ ns) f a l e =
    let z : t ≡ 0x7f = e in
    let y : true ≡ false = rw z at a.0.plain in
    absurd cc
behind_front (p ∷ ps) (n ∷ ns) f a l e =
    let q = and_parts (same_bytes p n) (is_front ps ns) f in
    let z : length p ≡ length n = ap length ((bytes_eq-Decides p n).0 q.0) in
    let k : length n + length (concat ps) ≡ length (p ++ concat ps) = omega (arith, z, length-append p (concat ps)) in
    behind_front ps ns q.1 a.1 (omega (arith, l, k, length-append n (concat ns)))
    (sym (get_or-append-add n (concat ns) (length (concat ps)) 0) ∙ ap (λ (i : ℕ). get_or (n ++ concat ns) i 0) k ∙ e)

instance_nodes : (ns : List Node) → AllByRecursion IsInstanceNode ns → AllByRecursion IsPathNode ns
instance_nodes [] a = tt
instance_nodes (n ∷ ns) a = (a.0.node, instance_nodes ns a.1)

-- ---- a path that begins with some nodes

map_nothing : (o : Option (List Node)) → o ≡ option_map (λ ns. [] ++ ns) o
map_nothing None = refl
map_nothing (Some ns) = refl

map_twice : (p : Node) (ps : List Node) (o : Option (List Node)) → option_map (λ ns. p ∷ ns) (option_map (λ ns. ps ++ ns) o) ≡ option_map (λ ns. (p ∷ ps) ++ ns) o
map_twice p ps None = refl
map_twice p ps (Some ns) = refl

read_behind : (ps : List Node) (rest : List ℕ) → AllByRecursion IsPathNode ps → path_in (concat ps ++ rest) ≡ option_map (λ ns. ps ++ ns) (path_in rest)
read_behind [] rest a = map_nothing (path_in rest)
read_behind (p ∷ ps) rest a =
    ap path_in (append_assoc p (concat ps) rest)
    ∙ node_read p (concat ps ++ rest) a.0
    ∙ ap (nodes_from p) (read_behind ps rest a.1)
    ∙ rw (no_end p a.0.inner, a.0.inner) (map_twice p ps (path_in rest))

mapped_behind : (ps ns : List Node) (o : Option (List Node)) → option_map (λ xs. ps ++ xs) o ≡ Some ns → (qs : List Node) × (o ≡ Some qs) × (ns ≡ ps ++ qs)
mapped_behind ps ns None e = absurd cc
mapped_behind ps ns (Some qs) e = (qs, refl, cc)

-- what is read of a path: the bytes from a boundary on, up to the end of the path
abbrev pub read_part : List ℕ → ℕ → ℕ → List ℕ
read_part path from k = take (k + 4 - from) (drop from path)

fits : (p ns : List Node) (size : ℕ) → matched_size ns p ≡ Some size → (is_front p ns ≡ true) × (size ≡ size_of p)
fits p ns size e = elim (cases_Bool (is_front p ns)) [
  | inl c ↦ let z : Some (size_of p) ≡ Some size = rw c at e in (c, cc)
  | inr c ↦ let z : None ≡ Some size = rw c at e in absurd cc
]

-- ---- where a path that matches ends

pub record IsEnded (path : List ℕ) (from k size : ℕ) : Type 0 where
  pub at : size ≡ k
  pub rest : List ℕ
  pub ends : drop k path ≡ end_of_path ++ rest
  pub read : from ≤ k → (qs : List Node) × (path_in (read_part path from k) ≡ Some qs) × (size_of qs ≡ k - from)

module _ (path nodes : List ℕ) (from k : ℕ) (b : IsBoundary nodes from) (c : IsCommonFront path nodes k) where
  abbrev whole : List Node → Option ℕ
  whole ns = option_and_then (matched_size ns) (path_in path)

  -- the path begins as the nodes do
  begun : from ≤ k → take from path ≡ concat b.front
  begun h = sym (take-take from k path h) ∙ ap (take from) c.same ∙ take-take from k nodes h ∙ ap (take from) b.is ∙ take_at (concat b.front) b.rest from b.sized

  read_rest : (p : List Node) → path_in path ≡ Some p → size_of p ≡ k → from ≤ k → (qs : List Node) × (path_in (read_part path from k) ≡ Some qs) × (size_of qs ≡ k - from)
  read_rest p e s h =
      let whole : path ≡ concat b.front ++ drop from path = sym (take-append-drop from path) ∙ ap (λ (xs : List ℕ). xs ++ drop from path) (begun h) in
      let m = mapped_behind b.front p (path_in (drop from path)) (sym (read_behind b.front (drop from path) b.nodes) ∙ sym (ap path_in whole) ∙ e) in
      let qs = m.0 in
      let all : length (concat p) ≡ length (concat b.front ++ concat qs) = ap length (ap concat m.2 ∙ concat-append b.front qs) in
      let z : size_of qs ≡ k - from = omega (arith, s, h, b.sized, all, length-append (concat b.front) (concat qs)) in
      let r = begins_with (drop from path) qs m.1 in
      let y : length (bytes_of qs) ≡ k + 4 - from = omega (arith, h, z, length-append (concat qs) end_of_path) in
      let part : read_part path from k ≡ bytes_of qs = ap (take (k + 4 - from)) r.is ∙ take_at (bytes_of qs) r.rest (k + 4 - from) y in
      (qs, read_of (read_part path from k) qs (record { nodes = r.nodes; rest = []; is = part ∙ sym (append-nil (bytes_of qs)) }), z)

  pub ended : (ns : List Node) → AllByRecursion IsInstanceNode ns → nodes ≡ concat ns → (size : ℕ) → whole ns ≡ Some size → IsEnded path from k size
  ended ns all z size e =
      let t = from_then (matched_size ns) (path_in path) size e in
      let p = t.0 in
      let m = fits p ns size t.2 in
      let r = begins_with path p t.1 in
      let f : HasFront path (concat p) = (end_of_path ++ r.rest, r.is ∙ append_assoc (concat p) end_of_path r.rest) in
      let g = front_has p ns m.0 in
      let l = length (concat p) in
      let low : l ≤ k = shared path nodes (concat p) k c f (g.0, z ∙ g.1) in
      let high : k ≤ l = elim (cases_lt l k) [
        | inl h ↦
            let there : get_or path l 0 ≡ 0x7f = ap (λ (xs : List ℕ). get_or xs l 0) f.1 ∙ get_or-append_seam (concat p) 0x7f (0xff ∷ 4 ∷ 0 ∷ r.rest) 0 in
            let same : get_or (concat ns) l 0 ≡ get_or path l 0 =
            ap (λ (xs : List ℕ). get_or xs l 0) (sym z) ∙ sym (get_or-take k nodes l 0 h) ∙ ap (λ (xs : List ℕ). get_or xs l 0) (sym c.same) ∙ get_or-take k path l 0 h in
            absurd (behind_front p ns m.0 all (omega (arith, h, c.within_other, ap length z)) (same ∙ there))
        | inr h ↦ h
      ] in
      let at : l ≡ k = omega (arith, low, high) in
      record {
        at = m.1 ∙ at;
        rest = r.rest;
        ends = ap (λ (i : ℕ). drop i path) (sym at) ∙ ap (drop l) f.1 ∙ drop_at (concat p) (end_of_path ++ r.rest) l refl;
        read = read_rest p t.1 at;
      }

  -- the path is read from the boundary on, and ends where it is no longer the same as the nodes
  module _ (h : from ≤ k) (rest : List ℕ) (ends : drop k path ≡ end_of_path ++ rest) (qs : List Node) (e : path_in (read_part path from k) ≡ Some qs) (s : size_of qs ≡ k - from) where
    is_read : BeginsWith (read_part path from k) qs
    is_read = begins_with (read_part path from k) qs e

    all_nodes : AllByRecursion IsPathNode (b.front ++ qs)
    all_nodes = let r = is_read in all_append IsPathNode b.front qs b.nodes r.nodes

    front : take k path ≡ concat (b.front ++ qs)
    front =
        let r = is_read in
        let n : k ≡ from + (k - from) = omega (arith, h) in
        let part : take (k - from) (drop from path) ≡ concat qs =
        sym (take-take (k - from) (k + 4 - from) (drop from path) (omega (arith, h)))
        ∙ ap (take (k - from)) (r.is ∙ append_assoc (concat qs) end_of_path r.rest)
        ∙ take_at (concat qs) (end_of_path ++ r.rest) (k - from) s in
        ap (λ (i : ℕ). take i path) n ∙ take-add from (k - from) path ∙ (λ i. begun h i ++ part i) ∙ sym (concat-append b.front qs)

    sized : size_of (b.front ++ qs) ≡ k
    sized = omega (arith, h, s, b.sized, ap length (concat-append b.front qs), length-append (concat b.front) (concat qs))

    first : nodes ≡ concat (b.front ++ qs) ++ drop k nodes
    first = sym (take-append-drop k nodes) ∙ ap (λ (xs : List ℕ). xs ++ drop k nodes) (sym c.same ∙ front)

    pub boundary : IsBoundary nodes k
    boundary = record {
      front = b.front ++ qs;
      nodes = all_nodes;
      rest = drop k nodes;
      is = first;
      sized = sized;
    }

    pub matched : (ns : List Node) → AllByRecursion IsInstanceNode ns → nodes ≡ concat ns → whole ns ≡ Some k
    matched ns of_instance z =
        let r : path_in path ≡ Some (b.front ++ qs) = read_of path (b.front ++ qs) (record {
          nodes = all_nodes;
          rest = rest;
          is = sym (take-append-drop k path) ∙ (λ i. front i ++ ends i) ∙ sym (append_assoc (concat (b.front ++ qs)) end_of_path rest);
        }) in
        let g : is_front (b.front ++ qs) ns ≡ true = has_front (b.front ++ qs) ns all_nodes (instance_nodes ns of_instance) (drop k nodes, sym z ∙ first) in
        ap (option_and_then (matched_size ns)) r ∙ rw g (ap (λ (i : ℕ). Some i) sized)
