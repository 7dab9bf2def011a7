-- Walks over the nodes of a path, and the boundaries that they reach.
use Rattle.std.proofs.Common.{◌≡◌, ℕ, zero, suc, ◌+◌, ◌<◌, ◌≤◌, ◌++◌, ◌&&◌, ◌⊎◌, nat_le, nat_lt, true, false, cond, List, [], ◌∷◌, length, take, drop, get_or, replicate, Some, None, refl, sym, ap, ◌∙◌, arith, append_assoc, inl, inr, leb-true}
use Rattle.std.proofs.lemmas.List.{append-nil, drop-drop, drop_at, get_or-take, length-append, length-drop, length-take-le, take-append-drop, take_at}
use Rattle.std.proofs.lemmas.List.Folds.{concat-append}
use Rattle.std.proofs.lemmas.Bool.{and_parts, cases_Bool}
use Rattle.std.specs.List.{AllByRecursion, concat}
use Rattle.byteorder.specs.Endian.{little_number}
use Rattle.page_ranges.proofs.Members.{all_append}
use Rattle.device_path_locate.specs.DevicePaths.{IsPathNode, Node, is_inner, size_of}
use Rattle.device_path_locate.specs.Boundaries.{BeginsWithNode, IsFrontPathNode, IsReturnedNode, IsWalk, last_within}
use Rattle.device_path_locate.specs.Reading.{IsBoundary}

-- ---- the node at the front

-- the length in the header of a node, in the bytes that begin with it
header_read : (xs : List ℕ) (n : Node) → BeginsWithNode xs n → little_number 2 (drop 2 xs) ≡ length n
header_read xs [] b = absurd (omega (arith, b.header))
header_read xs (t ∷ []) b = absurd (omega (arith, b.header))
header_read xs (t ∷ s ∷ []) b = absurd (omega (arith, b.header))
header_read xs (t ∷ s ∷ l ∷ []) b = absurd (omega (arith, b.header))
header_read xs (t ∷ s ∷ l ∷ h ∷ held) b = ap (λ (ys : List ℕ). little_number 2 (drop 2 ys)) b.is ∙ omega (arith, b.returned)

pub short_header : (xs : List ℕ) → length xs < 4 → IsReturnedNode xs None
short_header xs l = λ n b. absurd (omega (arith, l, b.header, ap length b.is, length-append n b.rest))

pub other_length : (xs : List ℕ) (k : ℕ) → k ≡ little_number 2 (drop 2 xs) → (k < 4) ⊎ (length xs < k) → IsReturnedNode xs None
other_length xs k e (inl o) = λ n b. absurd (omega (arith, e, o, b.header, header_read xs n b))
other_length xs k e (inr o) = λ n b. absurd (omega (arith, e, o, header_read xs n b, ap length b.is, length-append n b.rest))

pub returned_node : (xs : List ℕ) (k : ℕ) → 4 ≤ length xs → k ≡ little_number 2 (drop 2 xs) → 4 ≤ k → k ≤ length xs → IsReturnedNode xs (Some (take k xs))
returned_node [] k h e m l = absurd (omega (arith, h))
returned_node (t ∷ []) k h e m l = absurd (omega (arith, h))
returned_node (t ∷ s ∷ []) k h e m l = absurd (omega (arith, h))
returned_node (t ∷ s ∷ a ∷ []) k h e m l = absurd (omega (arith, h))
returned_node (t ∷ s ∷ a ∷ b ∷ rest) k h e m l =
    let xs : List ℕ = t ∷ s ∷ a ∷ b ∷ rest in
    let z : length (take k xs) ≡ k = length-take-le k xs l in
    let at2 : get_or (take k xs) 2 0 ≡ a = get_or-take k xs 2 0 (omega (arith, m)) in
    let at3 : get_or (take k xs) 3 0 ≡ b = get_or-take k xs 3 0 (omega (arith, m)) in
    record {
      header = omega (arith, z, m);
      returned = omega (arith, z, e, at2, at3);
      rest = drop k xs;
      is = sym (take-append-drop k xs);
    }

pub no_path_node : (xs : List ℕ) → IsReturnedNode xs None → IsFrontPathNode xs None
no_path_node xs f = λ n rest p e. f n (record { header = p.header; returned = p.returned; rest = rest; is = e })

-- the nodes that begin the same bytes are the same
pub other_node : (xs : List ℕ) (n m : Node) → BeginsWithNode xs n → BeginsWithNode xs m → n ≡ m
other_node xs n m a b =
    let z : length n ≡ length m = omega (arith, header_read xs n a, header_read xs m b) in
    sym (take_at n a.rest (length n) refl) ∙ ap (take (length n)) (sym a.is ∙ b.is) ∙ take_at m b.rest (length n) (sym z)

pub no_inner : (xs : List ℕ) (n : Node) → BeginsWithNode xs n → is_inner n ≡ false → IsFrontPathNode xs None
no_inner xs n b f = λ m rest p e.
    let same = other_node xs n m b (record { header = p.header; returned = p.returned; rest = rest; is = e }) in
    let y : true ≡ false = sym p.inner ∙ ap is_inner (sym same) ∙ f in
    absurd cc

pub path_node : (xs : List ℕ) (n : Node) → BeginsWithNode xs n → is_inner n ≡ true → IsFrontPathNode xs (Some n)
path_node xs n b i = (record { header = b.header; returned = b.returned; inner = i }, b.rest, b.is)

-- ---- walks

-- what a walk has gone over so far
pub record IsWalked (bytes : List ℕ) (from at count : ℕ) : Type 0 where
  pub nodes : List Node
  pub paths : AllByRecursion IsPathNode nodes
  pub is : drop from bytes ≡ concat nodes ++ drop at bytes
  pub sized : from + size_of nodes ≡ at
  pub counted : length nodes ≡ count

pub walk_begun : (bytes : List ℕ) (from : ℕ) → IsWalked bytes from from 0
walk_begun bytes from = record { nodes = []; paths = tt; is = refl; sized = omega arith; counted = refl }

pub one_further : (bytes : List ℕ) (from at count : ℕ) (n : Node) → IsWalked bytes from at count → IsFrontPathNode (drop at bytes) (Some n) → IsWalked bytes from (at + length n) (count + 1)
one_further bytes from at count n w f =
    let more : concat (w.nodes ++ (n ∷ [])) ≡ concat w.nodes ++ n = concat-append w.nodes (n ∷ []) ∙ ap (λ (xs : List ℕ). concat w.nodes ++ xs) (append-nil n) in
    let behind : drop (at + length n) bytes ≡ f.1 = sym (drop-drop (length n) at bytes) ∙ ap (drop (length n)) f.2 ∙ drop_at n f.1 (length n) refl in
    record {
      nodes = w.nodes ++ (n ∷ []);
      paths = all_append IsPathNode w.nodes (n ∷ []) w.paths (f.0, tt);
      is =
          w.is
          ∙ ap (λ (xs : List ℕ). concat w.nodes ++ xs) (f.2 ∙ ap (λ (xs : List ℕ). n ++ xs) (sym behind))
          ∙ sym (append_assoc (concat w.nodes) n (drop (at + length n) bytes))
          ∙ ap (λ (xs : List ℕ). xs ++ drop (at + length n) bytes) (sym more);
      sized = omega (arith, w.sized, ap length more, length-append (concat w.nodes) n);
      counted = omega (arith, w.counted, length-append w.nodes (n ∷ []));
    }

pub walk_ended : (bytes : List ℕ) (from limit at count : ℕ) → IsWalked bytes from at count → count ≤ limit → (count < limit → IsFrontPathNode (drop at bytes) None) → IsWalk bytes from limit (at, count)
walk_ended bytes from limit at count w l e = record { nodes = w.nodes; paths = w.paths; is = w.is; sized = w.sized; counted = w.counted; within = l; ends = e }

-- a walk from a boundary ends at one
pub boundary_behind : (bytes : List ℕ) (from limit : ℕ) (walked : ℕ × ℕ) → IsBoundary bytes from → IsWalk bytes from limit walked → IsBoundary bytes walked.0
boundary_behind bytes from limit walked b w =
    let behind : drop from bytes ≡ b.rest = ap (drop from) b.is ∙ drop_at (concat b.front) b.rest from b.sized in
    let more : concat (b.front ++ w.nodes) ≡ concat b.front ++ concat w.nodes = concat-append b.front w.nodes in
    record {
      front = b.front ++ w.nodes;
      nodes = all_append IsPathNode b.front w.nodes b.nodes w.paths;
      rest = drop walked.0 bytes;
      is =
          b.is
          ∙ ap (λ (xs : List ℕ). concat b.front ++ xs) (sym behind ∙ w.is)
          ∙ sym (append_assoc (concat b.front) (concat w.nodes) (drop walked.0 bytes))
          ∙ ap (λ (xs : List ℕ). xs ++ drop walked.0 bytes) (sym more);
      sized = omega (arith, w.sized, b.sized, ap length more, length-append (concat b.front) (concat w.nodes));
    }

pub first_boundary : (bytes : List ℕ) → IsBoundary bytes 0
first_boundary bytes = record { front = []; nodes = tt; rest = bytes; is = refl; sized = refl }

pub all_the_same : (P : ℕ → Type 0) (k x : ℕ) → P x → AllByRecursion P (replicate k x)
all_the_same P zero x p = tt
all_the_same P (suc k) x p = (p, all_the_same P k x p)

-- ---- the last of some marks

one_within : (P : ℕ → Type 0) (m from size : ℕ) → P m → P from → from ≤ size → P (cond (nat_lt from m && nat_le m size) m from) × (cond (nat_lt from m && nat_le m size) m from ≤ size)
one_within P m from size p q l = elim (cases_Bool (nat_lt from m && nat_le m size)) [
  | inl c ↦ rw c (p, omega (arith, leb-true m size (and_parts (nat_lt from m) (nat_le m size) c).1))
  | inr c ↦ rw c (q, l)
]

pub kept_within : (P : ℕ → Type 0) (ms : List ℕ) (from size : ℕ) → AllByRecursion P ms → P from → from ≤ size → P (last_within ms from size) × (last_within ms from size ≤ size)
kept_within P [] from size a q l = (q, l)
kept_within P (m ∷ ms) from size a q l = let o = one_within P m from size a.0 q l in kept_within P ms (cond (nat_lt from m && nat_le m size) m from) size a.1 o.0 o.1

pub boundary_within : (bytes : List ℕ) (at : ℕ) → IsBoundary bytes at → at ≤ length bytes
boundary_within bytes at b = omega (arith, b.sized, ap length b.is, length-append (concat b.front) b.rest)

pub node_within : (bytes : List ℕ) (at : ℕ) (n : Node) → at ≤ length bytes → IsFrontPathNode (drop at bytes) (Some n) → at + length n ≤ length bytes
node_within bytes at n l f = omega (arith, l, length-drop at bytes, ap length f.2, length-append n f.1)

-- a path is read from a boundary on, at or before a size
pub started : (bytes marks : List ℕ) (from size start : ℕ) → start ≡ last_within marks from size → AllByRecursion (IsBoundary bytes) marks → IsBoundary bytes from → from ≤ size → IsBoundary bytes start × (start ≤ size)
started bytes marks from size start e a b l = rw e (kept_within (IsBoundary bytes) marks from size a b l)
