-- What the parts of the reading and of the search answer.
use Rattle.std.specs.Prelude.{◌≡◌, ℕ, ◌≤◌, ◌<◌, ◌++◌, ◌⊎◌, false, List, length, take, drop, slice_index, Option, Some, None, IfSome}
use Rattle.std.specs.Option.{option_and_then}
use Rattle.std.specs.List.{AllByRecursion, concat}
use Rattle.pool_services.specs.Extents.{Extent}
use Rattle.guid_handles.specs.HandleTables.{HandleTable}
use Rattle.device_path_locate.specs.DevicePaths.{Node, IsPathNode, has_end_type, nodes_from, path_in, size_of}
use Rattle.device_path_locate.specs.Locating.{best_match, longer_of, match_of, matched_size}

-- the node at the front of some bytes, in which they do not run out
abbrev pub IsFrontNode : List ℕ → Option Node → Type 0
IsFrontNode bytes None = path_in bytes ≡ None
IsFrontNode bytes (Some n) =
    (4 ≤ length n) × (length n ≤ length bytes)
    × (path_in bytes ≡ nodes_from n (path_in (drop (length n) bytes)))

-- a node of an instance: its type is not that of the ends
pub record IsInstanceNode (n : Node) : Type 0 where
  pub node : IsPathNode n
  pub plain : has_end_type n ≡ false

-- some bytes begin with nodes of a number of bytes together
pub record IsBoundary (bytes : List ℕ) (size : ℕ) : Type 0 where
  pub front : List Node
  pub nodes : AllByRecursion IsPathNode front
  pub rest : List ℕ
  pub is : bytes ≡ concat front ++ rest
  pub sized : size_of front ≡ size

-- how many of their first bytes two rows share
pub record IsCommonFront (a b : List ℕ) (size : ℕ) : Type 0 where
  pub within : size ≤ length a
  pub within_other : size ≤ length b
  pub same : take size a ≡ take size b
  pub ends : size < length a → size < length b → slice_index a size ≡ slice_index b size → ⊥

-- What is found of a match, where one of fewer bytes than `from` may be passed over.
abbrev pub IsFoundFrom : {X : Type 0} → (X → ℕ) → ℕ → Option X → Option X → Type 0
IsFoundFrom size from whole found =
    (found ≡ whole) ⊎ ((found ≡ None) × IfSome whole (λ m. size m < from))

-- How many bytes of some nodes, given by their bytes, the path at the front of other bytes matches.
abbrev pub IsMatched : List ℕ → List ℕ → ℕ → Option ℕ → Type 0
IsMatched bytes nodes from found =
    (ns : List Node) → AllByRecursion IsInstanceNode ns → nodes ≡ concat ns →
    IsFoundFrom (λ size. size) from (option_and_then (matched_size ns) (path_in bytes)) found

-- The match of a handle, where nodes are given by their bytes.
abbrev pub IsMatch : HandleTable → List Extent → ℕ → List ℕ → ℕ → Option (ℕ × ℕ) → Type 0
IsMatch t es handle bytes from found =
    (ns : List Node) → AllByRecursion IsInstanceNode ns → bytes ≡ concat ns →
    IsFoundFrom (λ m. m.1) from (match_of t es ns handle) found

-- The longest match of some nodes, given by their bytes.
abbrev pub IsBestMatch : HandleTable → List Extent → List ℕ → List ℕ → Option (ℕ × ℕ) → Type 0
IsBestMatch t es guid bytes found =
    (ns : List Node) → AllByRecursion IsInstanceNode ns → bytes ≡ concat ns
    → found ≡ best_match t es guid ns

-- how many bytes a match has, none if there is none
abbrev pub matched_bytes : Option (ℕ × ℕ) → ℕ
matched_bytes None = 0
matched_bytes (Some m) = m.1

-- the longer of two matches that may be there, the first where they are equally long
abbrev pub longer_if : Option (ℕ × ℕ) → Option (ℕ × ℕ) → Option (ℕ × ℕ)
longer_if None other = other
longer_if (Some m) other = longer_of m other
