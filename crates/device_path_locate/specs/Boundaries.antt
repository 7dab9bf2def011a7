-- The boundaries between the nodes of a path.
use Rattle.std.specs.Prelude.{◌≡◌, ℕ, ◌+◌, ◌≤◌, ◌<◌, ◌++◌, ◌&&◌, nat_le, nat_lt, cond, List, [], ◌∷◌, length, drop, slice_index, Option, Some, None}
use Rattle.std.specs.List.{AllByRecursion, concat}
use Rattle.device_path_locate.specs.DevicePaths.{IsPathNode, Node, returned_length, size_of}

-- Some bytes begin with a node, of whatever type. Its length field counts its bytes, the header's
-- too.
pub record BeginsWithNode (bytes : List ℕ) (n : Node) : Type 0 where
  pub header : 4 ≤ length n
  pub returned : returned_length (slice_index n 2) (slice_index n 3) ≡ length n
  pub rest : List ℕ
  pub is : bytes ≡ n ++ rest

-- the node that some bytes begin with, if they begin with one
abbrev pub IsReturnedNode : List ℕ → Option Node → Type 0
IsReturnedNode bytes None = (n : Node) → BeginsWithNode bytes n → ⊥
IsReturnedNode bytes (Some n) = BeginsWithNode bytes n

-- the node that some bytes begin with, if they begin with one that may be in a path
abbrev pub IsFrontPathNode : List ℕ → Option Node → Type 0
IsFrontPathNode bytes None = (n : Node) (rest : List ℕ) → IsPathNode n → bytes ≡ n ++ rest → ⊥
IsFrontPathNode bytes (Some n) = IsPathNode n × (rest : List ℕ) × (bytes ≡ n ++ rest)

-- A walk over nodes of a path, from a boundary on, to another and over how many: as many as a limit
-- says, or all that there are.
pub record IsWalk (bytes : List ℕ) (from limit : ℕ) (walked : ℕ × ℕ) : Type 0 where
  pub nodes : List Node
  pub paths : AllByRecursion IsPathNode nodes
  pub is : drop from bytes ≡ concat nodes ++ drop walked.0 bytes
  pub sized : from + size_of nodes ≡ walked.0
  pub counted : length nodes ≡ walked.1
  pub within : walked.1 ≤ limit
  pub ends : walked.1 < limit → IsFrontPathNode (drop walked.0 bytes) None

-- the last of some sizes that is above one and at most another, the lower of these if there is none
abbrev pub last_within : List ℕ → ℕ → ℕ → ℕ
last_within [] from size = from
last_within (m ∷ ms) from size =
    last_within ms (cond (nat_lt from m && nat_le m size) m from) size
