-- Device paths (EFI_DEVICE_PATH_PROTOCOL), read from bytes.
use Rattle.std.specs.Prelude.{◌≡◌, ℕ, zero, suc, ◌+◌, ◌-◌, ◌*◌, ◌≤◌, ◌++◌, ◌==◌, ◌||◌, nat_eq, nat_lt, Bool, true, false, cond, not, List, [], ◌∷◌, length, take, slice_index, Option, Some, None}
use Rattle.std.specs.Cmp.Lexicographic.{pointwise}
use Rattle.std.specs.List.{AllByRecursion, concat}
use Rattle.std.specs.Option.{option_map}
use Rattle.device_path_locate.specs.declared.spans.PathSpan.{PathSpan}

-- A node is its bytes: a type, a subtype, a length in 2 bytes that counts all of them, and the
-- rest.
abbrev pub Node : Type 0
Node = List ℕ

-- the length in a node's header, the low byte first
abbrev pub returned_length : ℕ → ℕ → ℕ
returned_length low high = low + 256 * high

-- the end of the entire path
abbrev pub end_of_path : Node
end_of_path = 0x7f ∷ 0xff ∷ 4 ∷ 0 ∷ []

-- the end of this instance, behind which the path goes on with another
abbrev pub end_of_instance : Node
end_of_instance = 0x7f ∷ 0x01 ∷ 4 ∷ 0 ∷ []

-- two nodes, or two rows of bytes, are the same byte for byte
abbrev pub same_bytes : List ℕ → List ℕ → Bool
same_bytes a b = pointwise nat_eq a b

-- a node of the type of the ends
abbrev pub has_end_type : Node → Bool
has_end_type [] = false
has_end_type (type ∷ bytes) = type == 0x7f

-- what may come before the end of the entire path: a node of another type, or the end of an
-- instance
abbrev pub is_inner : Node → Bool
is_inner n = not (has_end_type n) || same_bytes n end_of_instance

-- the nodes of a path that begins with a node, given those behind it
abbrev pub nodes_from : Node → Option (List Node) → Option (List Node)
nodes_from n behind =
    cond (same_bytes n end_of_path) (Some [])
    (cond (is_inner n) (option_map (λ ns. n ∷ ns) behind) None)

-- The nodes up to the end of the entire path, if it comes, where a number of bytes at the front are
-- passed over.
abbrev pub nodes_behind : ℕ → List ℕ → Option (List Node)
nodes_behind zero (type ∷ subtype ∷ low ∷ high ∷ bytes) =
    cond (nat_lt (returned_length low high) 4) None
    (nodes_from (type ∷ subtype ∷ low ∷ high ∷ take (returned_length low high - 4) bytes)
    (nodes_behind (returned_length low high - 4) bytes))
nodes_behind (suc k) (byte ∷ bytes) = nodes_behind k bytes
nodes_behind k bytes = None

-- The nodes of the path that some bytes begin with, if they begin with one: all before the end of
-- the entire path.
abbrev pub path_in : List ℕ → Option (List Node)
path_in bytes = nodes_behind 0 bytes

-- the nodes of a path before the first end of an instance
abbrev pub first_instance : List Node → List Node
first_instance [] = []
first_instance (n ∷ ns) = cond (same_bytes n end_of_instance) [] (n ∷ first_instance ns)

-- how many bytes some nodes have
abbrev pub size_of : List Node → ℕ
size_of ns = length (concat ns)

-- the sizes of a path, without the end of the entire path
abbrev pub span_of : List Node → PathSpan
span_of ns = record { first_instance = size_of (first_instance ns); whole = size_of ns }

-- ---- paths by their bytes

-- A node that may come before the end of the entire path. Its length field counts its bytes, the
-- header's too.
pub record IsPathNode (n : Node) : Type 0 where
  pub header : 4 ≤ length n
  pub returned : returned_length (slice_index n 2) (slice_index n 3) ≡ length n
  pub inner : is_inner n ≡ true

-- the bytes of a path: those of its nodes, one behind the other, and the end of the entire path
abbrev pub bytes_of : List Node → List ℕ
bytes_of ns = concat ns ++ end_of_path

-- some bytes begin with a path
pub record BeginsWith (bytes : List ℕ) (ns : List Node) : Type 0 where
  pub nodes : AllByRecursion IsPathNode ns
  pub rest : List ℕ
  pub is : bytes ≡ bytes_of ns ++ rest
