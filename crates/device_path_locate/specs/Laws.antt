-- The laws of device paths. Each is the contract of a public function.
use Rattle.std.specs.Prelude.{◌≡◌, ◌↔◌, List, ◌++◌, true, Some, None, ℕ}
use Rattle.std.specs.List.{AllByRecursion, concat, list_any}
use Rattle.device_path_locate.specs.DevicePaths.{BeginsWith, IsPathNode, Node, end_of_instance, first_instance, path_in, same_bytes}
use Rattle.device_path_locate.specs.Locating.{is_front, matched_size}

-- A path is read of just the bytes that begin with it.
abbrev pub PathBytesLaw : Type 0
PathBytesLaw = (bytes : List ℕ) (ns : List Node) → (path_in bytes ≡ Some ns) ↔ BeginsWith bytes ns

-- The nodes of one path are the first of another exactly where their bytes are.
abbrev pub FrontBytesLaw : Type 0
FrontBytesLaw =
    (ns ms : List Node) → AllByRecursion IsPathNode ns → AllByRecursion IsPathNode ms
    → (is_front ns ms ≡ true) ↔ ((rest : List ℕ) × (concat ms ≡ concat ns ++ rest))

-- A path that has the end of an instance matches nothing: no first instance has one.
abbrev pub InstanceEndsLaw : Type 0
InstanceEndsLaw =
    (path ns : List Node) → list_any (λ n. same_bytes n end_of_instance) path ≡ true
    → matched_size (first_instance ns) path ≡ None
