-- Device paths at addresses of the pool, and the handles that they lead to (LocateDevicePath).
use Rattle.std.specs.Prelude.{ℕ, ◌+◌, ◌&&◌, nat_lt, Bool, true, false, cond, List, [], ◌∷◌, Option, Some, None, Result, Ok, Err}
use Rattle.std.specs.List.{concat, filter_map, list_any}
use Rattle.std.specs.Option.{option_map, option_and_then}
use Rattle.page_ranges.specs.declared.statuses.Status.{Status}
use Rattle.page_ranges.specs.declared.statuses.Status.TheVariants.{InvalidParameter, NotFound}
use Rattle.pool_services.specs.Extents.{Extent, tail_at}
use Rattle.guid_handles.specs.HandleTables.{HandleTable, holders_of, same_guid, value_at}
use Rattle.device_path_locate.specs.DevicePaths.{Node, first_instance, path_in, same_bytes, size_of}

-- EFI_DEVICE_PATH_PROTOCOL_GUID, 09576e91-6d3f-11d2-8e39-00a0c969723b
abbrev pub device_path_guid : List ℕ
device_path_guid =
    0x09 ∷ 0x57 ∷ 0x6e ∷ 0x91 ∷ 0x6d ∷ 0x3f ∷ 0x11 ∷ 0xd2
    ∷ 0x8e ∷ 0x39 ∷ 0x00 ∷ 0xa0 ∷ 0xc9 ∷ 0x69 ∷ 0x72 ∷ 0x3b ∷ []

-- the nodes of the path at an address, if there is one: in the bytes of a live block, from the
-- address on
abbrev pub path_at : ℕ → List Extent → Option (List Node)
path_at address es = option_and_then path_in (tail_at address es)

-- the path of a handle, at the value of its device path interface
abbrev pub path_of : HandleTable → List Extent → ℕ → Option (List Node)
path_of t es handle =
    option_and_then (λ value. path_at value es) (value_at t handle device_path_guid)

-- ---- the handle that a path leads to

-- the nodes of one list are the first of another
abbrev pub is_front : List Node → List Node → Bool
is_front [] ms = true
is_front (n ∷ ns) [] = false
is_front (n ∷ ns) (m ∷ ms) = same_bytes n m && is_front ns ms

-- how many bytes of some nodes a path matches: all of its own, if its nodes are the first of them
abbrev pub matched_size : List Node → List Node → Option ℕ
matched_size nodes path = cond (is_front path nodes) (Some (size_of path)) None

-- a handle whose path matches some nodes, with the bytes that it matches
abbrev pub match_of : HandleTable → List Extent → List Node → ℕ → Option (ℕ × ℕ)
match_of t es nodes handle =
    option_map (λ size. (handle, size)) (option_and_then (matched_size nodes) (path_of t es handle))

-- the longer of two matches, the first where they are equally long
abbrev pub longer_of : ℕ × ℕ → Option (ℕ × ℕ) → Option (ℕ × ℕ)
longer_of m None = Some m
longer_of m (Some other) = cond (nat_lt m.1 other.1) (Some other) (Some m)

-- the longest of some matches, of equally long ones the first
abbrev pub longest : List (ℕ × ℕ) → Option (ℕ × ℕ)
longest [] = None
longest (m ∷ ms) = longer_of m (longest ms)

-- The longest match of some nodes, of equally long ones that of the lowest handle, among the
-- handles that carry a GUID.
abbrev pub best_match : HandleTable → List Extent → List ℕ → List Node → Option (ℕ × ℕ)
best_match t es guid nodes = longest (filter_map (match_of t es nodes) (holders_of t guid))

-- what is located of the best match: nothing, if there is none
abbrev pub located_match : Option (ℕ × ℕ) → Result (ℕ × ℕ) Status
located_match None = Err NotFound
located_match (Some m) = Ok m

-- What LocateDevicePath finds of a GUID and a path, of which the first instance is looked at: a
-- handle, and how many bytes of the path's nodes its own path matches.
abbrev pub located_path : HandleTable → List Extent → List ℕ → Option (List Node)
    → Result (ℕ × ℕ) Status
located_path t es guid None = Err InvalidParameter
located_path t es guid (Some path) = located_match (best_match t es guid (first_instance path))

-- what it finds of the path that some bytes begin with, wherever these bytes are
abbrev pub located_bytes : HandleTable → List Extent → List ℕ → List ℕ → Result (ℕ × ℕ) Status
located_bytes t es guid bytes = located_path t es guid (path_in bytes)

-- the handle that is found, and the address behind the nodes that match
abbrev pub answer_at : ℕ → Result (ℕ × ℕ) Status → Result (ℕ × ℕ) Status
answer_at address (Ok m) = Ok (m.0, address + m.1)
answer_at address (Err status) = Err status

abbrev pub located_by : HandleTable → List Extent → List ℕ → ℕ → Option (List ℕ)
    → Result (ℕ × ℕ) Status
located_by t es guid address None = Err InvalidParameter
located_by t es guid address (Some bytes) = answer_at address (located_bytes t es guid bytes)

-- What LocateDevicePath returns for a GUID and an address: what it finds of the bytes of a live
-- block, from the address on.
abbrev pub located : HandleTable → List Extent → List ℕ → ℕ → Result (ℕ × ℕ) Status
located t es guid address = located_by t es guid address (tail_at address es)

-- ---- paths that are installed

-- the bytes of a path, if there is one: of all its nodes, ends of instances among them
abbrev pub whole_bytes : Option (List Node) → Option (List ℕ)
whole_bytes path = option_map concat path

-- the bytes of two paths, if both are there, are the same
abbrev pub are_same : Option (List ℕ) → Option (List ℕ) → Bool
are_same None other = false
are_same (Some bytes) None = false
are_same (Some bytes) (Some other) = same_bytes bytes other

-- the path at an address is the path of some live handle too
abbrev pub is_path_of_any : HandleTable → List Extent → ℕ → Bool
is_path_of_any t es address =
    list_any
    (λ handle. are_same (whole_bytes (path_at address es)) (whole_bytes (path_of t es handle)))
    (holders_of t device_path_guid)

-- one of some pairs of GUID and value is a device path that some live handle has already
abbrev pub has_path_installed : HandleTable → List Extent → List (List ℕ × ℕ) → Bool
has_path_installed t es pairs =
    list_any (λ pair. same_guid pair.0 device_path_guid && is_path_of_any t es pair.1) pairs
