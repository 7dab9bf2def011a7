-- Which certificates replies carry, and for which requests.
use Rattle.std.specs.Prelude.{ℕ, ◌*◌, Bool, true, false, if◌then◌else◌, List, Option, Some, None, Ok, option_map, option_and_then, is_some}
use Rattle.page_ranges.specs.declared.ranges.Descriptor.{Descriptor}
use Rattle.placement_certificate.specs.declared.certificates.Request.{Request}
use Rattle.placement_certificate.specs.Certificates.{CertificateValue}
use Rattle.page_services.specs.PageRules.{if_counted, placement_request}
use Rattle.pool_services.specs.PoolRules.{extent_request}
use Rattle.boot_calls.specs.declared.calls.Call.{Call}
use Rattle.boot_calls.specs.declared.calls.Call.TheVariants as call
use Rattle.boot_replies.specs.declared.replies.Reply.{Reply}
use Rattle.boot_replies.specs.declared.replies.Reply.TheVariants as reply

-- a pool block with a list is of the type EfiBootServicesData
abbrev pub list_type : ℕ
list_type = 4

-- how many items a reply says are in a pool block
abbrev pub returned_count : {A : Type 0} → Reply A → Option ℕ
returned_count (reply.LocateHandleBuffer (Ok returned)) = Some returned.count
returned_count (reply.OpenProtocolInformation (Ok returned)) = Some returned.count
returned_count answer = None

-- the request on a machine with a granule for a block of items of one size in bytes
abbrev pub list_request : ℕ → ℕ → Option ℕ → Option Request
list_request granule size count =
    option_and_then (λ n. extent_request granule list_type (size * n)) count

-- the request that a call on a machine with a granule leaves to the service to place: for the pool
-- that of a new extent
abbrev pub left_request : {A : Type 0} → ℕ → Call A → Reply A → Option Request
left_request granule (call.AllocatePages kind t pages memory) answer =
    placement_request granule kind t pages memory
left_request granule (call.AllocatePool t size) answer = extent_request granule t size
left_request granule (call.LocateHandleBuffer search guid key) answer =
    list_request granule 8 (returned_count answer)
left_request granule (call.OpenProtocolInformation handle guid) answer =
    list_request granule 24 (returned_count answer)
left_request granule c answer = None

-- the same, if its pages fit a number of 64 bits
abbrev pub request_for : {A : Type 0} → ℕ → Call A → Reply A → Option Request
request_for granule c answer = option_and_then if_counted (left_request granule c answer)

-- the certificate that a reply carries
abbrev pub certificate_in : {A : Type 0} → Reply A → Option CertificateValue
certificate_in (reply.AllocatePages (Ok placed)) = placed.certificate
certificate_in (reply.AllocatePool (Ok block)) = block.1
certificate_in (reply.LocateHandleBuffer (Ok returned)) = returned.certificate
certificate_in (reply.OpenProtocolInformation (Ok returned)) = returned.certificate
certificate_in answer = None

-- the certificate of the reply to a call on a machine with a granule, and the request that it is
-- for
abbrev pub certified : {A : Type 0} → ℕ → Call A → Reply A → Option (Request × CertificateValue)
certified granule c answer =
    option_and_then
    (λ r. option_map (λ certificate. (r, certificate)) (certificate_in answer))
    (request_for granule c answer)

-- whether a reply to the call on a machine with a granule may carry a certificate
abbrev pub may_be_certified : {A : Type 0} → ℕ → Call A → Bool
may_be_certified granule (call.AllocatePages kind t pages memory) =
    is_some (option_and_then if_counted (placement_request granule kind t pages memory))
may_be_certified granule (call.AllocatePool t size) =
    is_some (option_and_then if_counted (extent_request granule t size))
may_be_certified granule (call.LocateHandleBuffer search guid key) = true
may_be_certified granule (call.OpenProtocolInformation handle guid) = true
may_be_certified granule c = false

-- the memory map, where certificates are asked for and the reply to the call on a machine with a
-- granule may carry one
abbrev pub map_before : {A : Type 0} → Bool → ℕ → List Descriptor → Call A
    → Option (List Descriptor)
map_before true granule entries c = if may_be_certified granule c then Some entries else None
map_before false granule entries c = None
