-- The definitions on small machines, by computing.
use Rattle.std.proofs.Common.{◌≡◌, ◌≢◌, ℕ, zero, suc, ◌^◌, List, [], ◌∷◌, length, Option, Some, None, inl, inr, refl, ap, arith}
use Rattle.page_ranges.specs.declared.ranges.Run.{Run}
use Rattle.page_ranges.specs.Memory.{Page, IsProperMemory, row}
use Rattle.page_ranges.specs.Runs.{pages_of}
use Rattle.placement_certificate.specs.declared.certificates.Request.{Request}
use Rattle.placement_certificate.specs.declared.certificates.Bound.{Bound}
use Rattle.placement_certificate.specs.Placement.{IsProperRequest, IsPermittedStart, price, IsBestStart}
use Rattle.placement_certificate.specs.Certificates.{CertificateValue, IsTrueCertificate}
use Rattle.placement_certificate.proofs.Machines.{run, runs_b, proper_b}
use Rattle.placement_certificate.proofs.OneCertificate.{one_certificate}
use Rattle.placement_certificate.proofs.Decided.{certificate_of, certificate_true, no_certificate}

abbrev request : ℕ → ℕ → ℕ → Request
request t pages limit = record { mtype = t; pages = pages; limit = limit; granule = 1 }

abbrev bound : ℕ → ℕ → ℕ → ℕ → Bound
bound first pages count top = record { first = first; pages = pages; least = Some (count, top) }

abbrev empty_bound : ℕ → ℕ → Bound
empty_bound first pages = record { first = first; pages = pages; least = None }

abbrev certificate : List Bound → ℕ → CertificateValue
certificate bounds answer = record { bounds = bounds; answer = answer }

-- ---- sixteen free pages in two entries

machine_b : List Page
machine_b = pages_of runs_b

abbrev twelve : Request
twelve = request 2 12 (2 ^ 52)

proper : IsProperMemory machine_b
unfolding machine_b
proper = proper_b

proper_twelve : IsProperRequest twelve
proper_twelve = record { some = omega arith; good = refl; granule = inl refl; typed = refl; filled = omega arith }

price_at_0 : price machine_b twelve 0 ≡ 3
unfolding machine_b row
price_at_0 = refl

price_at_2 : price machine_b twelve 2 ≡ 4
unfolding machine_b row
price_at_2 = refl

price_at_4 : price machine_b twelve 4 ≡ 3
unfolding machine_b row
price_at_4 = refl

abbrev best_of_b : CertificateValue
best_of_b = certificate (bound 0 8 3 4 ∷ empty_bound 8 8 ∷ []) 4

computed_b : certificate_of machine_b twelve ≡ Some best_of_b
unfolding machine_b row
computed_b = refl

true_b : IsTrueCertificate machine_b twelve best_of_b
true_b = certificate_true machine_b twelve best_of_b proper proper_twelve computed_b

best_b : IsBestStart machine_b twelve 4
best_b = true_b.answer

-- another certificate is not true
not_true : (c : CertificateValue) → c ≢ best_of_b → ¬ IsTrueCertificate machine_b twelve c
not_true c other t = other (one_certificate machine_b twelve c best_of_b t true_b).0

abbrev count_of : Option (ℕ × ℕ) → ℕ
count_of None = 0
count_of (Some (count, top)) = count

abbrev first_count : List Bound → ℕ
first_count [] = 0
first_count (b ∷ bs) = count_of b.least

-- a bound that is too low
too_low : ¬ IsTrueCertificate machine_b twelve (certificate (bound 0 8 2 4 ∷ empty_bound 8 8 ∷ []) 4)
too_low = not_true _ (λ e. let f : 2 ≡ 3 = ap (λ (c : CertificateValue). first_count c.bounds) e in omega arith)

-- a bound that is missing
missing : ¬ IsTrueCertificate machine_b twelve (certificate (bound 0 8 3 4 ∷ []) 4)
missing = not_true _ (λ e. let f : 1 ≡ 2 = ap (λ (c : CertificateValue). length c.bounds) e in omega arith)

-- a lower start at the same price
lower_start : ¬ IsTrueCertificate machine_b twelve (certificate (bound 0 8 3 4 ∷ empty_bound 8 8 ∷ []) 0)
lower_start = not_true _ (λ e. let f : 0 ≡ 4 = ap (λ (c : CertificateValue). c.answer) e in omega arith)

-- seventeen pages are not there
none_for_17 : (p : ℕ) → ¬ IsPermittedStart machine_b (request 2 17 (2 ^ 52)) p
unfolding machine_b row
none_for_17 = no_certificate machine_b (request 2 17 (2 ^ 52)) proper (record { some = omega arith; good = refl; granule = inl refl; typed = refl; filled = omega arith }) refl

-- ---- pages that join a neighbor

abbrev machine_c : List Run
machine_c = run 0 8 7 0xf ∷ run 8 4 4 0xf ∷ run 12 8 7 0xf ∷ []

join_above : price (pages_of machine_c) (request 4 2 (2 ^ 52)) 6 ≡ 3
unfolding row
join_above = refl

join_below : price (pages_of machine_c) (request 4 2 (2 ^ 52)) 12 ≡ 3
unfolding row
join_below = refl

join_none : price (pages_of machine_c) (request 4 2 (2 ^ 52)) 18 ≡ 4
unfolding row
join_none = refl

join_both : price (pages_of (run 0 4 4 0xf ∷ run 4 4 7 0xf ∷ run 8 4 4 0xf ∷ [])) (request 4 4 (2 ^ 52)) 4 ≡ 1
unfolding row
join_both = refl

-- a runtime type has another attribute than its free neighbor's, and joins its like
runtime_joins : price (pages_of (run 0 4 7 0xf ∷ run 4 4 6 0x800000000000000f ∷ [])) (request 6 2 (2 ^ 52)) 2 ≡ 2
unfolding row
runtime_joins = refl

-- anywhere, and under a limit
anywhere : certificate_of (pages_of machine_c) (request 4 2 (2 ^ 52)) ≡ Some (certificate (bound 0 8 3 6 ∷ bound 12 8 3 12 ∷ []) 12)
unfolding row
anywhere = refl

limited : certificate_of (pages_of machine_c) (request 4 2 10) ≡ Some (certificate (bound 0 8 3 6 ∷ empty_bound 12 8 ∷ []) 6)
unfolding row
limited = refl

first_page : certificate_of (pages_of machine_c) (request 4 2 7) ≡ Some (certificate (bound 0 8 4 0 ∷ empty_bound 12 8 ∷ []) 0)
unfolding row
first_page = refl

-- ---- granules of sixteen pages

abbrev in_granules : ℕ → ℕ → Request
in_granules t pages = record { mtype = t; pages = pages; limit = 2 ^ 52; granule = 16 }

proper_in_granules : IsProperRequest (in_granules 6 16)
proper_in_granules = record { some = omega arith; good = refl; granule = inr refl; typed = refl; filled = omega arith }

-- data of boot services does not fill granules
not_typed : ¬ IsProperRequest (in_granules 4 16)
not_typed h = let f : suc zero ≡ 16 = h.typed in omega arith

-- both ends of the one start lie inside the entry, so the best price is the map's length plus 2
longer_by_2 : certificate_of (pages_of (run 8 39 7 0xf ∷ [])) (in_granules 6 16) ≡ Some (certificate (bound 8 39 3 16 ∷ []) 16)
unfolding row
longer_by_2 = refl

-- with a page more a start ends with the entry
ends_with_entry : certificate_of (pages_of (run 8 40 7 0xf ∷ [])) (in_granules 6 16) ≡ Some (certificate (bound 8 40 2 32 ∷ []) 32)
unfolding row
ends_with_entry = refl

-- the only multiple in the second entry has no room there, and the third one goes on from the second
across_entries : certificate_of (pages_of (run 0 4 4 0xf ∷ run 14 10 7 0xf ∷ run 24 8 7 0x7 ∷ [])) (in_granules 0 16) ≡ Some (certificate (bound 14 10 4 16 ∷ empty_bound 24 8 ∷ []) 16)
unfolding row
across_entries = refl
