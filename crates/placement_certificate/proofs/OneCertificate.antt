-- True certificates of one request in one memory are equal.
use Rattle.std.proofs.Common.{◌≡◌, ℕ, List, [], ◌∷◌, Option, Some, None, refl, sym, ap, ap₂, ◌∙◌, arith}
use Rattle.std.specs.List.{AllZip}
use Rattle.page_ranges.specs.declared.ranges.Descriptor.{Descriptor}
use Rattle.page_ranges.specs.Memory.{Page}
use Rattle.placement_certificate.specs.declared.certificates.Request.{Request}
use Rattle.placement_certificate.specs.declared.certificates.Bound.{Bound}
use Rattle.placement_certificate.specs.Placement.{IsPermittedStart, price, IsBestStart, IsBestIn}
use Rattle.placement_certificate.specs.Certificates.{CertificateValue, IsTrueLeast, IsTrueBound, conventional_entries, IsTrueCertificate}

pub same_best : (m : List Page) (r : Request) (p q : ℕ) → IsBestStart m r p → IsBestStart m r q → p ≡ q
same_best m r p q a b =
    let same : price m r p ≡ price m r q = omega (arith, a.lowest q b.permitted, b.lowest p a.permitted) in
    omega (arith, a.highest q b.permitted (sym same), b.highest p a.permitted same)

pub same_best_in : (m : List Page) (r : Request) (e : Descriptor) (p q : ℕ) → IsBestIn m r e p → IsBestIn m r e q → p ≡ q
same_best_in m r e p q a b =
    let same : price m r p ≡ price m r q = omega (arith, a.lowest q b.in_entry b.permitted, b.lowest p a.in_entry a.permitted) in
    omega (arith, a.highest q b.in_entry b.permitted (sym same), b.highest p a.in_entry a.permitted same)

same_least : (m : List Page) (r : Request) (e : Descriptor) (a b : Option (ℕ × ℕ)) → IsTrueLeast m r e a → IsTrueLeast m r e b → a ≡ b
same_least m r e None None s t = refl
same_least m r e None (Some (count, top)) s t = absurd (s top t.0.in_entry t.0.permitted)
same_least m r e (Some (count, top)) None s t = absurd (t top s.0.in_entry s.0.permitted)
same_least m r e (Some (count, top)) (Some (c, u)) s t =
    let tops = same_best_in m r e top u s.0 t.0 in
    ap₂ (λ (x y : ℕ). Some (x, y)) (sym s.1 ∙ ap (price m r) tops ∙ t.1) tops

pub same_bound : (m : List Page) (r : Request) (e : Descriptor) (a b : Bound) → IsTrueBound m r e a → IsTrueBound m r e b → a ≡ b
same_bound m r e a b s t =
    let f = s.first ∙ sym t.first in
    let g = s.pages ∙ sym t.pages in
    let h = same_least m r e a.least b.least s.least t.least in
    λ i. record { first = f i; pages = g i; least = h i }

pub same_bounds : (m : List Page) (r : Request) (es : List Descriptor) (bs cs : List Bound) → AllZip (IsTrueBound m r) es bs → AllZip (IsTrueBound m r) es cs → bs ≡ cs
same_bounds m r [] [] [] s t = refl
same_bounds m r [] [] (c ∷ cs) s t = absurd t
same_bounds m r [] (b ∷ bs) cs s t = absurd s
same_bounds m r (e ∷ es) [] cs s t = absurd s
same_bounds m r (e ∷ es) (b ∷ bs) [] s t = absurd t
same_bounds m r (e ∷ es) (b ∷ bs) (c ∷ cs) s t = ap₂ ◌∷◌ (same_bound m r e b c s.0 t.0) (same_bounds m r es bs cs s.1 t.1)

pub one_certificate : (m : List Page) (r : Request) (c d : CertificateValue) → IsTrueCertificate m r c → IsTrueCertificate m r d → (c ≡ d) × IsPermittedStart m r c.answer
one_certificate m r c d s t =
    let bounds = same_bounds m r (conventional_entries m) c.bounds d.bounds s.bounds t.bounds in
    let answer = same_best m r c.answer d.answer s.answer t.answer in
    (λ i. record { bounds = bounds i; answer = answer i }, s.answer.permitted)
