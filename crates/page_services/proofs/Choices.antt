-- What is known of a start that is chosen, and of its certificate.
use Rattle.std.proofs.Common.{◌≡◌, ℕ, List, Bool, true, false, cond, Option, Some, None, refl, sym, ap, subst, ◌∙◌}
use Rattle.std.specs.Option.{is_some}
use Rattle.std.proofs.lemmas.Option.{same_Some}
use Rattle.page_ranges.specs.Memory.{Page}
use Rattle.placement_certificate.specs.declared.certificates.Request.{Request}
use Rattle.placement_certificate.specs.Placement.{IsPermittedStart}
use Rattle.placement_certificate.specs.Certificates.{CertificateValue, IsTrueCertificate}
use Rattle.placement_chooser.specs.Starts.{IsCertifiedStart}
use Rattle.page_services.specs.PageRules.{Book, Choice, IsBestChoice}

-- each start that is chosen is permitted
abbrev pub Permits : Choice → Type 0
Permits Chosen = (b : Book) (r : Request) (start : ℕ) (returned : Option CertificateValue) → Chosen b r start returned → IsPermittedStart b.memory r start

pub best_is_permitted : (b : Book) (r : Request) (p : ℕ) (returned : Option CertificateValue) → IsBestChoice b r p returned → IsPermittedStart b.memory r p
best_is_permitted b r p returned (c, is, answer, e) = subst (IsPermittedStart b.memory r) answer is.answer.permitted

pub certified_is_permitted : (m : List Page) (r : Request) (p : ℕ) → IsCertifiedStart m r p → IsPermittedStart m r p
certified_is_permitted m r p (c, is, answer) = subst (IsPermittedStart m r) answer is.answer.permitted

-- ---- the certificate that is returned

abbrev if_returned : Bool → CertificateValue → Option CertificateValue
if_returned certifies c = cond certifies (Some c) None

is_returned : (certifies : Bool) (c : CertificateValue) → is_some (if_returned certifies c) ≡ certifies
is_returned true c = refl
is_returned false c = refl

is_same : (certifies : Bool) (c returned : CertificateValue) → Some returned ≡ if_returned certifies c → c ≡ returned
is_same true c returned e = sym (same_Some returned c e)
is_same false c returned e = cc

-- there is one where the book returns certificates, and else none
pub returned_where : (b : Book) (r : Request) (p : ℕ) (returned : Option CertificateValue) → IsBestChoice b r p returned → is_some returned ≡ b.certifies
returned_where b r p returned (c, is, answer, e) = ap is_some e ∙ is_returned b.certifies c

-- it is the true one
pub returned_is_true : (b : Book) (r : Request) (p : ℕ) (returned : CertificateValue) → IsBestChoice b r p (Some returned) → IsTrueCertificate b.memory r returned
returned_is_true b r p returned (c, is, answer, e) = subst (IsTrueCertificate b.memory r) (is_same b.certifies c returned e) is
