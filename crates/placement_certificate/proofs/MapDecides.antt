-- What is true for a memory is true for each memory with the same map.
use Rattle.std.proofs.Common.{◌≡◌, ℕ, zero, suc, ◌+◌, List, [], ◌∷◌, length, filter, Contains, Option, Some, None, eqb, refl, sym, ap, subst, ◌∙◌, arith}
use Rattle.std.specs.List.{AllZip}
use Rattle.page_ranges.specs.declared.ranges.Descriptor.{Descriptor}
use Rattle.page_ranges.specs.declared.ranges.Owner.TheVariants.{Pages}
use Rattle.page_ranges.specs.MemoryTypes.{conventional, is_specific_purpose}
use Rattle.page_ranges.specs.Memory.{Page, page_at, page_below, IsAscending, IsProperMemory, IsConventional}
use Rattle.page_ranges.specs.MemoryMap.{memory_map, IsLike}
use Rattle.page_ranges.proofs.Blocks.{entry_is_block, entry_of_page}
use Rattle.placement_certificate.specs.declared.certificates.Request.{Request}
use Rattle.placement_certificate.specs.declared.certificates.Bound.{Bound}
use Rattle.placement_certificate.specs.Placement.{IsProperRequest, IsPermittedStart, IsOrdinary, price, IsBestStart, IsBestIn}
use Rattle.placement_certificate.specs.Certificates.{CertificateValue, IsTrueLeast, IsTrueBound, conventional_entries, IsTrueCertificate}
use Rattle.placement_certificate.specs.Laws.{adds, saves}
use Rattle.placement_certificate.proofs.Prices.{price_is}

-- both are absent, or they have equal type and attributes
abbrev pub LookAlike : Option Page → Option Page → Type 0
LookAlike None None = Unit {0}
LookAlike None (Some y) = ⊥
LookAlike (Some x) None = ⊥
LookAlike (Some x) (Some y) = (x.mtype ≡ y.mtype) × (x.attributes ≡ y.attributes)

look_flipped : (x y : Option Page) → LookAlike x y → LookAlike y x
look_flipped None None l = tt
look_flipped None (Some y) l = absurd l
look_flipped (Some x) None l = absurd l
look_flipped (Some x) (Some y) l = (sym l.0, sym l.1)

look_in_block : (b : Descriptor) (x y : Option Page) → IsLike b x → IsLike b y → LookAlike x y
look_in_block b None y k l = absurd k
look_in_block b (Some x) None k l = absurd l
look_in_block b (Some x) (Some y) k l = (k.0 ∙ sym l.0, k.1 ∙ sym l.1)

look_where_present : (m n : List Page) → IsAscending m → IsAscending n → memory_map m ≡ memory_map n → (k : ℕ) (x : Page) → page_at m k ≡ Some x → LookAlike (page_at m k) (page_at n k)
look_where_present m n a c e k x is =
    let b = entry_of_page m k x is in
    look_in_block b.0 (page_at m k) (page_at n k) ((entry_is_block m a b.0 b.1).all k b.2) ((entry_is_block n c b.0 (subst (λ es. Contains es b.0) e b.1)).all k b.2)

-- memories with one map look alike at each number
pub look_alike : (m n : List Page) → IsAscending m → IsAscending n → memory_map m ≡ memory_map n → (k : ℕ) → LookAlike (page_at m k) (page_at n k)
look_alike m n a c e k = go (page_at m k) refl (page_at n k) refl
  where
    go : (x : Option Page) → page_at m k ≡ x → (y : Option Page) → page_at n k ≡ y → LookAlike (page_at m k) (page_at n k)
    go None is None js = rw (is, js) tt
    go (Some x) is y js = look_where_present m n a c e k x is
    go None is (Some y) js = look_flipped _ _ (look_where_present n m c a (sym e) k y js)

look_below : (m n : List Page) → ((k : ℕ) → LookAlike (page_at m k) (page_at n k)) → (k : ℕ) → LookAlike (page_below m k) (page_below n k)
look_below m n h zero = tt
look_below m n h (suc k) = h k

adds-look : (x x' y y' : Option Page) → LookAlike x x' → LookAlike y y' → adds x y ≡ adds x' y'
adds-look None None y y' k l = refl
adds-look None (Some x') y y' k l = absurd k
adds-look (Some x) None y y' k l = absurd k
adds-look (Some x) (Some x') None None k l = refl
adds-look (Some x) (Some x') None (Some y') k l = absurd l
adds-look (Some x) (Some x') (Some y) None k l = absurd l
adds-look (Some x) (Some x') (Some y) (Some y') k l = rw (k.0, k.1, l.0, l.1)

saves-look : (t : ℕ) (x x' y y' : Option Page) → LookAlike x x' → LookAlike y y' → saves t x y ≡ saves t x' y'
saves-look t None None y y' k l = refl
saves-look t None (Some x') y y' k l = absurd k
saves-look t (Some x) None y y' k l = absurd k
saves-look t (Some x) (Some x') None None k l = refl
saves-look t (Some x) (Some x') None (Some y') k l = absurd l
saves-look t (Some x) (Some x') (Some y) None k l = absurd l
saves-look t (Some x) (Some x') (Some y) (Some y') k l = rw (k.0, k.1, l.1)

conventional_look : (x y : Option Page) → LookAlike x y → IsConventional x → IsConventional y
conventional_look None y l c = absurd c
conventional_look (Some x) None l c = absurd l
conventional_look (Some x) (Some y) l c = sym l.0 ∙ c

ordinary_look : (x y : Option Page) → LookAlike x y → IsOrdinary x → IsOrdinary y
ordinary_look None y l c = absurd c
ordinary_look (Some x) None l c = absurd l
ordinary_look (Some x) (Some y) l c = ap is_specific_purpose (sym l.1) ∙ c

pub permitted_too : (m n : List Page) → IsAscending m → IsAscending n → memory_map m ≡ memory_map n → (r : Request) (p : ℕ) → IsPermittedStart m r p → IsPermittedStart n r p
permitted_too m n a c e r p h = record {
  whole = h.whole;
  within = h.within;
  conventional = λ k l u. conventional_look (page_at m k) (page_at n k) (look_alike m n a c e k) (h.conventional k l u);
  ordinary = λ k l u. ordinary_look (page_at m k) (page_at n k) (look_alike m n a c e k) (h.ordinary k l u);
}

module _ (m n : List Page) (r : Request) (proper : IsProperMemory m) (proper_too : IsProperMemory n) (good : IsProperRequest r) (same : memory_map m ≡ memory_map n) where
  there : (p : ℕ) → IsPermittedStart m r p → IsPermittedStart n r p
  there p h = permitted_too m n proper.ascending proper_too.ascending same r p h

  back : (p : ℕ) → IsPermittedStart n r p → IsPermittedStart m r p
  back p h = permitted_too n m proper_too.ascending proper.ascending (sym same) r p h

  pub same_price : (p : ℕ) → IsPermittedStart m r p → price m r p ≡ price n r p
  same_price p h =
      let at = look_alike m n proper.ascending proper_too.ascending same in
      let below = look_below m n at in
      let end = p + r.pages in
      omega (
        arith,
        price_is m r Pages p proper good h,
        price_is n r Pages p proper_too good (there p h),
        ap length same,
        adds-look _ _ _ _ (below p) (at p),
        adds-look _ _ _ _ (below end) (at end),
        saves-look r.mtype _ _ _ _ (below p) (at p),
        saves-look r.mtype _ _ _ _ (at end) (below end),
      )

  best_in_too : (e : Descriptor) (p : ℕ) → IsBestIn m r e p → IsBestIn n r e p
  best_in_too e p b = record {
    in_entry = b.in_entry;
    permitted = there p b.permitted;
    lowest = λ q i h. omega (arith, b.lowest q i (back q h), same_price p b.permitted, same_price q (back q h));
    highest = λ q i h f. b.highest q i (back q h) (same_price q (back q h) ∙ f ∙ sym (same_price p b.permitted));
  }

  pub best_too : (p : ℕ) → IsBestStart m r p → IsBestStart n r p
  best_too p b = record {
    permitted = there p b.permitted;
    lowest = λ q h. omega (arith, b.lowest q (back q h), same_price p b.permitted, same_price q (back q h));
    highest = λ q h f. b.highest q (back q h) (same_price q (back q h) ∙ f ∙ sym (same_price p b.permitted));
  }

  least_too : (e : Descriptor) (l : Option (ℕ × ℕ)) → IsTrueLeast m r e l → IsTrueLeast n r e l
  least_too e None s = λ p i h. s p i (back p h)
  least_too e (Some (count, top)) s = (best_in_too e top s.0, sym (same_price top s.0.permitted) ∙ s.1)

  bounds_too : (es : List Descriptor) (bs : List Bound) → AllZip (IsTrueBound m r) es bs → AllZip (IsTrueBound n r) es bs
  bounds_too [] [] s = tt
  bounds_too [] (b ∷ bs) s = absurd s
  bounds_too (e ∷ es) [] s = absurd s
  bounds_too (e ∷ es) (b ∷ bs) s = (record { first = s.0.first; pages = s.0.pages; least = least_too e b.least s.0.least }, bounds_too es bs s.1)

  pub true_too : (c : CertificateValue) → IsTrueCertificate m r c → IsTrueCertificate n r c
  true_too c s = record {
    bounds = bounds_too (conventional_entries n) c.bounds (subst (λ es. AllZip (IsTrueBound m r) (filter (λ b. eqb b.mtype conventional) es) c.bounds) same s.bounds);
    answer = best_too c.answer s.answer;
  }
