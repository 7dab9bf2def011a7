-- Stamps beside handles that ascend: which one is beside a handle, what changes it, and which is next.
use Rattle.std.proofs.Math.ListN.{set}
use Rattle.std.proofs.Common.{get_or, ◌≡◌, ◌⊎◌, ℕ, zero, suc, ◌<◌, ◌≤◌, ◌==◌, nat_lt, true, false, cond, List, [], ◌∷◌, length, Option, Some, None, inl, inr, refl, sym, ap, ◌∙◌, arith, subst}
use Rattle.std.specs.List.{AllByRecursion, slice_get, insert, remove}
use Rattle.std.proofs.lemmas.Bool.{cases_Bool, ne_eqb, eq-eqb, ltb-true, ltb-false}
use Rattle.std.proofs.lemmas.Bool.Decides.{eqb_tells}
use Rattle.std.proofs.lemmas.Option.{same_Some}
use Rattle.guid_handles.specs.Places.{has_place}
use Rattle.guid_handles.specs.Sorting.{Ascending, place}
use Rattle.guid_handles.specs.Indexes.{AreBeside, IsNext, least_after, sooner, number_beside}
use Rattle.guid_handles.proofs.SortedLists.{all_map, got_all, ascending_insert, ascending_remove}
use Rattle.guid_handles.proofs.Grouped.{above}

beside_none : (n : ℕ) (hs ks : List ℕ) → AllByRecursion (λ m. (m == n) ≡ false) hs → number_beside hs ks n ≡ None
beside_none n [] ks a = refl
beside_none n (h ∷ hs) [] a = refl
beside_none n (h ∷ hs) (k ∷ ks) a = rw a.0 (beside_none n hs ks a.1)

none_beside : (n : ℕ) (hs ks : List ℕ) → length hs ≡ length ks → number_beside hs ks n ≡ None → AllByRecursion (λ m. (m == n) ≡ false) hs
none_beside n [] ks e z = tt
none_beside n (h ∷ hs) [] e z = absurd (omega (arith, e))
none_beside n (h ∷ hs) (k ∷ ks) e z = elim (cases_Bool (h == n)) [
  | inl t ↦ let w : Some k ≡ None = rw t at z in cc
  | inr f ↦ (f, none_beside n hs ks (omega (arith, e)) (rw f at z))
]

higher : (n : ℕ) (hs : List ℕ) (h : ℕ) → AllByRecursion (λ m. h < m) hs → n < h ⊎ (n ≡ h) → AllByRecursion (λ m. (m == n) ≡ false) hs
higher n hs h a l = all_map (λ m. h < m) (λ m. (m == n) ≡ false) (λ m b. ne_eqb m n (λ e. elim l [ inl k ↦ omega (arith, b, e, k) | inr k ↦ omega (arith, b, e, k) ])) hs a

-- what is at an index that is there
pub at_index : {X : Type 0} (xs : List X) (at : ℕ) (d : X) → at < length xs → slice_get xs at ≡ Some (get_or xs at d)
at_index [] at d l = absurd (omega (arith, l))
at_index (x ∷ xs) zero d l = refl
at_index (x ∷ xs) (suc at) d l = at_index xs at d (omega (arith, l))

pub beside_there : (hs ks : List ℕ) (at h k : ℕ) → Ascending (λ a b. a < b) hs → slice_get hs at ≡ Some h → slice_get ks at ≡ Some k → number_beside hs ks h ≡ Some k
beside_there [] ks zero h k a e f = absurd cc
beside_there [] ks (suc at) h k a e f = absurd cc
beside_there (x ∷ xs) [] zero h k a e f = absurd cc
beside_there (x ∷ xs) [] (suc at) h k a e f = absurd cc
beside_there (x ∷ xs) (y ∷ ys) zero h k a e f = let t : (x == h) ≡ true = eq-eqb x h (same_Some x h e) in rw t f
beside_there (x ∷ xs) (y ∷ ys) (suc at) h k a e f =
    let l : x < h = got_all (λ m. x < m) xs at h a.0 e in
    let d : (x == h) ≡ false = ne_eqb x h (λ w. omega (arith, l, w)) in
    rw d (beside_there xs ys at h k a.1 e f)

pub beside_absent : (n : ℕ) (hs ks : List ℕ) → has_place hs n ≡ false → number_beside hs ks n ≡ None
beside_absent n [] ks e = refl
beside_absent n (h ∷ hs) [] e = refl
beside_absent n (h ∷ hs) (k ∷ ks) e = elim (cases_Bool (h == n)) [
  | inl t ↦ let w = rw t at e in absurd cc
  | inr f ↦ rw f (beside_absent n hs ks (rw f at e))
]

-- ---- one more

pub beside_insert : (hs ks : List ℕ) (at h k n : ℕ) → length hs ≡ length ks → number_beside hs ks h ≡ None → number_beside (insert hs at h) (insert ks at k) n ≡ cond (h == n) (Some k) (number_beside hs ks n)
beside_insert [] [] zero h k n e z = refl
beside_insert [] [] (suc at) h k n e z = refl
beside_insert [] (y ∷ ys) at h k n e z = absurd (omega (arith, e))
beside_insert (x ∷ xs) [] at h k n e z = absurd (omega (arith, e))
beside_insert (x ∷ xs) (y ∷ ys) zero h k n e z = refl
beside_insert (x ∷ xs) (y ∷ ys) (suc at) h k n e z = elim (cases_Bool (x == h)) [
  | inl t ↦ let w : Some y ≡ None = rw t at z in cc
  | inr f ↦ elim (eqb_tells x n) [
    | inl t ↦
        let g : (h == n) ≡ false = ne_eqb h n (λ w. let u : (x == h) ≡ true = eq-eqb x h (omega (arith, w, t.1)) in let v : false ≡ true = sym f ∙ u in cc) in
        rw t.0 (rw g refl)
    | inr d ↦ rw d.0 (beside_insert xs ys at h k n (omega (arith, e)) (rw f at z))
  ]
]

even_insert : (hs ks : List ℕ) (at h k : ℕ) → length hs ≡ length ks → length (insert hs at h) ≡ length (insert ks at k)
even_insert [] [] zero h k e = refl
even_insert [] [] (suc at) h k e = refl
even_insert [] (y ∷ ys) at h k e = absurd (omega (arith, e))
even_insert (x ∷ xs) [] at h k e = absurd (omega (arith, e))
even_insert (x ∷ xs) (y ∷ ys) zero h k e = omega (arith, e)
even_insert (x ∷ xs) (y ∷ ys) (suc at) h k e = omega (arith, even_insert xs ys at h k (omega (arith, e)))

pub insert_beside : (hs ks : List ℕ) (at h k : ℕ) → AreBeside hs ks → number_beside hs ks h ≡ None → at ≡ place (λ m. nat_lt m h) hs → AreBeside (insert hs at h) (insert ks at k)
insert_beside hs ks at h k a z e = record {
  ascending = rw e (ascending_insert (λ a b. a < b) (λ x y z l m. omega (arith, l, m)) (λ m. nat_lt m h) hs h
      (all_map (λ m. (m == h) ≡ false) (λ m. (nat_lt m h ≡ true → m < h) × (nat_lt m h ≡ false → h < m)) (λ m f. (λ t. ltb-true m h t, λ l. above m h f l)) hs (none_beside h hs ks a.even z))
      a.ascending);
  even = even_insert hs ks at h k a.even;
}

-- ---- one less

pub beside_remove : (hs ks : List ℕ) (at h n : ℕ) → AreBeside hs ks → slice_get hs at ≡ Some h → number_beside (remove hs at) (remove ks at) n ≡ cond (h == n) None (number_beside hs ks n)
beside_remove [] ks zero h n a e = absurd cc
beside_remove [] ks (suc at) h n a e = absurd cc
beside_remove (x ∷ xs) [] at h n a e = absurd (omega (arith, a.even))
beside_remove (x ∷ xs) (y ∷ ys) zero h n a e =
    let s : x ≡ h = same_Some x h e in
    rw (← s) (elim (eqb_tells x n) [
      | inl t ↦ rw t.0 (beside_none n xs ys (higher n xs x a.ascending.0 (inr (sym t.1))))
      | inr f ↦ rw f.0 refl
    ])
beside_remove (x ∷ xs) (y ∷ ys) (suc at) h n a e =
    let l : x < h = got_all (λ m. x < m) xs at h a.ascending.0 e in
    elim (eqb_tells x n) [
      | inl t ↦ let g : (h == n) ≡ false = ne_eqb h n (λ w. omega (arith, w, l, t.1)) in rw t.0 (rw g refl)
      | inr f ↦ rw f.0 (beside_remove xs ys at h n (record { ascending = a.ascending.1; even = omega (arith, a.even) }) e)
    ]

even_remove : (hs ks : List ℕ) (at : ℕ) → length hs ≡ length ks → length (remove hs at) ≡ length (remove ks at)
even_remove [] [] zero e = refl
even_remove [] [] (suc at) e = refl
even_remove [] (y ∷ ys) at e = absurd (omega (arith, e))
even_remove (x ∷ xs) [] at e = absurd (omega (arith, e))
even_remove (x ∷ xs) (y ∷ ys) zero e = omega (arith, e)
even_remove (x ∷ xs) (y ∷ ys) (suc at) e = omega (arith, even_remove xs ys at (omega (arith, e)))

pub remove_beside : (hs ks : List ℕ) (at : ℕ) → AreBeside hs ks → AreBeside (remove hs at) (remove ks at)
remove_beside hs ks at a = record {
  ascending = ascending_remove (λ a b. a < b) hs at a.ascending;
  even = even_remove hs ks at a.even;
}

-- where a handle has no stamp, to take it away changes nothing
pub absent_same : (h n : ℕ) (hs ks : List ℕ) → number_beside hs ks h ≡ None → number_beside hs ks n ≡ cond (h == n) None (number_beside hs ks n)
absent_same h n hs ks e = elim (eqb_tells h n) [
  | inl t ↦ rw t.0 (ap (number_beside hs ks) (sym t.1) ∙ e)
  | inr f ↦ rw f.0 refl
]

-- ---- one changed

pub beside_set : (hs ss : List ℕ) (at h s n : ℕ) → AreBeside hs ss → slice_get hs at ≡ Some h → number_beside hs (set ss at s) n ≡ cond (h == n) (Some s) (number_beside hs ss n)
beside_set [] ss zero h s n a e = absurd cc
beside_set [] ss (suc at) h s n a e = absurd cc
beside_set (x ∷ xs) [] at h s n a e = absurd (omega (arith, a.even))
beside_set (x ∷ xs) (y ∷ ys) zero h s n a e =
    let same : x ≡ h = same_Some x h e in
    rw (← same) (elim (eqb_tells x n) [
      | inl t ↦ rw t.0 refl
      | inr f ↦ rw f.0 refl
    ])
beside_set (x ∷ xs) (y ∷ ys) (suc at) h s n a e =
    let l : x < h = got_all (λ m. x < m) xs at h a.ascending.0 e in
    elim (eqb_tells x n) [
      | inl t ↦ let g : (h == n) ≡ false = ne_eqb h n (λ w. omega (arith, w, l, t.1)) in rw t.0 (rw g refl)
      | inr f ↦ rw f.0 (beside_set xs ys at h s n (record { ascending = a.ascending.1; even = omega (arith, a.even) }) e)
    ]

even_set : (ss : List ℕ) (at s : ℕ) → length (set ss at s) ≡ length ss
even_set [] zero s = refl
even_set [] (suc at) s = refl
even_set (y ∷ ys) zero s = refl
even_set (y ∷ ys) (suc at) s = ap suc (even_set ys at s)

pub set_beside : (hs ss : List ℕ) (at s : ℕ) → AreBeside hs ss → AreBeside hs (set ss at s)
set_beside hs ss at s a = record { ascending = a.ascending; even = a.even ∙ sym (even_set ss at s) }

-- ---- the next stamp

above_first : (h n s : ℕ) (hs ss : List ℕ) → AllByRecursion (λ m. h < m) hs → number_beside hs ss n ≡ Some s → h < n
above_first h n s [] ss a e = absurd cc
above_first h n s (x ∷ xs) [] a e = absurd cc
above_first h n s (x ∷ xs) (y ∷ ys) a e = elim (eqb_tells x n) [
  | inl t ↦ omega (arith, a.0, t.1)
  | inr f ↦ above_first h n s xs ys a.1 (rw f.0 at e)
]

-- one stamp more that is not above the mark
next_skip : (mark h s : ℕ) (hs ss : List ℕ) (r : Option (ℕ × ℕ)) → AllByRecursion (λ m. h < m) hs → nat_lt mark s ≡ false → IsNext mark (number_beside hs ss) r → IsNext mark (number_beside (h ∷ hs) (s ∷ ss)) r
next_skip mark h s hs ss None a f i = λ n t e. elim (eqb_tells h n) [
  | inl w ↦ subst (λ (x : ℕ). nat_lt mark x ≡ false) (same_Some s t (rw w.0 at e)) f
  | inr w ↦ i n t (rw w.0 at e)
]
next_skip mark h s hs ss (Some p) a f i =
    let l : h < p.0 = above_first h p.0 p.1 hs ss a i.0 in
    let d : (h == p.0) ≡ false = ne_eqb h p.0 (λ w. omega (arith, w, l)) in (
      rw d i.0,
      i.1,
      λ n t e k. elim (eqb_tells h n) [
        | inl w ↦ let z : true ≡ false = sym k ∙ ap (nat_lt mark) (sym (same_Some s t (rw w.0 at e))) ∙ f in absurd cc
        | inr w ↦ i.2 n t (rw w.0 at e) k
      ],
    )

-- one stamp more above the mark
next_take : (mark h s : ℕ) (hs ss : List ℕ) (r : Option (ℕ × ℕ)) → AllByRecursion (λ m. h < m) hs → nat_lt mark s ≡ true → IsNext mark (number_beside hs ss) r → IsNext mark (number_beside (h ∷ hs) (s ∷ ss)) (sooner h s r)
next_take mark h s hs ss None a f i = (
  rw (eq-eqb h h refl) refl,
  f,
  λ n t e k. elim (eqb_tells h n) [
    | inl w ↦ let z : s ≡ t = same_Some s t (rw w.0 at e) in omega (arith, z)
    | inr w ↦ let z : true ≡ false = sym k ∙ i n t (rw w.0 at e) in absurd cc
  ],
)
next_take mark h s hs ss (Some p) a f i = elim (cases_Bool (nat_lt p.1 s)) [
  | inl b ↦
      let under : p.1 < s = ltb-true p.1 s b in
      let l : h < p.0 = above_first h p.0 p.1 hs ss a i.0 in
      let d : (h == p.0) ≡ false = ne_eqb h p.0 (λ w. omega (arith, w, l)) in
      rw b (
        rw d i.0,
        i.1,
        λ n t e k. elim (eqb_tells h n) [
          | inl w ↦ let z : s ≡ t = same_Some s t (rw w.0 at e) in omega (arith, z, under)
          | inr w ↦ i.2 n t (rw w.0 at e) k
        ],
      )
  | inr b ↦
      let over : s ≤ p.1 = ltb-false p.1 s b in
      rw b (
        rw (eq-eqb h h refl) refl,
        f,
        λ n t e k. elim (eqb_tells h n) [
          | inl w ↦ let z : s ≡ t = same_Some s t (rw w.0 at e) in omega (arith, z)
          | inr w ↦ omega (arith, over, i.2 n t (rw w.0 at e) k)
        ],
      )
]

pub next_is_least : (mark : ℕ) (hs ss : List ℕ) → AreBeside hs ss → IsNext mark (number_beside hs ss) (least_after mark hs ss)
next_is_least mark [] ss a = λ n t e. absurd cc
next_is_least mark (h ∷ hs) [] a = absurd (omega (arith, a.even))
next_is_least mark (h ∷ hs) (s ∷ ss) a =
    let rest = next_is_least mark hs ss (record { ascending = a.ascending.1; even = omega (arith, a.even) }) in
    elim (cases_Bool (nat_lt mark s)) [
      | inl t ↦ rw t (next_take mark h s hs ss (least_after mark hs ss) a.ascending.0 t rest)
      | inr f ↦ rw f (next_skip mark h s hs ss (least_after mark hs ss) a.ascending.0 f rest)
    ]
