-- The stop set is the least closed set, and rounds make it.
use Rattle.std.proofs.Common.{◌≡◌, ◌⊎◌, ℕ, zero, suc, ◌+◌, ◌-◌, ◌<◌, ◌≤◌, not, true, false, List, [], ◌∷◌, map, length, Option, Some, None, inl, inr, refl, sym, ap, ◌∙◌, arith}
use Rattle.std.specs.List.{filter}
use Rattle.std.proofs.lemmas.Bool.{cases_Bool}
use Rattle.std.proofs.lemmas.Bool.Decides.{eqb_tells}
use Rattle.guid_handles.specs.declared.records.Pair.{Pair}
use Rattle.guid_handles.specs.HandleTables.{HandleTable, maker_of}
use Rattle.guid_handles.proofs.SortedLists.{filter_shorter}
use Rattle.open_agents.specs.declared.items.OpenRecord.{OpenRecord}
use Rattle.open_agents.specs.Blocks.{items_in}
use Rattle.open_agents.specs.OpenItems.{is_for_driver, manager_of}
use Rattle.driver_connect.specs.Stopping.{same_pair, has_pair, with_pair, with_pairs, is_maker, manages_made, managers_of_made, round, rounds, stop_set}
use Rattle.driver_connect.specs.Laws.{IsClosed}
use Rattle.driver_connect.proofs.Filters.{any_more}
use Rattle.driver_connect.proofs.Rounds.{rounds_end}

-- each pair of one set is in another
abbrev pub IsWithin : List Pair → List Pair → Type 0
IsWithin s u = (p : Pair) → has_pair s p ≡ true → has_pair u p ≡ true

abbrev pair : ℕ → ℕ → Pair
pair controller agent = record { controller = controller; agent = agent }

equal_parts : (p q : Pair) → p.controller ≡ q.controller → p.agent ≡ q.agent → p ≡ q
equal_parts p q e f = ap (λ n. pair n p.agent) e ∙ ap (pair q.controller) f

pub same_pair-true : (p q : Pair) → same_pair p q ≡ true → p ≡ q
same_pair-true p q h = elim (eqb_tells p.controller q.controller) [
  | inl a ↦ elim (eqb_tells p.agent q.agent) [
    | inl b ↦ equal_parts p q a.1 b.1
    | inr b ↦ let k = rw b.0 at (rw a.0 at h) in cc
  ]
  | inr a ↦ let k = rw a.0 at h in cc
]

pub same_pair-refl : (p : Pair) → same_pair p p ≡ true
same_pair-refl p = elim (eqb_tells p.controller p.controller) [
  | inl a ↦ elim (eqb_tells p.agent p.agent) [
    | inl b ↦ rw a.0 (rw b.0 refl)
    | inr b ↦ absurd (omega (arith, b.1))
  ]
  | inr a ↦ absurd (omega (arith, a.1))
]

-- ---- pairs that join

keeps : (s : List Pair) (p : Pair) → IsWithin s (with_pair s p)
keeps s p q h = elim (cases_Bool (has_pair s p)) [
  | inl e ↦ rw e h
  | inr e ↦ rw e (any_more (same_pair q) s p ∙ rw h refl)
]

adds : (s : List Pair) (p : Pair) → has_pair (with_pair s p) p ≡ true
adds s p = elim (cases_Bool (has_pair s p)) [
  | inl e ↦ rw e e
  | inr e ↦ rw e (any_more (same_pair p) s p ∙ rw e (same_pair-refl p))
]

pub keeps_all : (s ps : List Pair) → IsWithin s (with_pairs s ps)
keeps_all s [] q h = h
keeps_all s (p ∷ ps) q h = keeps_all (with_pair s p) ps q (keeps s p q h)

pub adds_all : (s ps : List Pair) → IsWithin ps (with_pairs s ps)
adds_all s [] q h = cc
adds_all s (p ∷ ps) q h = elim (cases_Bool (same_pair q p)) [
  | inl e ↦ keeps_all (with_pair s p) ps q (rw (same_pair-true q p e) (adds s p))
  | inr e ↦ adds_all (with_pair s p) ps q (rw e at h)
]

one_within : (s : List Pair) (p : Pair) (u : List Pair) → IsWithin s u → has_pair u p ≡ true → IsWithin (with_pair s p) u
one_within s p u w h q k = elim (cases_Bool (has_pair s p)) [
  | inl e ↦ w q (rw e at k)
  | inr e ↦ elim (cases_Bool (has_pair s q)) [
    | inl f ↦ w q f
    | inr f ↦ rw (same_pair-true q p (rw f at (sym (any_more (same_pair q) s p) ∙ (rw e at k)))) h
  ]
]

pub all_within : (s ps u : List Pair) → IsWithin s u → IsWithin ps u → IsWithin (with_pairs s ps) u
all_within s [] u w v = w
all_within s (p ∷ ps) u w v =
    all_within (with_pair s p) ps u (one_within s p u w (v p (rw (same_pair-refl p) refl)))
    (λ q h. elim (cases_Bool (same_pair q p)) [
      | inl e ↦ v q (rw e refl)
      | inr e ↦ v q (rw e h)
    ])

-- ---- what a larger set makes

maker_within : (s u : List Pair) → IsWithin s u → (m : Option Pair) → is_maker s m ≡ true → is_maker u m ≡ true
maker_within s u w None h = h
maker_within s u w (Some p) h = w p h

manages_within : (t : HandleTable) (s u : List Pair) → IsWithin s u → (o : OpenRecord) → manages_made t s o ≡ true → manages_made t u o ≡ true
manages_within t s u w o h = elim (cases_Bool (is_for_driver o.attributes)) [
  | inl e ↦ rw e (maker_within s u w (maker_of t o.controller) (rw e at h))
  | inr e ↦ let k = rw e at h in cc
]

pub managers_within : (t : HandleTable) (opens : List OpenRecord) (s u : List Pair) → IsWithin s u → IsWithin (managers_of_made t opens s) (managers_of_made t opens u)
managers_within t [] s u w q h = h
managers_within t (o ∷ os) s u w q h = elim (cases_Bool (manages_made t s o)) [
  | inl e ↦ rw (manages_within t s u w o e) (elim (cases_Bool (same_pair q (manager_of o))) [
    | inl f ↦ rw f refl
    | inr f ↦ rw f (managers_within t os s u w q (rw f at (rw e at h)))
  ])
  | inr e ↦
      let k = managers_within t os s u w q (rw e at h) in
      elim (cases_Bool (manages_made t u o)) [
        | inl f ↦ rw f (elim (cases_Bool (same_pair q (manager_of o))) [
          | inl g ↦ rw g refl
          | inr g ↦ rw g k
        ])
        | inr f ↦ rw f k
      ]
]

rounds_within : (k : ℕ) (t : HandleTable) (opens : List OpenRecord) (s u : List Pair) → IsWithin s u → IsWithin (managers_of_made t opens u) u → IsWithin (rounds k t opens s) u
rounds_within zero t opens s u w c = w
rounds_within (suc k) t opens s u w c =
    rounds_within k t opens (round t opens s) u (all_within s (managers_of_made t opens s) u w (λ p h. c p (managers_within t opens s u w p h))) c

-- ---- items whose pairs are missing

abbrev pub missing : List Pair → List OpenRecord → ℕ
missing s opens = length (filter (λ o. not (has_pair s (manager_of o))) opens)

missing_within : (s u : List Pair) → IsWithin s u → (opens : List OpenRecord) → missing u opens ≤ missing s opens
missing_within s u w [] = omega arith
missing_within s u w (o ∷ os) = elim (cases_Bool (has_pair s (manager_of o))) [
  | inl e ↦ rw e (rw (w (manager_of o) e) (missing_within s u w os))
  | inr e ↦ elim (cases_Bool (has_pair u (manager_of o))) [
    | inl f ↦ rw e (rw f (omega (arith, missing_within s u w os)))
    | inr f ↦ rw e (rw f (omega (arith, missing_within s u w os)))
  ]
]

-- a pair of an item that joins is missing no more
fewer_missing : (s : List Pair) (p : Pair) (opens : List OpenRecord) → has_pair s p ≡ false → has_pair (map manager_of opens) p ≡ true → missing (with_pair s p) opens < missing s opens
fewer_missing s p [] a h = cc
fewer_missing s p (o ∷ os) a h = elim (cases_Bool (same_pair p (manager_of o))) [
  | inl e ↦
      let same : p ≡ manager_of o = same_pair-true p (manager_of o) e in
      let old : has_pair s (manager_of o) ≡ false = rw (← same) a in
      let new : has_pair (with_pair s p) (manager_of o) ≡ true = rw (← same) (adds s p) in
      rw old (rw new (omega (arith, missing_within s (with_pair s p) (keeps s p) os)))
  | inr e ↦
      let less = fewer_missing s p os a (rw e at h) in
      elim (cases_Bool (has_pair s (manager_of o))) [
        | inl f ↦ rw f (rw (keeps s p (manager_of o) f) less)
        | inr f ↦ elim (cases_Bool (has_pair (with_pair s p) (manager_of o))) [
          | inl k ↦ rw f (rw k (omega (arith, less)))
          | inr k ↦ rw f (rw k (omega (arith, less)))
        ]
      ]
]

-- pairs of items either join nothing, or fewer are missing
join_or_none : (s ps : List Pair) (opens : List OpenRecord) → IsWithin ps (map manager_of opens) → (with_pairs s ps ≡ s) ⊎ (missing (with_pairs s ps) opens < missing s opens)
join_or_none s [] opens w = inl refl
join_or_none s (p ∷ ps) opens w =
    let rest : IsWithin ps (map manager_of opens) = λ q h. w q (elim (cases_Bool (same_pair q p)) [ inl e ↦ rw e refl | inr e ↦ rw e h ]) in
    elim (cases_Bool (has_pair s p)) [
      | inl e ↦ rw e (join_or_none s ps opens rest)
      | inr e ↦
          let a : missing (with_pair s p) opens < missing s opens = fewer_missing s p opens e (w p (rw (same_pair-refl p) refl)) in
          let b : missing (with_pairs (with_pair s p) ps) opens ≤ missing (with_pair s p) opens = missing_within (with_pair s p) (with_pairs (with_pair s p) ps) (keeps_all (with_pair s p) ps) opens in
          inr (omega (arith, a, b))
    ]

managers_are_items : (t : HandleTable) (opens : List OpenRecord) (s : List Pair) → IsWithin (managers_of_made t opens s) (map manager_of opens)
managers_are_items t [] s q h = h
managers_are_items t (o ∷ os) s q h = elim (cases_Bool (same_pair q (manager_of o))) [
  | inl e ↦ rw e refl
  | inr e ↦ rw e (elim (cases_Bool (manages_made t s o)) [
    | inl f ↦ managers_are_items t os s q (rw e at (rw f at h))
    | inr f ↦ managers_are_items t os s q (rw f at h)
  ])
]

-- this many rounds are enough
enough : (k : ℕ) (t : HandleTable) (opens : List OpenRecord) (s : List Pair) → missing s opens ≤ k → round t opens (rounds k t opens s) ≡ rounds k t opens s
enough zero t opens s l = elim (join_or_none s (managers_of_made t opens s) opens (managers_are_items t opens s)) [
  | inl e ↦ e
  | inr f ↦ absurd (omega (arith, l, f))
]
enough (suc k) t opens s l = elim (join_or_none s (managers_of_made t opens s) opens (managers_are_items t opens s)) [
  | inl e ↦ let r : rounds (suc k) t opens s ≡ s = rounds_end (suc k) t opens s e in rw r e
  | inr f ↦ enough k t opens (round t opens s) (omega (arith, l, f))
]

-- ---- the laws

pub is_settled : (t : HandleTable) (opens : List OpenRecord) (pairs : List Pair) → round t opens (stop_set t opens pairs) ≡ stop_set t opens pairs
is_settled t opens pairs =
    enough (length t.handles + length opens) t opens (with_pairs [] pairs) (omega (arith, filter_shorter (λ o. not (has_pair (with_pairs [] pairs) (manager_of o))) opens))

rounds_keep : (k : ℕ) (t : HandleTable) (opens : List OpenRecord) (s : List Pair) → IsWithin s (rounds k t opens s)
rounds_keep zero t opens s p h = h
rounds_keep (suc k) t opens s p h = rounds_keep k t opens (round t opens s) p (keeps_all s (managers_of_made t opens s) p h)

pub is_closed : (t : HandleTable) (opens : List OpenRecord) (pairs : List Pair) → IsClosed t opens pairs (stop_set t opens pairs)
is_closed t opens pairs = record {
  given = λ p h. rounds_keep (length t.handles + length opens) t opens (with_pairs [] pairs) p (adds_all [] pairs p h);
  managers = λ p h. rw (is_settled t opens pairs) at (adds_all (stop_set t opens pairs) (managers_of_made t opens (stop_set t opens pairs)) p h);
}

pub is_least : (t : HandleTable) (opens : List OpenRecord) (pairs set : List Pair) → IsClosed t opens pairs set → IsWithin (stop_set t opens pairs) set
is_least t opens pairs set c =
    rounds_within (length t.handles + length opens) t opens (with_pairs [] pairs) set (all_within [] pairs set (λ p h. absurd (let e : false ≡ true = h in cc)) c.given) c.managers

-- ---- more rounds

rounds_sum : (k j : ℕ) (t : HandleTable) (opens : List OpenRecord) (s : List Pair) → rounds (k + j) t opens s ≡ rounds j t opens (rounds k t opens s)
rounds_sum zero j t opens s = ap (λ n. rounds n t opens s) (let e : 0 + j ≡ j = omega arith in e)
rounds_sum (suc k) j t opens s = ap (λ n. rounds n t opens s) (let e : suc k + j ≡ suc (k + j) = omega arith in e) ∙ rounds_sum k j t opens (round t opens s)

-- rounds beyond the number of handles and items add nothing
pub more_rounds : (most : ℕ) (t : HandleTable) (opens : List OpenRecord) (pairs : List Pair) → length t.handles + length opens ≤ most → rounds most t opens (with_pairs [] pairs) ≡ stop_set t opens pairs
more_rounds most t opens pairs l =
    let least = length t.handles + length opens in
    let rest : most ≡ least + (most - least) = omega (arith, l) in
    ap (λ k. rounds k t opens (with_pairs [] pairs)) rest
    ∙ rounds_sum least (most - least) t opens (with_pairs [] pairs)
    ∙ rounds_end (most - least) t opens (stop_set t opens pairs) (is_settled t opens pairs)

pub fewer_items : (slots : List (Option OpenRecord)) → length (items_in slots) ≤ length slots
fewer_items [] = omega arith
fewer_items (None ∷ ss) = omega (arith, fewer_items ss)
fewer_items (Some o ∷ ss) = omega (arith, fewer_items ss)
