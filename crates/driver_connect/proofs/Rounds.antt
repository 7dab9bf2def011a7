-- Pairs that join a set, and rounds.
use Rattle.std.proofs.Common.{◌≡◌, ℕ, zero, suc, ◌+◌, ◌-◌, ◌<◌, ◌≤◌, List, [], ◌∷◌, ◌++◌, length, inl, inr, refl, sym, ap, ◌∙◌, arith, length-append}
use Rattle.std.proofs.lemmas.Bool.{cases_Bool}
use Rattle.guid_handles.specs.HandleTables.{HandleTable}
use Rattle.guid_handles.specs.declared.records.Pair.{Pair}
use Rattle.open_agents.specs.declared.items.OpenRecord.{OpenRecord}
use Rattle.driver_connect.specs.Stopping.{has_pair, with_pair, with_pairs, managers_of_made, round, rounds}

with_pair-longer : (pairs : List Pair) (p : Pair) → length pairs ≤ length (with_pair pairs p)
with_pair-longer pairs p = elim (cases_Bool (has_pair pairs p)) [
  | inl e ↦ rw e (omega arith)
  | inr e ↦ rw e (omega (arith, length-append pairs (p ∷ [])))
]

pub with_pairs-longer : (pairs ps : List Pair) → length pairs ≤ length (with_pairs pairs ps)
with_pairs-longer pairs [] = omega arith
with_pairs-longer pairs (p ∷ ps) = omega (arith, with_pair-longer pairs p, with_pairs-longer (with_pair pairs p) ps)

-- a set that is as long as before is as before
pub none_joined : (pairs ps : List Pair) → length (with_pairs pairs ps) ≡ length pairs → with_pairs pairs ps ≡ pairs
none_joined pairs [] h = refl
none_joined pairs (p ∷ ps) h = elim (cases_Bool (has_pair pairs p)) [
  | inl e ↦ rw e (none_joined pairs ps (rw e at h))
  | inr e ↦
      let k = rw e at h in
      let l : length (pairs ++ p ∷ []) ≤ length (with_pairs (pairs ++ p ∷ []) ps) = with_pairs-longer (pairs ++ p ∷ []) ps in
      absurd (omega (arith, k, l, length-append pairs (p ∷ [])))
]

-- once a round adds nothing, no further round does
pub rounds_end : (k : ℕ) (t : HandleTable) (opens : List OpenRecord) (set : List Pair) → round t opens set ≡ set → rounds k t opens set ≡ set
rounds_end zero t opens set h = refl
rounds_end (suc k) t opens set h = ap (rounds k t opens) h ∙ rounds_end k t opens set h

-- one round fewer is left
pub next_round : (count k : ℕ) (t : HandleTable) (opens : List OpenRecord) (set whole : List Pair) → k < count → rounds (count - k) t opens set ≡ whole
    → rounds (count - (k + 1)) t opens (round t opens set) ≡ whole
next_round count k t opens set whole l h = let e : count - k ≡ suc (count - (k + 1)) = omega arith in rw e at h

pub last_round : (count k : ℕ) (t : HandleTable) (opens : List OpenRecord) (set whole : List Pair) → rounds (count - k) t opens set ≡ whole
    → length (round t opens set) ≡ length set → round t opens set ≡ whole
last_round count k t opens set whole h same =
    let e = none_joined set (managers_of_made t opens set) same in
    e ∙ sym (rounds_end (count - k) t opens set e) ∙ h
